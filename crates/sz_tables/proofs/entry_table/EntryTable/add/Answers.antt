-- The key idea: the tables take the set and the payload, and the row of their numbers is appended; what that means for
-- the entries is said of any tables.
use Rattle.std.proofs.Common.{◌≡◌, ◌∙◌, ap}
use Rattle.std.specs.Arc.{arc_value}
use Rattle.std.specs.Vec.{vec_capacity}
use Rattle.sz_frame.specs.Parts.{Entry}
use Rattle.sz_tables.specs.declared.entry_table.EntryRow.{EntryRow}
use Rattle.sz_tables.proofs.Entries.{AddsEntry, entries-added, sets-kept, payloads-kept, rows-kept}
use Rattle.sz_tables.proofs.entry_table.EntryTable.add.Goals as goal
use Rattle.sz_tables.proofs.entry_table.EntryTable.add.Goals.{After-runs}

-- the set and the payload that are lent are those of the entry
lent-out : (c : After-runs) → arc_value c.entry.inside.out ≡ c.args.entry.now.out
lent-out c = ap (λ (e : Entry). e.out) c.entry.view_is

lent-payload : (c : After-runs) → c.bytes-bytes.result.now ≡ c.args.entry.now.payload
lent-payload c =
    c.bytes-bytes.ensures ∙ (c.deref.ensures ∙ ap (λ (e : Entry). e.payload) c.entry.view_is)

-- the row that is appended
abbrev row : After-runs → EntryRow
row c = record { set = c.add-set.result; payload = c.add-payload.result }

adds : (c : After-runs) → AddsEntry c.self.inside.sets c.add-set.new.self c.self.inside.payloads c.add-payload.new.self
    c.args.entry.now (row c)
adds c =
    let is = c.deref-2.ensures ∙ lent-out c in
    let same = lent-payload c in
    let set = c.add-set.ensures in
    let payload = c.add-payload.ensures in
    record {
      set =
          rw (← is) (record {
            number = set.number;
            sets = set.sets;
            extent = set.extent;
            room = set.room;
            runs = set.runs;
            capacities = set.capacities;
          });
      payload =
          rw (← same) (record {
            number = payload.number;
            payloads = payload.payloads;
            room = payload.room;
            bytes = payload.bytes;
          });
    }

pub returns-clause-entries : goal.returns-clause-entries
returns-clause-entries c =
    let s = (goal.at.returns-clause-entries c).After-runs in
    let t = s.self.inside in
    rw (s.push_reserved.ensures.items, ← s.self.view_is)
    (entries-added t.sets s.add-set.new.self t.payloads s.add-payload.new.self s.args.entry.now (row s) t.rows.items
    t.spare_rows t.spare_runs t.spare_bytes (vec_capacity t.rows) (adds s) s.self.invariant)

pub returns-clause-kept : goal.returns-clause-kept
returns-clause-kept c =
    let s = (goal.at.returns-clause-kept c).After-runs in
    let t = s.self.inside in
    rw (s.push_reserved.ensures.items, ← s.self.view_is)
    (record {
      out = (adds s).set.extent;
      rows =
          rows-kept t.sets s.add-set.new.self t.payloads s.add-payload.new.self s.args.entry.now (row s) t.rows.items
          t.spare_rows t.spare_runs t.spare_bytes (vec_capacity t.rows) (adds s) s.self.invariant;
      sets =
          sets-kept t.sets s.add-set.new.self t.payloads s.add-payload.new.self s.args.entry.now (row s) t.rows.items
          t.spare_rows t.spare_runs t.spare_bytes (vec_capacity t.rows) (adds s) s.self.invariant;
      payloads =
          payloads-kept t.sets s.add-set.new.self t.payloads s.add-payload.new.self s.args.entry.now (row s)
          t.rows.items t.spare_rows t.spare_runs t.spare_bytes (vec_capacity t.rows) (adds s) s.self.invariant;
    })
