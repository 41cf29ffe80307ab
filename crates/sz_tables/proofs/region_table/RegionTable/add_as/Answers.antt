-- The key idea: the sets of the region pair are taken one by one, and the numbers appended; what that means for the
-- rows is said of any table.
use Rattle.std.proofs.Common.{◌≡◌, ℕ, ◌+◌, ◌-◌, ◌<◌, ◌∙◌, ◌++◌, ◌∷◌, [], List, map, length, take, drop, ap, sym, refl}
use Rattle.std.proofs.Common.{arith, get_or, All, subst, inl, inr}
use Rattle.std.proofs.lemmas.Bool.{cases_lt}
use Rattle.std.specs.Arc.{arc_value}
use Rattle.std.specs.List.{sum_by}
use Rattle.std.specs.Vec.{vec_capacity}
use Rattle.std.proofs.lemmas.List.{with_items_is, append_assoc, take-append-drop}
use Rattle.std.proofs.lemmas.List.{get_or_default}
use Rattle.sz_frame.specs.Parts.{Pairing}
use Rattle.sz_cells.specs.Cells.{Cells}
use Rattle.sz_spec.specs.Values.{no_extent}
use Rattle.sz_tables.specs.Tables.{SetsByNumber, HasAtMostOneMore}
use Rattle.sz_tables.specs.Rows.{TakeEach, RowTable, runs_in, weight_of, empty_sets, set_at, sets_of}
use Rattle.sz_tables.specs.Rows.{pairings, table_of}
use Rattle.sz_tables.specs.Apart.{AreOneOrApart, AreOfPairs}
use Rattle.sz_tables.proofs.FirstCells.{pairs-more, apart-each}
use Rattle.sz_tables.proofs.Rows.{Adds, pairings-added, added-keeps, added-sound, rows-length}
use Rattle.sz_tables.proofs.Taking.{as-many, read-sets, sets-past, each-capacities}
use Rattle.sz_tables.proofs.region_table.RegionTable.add_as.Goals as goal
use Rattle.sz_tables.proofs.region_table.RegionTable.add_as.Goals.{After-runs_of_each}

-- the sets that are lent are those of the region pair
lent-out : (c : After-runs_of_each) → arc_value c.region.inside.out ≡ c.args.region.now.out
lent-out c = ap (λ (r : Pairing). r.out) c.region.view_is

lent : (c : After-runs_of_each) → map (λ a. arc_value a) c.as_slice-sets.result.now ≡ c.args.region.now.ins
lent c = c.as_slice-sets.ensures ∙ ap (λ (r : Pairing). r.ins) c.region.view_is

weight-is : (c : After-runs_of_each) → length c.runs.result.now + c.runs_of_each.result ≡ weight_of c.args.region.now
weight-is c =
    let out : length c.runs.result.now ≡ runs_in c.args.region.now.out =
    ap length c.runs.ensures.only ∙ ap runs_in (c.deref-2.ensures ∙ lent-out c) in
    let ins = ap (λ (xs : List Cells). sum_by runs_in xs) (lent c) in
    omega (arith, c.runs_of_each.ensures)

-- the numbers are those before, the one of the output set, and the rest
spelled : (names : List ℕ) (number : ℕ) (all pushed : List ℕ) → pushed ≡ names ++ number ∷ []
    → take (length pushed) all ≡ pushed → all ≡ names ++ number ∷ drop (length pushed) all
spelled names number all pushed is before =
    sym (take-append-drop (length pushed) all)
    ∙ (ap (λ (xs : List ℕ). xs ++ drop (length pushed) all) (before ∙ is)
    ∙ append_assoc names (number ∷ []) (drop (length pushed) all))

adds : (c : After-runs_of_each) → Adds c.self.inside.outs c.add-number.new.self c.self.inside.ins.items
    c.add_each.new.tables c.self.inside.names.items c.add_each.new.names.items c.args.region.now
adds c =
    let t = c.self.inside in
    let is = c.deref.ensures ∙ lent-out c in
    let took = c.add-number.ensures in
    let same = lent c in
    let behind = c.deref_mut.ensures.value in
    record {
      number = c.add-number.result;
      ns = drop (length c.push_reserved.new.self.items) c.add_each.new.names.items;
      out =
          rw (← is) (record {
            number = took.number;
            sets = took.sets;
            extent = took.extent;
            room = took.room;
            runs = took.runs;
            capacities = took.capacities;
          });
      each = rw (same, behind) at c.add_each.ensures.taken;
      inputs = as-many c.args.region.now.ins t.ins.items (rw (← c.self.view_is) at c.requires.ins);
      spelled =
          spelled t.names.items c.add-number.result c.add_each.new.names.items c.push_reserved.new.self.items
          c.push_reserved.ensures.items c.add_each.ensures.before;
    }

-- the lists of the tables have their length
whole : (c : After-runs_of_each) → length c.add_each.new.tables ≡ c.self.inside.ins.len
whole c = omega (arith, c.self.inside.ins.ok.0)

-- each table of sets has at most one set more, the region pair's
at-most-one : (old new : List SetsByNumber) (sets : List Cells) (ns : List ℕ) → TakeEach old new sets ns → (i : ℕ)
    → HasAtMostOneMore (sets_of (map (λ t. t.sets) old) i) (sets_of (map (λ t. t.sets) new) i) (set_at sets i)
at-most-one old new sets ns each i =
    elim (cases_lt i (length old)) [
      | inl inside ↦
          let none : SetsByNumber = empty_sets no_extent in
          let before = get_or old i none in
          let after = get_or new i none in
          let there : i < length new = omega (arith, each.as_many) in
          rw (
            read-sets old i before inside (get_or_default old i none before inside),
            read-sets new i after there (get_or_default new i none after there),
          ) (each.each i none inside).sets
      | inr past ↦ inl (sets-past new i (omega (arith, each.as_many)) ∙ sym (sets-past old i past))
    ]

pub invariant_of-self : goal.invariant_of-self
invariant_of-self c =
    let s = (goal.at.invariant_of-self c).After-runs_of_each in
    let t = s.self.inside in
    let all = s.add_each.new.names.items in
    rw (
      with_items_is t.ins s.add_each.new.tables (whole s),
      weight-is s,
      s.add_each.ensures.capacity,
      s.push_reserved.ensures.capacity,
    ) (
      added-sound t.outs s.add-number.new.self t.ins.items s.add_each.new.tables t.names.items all s.args.region.now
          t.count t.spare_rows t.spare_runs _ (adds s) s.self.invariant.0 (rw (← s.self.view_is) at s.requires.rows)
          (rw (← s.self.view_is) at s.requires.runs),
      λ named.
          subst (AreOfPairs (map (λ (x : SetsByNumber). x.sets) s.add_each.new.tables))
          (sym (pairings-added t.outs s.add-number.new.self t.ins.items s.add_each.new.tables t.names.items all
          s.args.region.now t.count t.spare_rows t.spare_runs (vec_capacity t.names) (adds s) s.self.invariant.0 0 0))
          (pairs-more (map (λ (x : SetsByNumber). x.sets) t.ins.items)
          (map (λ (x : SetsByNumber). x.sets) s.add_each.new.tables)
          (pairings (table_of t.outs t.ins.items t.names.items t.count 0 0)) s.args.region.now
          (at-most-one t.ins.items s.add_each.new.tables s.args.region.now.ins _ (adds s).each)
          (s.self.invariant.1 named)),
    )

-- the sets are one with those of the tables or apart from them, where the region pair's are with those of the others
pub add_each-requires-clause-apart : goal.add_each-requires-clause-apart
add_each-requires-clause-apart c told i =
    let t = c.self.inside in
    let sets = λ (x : SetsByNumber). x.sets in
    let r = c.args.region.now in
    let alike : All (AreOneOrApart r) (pairings (table_of t.outs t.ins.items t.names.items t.count 0 0)) =
    subst (λ (x : RowTable). All (AreOneOrApart r) (pairings x)) (sym c.self.view_is)
    (c.requires.apart (c.both-told.ensures.one told)) in
    let same : map (λ a. arc_value a) c.as_slice-sets.result.now ≡ c.args.region.now.ins =
    c.as_slice-sets.ensures ∙ ap (λ (r : Pairing). r.ins) c.region.view_is in
    rw (c.deref_mut.ensures.value, same)
    (apart-each (map sets t.ins.items) (pairings (table_of t.outs t.ins.items t.names.items t.count 0 0))
    c.args.region.now (c.self.invariant.1 (c.both-told.ensures.other told)) alike i)

pub returns-clause-pairings : goal.returns-clause-pairings
returns-clause-pairings c =
    let s = (goal.at.returns-clause-pairings c).After-runs_of_each in
    let t = s.self.inside in
    rw (with_items_is t.ins s.add_each.new.tables (whole s), ← s.self.view_is)
    (pairings-added t.outs s.add-number.new.self t.ins.items s.add_each.new.tables t.names.items
    s.add_each.new.names.items s.args.region.now t.count t.spare_rows t.spare_runs (vec_capacity t.names) (adds s)
    s.self.invariant.0 0 0)

pub returns-clause-kept : goal.returns-clause-kept
returns-clause-kept c =
    let s = (goal.at.returns-clause-kept c).After-runs_of_each in
    let t = s.self.inside in
    let kept =
    added-keeps t.outs s.add-number.new.self t.ins.items s.add_each.new.tables t.names.items s.add_each.new.names.items
    s.args.region.now t.count t.spare_rows t.spare_runs (vec_capacity t.names) (adds s) s.self.invariant.0 0 0 in
    rw (with_items_is t.ins s.add_each.new.tables (whole s), ← s.self.view_is)
    (record { out = kept.out; ins = kept.ins; rows = kept.rows; outs = kept.outs; sets = kept.sets })

pub returns-clause-one : goal.returns-clause-one
returns-clause-one c =
    let s = (goal.at.returns-clause-one c).After-runs_of_each in
    let t = s.self.inside in
    rw (
      rows-length _ (t.count + 1) s.add_each.new.names.items,
      ← s.self.view_is,
      rows-length (length t.ins.items) t.count t.names.items,
    ) refl

pub returns-clause-capacities : goal.returns-clause-capacities
returns-clause-capacities c =
    let s = (goal.at.returns-clause-capacities c).After-runs_of_each in
    let t = s.self.inside in
    let took = adds s in
    rw (
      with_items_is t.ins s.add_each.new.tables (whole s),
      ← s.self.view_is,
      s.add_each.ensures.capacity,
      s.push_reserved.ensures.capacity,
      took.out.capacities,
      each-capacities t.ins.items s.add_each.new.tables s.args.region.now.ins took.ns took.each,
    ) refl

pub returns-clause-sets : goal.returns-clause-sets
returns-clause-sets c =
    let s = (goal.at.returns-clause-sets c).After-runs_of_each in
    let t = s.self.inside in
    let each = (adds s).each in
    rw (with_items_is t.ins s.add_each.new.tables (whole s), ← s.self.view_is)
    (λ i inside. at-most-one t.ins.items s.add_each.new.tables s.args.region.now.ins _ each i)
