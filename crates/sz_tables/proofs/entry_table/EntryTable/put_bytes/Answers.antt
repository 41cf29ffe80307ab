-- The key idea: the payloads, the sets and the rows' numbers, as they were listed, spell the entries.
use Rattle.std.proofs.Common.{◌≡◌, ◌∙◌, ◌++◌, List, ℕ, map, ap, ap₂, sym, subst, arith}
use Rattle.std.specs.List.{flat_map}
use Rattle.std.proofs.lemmas.List.{length-map}
use Rattle.std.proofs.lemmas.Result.{on_ok_weaker}
use Rattle.sz_cells.specs.Cells.{Cells}
use Rattle.sz_cells.specs.SetBytes.{set_bytes}
use Rattle.sz_region.specs.Counted.{counted, rows_bytes}
use Rattle.sz_region.specs.FullBytes.{Listed}
use Rattle.sz_region.specs.PayBytes.{payload_bytes}
use Rattle.sz_region.specs.Putting.{AreRows}
use Rattle.sz_tables.specs.Entries.{numbers_of}
use Rattle.sz_tables.specs.Listing.{listed_as}
use Rattle.sz_tables.proofs.Entries.{entries-word, entries-rows, sets-listed}
use Rattle.sz_tables.proofs.entry_table.EntryTable.put_bytes.Goals as goal
use Rattle.sz_tables.proofs.entry_table.EntryTable.put_bytes.Goals.{After-deref-2, After-deref-3, After-deref-4}

-- what was listed
payloads-are : (c : After-deref-2) → c.deref-2.result.now ≡ c.self.inside.payloads.payloads
payloads-are c = c.deref-2.ensures.value ∙ c.in_ok-list_payloads.ensures.listed

sets-are : (c : After-deref-3) → c.deref-3.result.now ≡ listed_as 0 c.self.inside.sets.sets
sets-are c =
    c.deref-3.ensures.value
    ∙ (c.in_ok-list_sets.ensures.added
    ∙ ap (λ (ls : List Listed). ls ++ listed_as 0 c.self.inside.sets.sets) c.new-sets.ensures.items)

names-are : (c : After-deref-4) → c.deref-4.result.now ≡ flat_map numbers_of c.self.inside.rows.items
names-are c =
    c.deref-4.ensures.value
    ∙ (c.in_ok-list_names.ensures ∙ ap (λ rows. flat_map numbers_of rows) c.deref.ensures.value)

rows-are : (c : After-deref-4) → AreRows 2 c.deref-4.result.now (map numbers_of c.self.inside.rows.items)
rows-are c =
    subst (λ (ns : List ℕ). AreRows 2 ns (map numbers_of c.self.inside.rows.items)) (sym (names-are c))
    (entries-rows c.self.inside.rows.items)

pub put_numbered_entries-requires-clause-few_payloads : goal.put_numbered_entries-requires-clause-few_payloads
put_numbered_entries-requires-clause-few_payloads c =
    let s = (goal.at.put_numbered_entries-requires-clause-few_payloads c).After-deref-2 in
    rw (payloads-are s) (omega (arith, c.self.invariant.few_payloads, c.self.invariant.few))

pub put_numbered_entries-requires-clause-few_sets : goal.put_numbered_entries-requires-clause-few_sets
put_numbered_entries-requires-clause-few_sets c =
    let s = (goal.at.put_numbered_entries-requires-clause-few_sets c).After-deref-3 in
    let sets = c.self.inside.sets.sets in
    let make : Cells → Listed = λ x. record { array = 0; set = x } in
    rw (sets-are s) (omega (arith, length-map sets make, c.self.invariant.few_sets, c.self.invariant.few))

pub put_numbered_entries-requires-clause-whole : goal.put_numbered_entries-requires-clause-whole
put_numbered_entries-requires-clause-whole c =
    let s = (goal.at.put_numbered_entries-requires-clause-whole c).After-deref-4 in
    let rows = c.self.inside.rows.items in
    (map numbers_of rows, rows-are s, omega (arith, length-map rows numbers_of, c.self.invariant.few))

pub returns-clause-ok : goal.returns-clause-ok
returns-clause-ok c =
    let p = (goal.at.returns-clause-ok c).After-deref-2 in
    let l = (goal.at.returns-clause-ok c).After-deref-3 in
    let s = (goal.at.returns-clause-ok c).After-deref-4 in
    let t = s.self.inside in
    let rows = t.rows.items in
    let payloads = t.payloads.payloads in
    let sets = t.sets.sets in
    let word = counted payload_bytes payloads ++ counted set_bytes sets ++ rows_bytes (map numbers_of rows) in
    let listed : map (λ (x : Listed). x.set) l.deref-3.result.now ≡ sets =
    ap (λ (xs : List Listed). map (λ (x : Listed). x.set) xs) (sets-are l) ∙ sets-listed 0 sets in
    let short = rw (← s.self.view_is) at s.requires.short in
    let apart = rw (← s.self.view_is) at s.requires.apart in
    let was = s.self.invariant in
    rw (← c.self.view_is)
    (on_ok_weaker c.put_numbered_entries.result
    (λ put. (
      sets,
      word,
      s.in_ok-list_payloads.ensures.different,
      s.in_ok-list_sets.ensures.right.different,
      entries-word t.sets.extent sets payloads rows was.named (omega (arith, was.few)) was.few_sets was.few_payloads
          short s.in_ok-list_sets.ensures.right.each apart,
      put (map numbers_of rows) (rows-are s)
          ∙ ap₂ (λ (ps : List (List ℕ)) (ss : List Cells). c.args.to.now.items
          ++ (counted payload_bytes ps ++ counted set_bytes ss ++ rows_bytes (map numbers_of rows)))
          (payloads-are p) listed,
    )) c.put_numbered_entries.ensures.ok)
