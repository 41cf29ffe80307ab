-- The key idea: the sets of all arrays and the rows' numbers in their list spell the region pairs.
use Rattle.std.proofs.Common.{◌≡◌, ℕ, ◌∙◌, ◌∷◌, [], ◌++◌, List, map, length, ap, sym, subst, arith}
use Rattle.std.specs.List.{range_with_len, flat_map}
use Rattle.std.specs.Vec.{vec_capacity}
use Rattle.std.proofs.lemmas.List.{length-map}
use Rattle.std.proofs.lemmas.List.FromFn.{length-range_with_len}
use Rattle.std.proofs.lemmas.Result.{on_ok_weaker}
use Rattle.sz_region.specs.Counted.{counted, rows_bytes}
use Rattle.sz_region.specs.FullBytes.{Listed, listed_bytes}
use Rattle.sz_region.specs.Putting.{AreRows}
use Rattle.sz_tables.specs.Listing.{AreListed, shifted, numbers_at}
use Rattle.sz_tables.proofs.Words.{listed-word, listed-once, listed-rows, listed-fits, listed-short, starts-long}
use Rattle.sz_tables.proofs.Words.{none-word, none-rows, none-twice}
use Rattle.sz_tables.proofs.region_table.RegionTable.put_bytes.Goals as goal
use Rattle.sz_tables.proofs.region_table.RegionTable.put_bytes.Goals.{After-deref-3, After-deref-5}

pub returns-then-self-eq0-clause-ok : goal.returns-then-self-eq0-clause-ok
returns-then-self-eq0-clause-ok c =
    let t = c.self.inside in
    rw (← c.self.view_is, c.if-self-eq0.true)
    (on_ok_weaker c.put_numbered.result
    (λ put. ([], counted listed_bytes [] ++ rows_bytes [], none-twice, none-word _ _, put [] none-rows))
    c.put_numbered.ensures.ok)

-- what was listed, and the numbers
listed : (c : After-deref-3) → AreListed (c.self.inside.outs ∷ c.self.inside.ins.items) c.list_each.new.sets.items
    c.list_each.new.starts.items
listed c = rw c.deref.ensures.value at c.in_ok-list_each.ensures

pub shift_each-requires-clause-whole : goal.shift_each-requires-clause-whole
shift_each-requires-clause-whole c =
    let t = c.self.inside in
    let long = starts-long t.outs t.ins.items t.names.items t.count t.spare_rows t.spare_runs (vec_capacity t.names)
    c.list_each.new.sets.items c.list_each.new.starts.items c.self.invariant.0
    (listed (goal.at.shift_each-requires-clause-whole c).After-deref-3) in
    rw (c.deref-2.ensures.value, c.deref-3.ensures.value, long) c.self.invariant.0.whole

pub shift_each-requires-clause-fits : goal.shift_each-requires-clause-fits
shift_each-requires-clause-fits c =
    let t = c.self.inside in
    rw (c.deref-2.ensures.value, c.deref-3.ensures.value)
    (listed-fits t.outs t.ins.items t.names.items t.count t.spare_rows t.spare_runs (vec_capacity t.names)
    c.list_each.new.sets.items c.list_each.new.starts.items c.self.invariant.0
    (listed (goal.at.shift_each-requires-clause-fits c).After-deref-3) (omega arith))

pub overflow_cast-len : goal.overflow_cast-len
overflow_cast-len c =
    let t = c.self.inside in
    let s = (goal.at.overflow_cast-len c).After-deref-3 in
    let long = starts-long t.outs t.ins.items t.names.items t.count t.spare_rows t.spare_runs (vec_capacity t.names)
    c.list_each.new.sets.items c.list_each.new.starts.items c.self.invariant.0 (listed s) in
    omega (arith, c.self.invariant.0.inputs (omega arith), c.list_each.new.starts.ok.0)

-- the rows' numbers, in the list of all sets
abbrev numbers : (c : After-deref-5) → ℕ → List ℕ
numbers c n =
    let starts = c.list_each.new.starts.items in
    shifted starts (numbers_at (length starts) c.self.inside.names.items n)

written : (c : After-deref-5) → c.deref-5.result.now ≡ flat_map (numbers c) (range_with_len 0 c.self.inside.count)
written c =
    c.deref-5.ensures.value ∙ (rw (c.deref-2.ensures.value, c.deref-3.ensures.value) at c.in_ok-shift_each.ensures)

are : (c : After-deref-5) → AreListed (c.self.inside.outs ∷ c.self.inside.ins.items) c.list_each.new.sets.items
    c.list_each.new.starts.items
    → AreRows c.len.result c.deref-5.result.now (map (numbers c) (range_with_len 0 c.self.inside.count))
are c is =
    let t = c.self.inside in
    let width : c.len.result ≡ length c.list_each.new.starts.items =
    omega (arith, c.list_each.new.starts.ok.0, c.len.ensures) in
    let rows = map (numbers c) (range_with_len 0 t.count) in
    subst (λ (w : ℕ). AreRows w c.deref-5.result.now rows) (sym width)
    (subst (λ (ns : List ℕ). AreRows (length c.list_each.new.starts.items) ns rows) (sym (written c))
    (listed-rows t.outs t.ins.items t.names.items t.count t.spare_rows t.spare_runs (vec_capacity t.names)
    c.list_each.new.sets.items c.list_each.new.starts.items c.self.invariant.0 is))

pub put_numbered-requires-2-clause-few_sets : goal.put_numbered-requires-2-clause-few_sets
put_numbered-requires-2-clause-few_sets c =
    let t = c.self.inside in
    let s = (goal.at.put_numbered-requires-2-clause-few_sets c).After-deref-3 in
    rw c.deref-4.ensures.value
    (listed-short t.outs t.ins.items t.names.items t.count t.spare_rows t.spare_runs (vec_capacity t.names)
    c.list_each.new.sets.items c.list_each.new.starts.items c.self.invariant.0 (listed s) (omega arith))

pub put_numbered-requires-2-clause-whole : goal.put_numbered-requires-2-clause-whole
put_numbered-requires-2-clause-whole c =
    let s = (goal.at.put_numbered-requires-2-clause-whole c).After-deref-5 in
    let r = (goal.at.put_numbered-requires-2-clause-whole c).After-deref-3 in
    let t = c.self.inside in (
      map (numbers s) (range_with_len 0 t.count),
      are s (listed r),
      omega (
        arith,
        length-map (range_with_len 0 t.count) (numbers s),
        length-range_with_len 0 t.count,
        c.self.invariant.0.few,
      ),
    )

pub returns-clause-ok : goal.returns-clause-ok
returns-clause-ok c =
    let s = (goal.at.returns-clause-ok c).After-deref-5 in
    let r = (goal.at.returns-clause-ok c).After-deref-3 in
    let t = c.self.inside in
    let sets = c.list_each.new.sets.items in
    let starts = c.list_each.new.starts.items in
    let rows = map (numbers s) (range_with_len 0 t.count) in
    let same : c.deref-4.result.now ≡ sets = c.deref-4.ensures.value in
    rw (← c.self.view_is)
    (on_ok_weaker c.put_numbered-2.result
    (λ put. (
      sets,
      counted listed_bytes sets ++ rows_bytes rows,
      listed-once t.outs t.ins.items t.names.items t.count t.spare_rows t.spare_runs (vec_capacity t.names) sets starts
          c.self.invariant.0 (listed r),
      listed-word t.outs t.ins.items t.names.items t.count t.spare_rows t.spare_runs (vec_capacity t.names) sets starts
          c.self.invariant.0 (listed r) (omega arith),
      put rows (are s (listed r))
          ∙ ap (λ (ls : List Listed). c.args.to.now.items ++ (counted listed_bytes ls ++ rows_bytes rows))
          same,
    )) c.put_numbered-2.ensures.ok)
