-- The table of the array gets the set, and the others stay as they are.
use Rattle.std.proofs.Common.{◌≡◌, ℕ, suc, ◌-◌, ◌<◌, List, ◌∷◌, length, map, get_or, set, Some, ap, sym, subst}
use Rattle.std.proofs.Common.{◌∙◌, arith}
use Rattle.std.specs.List.{slice_get}
use Rattle.std.proofs.lemmas.Result.{IfOk-weaker}
use Rattle.std.proofs.Math.Seq.{map-set_same}
use Rattle.sz_cells.specs.Extent.{Extent, size_of}
use Rattle.sz_cells.specs.Runs.{AreRunsFrom}
use Rattle.sz_spec.specs.Values.{extent_at}
use Rattle.sz_tables.specs.Tables.{SetsByNumber, HasAtMostOneMore, spelled}
use Rattle.sz_tables.specs.Placing.{Gets}
use Rattle.sz_tables.proofs.Placing.{extent-in, gets-at}
use Rattle.sz_tables.proofs.reading.add_listed.Goals as goal

pub add_read-requires-else-array-eq0-clause-longest : goal.add_read-requires-else-array-eq0-clause-longest
add_read-requires-else-array-eq0-clause-longest c =
    let tables = c.args.tables.now in
    let j = c.args.array - 1 in
    let at : c.args.array ≡ suc j = omega (arith, c.if-array-eq0.false) in
    let inside : j < length tables = omega (arith, at, c.requires.array) in
    subst (λ (e : Extent). AreRunsFrom 0 (size_of e) c.args.runs.now)
    (ap (extent_at (c.args.outs.now.extent ∷ map (λ (t : SetsByNumber). t.extent) tables)) at
    ∙ extent-in c.args.outs.now.extent tables j c.index-tables-array.result inside) c.requires.longest

pub add_read-requires-else-array-eq0-clause-few : goal.add_read-requires-else-array-eq0-clause-few
add_read-requires-else-array-eq0-clause-few c =
    let tables = c.args.tables.now in
    let j = c.args.array - 1 in
    let at : c.args.array ≡ suc j = omega (arith, c.if-array-eq0.false) in
    c.requires.few (suc j) c.index-tables-array.result (omega (arith, at, c.requires.array))

pub returns-else-array-eq0-clause-extents : goal.returns-else-array-eq0-clause-extents
returns-else-array-eq0-clause-extents c =
    let tables = c.args.tables.now in
    let j = c.args.array - 1 in
    ap (λ (es : List Extent). c.args.outs.now.extent ∷ es)
    (map-set_same (λ (t : SetsByNumber). t.extent) tables j c.add_read-else-array-eq0.new.table
    c.index-tables-array.result c.add_read-else-array-eq0.ensures.extent)

pub returns-else-array-eq0-clause-ok : goal.returns-else-array-eq0-clause-ok
returns-else-array-eq0-clause-ok c =
    let outs = c.args.outs.now in
    let tables = c.args.tables.now in
    let runs = c.args.runs.now in
    let j = c.args.array - 1 in
    let d = c.index-tables-array.result in
    let new = c.add_read-else-array-eq0.new.table in
    let at : c.args.array ≡ suc j = omega (arith, c.if-array-eq0.false) in
    let inside : j < length tables = omega (arith, at, c.requires.array) in
    let s = spelled (get_or tables j d).extent runs in
    IfOk-weaker c.add_read-else-array-eq0.result
    (λ n. (slice_get new.sets n ≡ Some s) × HasAtMostOneMore (get_or tables j d).sets new.sets s)
    (λ n. Gets (map (λ (t : SetsByNumber). t.sets) (outs ∷ tables))
    (map (λ (t : SetsByNumber). t.sets) (outs ∷ set tables j new)) c.args.array
    (spelled (extent_at (map (λ (t : SetsByNumber). t.extent) (outs ∷ tables)) c.args.array) runs) n)
    (λ n both.
    subst (λ (a : ℕ). Gets (map (λ (t : SetsByNumber). t.sets) (outs ∷ tables))
    (map (λ (t : SetsByNumber). t.sets) (outs ∷ set tables j new)) a
    (spelled (extent_at (map (λ (t : SetsByNumber). t.extent) (outs ∷ tables)) a) runs) n) (sym at)
    (gets-at outs tables j d new runs n inside both.0 both.1))
    c.add_read-else-array-eq0.ensures.ok
