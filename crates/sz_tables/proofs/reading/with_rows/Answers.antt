-- The listed sets stand in the tables, and the rows that were read spell the region pairs that their names name.
use Rattle.std.proofs.Common.{◌≡◌, ◌+◌, ◌*◌, ℕ, List, ◌∷◌, length, map, ap, sym, subst, ◌∙◌, arith, drop}
use Rattle.std.specs.List.{All, AllZip}
use Rattle.std.proofs.lemmas.List.{length-map}
use Rattle.std.proofs.lemmas.Result.{err_from_is_err_and}
use Rattle.sz_region.specs.FullBytes.{AreNamesOf, BeginsRegions}
use Rattle.sz_region.proofs.Numbering.{zip-length}
use Rattle.sz_region.proofs.Spans.{on_bad-weaker}
use Rattle.sz_region.proofs.FullStores.{regions-begin, no-regions-names}
use Rattle.sz_tables.specs.Tables.{SetsByNumber}
use Rattle.sz_tables.specs.Rows.{RowTable, IsRowOf, pairings, rows_of, table_of}
use Rattle.sz_tables.specs.Placing.{IsPlaced, IsOfArray, IsRowNamed}
use Rattle.sz_tables.specs.declared.reading.Place.{Place}
use Rattle.sz_tables.proofs.Placing.{placed-arrays, read-table}
use Rattle.sz_tables.proofs.Rows.{rows-length}
use Rattle.sz_tables.proofs.reading.with_rows.Goals as goal
use Rattle.sz_tables.proofs.reading.with_rows.Goals.{In_ok-count}

pub take_rows-requires-clause-few : goal.take_rows-requires-clause-few
take_rows-requires-clause-few c =
    let taken = c.requires.taken in
    let all = map (λ (t : SetsByNumber). t.sets) (c.args.taken.outs ∷ c.args.taken.tables.items) in
    let long = zip-length (IsPlaced all) c.args.taken.places.items taken.listed taken.placed in
    omega (arith, ap length c.deref.ensures.value, long, taken.few.1)

pub returns-in_err-count-clause-err : goal.returns-in_err-count-clause-err
returns-in_err-count-clause-err c =
    let taken = c.requires.taken in
    let all = map (λ (t : SetsByNumber). t.sets) (c.args.taken.outs ∷ c.args.taken.tables.items) in
    let arrays : AllZip IsOfArray c.deref.result.now taken.listed =
    subst (λ (ps : List Place). AllZip IsOfArray ps taken.listed) (sym c.deref.ensures.value)
    (placed-arrays all c.args.taken.places.items taken.listed taken.placed) in
    let none = on_bad-weaker c.in_err-count.field-0.0
    (no-regions-names c.args.out c.args.ins.now c.args.bytes.now c.args.at c.args.taken.next taken.listed
    c.requires.right taken.few taken.read) (c.in_err-count.ensures.err taken.listed arrays) in
    let p = err_from_is_err_and c.from_residual.result c.from_residual.ensures.1 in
    rw (p.1, p.2) none

-- the tables are as many as the inputs
many : (c : In_ok-count) → length c.args.taken.tables.items ≡ length c.args.ins.now
many c =
    let extent = λ (t : SetsByNumber). t.extent in
    omega (arith, ap length c.requires.extents, length-map c.args.taken.tables.items extent)

read : (c : In_ok-count) → All (IsRowOf (table_of c.args.taken.outs c.args.taken.tables.items
    c.take_rows.new.names.items c.in_ok-count.count 0 0))
    (rows_of (length c.args.taken.tables.items) c.in_ok-count.count c.take_rows.new.names.items)
    × AllZip (AreNamesOf c.requires.taken.listed (length c.args.ins.now)) c.in_ok-count.ensures.ok.0
    (pairings (table_of c.args.taken.outs c.args.taken.tables.items c.take_rows.new.names.items
    c.in_ok-count.count 0 0))
read c =
    let taken = c.requires.taken in
    let rows = c.in_ok-count.ensures.ok in
    read-table c.args.taken.outs c.args.taken.tables.items c.take_rows.new.names.items c.in_ok-count.count
    (length c.args.ins.now) c.args.taken.places.items c.deref.result.now taken.listed rows.0 (many c)
    c.deref.ensures.value taken.placed rows.1

pub of_rows-requires-clause-inputs : goal.of_rows-requires-clause-inputs
of_rows-requires-clause-inputs c =
    let s = (goal.at.of_rows-requires-clause-inputs c).In_ok-count in
    omega (arith, many s, s.requires.inputs)

pub of_rows-requires-clause-whole : goal.of_rows-requires-clause-whole
of_rows-requires-clause-whole c =
    let s = (goal.at.of_rows-requires-clause-whole c).In_ok-count in
    s.in_ok-count.ensures.whole ∙ ap (λ (n : ℕ). s.in_ok-count.count * (n + 1)) (sym (many s))

pub of_rows-requires-clause-named : goal.of_rows-requires-clause-named
of_rows-requires-clause-named c = (read (goal.at.of_rows-requires-clause-named c).In_ok-count).0

pub returns-in-Some-clause-ok : goal.returns-in-Some-clause-ok
returns-in-Some-clause-ok c =
    let s = (goal.at.returns-in-Some-clause-ok c).In_ok-count in
    let taken = s.requires.taken in
    let rows = s.in_ok-count.ensures.ok in
    let made = rows_of (length s.args.ins.now) s.in_ok-count.count s.take_rows.new.names.items in
    let few = zip-length (IsRowNamed s.deref.result.now (length s.args.ins.now)) rows.0 made rows.1 in
    subst (BeginsRegions s.args.out s.args.ins.now s.args.bytes.now s.args.at s.in_ok-count.end)
    (sym (ap pairings c.in-Some.ensures))
    (regions-begin s.args.out s.args.ins.now s.args.bytes.now s.args.at s.args.taken.next s.in_ok-count.end
    taken.listed rows.0 _ taken.few taken.read (read s).1
    (omega (
      arith,
      few,
      rows-length (length s.args.ins.now) s.in_ok-count.count s.take_rows.new.names.items,
      s.in_ok-count.ensures.few,
    )) rows.2)

pub returns-in-Some-clause-ins : goal.returns-in-Some-clause-ins
returns-in-Some-clause-ins c =
    let s = (goal.at.returns-in-Some-clause-ins c).In_ok-count in
    ap (λ (t : RowTable). t.ins) c.in-Some.ensures ∙ ap (drop 1) s.requires.extents
