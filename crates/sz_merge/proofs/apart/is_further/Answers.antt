-- The set of the output is added to the seen cells, and the number of that of the input is noted.
use Rattle.std.proofs.Common.{◌≡◌, ◌<◌, ℕ, [], ◌∷◌, ◌++◌, length, true, ap, sym, subst, ◌∙◌, arith}
use Rattle.std.specs.Prelude.{slice_index_or, slice_set}
use Rattle.std.proofs.lemmas.List.{get_or_default}
use Rattle.sz_cells.specs.Cells.{Cells}
use Rattle.sz_spec.specs.declared.modes.Dir.TheVariants.{Forward}
use Rattle.sz_frame.specs.Stands.{set_of}
use Rattle.sz_tables.specs.Rows.{row_at, set_at, sets_of}
use Rattle.sz_tables.specs.Scans.{pairing_at}
use Rattle.sz_tables.proofs.Scanned.{near-is, row-named}
use Rattle.sz_merge.specs.Apart.{IsFurther}
use Rattle.sz_merge.proofs.Further.{further, some-cell}
use Rattle.sz_merge.proofs.apart.is_further.Goals as goal

pub returns-clause-further : goal.returns-clause-further
returns-clause-further c is sets =
    let t = c.args.table.now in
    let i = c.args.input in
    let seen = c.args.seen.now in
    let out = set_at t.outs c.out_number-out.result in
    let set = set_at (sets_of t.sets i) c.number_of-number.result in
    let row = row_at t.rows c.args.row in
    let named = row-named t c.args.row c.len.ensures.named c.requires.row in
    let own : set ≡ set_of (pairing_at t c.args.row) i =
    sym (near-is Forward t row i named c.requires.input ∙ ap (set_at (sets_of t.sets i))
    (sym c.number_of-number.ensures)) in
    let more : IsFurther out set seen c.add_out_set.new.to sets (sets ++ set ∷ []) =
    further out set seen c.add_out_set.new.to sets (c.out_runs.ensures.set.extent ∙ sym c.requires.seen)
    (some-cell out c.out_runs.result.now c.is_empty.result c.out_runs.ensures.runs c.is_empty.ensures
    c.if-is_empty.false)
    (some-cell set c.in_runs.result.now c.is_empty-else-is_empty.result c.in_runs.ensures.runs
    c.is_empty-else-is_empty.ensures c.if-is_empty-2.false)
    (sym c.out_set_meets.ensures ∙ c.if-out_set_meets.false) c.add_out_set.ensures in
    subst (λ (s : Cells). IsFurther (set_at t.outs row.out) s seen c.add_out_set.new.to sets (sets ++ s ∷ [])) own
    (subst (λ (n : ℕ). IsFurther (set_at t.outs n) set seen c.add_out_set.new.to sets (sets ++ set ∷ []))
    c.out_number-out.ensures more)

pub returns-clause-new : goal.returns-clause-new
returns-clause-new c is =
    let t = c.args.table.now in
    let i = c.args.input in
    let items = c.args.known.now.items in
    let number = c.number_of-number.result in
    let named = row-named t c.args.row c.len.ensures.named c.requires.row in
    let inside : number < length items =
    omega (arith, named.ins i c.requires.input, c.number_of-number.ensures, c.requires.known) in (
      ap (λ (k : ℕ). slice_index_or items k true) (sym c.number_of-number.ensures)
          ∙ get_or_default items number true c.index.result.now inside ∙ sym c.index.ensures ∙ c.if-index.false,
      ap (λ (k : ℕ). slice_set items k true) c.number_of-number.ensures,
    )
