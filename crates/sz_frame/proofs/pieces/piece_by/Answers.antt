-- Each part has what the cells of the piece write to it, and that fits.
use Rattle.std.proofs.Common.{◌≡◌, ℕ, ◌*◌, ◌∙◌, Bool, false, true, sym, ap, ap₂, subst}
use Rattle.sz_cells.specs.Extent.{size_of}
use Rattle.sz_spec.specs.declared.modes.Mode.TheVariants as mode
use Rattle.sz_frame.specs.Parts.{Parts, no_parts}
use Rattle.sz_frame.specs.Fits.{Fits, needs}
use Rattle.sz_frame.specs.Images.{measure_of}
use Rattle.sz_frame.specs.Written.{full_keeping, pay_keeping, comp_keeping, keepings}
use Rattle.sz_frame.specs.Written.{regions_by, entries_by, with_entries}
use Rattle.sz_frame.proofs.Fitting.{piece-fits, all-looked}
use Rattle.sz_frame.proofs.pieces.piece_by.Goals as goal

pub returns-clause-fits : goal.returns-clause-fits
returns-clause-fits g c =
    let s = g.A.AtWork.site c.args.at.now in
    let inputs = g.A.AtWork.inputs c.args.at.now in
    let k = c.args.k in
    let all = all-looked s.out k c.size.result c.min-end.result c.requires.piece
    (c.size.ensures.value ∙ ap size_of c.out-shape.ensures) c.min-end.ensures in
    let kept = c.in_ok-kept.ensures in
    let full = c.deref.result.now in
    let pay = c.deref-2.result.now in
    let comp = c.deref-3.result.now in
    let is : c.write_entries-2.new.lineage ≡ with_entries true (entries_by s inputs (k * 64) comp)
    (with_entries false (entries_by s inputs (k * 64) pay)
    (record (no_parts k) { regions = regions_by s inputs (k * 64) full })) =
    c.in_ok-write_entries-2.ensures
    ∙ ap (with_entries true (entries_by s inputs (k * 64) comp))
    (c.in_ok-write_entries.ensures
    ∙ ap (with_entries false (entries_by s inputs (k * 64) pay))
    (c.in_ok-write_regions.ensures
    ∙ ap (λ (p : Parts). record p { regions = regions_by s inputs (k * 64) full }) c.new-lineage.ensures)) in
    subst (Fits (measure_of s inputs) c.args.list.now k) (sym is)
    (piece-fits s inputs c.args.list.now k full pay comp c.requires.right c.requires.supported
    (c.deref.ensures.value ∙ kept.full
    ∙ ap₂ (λ (b : Bool) (n : ℕ). keepings s.out (full_keeping b s.op inputs) (k * 64) n) c.needs.ensures all)
    (c.deref-2.ensures.value ∙ kept.pay
    ∙ ap₂ (λ (b : Bool) (n : ℕ). keepings s.out (pay_keeping b s.op inputs) (k * 64) n) c.needs-2.ensures all)
    (c.deref-3.ensures.value ∙ kept.comp
    ∙ ap₂ (λ (b : Bool) (n : ℕ). keepings s.out (comp_keeping b s.op inputs) (k * 64) n) c.needs-3.ensures all))
