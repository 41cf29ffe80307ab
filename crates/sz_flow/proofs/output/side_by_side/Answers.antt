-- There is a place for each cell, and what the closure leaves at a place is the value of the cell of its number.
use Rattle.std.proofs.Common.{◌≡◌, ℕ, ◌+◌, ◌<◌, map, subst, ap, sym, ◌∙◌, arith, length, None}
use Rattle.std.specs.Prelude.{get_or}
use Rattle.std.specs.Arc.{arc_value}
use Rattle.std.proofs.Math.Seq.{take-append_seam}
use Rattle.std.proofs.lemmas.List.{ext_get_or}
use Rattle.std.proofs.lemmas.List.FromFn.{get_or-map-range_with_len, length-map-range_with_len}
use Rattle.sz_cells.specs.Extent.{size_of, cell_of}
use Rattle.sz_spec.specs.Evaluation.{value_of}
use Rattle.sz_frame.specs.Walks.{values_before}
use Rattle.sz_flow.proofs.output.side_by_side.Goals as goal

pub returns : goal.returns
returns g c =
    let s = c.args.at.now in
    let inputs = map (λ a. arc_value a) c.args.inputs.now in
    let value = λ (k : ℕ). value_of s.op inputs (cell_of s.out k) in
    let new = c.par_for_each_mut.new.s in
    let long : length new ≡ length c.deref_mut.result.now = c.par_for_each_mut.auto.s in
    let size : c.size-size.result ≡ size_of s.out = c.size-size.ensures.value ∙ ap size_of c.out.ensures.value in
    let held : length c.deref_mut.result.now ≡ c.in_ok-values.values.len = c.deref_mut.ensures.len in
    let count : c.in_ok-values.values.len ≡ c.size-size.result = c.in_ok-values.ensures.len in
    let places : length new ≡ size_of s.out = long ∙ held ∙ count ∙ size in
    let each = λ (i : ℕ) (lt : i < length new).
    let at = (c.par_for_each_mut.ensures i None (subst (λ n. i < n) long lt)).1 in
    let same : 0 + i ≡ i = omega arith in
    let left : get_or new i None ≡ value i = subst (λ v. v ≡ value i) {y = get_or new i None} at.left at.call in
    left
    ∙ sym (get_or-map-range_with_len value 0 (size_of s.out) i i None (subst (λ n. i < n) places lt) same) in
    let all = ext_get_or None new (values_before s inputs (size_of s.out))
    (places ∙ sym (length-map-range_with_len value 0 (size_of s.out))) each in
    let whole : c.in_ok-values.values.len ≡ length new = sym held ∙ sym long in
    rw whole (take-append_seam new _ ∙ all)
