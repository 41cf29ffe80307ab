-- A number below 0 names no cell, nor does what it is told as.
use Rattle.std.proofs.Common.{ℕ, ℤ, pos, Some, of_z, w64, ap, subst, ◌∙◌, ◌≤◌}
use Rattle.std.proofs.lemmas.Int.{to_z-of_z}
use Rattle.sz_cells.specs.Extent.{size_of}
use Rattle.sz_refresh.specs.Names.{has_named}
use Rattle.sz_refresh.proofs.Names.{number-unsigned}
use Rattle.sz_refresh.proofs.named.has_number.Goals as goal

pub returns : goal.returns
returns c =
    let set = c.args.set.now in
    let few : size_of set.extent ≤ 1048576 =
    subst (λ (n : ℕ). n ≤ 1048576) (c.size.ensures.value ∙ ap size_of c.shape.ensures.value) c.size.ensures.few in
    c.has_counted.ensures
    ∙ ap (λ (n : ℕ). has_named c.args.first (Some (pos n)) set) c.cast_unsigned.ensures
    ∙ ap (λ (z : ℤ). has_named c.args.first (Some (pos (of_z w64 z))) set)
    (to_z-of_z w64 c.args.number c.ranges.number)
    ∙ number-unsigned c.args.first c.args.number set c.requires.first few c.ranges.number
