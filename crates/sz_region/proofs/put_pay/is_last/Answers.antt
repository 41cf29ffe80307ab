-- The bytes of the last payload are compared.
use Rattle.std.proofs.Common.{◌≡◌, ℕ, List, Some, ap, sym, ◌∙◌}
use Rattle.std.proofs.lemmas.Bool.Decides.{Decides-eqb}
use Rattle.std.proofs.lemmas.Slice.Eq.{slice_eq-Decides}
use Rattle.sz_region.proofs.put_pay.is_last.Goals as goal

pub returns-in-Some : goal.returns-in-Some
returns-in-Some c = λ same.
    sym c.in-Some.ensures.value
    ∙ ap (λ (p : List ℕ). Some p) (sym c.last-in-Some.view_is
    ∙ (slice_eq-Decides Decides-eqb c.last-in-Some.inside.bytes.now c.args.bytes.now c.eq.result c.eq.ensures).0 same)
