-- The number is one of the table.
use Rattle.std.proofs.Common.{◌≡◌, ℕ, Some, ap, sym, ◌∙◌, arith}
use Rattle.std.specs.Arc.{arc_value}
use Rattle.std.specs.List.{slice_get}
use Rattle.std.specs.Option.{option_map}
use Rattle.std.proofs.lemmas.Option.{slice_get-map, slice_get-get_or}
use Rattle.sz_region.proofs.Spans.{no-number}
use Rattle.sz_region.proofs.take_pay.take_numbered.Goals as goal

pub returns-in_default-clause-err : goal.returns-in_default-clause-err
returns-in_default-clause-err g c n rest is spelled =
    no-number c.args.bytes.now c.args.at n rest c.in_default.ensures.none spelled

pub returns-clause-ok : goal.returns-clause-ok
returns-clause-ok g c =
    let lookup = c.in-Some-get.ensures.lookup in (
      c.in-Some.name,
      slice_get-map (λ y. arc_value y) c.args.table.now c.in-Some.name
          ∙ ap (option_map (λ y. arc_value y)) (slice_get-get_or c.args.table.now c.in-Some.name c.in-Some-get.found.now
          lookup.3.0)
          ∙ ap (λ y. Some (arc_value y)) (sym lookup.1) ∙ ap (λ y. Some y) (sym c.in_ok-try_clone.ensures),
      c.in-Some.ensures.some,
    )
