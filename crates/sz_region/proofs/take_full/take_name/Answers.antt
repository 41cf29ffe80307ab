-- A name is a number of the table, at a set of the array.
use Rattle.std.proofs.Common.{◌≡◌, ℕ, Some, ap, ap₂, sym, ◌∙◌, arith}
use Rattle.std.specs.List.{slice_get}
use Rattle.std.proofs.lemmas.Option.{slice_get-get_or}
use Rattle.sz_cells.specs.Cells.{Cells}
use Rattle.sz_region.specs.FullBytes.{Listed}
use Rattle.sz_region.proofs.Names.{no-name-short, no-name-past, no-name-other}
use Rattle.sz_region.proofs.take_full.take_name.Goals as goal

pub returns-in_default-clause-err : goal.returns-in_default-clause-err
returns-in_default-clause-err c =
    no-name-short c.args.table.now c.args.array c.args.bytes.now c.args.at c.in_default.ensures.none

pub returns-in_default-get-clause-err : goal.returns-in_default-get-clause-err
returns-in_default-get-clause-err c =
    no-name-past c.args.table.now c.args.array c.in-Some.name c.args.bytes.now c.args.at c.in-Some.ensures.some
    (omega arith) c.requires c.in_default-get.ensures.lookup.3

pub returns-then-kept-array-clause-err : goal.returns-then-kept-array-clause-err
returns-then-kept-array-clause-err c =
    let table = c.args.table.now in
    let kept = c.in-Some-get.kept.now in
    let lookup = c.in-Some-get.ensures.lookup in
    no-name-other table c.args.array c.in-Some.name kept c.args.bytes.now c.args.at c.in-Some.ensures.some
    (omega arith) c.requires (slice_get-get_or table c.in-Some.name kept lookup.3.0
    ∙ ap (λ (l : Listed). Some l) (sym lookup.1))
    (λ is. c.if-kept-array.true (ap (λ (l : Listed). l.array) c.kept.view_is ∙ is))

pub returns-clause-ok : goal.returns-clause-ok
returns-clause-ok c =
    let table = c.args.table.now in
    let kept = c.in-Some-get.kept.now in
    let lookup = c.in-Some-get.ensures.lookup in
    let make : ℕ → Cells → Listed = λ a s. record { array = a; set = s } in (
      c.in-Some.name,
      slice_get-get_or table c.in-Some.name kept lookup.3.0
          ∙ ap (λ (l : Listed). Some l) (sym lookup.1 ∙ sym c.kept.view_is
          ∙ ap₂ make c.if-kept-array.false (sym c.in_ok-try_clone.ensures)),
      c.in-Some.ensures.some,
    )
