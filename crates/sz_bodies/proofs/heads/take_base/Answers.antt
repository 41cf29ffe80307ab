-- Behind the name that was read no number stands, or no array is held under both.
use Rattle.std.proofs.Common.{◌≡◌, ℕ, List, None, sym, ap, ◌∙◌, arith}
use Rattle.sz_catalogue.specs.Holdings.{array_version}
use Rattle.sz_bodies.proofs.HeadParts.{no-base-number, no-base-held}
use Rattle.sz_bodies.proofs.heads.take_base.Goals as goal

pub returns-in_default-clause-err : goal.returns-in_default-clause-err
returns-in_default-clause-err c =
    no-base-number c.args.catalogue.now c.args.bytes.now c.in_ok-name.name c.args.at c.in_ok-name.place
    c.in_ok-name.ensures.name c.in_ok-name.ensures.bytes c.in_default.ensures.none

pub returns-in_default-array-clause-err : goal.returns-in_default-array-clause-err
returns-in_default-array-clause-err c =
    let held = c.args.catalogue.now in
    let none : array_version held c.in_ok-name.name c.in-Some.version ≡ None =
    sym (c.in_default-array.ensures
    ∙ ap (λ (name : List ℕ). array_version held name c.in-Some.version) c.as_str.ensures) in
    no-base-held held c.args.bytes.now c.in_ok-name.name c.args.at c.in_ok-name.place c.in-Some.version
    c.in_ok-name.ensures.name c.in_ok-name.ensures.bytes c.in-Some.ensures.some (omega arith) none
