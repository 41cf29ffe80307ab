-- The one at the place that is found is the only one of the number; where none is found nothing is put in.
use Rattle.std.proofs.Common.{◌≤◌, List, sym, ap, ◌∙◌, subst}
use Rattle.sz_versions.specs.Residents.{Resident, residents_under, replaced_in}
use Rattle.sz_versions.proofs.Residents.{not-replaced}
use Rattle.sz_versions.proofs.Service.{IsPlaceOf, replaced-set}
use Rattle.sz_versions.proofs.held.HeldRuns.replace.Goals as goal

pub returns-in-Some : goal.returns-in-Some
returns-in-Some c =
    let n = c.args.number in
    let rs = c.self.inside.runs.items in
    let i = c.in-Some.at in
    let place = subst (λ (ss : List Resident). IsPlaceOf n ss i) (sym c.self.view_is) c.in-Some.ensures.some in
    let few = subst (λ (ss : List Resident). residents_under n ss ≤ 1) (sym c.self.view_is) c.requires.once in
    replaced-set n c.args.run rs i c.index_mut.result.now c.replace.new.self few place c.index_mut.ensures.value
    c.replace.ensures
    ∙ ap (replaced_in n c.args.run) c.self.view_is

pub returns-in-None : goal.returns-in-None
returns-in-None c =
    sym (not-replaced c.args.number c.args.run c.args.self.now (rw c.in-None.is at c.place_of.ensures.none))
