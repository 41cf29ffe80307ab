-- Entry by entry.
use Rattle.std.proofs.Common.{◌+◌, List, take, Some, None, sym, subst, arith, Option}
use Rattle.std.proofs.lemmas.List.Elements.{All-more}
use Rattle.sz_recover.specs.Logs.{Kept}
use Rattle.sz_recover.specs.Soundness.{IsSoundKept, AreSoundKept, TellsOfEntry, IsFirstWrong}
use Rattle.sz_recover.specs.declared.checking.WrongStore.{WrongStore}
use Rattle.sz_recover.proofs.WrongNodes.{entry-wrong}
use Rattle.sz_recover.proofs.checking.unsound.Given.{Over}
use Rattle.sz_recover.proofs.checking.unsound.Goals.{In_ok-wrong}
use Rattle.sz_recover.proofs.checking.unsound.Goals as goal

-- the entries so far are sound
sound : (g : Over) (c : In_ok-wrong g)
    → AreSoundKept c.args.r.now.catalogue (take c.loop-kept.kept-index c.deref-kept-items.result.now)
sound g c =
    subst (λ (ks : List Kept). AreSoundKept c.args.r.now.catalogue (take c.loop-kept.kept-index ks))
    (sym c.deref-kept-items.ensures.value) c.loop-kept.invariant

pub returns-in-Some : goal.returns-in-Some
returns-in-Some g c =
    let held = c.args.r.now.catalogue in
    let k = c.kept-item.result in
    let w = c.in-Some.wrong in
    let told : TellsOfEntry held k (Some w) =
    subst (λ (o : Option WrongStore). TellsOfEntry held k o) c.in-Some.is c.in_ok-wrong.ensures in
    subst (λ (ks : List Kept). IsFirstWrong held ks w) c.deref-kept-items.ensures.value
    (entry-wrong held c.deref-kept-items.result.now c.loop-kept.kept-index k w (omega (arith, c.loop-kept-test.true))
    c.kept-item.is (sound g (goal.at.returns-in-Some g c).In_ok-wrong) told)

pub loop-kept-preserved : goal.loop-kept-preserved
loop-kept-preserved g c =
    let held = c.args.r.now.catalogue in
    let all = c.deref-kept-items.result.now in
    let i = c.loop-kept.kept-index in
    let k = c.kept-item.result in
    let told : TellsOfEntry held k None =
    subst (λ (o : Option WrongStore). TellsOfEntry held k o) c.in_default.is c.in_ok-wrong.ensures in
    let more = All-more (IsSoundKept held) all i k (omega (arith, c.loop-kept-test.true))
    (sound g (goal.at.loop-kept-preserved g c).In_ok-wrong)
    (subst (λ (x : Kept). IsSoundKept held x) c.kept-item.is told) in
    subst (λ (ks : List Kept). AreSoundKept held (take (i + 1) ks)) c.deref-kept-items.ensures.value more
