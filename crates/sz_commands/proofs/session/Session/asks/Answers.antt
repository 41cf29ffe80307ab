-- Each ask was begun and then worked on.
use Rattle.std.proofs.Common.{◌≡◌, ℕ, List, ◌++◌, take, drop, length, sym, ◌∙◌, subst}
use Rattle.std.specs.List.{AllZip}
use Rattle.std.proofs.Math.Seq.{take-append_seam}
use Rattle.sz_commands.specs.States.{SessionState}
use Rattle.sz_commands.specs.Asks.{IsEnded, IsWorked}
use Rattle.sz_commands.specs.declared.asking.Asked.{Asked}
use Rattle.sz_commands.proofs.Asks.{all-worked}
use Rattle.sz_commands.proofs.session.Session.asks.Goals as goal

pub replies_to-requires-clause-ended : goal.replies_to-requires-clause-ended
replies_to-requires-clause-ended g c =
    let held = c.args.self.now in
    let lines = c.args.lines.now in
    let old = c.in_ok-all.all.items in
    let new = c.work_out.new.all in
    let rest = drop (length new) old in
    let worked = subst (λ (xs : List Asked). AllZip IsWorked xs new) c.deref_mut.ensures.value c.work_out.ensures in
    let ended = all-worked held lines old new c.in_ok-all.ensures.begun worked in
    let long : length new ≡ c.in_ok-all.all.len = c.work_out.auto.all ∙ c.deref_mut.ensures.len in
    let whole = subst (λ (xs : List Asked). AllZip (IsEnded held) lines xs) (sym (take-append_seam new rest)) ended in
    let cut = subst (λ (k : ℕ). AllZip (IsEnded held) lines (take k (new ++ rest))) long whole in
    subst (λ (h : SessionState). AllZip (IsEnded h) lines (take c.in_ok-all.all.len (new ++ rest)))
    (sym c.begin_each.ensures.same) cut
