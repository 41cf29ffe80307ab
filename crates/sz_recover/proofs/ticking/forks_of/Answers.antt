-- One list more, on which nothing is ticked.
use Rattle.std.proofs.Common.{◌≡◌, ◌+◌, ◌++◌, ◌∷◌, [], ◌∙◌, List, length, ap, sym, subst}
use Rattle.std.specs.List.{All}
use Rattle.std.proofs.lemmas.List.{length-append}
use Rattle.std.proofs.lemmas.List.Elements.{All-push}
use Rattle.sz_recover.specs.Ticking.{IsFork}
use Rattle.sz_recover.specs.declared.ticking.PieceTicks.{PieceTicks}
use Rattle.sz_recover.proofs.ticking.forks_of.Goals as goal

pub loop-piece-preserved : goal.loop-piece-preserved
loop-piece-preserved c =
    let inv = c.loop-piece.invariant in
    let items = c.loop-piece.forks.items in
    let one : PieceTicks = c.fork_of.result in
    let more : c.push.new.self.items ≡ items ++ one ∷ [] = c.in_ok-push.ensures.items in (
      ap (λ (xs : List PieceTicks). length xs) more ∙ length-append items (one ∷ []) ∙ ap (λ n. n + 1) inv.0,
      subst (All (IsFork c.args.list.now)) (sym more)
          (All-push (IsFork c.args.list.now) items one inv.1 c.fork_of.ensures),
    )
