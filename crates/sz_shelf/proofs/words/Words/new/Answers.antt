use Rattle.std.proofs.Common.{ap, ◌∙◌, ◌∷◌, ◌++◌, [], List}
use Rattle.sz_shelf.specs.Contents.{Contents}
use Rattle.sz_shelf.proofs.Moves.{opens}
use Rattle.sz_shelf.proofs.words.Words.new.Goals as goal

pub new-requires : goal.new-requires
new-requires c =
    opens _ _ c.args.store
    (c.push_reserved.ensures.items
    ∙ ap (λ (l : List Contents). l ++ c.args.store ∷ []) c.in_ok-slots.ensures.items) c.requires
