-- The tree of the look is round the sets from which it starts.
use Rattle.std.proofs.Common.{rules, ◌≡◌, ◌<◌, length, ap, subst, sym}
use Rattle.std.specs.Arc.{arc_value}
use Rattle.sz_frame.specs.Parts.{Pairing}
use Rattle.sz_spec.specs.Shapes.{Site}
use Rattle.sz_tables.specs.Stores.{Store}
use Rattle.sz_full_many.proofs.Indexing.{tree-found}
use Rattle.sz_full_many.proofs.FullMany.image.Goals as goal

pub look-requires-clause-round : goal.look-requires-clause-round
look-requires-clause-round c =
    let same : c.args.dir ≡ c.self.inside.dir = search rules in
    let site = arc_value c.self.inside.at in
    let seen = ap (λ (s : Store Pairing). s.site) c.self.view_is in
    let inside : c.args.input < length site.ins =
    subst (λ (s : Site). c.args.input < length s.ins) (sym seen) c.requires.input in
    tree-found site c.self.inside.dir c.args.dir c.self.inside.table c.self.inside.trees.items c.args.input
    c.tree_for.result c.index-tree.result.now c.self.invariant same inside c.tree_for.ensures c.index-tree.ensures
