-- The store at the place is for the node's operator.
use Rattle.std.proofs.Common.{◌≡◌, ◌<◌, List, length, map, ap, subst, arith}
use Rattle.std.specs.Prelude.{MatchOption}
use Rattle.std.specs.Arc.{arc_value}
use Rattle.std.proofs.lemmas.List.{length-map}
use Rattle.sz_spec.specs.Shapes.{Site}
use Rattle.sz_store.specs.Kept.{Holding, Keep, NodeLineage, keep_at}
use Rattle.sz_store.specs.Stocks.{keep_of, site_of, AreEntries, IsTableOf}
use Rattle.sz_store.proofs.Listed.{own-site, keep-here}
use Rattle.sz_store.proofs.NodeStore.table.Goals as goal

pub index-requires : goal.index-requires
index-requires c =
    omega (
      arith,
      c.requires,
      ap (λ (x : NodeLineage). length x.stores) c.self.view_is,
      length-map c.self.inside.stores.items keep_of,
    )

pub returns : goal.returns
returns c =
    let items = c.self.inside.stores.items in
    let view = c.args.self.now in
    let l = c.index.result.now in
    let inside : c.args.place < length items =
    omega (
      arith,
      c.requires,
      ap (λ (x : NodeLineage). length x.stores) c.self.view_is,
      length-map items keep_of,
    ) in
    let site : site_of l ≡ view.site =
    own-site items c.args.place l (arc_value c.self.inside.at) view c.self.invariant.same inside c.index.ensures
    (ap (λ (x : NodeLineage). x.site) c.self.view_is) in
    let here : keep_of l ≡ keep_at view.stores c.args.place =
    keep-here items c.args.place l view (ap (λ (x : NodeLineage). x.stores) c.self.view_is) inside c.index.ensures in
    let h = (keep_at view.stores c.args.place).holding in
    subst (λ (x : Site). MatchOption c.table.result (AreEntries h) (λ t. IsTableOf x h t.now)) site
    (subst (λ (f : Keep). MatchOption c.table.result (AreEntries f.holding)
    (λ t. IsTableOf (site_of l) f.holding t.now)) here c.table.ensures)
