-- The store that is found is for the node's operator, and keeps what the first of its strategy keeps.
use Rattle.std.proofs.Common.{◌≡◌, ◌<◌, List, length, map, true, get_or, sym, ap, ap₂, subst, ◌∙◌}
use Rattle.std.specs.Arc.{arc_value}
use Rattle.sz_cells.specs.Cells.{has, with_those}
use Rattle.sz_spec.specs.Shapes.{Site}
use Rattle.sz_spec.specs.Modes.{is_listed}
use Rattle.sz_spec.specs.Sides.{near_side, far_side, image_in}
use Rattle.sz_store.specs.Kept.{Holding, NodeLineage, holding_for, holding_stands}
use Rattle.sz_store.specs.Stocks.{stock_of, keep_of}
use Rattle.sz_store.specs.declared.stores.ListedStore.{ListedStore}
use Rattle.sz_store.proofs.Listed.{store-listed, own-site}
use Rattle.sz_store.proofs.NodeStore.image.Goals as goal

pub place_of-place-requires : goal.place_of-place-requires
place_of-place-requires c =
    rw c.deref.ensures.value
    (store-listed c.args.strategy c.self.inside.list.items c.self.inside.stores.items c.self.invariant.stored
    c.requires.stored
    (subst (λ (x : NodeLineage). is_listed x.list c.args.strategy ≡ true) (sym c.self.view_is) c.requires.listed))

pub image-requires-clause-input : goal.image-requires-clause-input
image-requires-clause-input c =
    let items = c.self.inside.stores.items in
    let inside : c.place_of-place.result < length items =
    subst (λ (ls : List ListedStore). c.place_of-place.result < length ls) c.deref.ensures.value
    c.place_of-place.ensures.within in
    let site = own-site items c.place_of-place.result c.index.result.now (arc_value c.self.inside.at) c.args.self.now
    c.self.invariant.same inside c.index.ensures (ap (λ (x : NodeLineage). x.site) c.self.view_is) in
    subst (λ (x : Site). c.args.input < length x.ins) (sym site) c.requires.input

pub image-requires-clause-from : goal.image-requires-clause-from
image-requires-clause-from c =
    let items = c.self.inside.stores.items in
    let inside : c.place_of-place.result < length items =
    subst (λ (ls : List ListedStore). c.place_of-place.result < length ls) c.deref.ensures.value
    c.place_of-place.ensures.within in
    let site = own-site items c.place_of-place.result c.index.result.now (arc_value c.self.inside.at) c.args.self.now
    c.self.invariant.same inside c.index.ensures (ap (λ (x : NodeLineage). x.site) c.self.view_is) in
    subst (λ (x : Site). c.args.from.now.extent ≡ near_side c.args.dir x c.args.input) (sym site) c.requires.from

pub image-requires-clause-to : goal.image-requires-clause-to
image-requires-clause-to c =
    let items = c.self.inside.stores.items in
    let inside : c.place_of-place.result < length items =
    subst (λ (ls : List ListedStore). c.place_of-place.result < length ls) c.deref.ensures.value
    c.place_of-place.ensures.within in
    let site = own-site items c.place_of-place.result c.index.result.now (arc_value c.self.inside.at) c.args.self.now
    c.self.invariant.same inside c.index.ensures (ap (λ (x : NodeLineage). x.site) c.self.view_is) in
    subst (λ (x : Site). c.args.to.now.extent ≡ far_side c.args.dir x c.args.input) (sym site) c.requires.to

pub returns : goal.returns
returns c =
    let items = c.self.inside.stores.items in
    let l = c.index.result.now in
    let inside : c.place_of-place.result < length items =
    subst (λ (ls : List ListedStore). c.place_of-place.result < length ls) c.deref.ensures.value
    c.place_of-place.ensures.within in
    let site = own-site items c.place_of-place.result l (arc_value c.self.inside.at) c.args.self.now
    c.self.invariant.same inside c.index.ensures (ap (λ (x : NodeLineage). x.site) c.self.view_is) in
    let held : (stock_of l.kept).holding ≡ holding_for c.args.strategy c.args.self.now.stores =
    ap (λ (x : ListedStore). (stock_of x.kept).holding) c.index.ensures
    ∙ subst (λ (ls : List ListedStore). (stock_of (get_or ls c.place_of-place.result l).kept).holding
    ≡ holding_for c.args.strategy (map keep_of ls)) c.deref.ensures.value (c.place_of-place.ensures.store l)
    ∙ ap (λ (x : NodeLineage). holding_for c.args.strategy x.stores) c.self.view_is in
    c.image.ensures
    ∙ ap₂ (λ (x : Site) (h : Holding). with_those c.args.to.now
    (has (image_in c.args.dir x c.args.input (holding_stands x h c.args.input) c.args.from.now))) site held
