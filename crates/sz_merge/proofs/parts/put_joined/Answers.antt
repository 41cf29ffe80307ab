-- The region pairs that are read are the store's, and their kinds are put.
use Rattle.std.proofs.Common.{◌≡◌, ◌≤◌, ◌∙◌, List, map, length, sym, ap, subst, arith, All}
use Rattle.std.specs.Arc.{arc_value}
use Rattle.std.proofs.lemmas.List.{length-map}
use Rattle.sz_cells.specs.Extent.{Extent}
use Rattle.sz_spec.specs.Shapes.{Site}
use Rattle.sz_frame.specs.Parts.{Pairing}
use Rattle.sz_frame.specs.Stands.{full_stands}
use Rattle.sz_region.specs.FullBytes.{IsFullWord}
use Rattle.sz_region.specs.Putting.{HasShapes}
use Rattle.sz_merge.proofs.Behind.{can-put}
use Rattle.sz_merge.proofs.parts.put_joined.Goals as goal
use Rattle.sz_merge.proofs.parts.put_joined.Goals.{In_ok-merged}

-- the operator's shapes
out-is : (c : In_ok-merged) → c.out.result ≡ c.args.store.now.site.out
out-is c = c.out.ensures.value ∙ ap (λ (x : Site). x.out) c.site-at.ensures

ins-are : (c : In_ok-merged) → c.ins.result.now ≡ c.args.store.now.site.ins
ins-are c = c.ins.ensures.value ∙ ap (λ (x : Site). x.ins) c.site-at.ensures

-- the kinds have them
shapes : (c : In_ok-merged) → All (HasShapes c.args.store.now.site.out c.args.store.now.site.ins)
    (map (λ a. arc_value a) c.in_ok-merged.merged.items)
shapes c =
    let s = c.args.store.now.site in
    let ms : List Pairing = map (λ a. arc_value a) c.in_ok-merged.merged.items in
    subst (λ (e : Extent). All (HasShapes e s.ins) ms) (out-is c)
    (subst (λ (es : List Extent). All (HasShapes c.out.result es) ms) (ins-are c) c.in_ok-merged.ensures.shapes)

pub kinds_of-requires : goal.kinds_of-requires
kinds_of-requires c =
    let s = c.args.store.now.site in
    let rs : List Pairing = map (λ a. arc_value a) c.in_ok-regions.regions.items in
    subst (λ (xs : _). All (HasShapes c.out.result c.ins.result.now) (map (λ a. arc_value a) xs))
    (sym c.deref.ensures.value)
    (subst (λ (e : Extent). All (HasShapes e c.ins.result.now) rs)
    (sym (c.out.ensures.value ∙ ap (λ (x : Site). x.out) c.site-at.ensures))
    (subst (λ (es : List Extent). All (HasShapes s.out es) rs)
    (sym (c.ins.ensures.value ∙ ap (λ (x : Site). x.ins) c.site-at.ensures)) c.in_ok-regions.ensures.shapes))

pub put_regions-requires : goal.put_regions-requires
put_regions-requires c =
    let s = c.args.store.now.site in
    let ms : List Pairing = map (λ a. arc_value a) c.deref-2.result.now in
    let own : All (HasShapes s.out s.ins) ms =
    subst (λ (xs : _). All (HasShapes s.out s.ins) (map (λ a. arc_value a) xs)) (sym c.deref-2.ensures.value)
    (shapes (goal.at.put_regions-requires c).In_ok-merged) in (
      s.out,
      s.ins,
      can-put s.out s.ins ms own
          (subst (λ (x : Site). length x.ins ≤ 2) c.site-at.ensures c.within_limits.ensures.few)
          (omega (
            arith,
            length-map c.deref-2.result.now (λ a. arc_value a),
            ap length c.deref-2.ensures.value,
            c.len.ensures,
            c.if-len-gt1048576.false,
          )),
    )

pub returns : goal.returns
returns c =
    let w = (goal.at.returns c).In_ok-merged in
    let s = c.args.store.now.site in
    let rs : List Pairing = map (λ a. arc_value a) c.in_ok-regions.regions.items in
    let items = c.in_ok-merged.merged.items in
    let ms : List Pairing = map (λ a. arc_value a) items in
    let seen = c.deref-2.ensures.value in
    let put = c.in_ok-put_regions.ensures.ok s.out s.ins
    (subst (λ (xs : _). All (HasShapes s.out s.ins) (map (λ a. arc_value a) xs)) (sym seen) (shapes w)) in (
      rs,
      c.in_ok-regions.ensures.pairs,
      record {
        put = ms;
        kinds = c.in_ok-merged.ensures.kinds;
        shapes = shapes w;
        same = λ i o x inside.
            c.in_ok-merged.ensures.same i o x (omega (arith, ap length (ins-are w), inside))
            ∙ ap (λ (xs : _). full_stands (map (λ a. arc_value a) xs) i o x) c.deref.ensures.value;
        many = omega (arith, length-map items (λ a. arc_value a), c.len-2.ensures);
        table = put.0;
        word = put.1;
        is_word =
            subst (λ (xs : _). IsFullWord s.out s.ins put.0 (map (λ a. arc_value a) xs) put.1) seen put.2;
        added = put.3;
      },
    )
