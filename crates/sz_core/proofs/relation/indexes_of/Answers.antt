-- The pairs of each input lie within its shapes.
use Rattle.std.proofs.Common.{◌≡◌, ℕ, ◌+◌, ◌∷◌, [], map, length-append, arith, ◌∙◌}
use Rattle.std.proofs.Common.{ap}
use Rattle.std.specs.List.{flat_map}
use Rattle.sz_spec.specs.Sides.{extent_before, extent_after}
use Rattle.sz_core.specs.Links.{Links, HasPairs, no_links}
use Rattle.sz_spec.specs.Values.{extent_at}
use Rattle.sz_core.proofs.Relations.{before-at, after-at, extent-at, each-push}
use Rattle.sz_core.proofs.relation.indexes_of.Goals as goal

pub index_of-requires : goal.index_of-requires
index_of-requires c =
    let at : c.index-ins-input.result ≡ extent_at c.args.ins.now c.loop-input.input =
    extent-at c.args.ins.now c.loop-input.input c.index-ins-input.result (omega arith) c.index-ins-input.is in
    rw (
      c.sides-near.ensures.near,
      c.sides-near.ensures.far,
      before-at c.args.dir c.args.out c.index-ins-input.result c.args.ins.now c.loop-input.input at,
      after-at c.args.dir c.args.out c.index-ins-input.result c.args.ins.now c.loop-input.input at,
    )
    (c.requires.within c.args.dir c.loop-input.input (omega arith))

pub loop-input-preserved : goal.loop-input-preserved
loop-input-preserved c =
    let inv = c.loop-input.invariant in
    let n = c.loop-input.input in
    let taken = c.index-ins-input.result in
    let dir = c.args.dir in
    let out = c.args.out in
    let ins = c.args.ins.now in
    let pairs = flat_map (λ pairs. pairs) (map (λ v. v.items) c.args.pieces.now) in
    let at : taken ≡ extent_at ins n = extent-at ins n taken (omega arith) c.index-ins-input.is in
    let near : c.sides-near.result.0 ≡ extent_before dir out ins n =
    c.sides-near.ensures.near ∙ before-at dir out taken ins n at in
    let far : c.sides-near.result.1 ≡ extent_after dir out ins n =
    c.sides-near.ensures.far ∙ after-at dir out taken ins n at in
    let has : ℕ → Links → Type 0 =
    λ i links. HasPairs dir i (extent_before dir out ins i) (extent_after dir out ins i) pairs links in
    let here : has n c.in_ok-index_of.field-0 = rw (near, far) at c.in_ok-index_of.ensures in
    rw c.in_ok-push.ensures.items (
      length-append c.loop-input.made.items (c.in_ok-index_of.field-0 ∷ []) ∙ ap (λ (m : ℕ). m + 1) inv.0,
      each-push has c.loop-input.made.items c.in_ok-index_of.field-0 no_links n inv.0 inv.1 here,
    )
