-- The cells are cut into equal parts, a layer each, and the layers of all cells are the array.
use Rattle.std.proofs.Common.{arith, ◌≡◌, ◌<◌, ◌*◌, ◌/◌, ℕ, length, map, ap, ◌∙◌, sym, add-zero, mul_comm}
use Rattle.std.proofs.lemmas.List.{length-map}
use Rattle.std.proofs.lemmas.Nat.{div-mul-add}
use Rattle.serde_json.specs.View.{view}
use Rattle.serde_json.proofs.Views.{view-Array}
use Rattle.sz_script.specs.Layers.{is_layer, values_of_layer}
use Rattle.sz_writing.specs.Written.{layer_long}
use Rattle.sz_writing.proofs.Walks.{walk-more, walk-given}
use Rattle.sz_writing.proofs.cells.layers_of.Goals as goal

parted : (count size cells : ℕ) → 0 < count → cells ≡ count * size → cells / count ≡ size
parted count size cells some whole =
    ap (λ (n : ℕ). n / count) (whole ∙ mul_comm count size ∙ sym (add-zero (size * count)))
    ∙ div-mul-add size count 0 some

pub layer_of-requires : goal.layer_of-requires
layer_of-requires c = c.split_at.ensures.front_len
    ∙ parted c.args.count (c.args.height * c.args.width) (length c.args.cells.now) c.requires.some c.requires.whole

pub loop-layer-preserved : goal.loop-layer-preserved
loop-layer-preserved c =
    walk-more (is_layer c.args.height c.args.width) values_of_layer 2 (layer_long c.args.height c.args.width)
    (length c.args.cells.now / c.args.count) c.loop-layer.layers.items _ c.loop-layer._layer c.loop-layer.rest.now
    c.args.cells.now c.in_ok-layer_of.field-0 c.split_at.result.0.now c.split_at.result.1.now c.loop-layer.invariant
    c.in_ok-push.ensures.items c.in_ok-layer_of.ensures.written c.in_ok-layer_of.ensures.given
    c.split_at.ensures.by_index.0 c.split_at.ensures.front_len

pub returns : goal.returns
returns c =
    let end : c.loop-layer._layer ≡ c.args.count = omega arith in
    let size = length c.args.cells.now / c.args.count in
    let cut : size ≡ c.args.height * c.args.width = parted c.args.count (c.args.height * c.args.width)
    (length c.args.cells.now) c.requires.some c.requires.whole in
    record {
      layers = map view c.loop-layer.layers.items;
      is = view-Array c.loop-layer.layers;
      counted = length-map c.loop-layer.layers.items view ∙ c.loop-layer.invariant.counted ∙ end;
      written = c.loop-layer.invariant.written;
      given = walk-given (is_layer c.args.height c.args.width) values_of_layer 2
          (layer_long c.args.height c.args.width) size c.args.count c.loop-layer.layers.items c.loop-layer._layer
          c.loop-layer.rest.now c.args.cells.now end
          (c.requires.whole ∙ ap (λ (n : ℕ). c.args.count * n) (sym cut)) c.loop-layer.invariant;
    }
