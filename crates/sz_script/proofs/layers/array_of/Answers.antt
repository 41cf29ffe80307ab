-- Where the layers have no shape they are too many cells, or bad ones.
use Rattle.std.proofs.Common.{map, ◌∙◌, sym, refl}
use Rattle.serde_json.specs.View.{view}
use Rattle.sz_script.specs.Layers.{is_layer}
use Rattle.sz_script.proofs.Walks.{all_seen}
use Rattle.sz_script.proofs.LayersRead.{sides_found, many_made, bad_made}
use Rattle.sz_script.proofs.layers.array_of.Goals as goal

pub returns-then-are_layers : goal.returns-then-are_layers
returns-then-are_layers c = many_made (map view c.args.layers.now) c.in-Some.height c.in-Some.width
    (sides_found _ c.in-Some.height c.in-Some.width c.in-Some.ensures) c.args.layers.now refl
    c.in-None.ensures
    (all_seen (is_layer c.in-Some.height c.in-Some.width) c.args.layers.now ∙ sym c.are_layers.ensures
    ∙ c.if-are_layers.true)

pub returns-else-are_layers : goal.returns-else-are_layers
returns-else-are_layers c = bad_made (map view c.args.layers.now) c.in-Some.height c.in-Some.width
    (sides_found _ c.in-Some.height c.in-Some.width c.in-Some.ensures)
    (all_seen (is_layer c.in-Some.height c.in-Some.width) c.args.layers.now ∙ sym c.are_layers.ensures
    ∙ c.if-are_layers.false)
