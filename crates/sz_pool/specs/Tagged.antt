-- The tag of a shelf for a node.
use Rattle.std.specs.Prelude.{List}
use Rattle.sz_spec.specs.declared.modes.Strategy.{Strategy}
use Rattle.sz_spec.specs.Values.{Grid}
use Rattle.sz_spec.specs.Shapes.{Site}
use Rattle.sz_shelf.specs.Tags.{Tag}

-- an operator at its shapes, the arrays that it takes, and the list of its strategies
abbrev pub tag_over : Site → List Grid → List Strategy → Tag
tag_over at inputs list = record { site = at; inputs = inputs; list = list }
