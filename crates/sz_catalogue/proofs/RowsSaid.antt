-- What the rows compare: the text that a command is answered by, after others; and the things that they speak of.
use Rattle.std.proofs.Common.{◌≡◌, ℕ, pos, List, [], ◌∷◌, map, Some, false}
use Rattle.std.specs.Prelude.{codes, fold}
use Rattle.sz_cells.specs.Extent.{Extent, flat}
use Rattle.sz_spec.specs.declared.op.Op.TheVariants as op
use Rattle.sz_spec.specs.declared.flow.SourceRef.TheVariants.{Input}
use Rattle.sz_spec.specs.declared.modes.Strategy.TheVariants as strategy
use Rattle.sz_spec.specs.Values.{Grid}
use Rattle.sz_spec.specs.Flows.{Graph}
use Rattle.sz_spec.specs.Paths.{Step}
use Rattle.sz_script.specs.declared.command.BaseName.{BaseName}
use Rattle.sz_script.specs.declared.command.NamedCell.{NamedCell}
use Rattle.sz_script.specs.declared.command.Command.{Command}
use Rattle.sz_script.specs.declared.command.Command.TheVariants as command
use Rattle.sz_catalogue.specs.Holdings.{Version, Holdings, no_holdings}
use Rattle.sz_catalogue.specs.Responses.{reply_text}
use Rattle.sz_catalogue.specs.Changes.{after_command}

-- what is held after some commands, and what a command is answered then
abbrev pub after : Holdings → List Command → Holdings
after c orders = fold (λ c order. (after_command c order).0) c orders

abbrev pub says : Holdings → Command → List ℕ
says c order = reply_text (after_command c order).1

-- what is held, a command, and the text that it is answered by
abbrev pub Row : Type 0
Row = Holdings × Command × List ℕ

-- each row's command is answered so
abbrev pub AreSaid : List Row → Type 0
AreSaid rows = map (λ (r : Row). says r.0 r.1) rows ≡ map (λ (r : Row). r.2) rows

abbrev pub grid : Extent → List ℕ → Grid
grid e ns = record { extent = e; values = map (λ n. Some (pos n)) ns }

abbrev pub step : ℕ → ℕ → Step
step node input = record { node = node; input = input }

abbrev pub named : ℕ → ℕ → ℕ → NamedCell
named layer row col = record { layer = layer; row = row; col = col }

abbrev pub base : List ℕ → ℕ → BaseName
base name version = record { name = name; version = version }

-- one cell of 5, a negation of one input, and the smallest session
abbrev pub five : Grid
five = grid (flat 1 1) (5 ∷ [])

abbrev pub negation : Graph
negation = record { inputs = 1; nodes = record { op = op.Neg; from = Input 0 ∷ [] } ∷ [] }

abbrev pub sum : Graph
sum = record { inputs = 2; nodes = record { op = op.Add; from = Input 0 ∷ Input 1 ∷ [] } ∷ [] }

abbrev pub a : List ℕ
a = codes "a"

abbrev pub f : List ℕ
f = codes "f"

abbrev pub hold_five : Command
hold_five = command.Array a five

abbrev pub held : Holdings
held = after no_holdings (hold_five ∷ command.Flow f negation ∷ [])

abbrev pub begun : Holdings
begun = after held (command.Start f (base a 1 ∷ []) ∷ [])

abbrev pub whole : Holdings
whole = after begun (command.Await 1 ∷ [])

-- arrays of two shapes, and a flow that takes two of one shape
abbrev pub two_shapes : Holdings
two_shapes = after no_holdings
    (hold_five ∷ command.Array f (grid (flat 1 2) (5 ∷ 6 ∷ [])) ∷ command.Flow f sum ∷ [])

-- a version that is not awaited, of a negation of the one cell
abbrev pub version : Version
version = record {
  flow_name = f;
  flow = negation;
  base = record { name = a; version = 1; array = five } ∷ [];
  lists = (strategy.Map ∷ []) ∷ [];
  awaited = false;
}
