-- Tables of lines that are commands, one of each form, and of the nodes of flows. Each is found by computing; expected
-- commands by hand.
--
-- The key idea: a row is a line and its command, or the text of a flow's nodes and those nodes.
use Rattle.std.specs.Prelude.{◌≡◌, ℕ, ℤ, List, pos, negsuc, [], ◌∷◌, ◌++◌, map, codes, Option}
use Rattle.std.specs.Prelude.{Some, None, Result, Ok, Err}
use Rattle.std.specs.Str.{is_utf8, chars}
use Rattle.std.proofs.Common.{refl}
use Rattle.serde_json.proofs.OnLiterals.{serde_json_on_literals}
use Rattle.sz_spec.specs.declared.modes.Dir.TheVariants.{Back, Forward}
use Rattle.sz_spec.specs.declared.modes.Strategy.TheVariants as strategy
use Rattle.sz_spec.specs.declared.op.Op.{Op}
use Rattle.sz_spec.specs.declared.op.Op.TheVariants as op
use Rattle.sz_spec.specs.declared.op.Fold.TheVariants as fold
use Rattle.sz_spec.specs.declared.flow.Node.{Node}
use Rattle.sz_spec.specs.declared.flow.SourceRef.TheVariants.{Input, Node as Output}
use Rattle.sz_script.specs.declared.command.BaseName.{BaseName}
use Rattle.sz_script.specs.declared.command.NamedCell.{NamedCell}
use Rattle.sz_script.specs.declared.command.NewCell.{NewCell}
use Rattle.sz_script.specs.declared.command.Command.{Command}
use Rattle.sz_script.specs.declared.command.Command.TheVariants as command
use Rattle.sz_script.specs.declared.refusal.Refusal.{Refusal}
use Rattle.sz_script.specs.declared.refusal.Refusal.TheVariants as refusal
use Rattle.sz_script.specs.Reading.{reading}
use Rattle.sz_script.proofs.RowsTold.{joined}

-- ---- lines

-- a line, and the command that it is
abbrev Line : Type 0
Line = List ℕ × Command

abbrev line : List ℕ → Command → Line
line text order = (text, order)

abbrev AreCommands : List Line → Type 0
AreCommands rows = map (λ (r : Line). reading r.0) rows
    ≡ map {A = Line} {B = Result Command Refusal} (λ (r : Line). Ok r.1) rows

of_arrays : AreCommands (
    line (codes "{\"array\":\"a\",\"cells\":[[5,null],[-1,0]]}") (command.Array (codes "a") (record {
      extent = record { layers = 1; rows = 2; cols = 2 };
      values = Some (pos 5) ∷ None ∷ Some (negsuc 0) ∷ Some (pos 0) ∷ [];
    }))
    ∷ line (codes "{\"layers\":\"a\",\"cells\":[[[1,2]],[[3,null]]]}") (command.Layers (codes "a") (record {
      extent = record { layers = 2; rows = 2; cols = 2 };
      values = Some (pos 1) ∷ Some (pos 2) ∷ Some (pos 3) ∷ None ∷ [];
    })) ∷ [])
unfolding serde_json_on_literals is_utf8 chars
of_arrays = refl

-- a base array
abbrev base : List ℕ → ℕ → BaseName
base name version = record { name = name; version = version }

of_flows : AreCommands (
    line (codes "{\"flow\":\"f\",\"inputs\":1,\"nodes\":[{\"op\":\"neg\",\"from\":[{\"i\":0}]}]}")
    (command.Flow (codes "f") (record { inputs = 1; nodes = record { op = op.Neg; from = Input 0 ∷ [] } ∷ [] }))
    ∷ line (codes "{\"strategy\":\"f\",\"node\":2,\"list\":[\"full_many_b\",\"blackbox\"]}")
    (command.Strategy (codes "f") 2 (strategy.FullManyB ∷ strategy.BlackBox ∷ []))
    ∷ line (codes "{\"start\":\"f\",\"base\":[[\"a\",1],[\"b\",4294967295]]}")
    (command.Start (codes "f") (base (codes "a") 1 ∷ base (codes "b") 4294967295 ∷ []))
    ∷ line (codes "{\"plan\":\"f\",\"base\":[[\"a\",1]],\"units\":65536,\"back\":2,\"forward\":4294967295}")
    (command.Plan (codes "f") (base (codes "a") 1 ∷ []) 65536 2 4294967295)
    -- how many units there may be is no rule of lines, and the fields stand in any order
    ∷ line (codes "{\"forward\":3,\"back\":2,\"units\":65537,\"base\":[],\"plan\":\"f\"}")
    (command.Plan (codes "f") [] 65537 2 3) ∷ [])
unfolding serde_json_on_literals is_utf8 chars
of_flows = refl

abbrev new : ℕ → ℕ → ℕ → Option ℤ → NewCell
new layer row col value = record { layer = layer; row = row; col = col; value = value }

abbrev named : ℕ → ℕ → ℕ → NamedCell
named layer row col = record { layer = layer; row = row; col = col }

of_versions : AreCommands (
    line (codes "{\"refresh\":1,\"input\":2,\"set\":[[3,4,-5],[6,7,8,null],[3,4,9]]}")
    (command.Refresh 1 2 (new 0 3 4 (Some (negsuc 4)) ∷ new 6 7 8 None ∷ new 0 3 4 (Some (pos 9)) ∷ []))
    ∷ line (codes "{\"set\":[],\"input\":0,\"refresh\":1}") (command.Refresh 1 0 [])
    ∷ line (codes "{\"merge\":1}") (command.Merge 1)
    ∷ line (codes "{\"merged\":1}") (command.Merged 1)
    ∷ line (codes "{\"await\":1}") (command.Await 1)
    -- two numbers are a row and a column of layer 0, three begin with the layer
    ∷ line (codes "{\"ask\":1,\"dir\":\"back\",\"path\":[[3,1]],\"cells\":[[5,6],[7,8,9]]}")
    (command.Ask 1 Back (record { node = 3; input = 1 } ∷ []) (named 0 5 6 ∷ named 7 8 9 ∷ []))
    ∷ line (codes "{\"explain\":1,\"dir\":\"forward\",\"path\":[],\"cells\":[]}") (command.Explain 1 Forward [] [])
    ∷ line (codes "{\"show\":1,\"node\":2}") (command.Show 1 2) ∷ [])
unfolding serde_json_on_literals is_utf8 chars
of_versions = refl

-- the strategy of each word
of_strategies : AreCommands (line (codes "{\"strategy\":\"f\",\"node\":4294967295,\"list\":["
    ++ codes "\"map\",\"full_one_b\",\"full_one_f\",\"full_many_b\",\"full_many_f\","
    ++ codes "\"pay_one\",\"pay_many\",\"comp_one\",\"comp_many\",\"blackbox\"]}")
    (command.Strategy (codes "f") 4294967295
    (strategy.Map ∷ strategy.FullOneB ∷ strategy.FullOneF ∷ strategy.FullManyB ∷ strategy.FullManyF ∷ strategy.PayOne
    ∷ strategy.PayMany ∷ strategy.CompOne ∷ strategy.CompMany ∷ strategy.BlackBox ∷ [])) ∷ [])
unfolding serde_json_on_literals is_utf8 chars
of_strategies = refl

-- bytes that are no UTF-8
line-no_utf8 : reading (34 ∷ 255 ∷ 34 ∷ []) ≡ Err refusal.NoJson
unfolding serde_json_on_literals is_utf8 chars
line-no_utf8 = refl

-- ---- nodes

-- the text of a flow's nodes, and the nodes that they are
abbrev NodesRow : Type 0
NodesRow = List ℕ × List Node

abbrev nodes : List ℕ → List Node → NodesRow
nodes text ns = (text, ns)

-- each text is read as these nodes, of a flow of one base array
abbrev AreNodes : List NodesRow → Type 0
AreNodes rows =
    map (λ (r : NodesRow). reading (codes "{\"flow\":\"f\",\"inputs\":1,\"nodes\":[" ++ r.0 ++ codes "]}")) rows
    ≡ map {A = NodesRow} {B = Result Command Refusal}
    (λ (r : NodesRow). Ok (command.Flow (codes "f") (record { inputs = 1; nodes = r.1 }))) rows

abbrev from_one : Op → Node
from_one o = record { op = o; from = Input 0 ∷ [] }

abbrev from_two : Op → Node
from_two o = record { op = o; from = Input 0 ∷ Input 0 ∷ [] }

of_parameters : AreNodes (
    nodes (codes "{\"op\":\"add_k\",\"k\":-2,\"from\":[{\"i\":0}]}") (from_one (op.AddK (negsuc 1)) ∷ [])
    ∷ nodes (codes "{\"op\":\"clip\",\"hi\":5,\"lo\":-2,\"from\":[{\"i\":0}]},"
    ++ codes "{\"op\":\"sub\",\"from\":[{\"n\":0},{\"i\":0}]}")
    (from_one (op.Clip (negsuc 1) (pos 5)) ∷ record { op = op.Sub; from = Output 0 ∷ Input 0 ∷ [] } ∷ [])
    ∷ nodes (codes "{\"op\":\"slice\",\"r0\":1,\"c0\":2,\"h\":3,\"w\":4,\"from\":[{\"i\":0}]}")
    (from_one (op.Slice 1 2 3 4) ∷ [])
    ∷ nodes (codes "{\"op\":\"block\",\"fold\":\"max\",\"h\":3,\"w\":4,\"from\":[{\"i\":0}]}")
    (from_one (op.Block fold.Max 3 4) ∷ []) ∷ [])
unfolding serde_json_on_literals is_utf8 chars
of_parameters = refl

-- the weights stand row by row, each row from its first, in kernels that no turn leaves as they are
of_kernels : AreNodes (
    nodes (codes "{\"op\":\"convolve\",\"kernel\":[[1,0,-1]],\"from\":[{\"i\":0}]}")
    (from_one (op.Convolve (record { rows = 1; cols = 3; weights = pos 1 ∷ pos 0 ∷ negsuc 0 ∷ [] })) ∷ [])
    ∷ nodes (codes "{\"op\":\"convolve\",\"kernel\":[[1,2,3],[4,5,6],[7,8,9]],\"from\":[{\"i\":0}]}")
    (from_one (op.Convolve (record {
      rows = 3;
      cols = 3;
      weights = pos 1 ∷ pos 2 ∷ pos 3 ∷ pos 4 ∷ pos 5 ∷ pos 6 ∷ pos 7 ∷ pos 8 ∷ pos 9 ∷ [];
    })) ∷ [])
    ∷ nodes (codes "{\"op\":\"convolve\",\"kernel\":[[1,-2,3,4,5],[6,7,8,9,0],[-1,2,0,4,8]],\"from\":[{\"i\":0}]}")
    (from_one (op.Convolve (record {
      rows = 3;
      cols = 5;
      weights =
          pos 1 ∷ negsuc 1 ∷ pos 3 ∷ pos 4 ∷ pos 5 ∷ pos 6 ∷ pos 7 ∷ pos 8 ∷ pos 9 ∷ pos 0
          ∷ negsuc 0 ∷ pos 2 ∷ pos 0 ∷ pos 4 ∷ pos 8 ∷ [];
    })) ∷ []) ∷ [])
unfolding serde_json_on_literals is_utf8 chars
of_kernels = refl

-- ---- the operator of each word, and the fold, of nodes one after another

-- the text of a node's operator, and its node
abbrev NodeRow : Type 0
NodeRow = List ℕ × Node

abbrev unary : List ℕ → Op → NodeRow
unary text o = (codes "{\"op\":" ++ text ++ codes ",\"from\":[{\"i\":0}]}", from_one o)

abbrev binary : List ℕ → Op → NodeRow
binary text o = (codes "{\"op\":" ++ text ++ codes ",\"from\":[{\"i\":0},{\"i\":0}]}", from_two o)

abbrev in_one_flow : List NodeRow → NodesRow
in_one_flow rows = (joined (map (λ (r : NodeRow). r.0) rows), map (λ (r : NodeRow). r.1) rows)

of_words : AreNodes (in_one_flow (
    unary (codes "\"neg\"") op.Neg ∷ unary (codes "\"abs\"") op.Abs
    ∷ unary (codes "\"add_k\",\"k\":1") (op.AddK (pos 1)) ∷ unary (codes "\"mul_k\",\"k\":2") (op.MulK (pos 2))
    ∷ binary (codes "\"add\"") op.Add ∷ binary (codes "\"sub\"") op.Sub ∷ binary (codes "\"mul\"") op.Mul
    ∷ binary (codes "\"min\"") op.Min ∷ binary (codes "\"max\"") op.Max ∷ unary (codes "\"transpose\"") op.Transpose
    ∷ binary (codes "\"lookup\"") op.Lookup ∷ unary (codes "\"fold_layers\",\"fold\":\"sum\"") (op.FoldLayers fold.Sum)
    ∷ unary (codes "\"fold_layers\",\"fold\":\"min\"") (op.FoldLayers fold.Min)
    ∷ unary (codes "\"fold_layers\",\"fold\":\"max\"") (op.FoldLayers fold.Max)
    ∷ unary (codes "\"fold_layers\",\"fold\":\"count\"") (op.FoldLayers fold.Count)
    ∷ unary (codes "\"regions\",\"t\":3") (op.Regions (pos 3)) ∷ unary (codes "\"clean\",\"t\":4") (op.Clean (pos 4))
    ∷ []) ∷ [])
unfolding serde_json_on_literals is_utf8 chars
of_words = refl
