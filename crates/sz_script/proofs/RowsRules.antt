-- Tables of lines on both sides of the edge of each rule: the numbers that are printed of the refusal, and nothing
-- where the line is a command. Each is found by computing; expected numbers by hand.
--
-- The key idea: the lines of one rule differ in one place, so a table lists what stands there, under its numbers.
use Rattle.std.specs.Prelude.{[], ◌∷◌, ◌++◌, codes}
use Rattle.std.specs.Str.{is_utf8, chars}
use Rattle.std.proofs.Common.{refl}
use Rattle.csv.proofs.OnLiterals.{csv_on_literals}
use Rattle.serde_json.proofs.OnLiterals.{serde_json_on_literals}
use Rattle.sz_script.proofs.RowsTold.{read_as, between, flow_read_as, node_read_as, layers_of, nodes_of, lists_of}
use Rattle.sz_script.proofs.RowsTold.{AreTold, row, each}

-- ---- no JSON, and no form

json : AreTold read_as (
    each (1 ∷ []) (
    codes "" ∷ codes "{\"await\":1" ∷ codes "{\"await\":1} 2" ∷ codes "{\"await\":1,}" ∷ codes "{\"await\":1e400}"
    ∷ codes "{\"await\":\"\\ud800\"}"
    -- a name that is none, in a line that is cut
    ∷ codes "{\"array\":\"A\",\"cells\":[]" ∷ [])
    -- a number that a float can hold, and one that is too great for that
    ++ row (codes "{\"await\":1.7e308}") (3 ∷ []) ∷ row (codes "{\"await\":1.8e308}") (1 ∷ [])
    -- as many lists as may nest, and one more
    ∷ row (lists_of 127) (3 ∷ []) ∷ row (lists_of 128) (1 ∷ []) ∷ [])
unfolding serde_json_on_literals is_utf8 chars
json = refl

form : AreTold read_as (
    row (codes " {\"await\": 1 } ") [] ∷ row (codes "{\"csv\":\"a\",\"text\":\"1\"}") []
    ∷ row (codes "{\"csv\":\"A\",\"text\":\"1\"}") (4 ∷ [])
    ∷ each (3 ∷ []) (
    codes "[]" ∷ codes "{}" ∷ codes "{\"strategy\":\"f\",\"node\":0,\"list\":[\"maps\"]}"
    -- before a name that is none
    ∷ codes "{\"array\":\"A\",\"cells\":{}}" ∷ codes "{\"start\":\"F\",\"base\":[[\"a\",\"1\"]]}"
    ∷ codes "{\"flow\":\"F\",\"inputs\":1,\"nodes\":[1]}"
    -- a base array of one, of three, and with a name that is no text
    ∷ codes "{\"start\":\"f\",\"base\":[[\"a\"]]}" ∷ codes "{\"start\":\"f\",\"base\":[[\"a\",1,1]]}"
    ∷ codes "{\"start\":\"f\",\"base\":[[1,1]]}"
    -- a direction that is none, steps of three and of one, and cells of one and of four
    ∷ codes "{\"ask\":1,\"dir\":\"Back\",\"path\":[],\"cells\":[]}"
    ∷ codes "{\"ask\":1,\"dir\":\"back\",\"path\":[[0,0,0]],\"cells\":[]}"
    ∷ codes "{\"ask\":1,\"dir\":\"back\",\"path\":[[0]],\"cells\":[]}"
    ∷ codes "{\"ask\":1,\"dir\":\"back\",\"path\":[],\"cells\":[[0]]}"
    ∷ codes "{\"ask\":1,\"dir\":\"back\",\"path\":[],\"cells\":[[0,0,0,0]]}" ∷ []))
unfolding serde_json_on_literals csv_on_literals is_utf8 chars
form = refl

-- an await, by its number
number : AreTold (between (codes "{\"await\":") (codes "}")) (
    row (codes "4294967295") []
    ∷ each (3 ∷ []) (codes "4294967296" ∷ codes "-1" ∷ codes "-0" ∷ codes "1.0" ∷ codes "1e2" ∷ []))
unfolding serde_json_on_literals is_utf8 chars
number = refl

-- ---- names

-- an array of one cell, by its name
name : AreTold (between (codes "{\"array\":\"") (codes "\",\"cells\":[[1]]}")) (
    each [] (codes "_" ∷ codes "abcdefghijklmnopqrstuvwxyz_01239" ∷ [])
    -- none; one that is too long; and other bytes, the last five beside those of a name, or no ASCII
    ++ each (4 ∷ []) (
    codes "" ∷ codes "abcdefghijklmnopqrstuvwxyz_012398" ∷ codes "A" ∷ codes "a-b" ∷ codes "a.b"
    ∷ codes "`" ∷ codes "{" ∷ codes "/" ∷ codes ":" ∷ codes "\\u00e9" ∷ []))
unfolding serde_json_on_literals is_utf8 chars
name = refl

-- a start, by its base arrays
name_of_base : AreTold (between (codes "{\"start\":\"f\",\"base\":") (codes "}")) (each (4 ∷ []) (
    codes "[[\"a \",1]]" ∷ codes "[[\"a\",1],[\"A\",1]]" ∷ codes "[[\"\",1]]"
    ∷ codes "[[\"abcdefghijklmnopqrstuvwxyz_012398\",1]]" ∷ []))
unfolding serde_json_on_literals is_utf8 chars
name_of_base = refl

-- a name that is written otherwise; and one that is none in each form, before bad cells and a bad flow
name_of_form : AreTold read_as (
    row (codes "{\"\\u0061rray\":\"\\u0061\",\"cells\":[[1]]}") []
    ∷ each (4 ∷ []) (
    codes "{\"array\":\"A\",\"cells\":[]}" ∷ codes "{\"layers\":\"A\",\"cells\":[[[1]]]}"
    ∷ codes "{\"flow\":\"F\",\"inputs\":1,\"nodes\":[]}" ∷ codes "{\"strategy\":\"F\",\"node\":0,\"list\":[]}"
    ∷ codes "{\"start\":\"F\",\"base\":[]}" ∷ codes "{\"plan\":\"F\",\"base\":[],\"units\":1,\"back\":1,\"forward\":1}"
    ∷ codes "{\"plan\":\"f\",\"base\":[[\"a\",1],[\"A\",1]],\"units\":1,\"back\":1,\"forward\":1}" ∷ []))
unfolding serde_json_on_literals is_utf8 chars
name_of_form = refl

-- ---- cells

-- an array of one layer, by its cells
cells : AreTold (between (codes "{\"array\":\"a\",\"cells\":") (codes "}")) (
    each [] (codes "[[null]]" ∷ codes "[[9223372036854775807,-9223372036854775808]]" ∷ [])
    ++ each (5 ∷ []) (
    codes "[]" ∷ codes "[[]]" ∷ codes "[[],[]]" ∷ codes "[[1],[1,2]]" ∷ codes "[[],[1]]" ∷ codes "[[1],1]"
    ∷ codes "[1]" ∷ codes "[[\"1\"]]" ∷ codes "[[-0]]" ∷ codes "[[1.5]]" ∷ codes "[[9223372036854775808]]"
    ∷ codes "[[-9223372036854775809]]" ∷ codes "[[[1]]]" ∷ []))
unfolding serde_json_on_literals is_utf8 chars
cells = refl

-- an array of several layers, by its cells
layers : AreTold (between (codes "{\"layers\":\"a\",\"cells\":") (codes "}")) (
    row (codes "[[[1,2]],[[3,null]]]") []
    ∷ each (5 ∷ []) (
    codes "[]" ∷ codes "[[[1]],1]" ∷ codes "[[]]" ∷ codes "[[[]]]" ∷ codes "[[[1]],[[1,2]]]"
    ∷ codes "[[[1]],[[1],[2]]]" ∷ codes "[[1]]" ∷ []))
unfolding serde_json_on_literals is_utf8 chars
layers = refl

how_many_layers : AreTold read_as (
    row (layers_of 16) [] ∷ row (layers_of 17) (5 ∷ []) ∷ row (layers_of 0) (5 ∷ []) ∷ [])
unfolding serde_json_on_literals is_utf8 chars
how_many_layers = refl

-- ---- flows

how_many_nodes : AreTold read_as (row (nodes_of 32) [] ∷ row (nodes_of 33) (8 ∷ 2 ∷ []) ∷ [])
unfolding serde_json_on_literals is_utf8 chars
how_many_nodes = refl

-- the last two have several faults: no nodes comes first, then too many inputs
flow : AreTold flow_read_as (
    row (codes "\"inputs\":1,\"nodes\":[{\"op\":\"neg\",\"from\":[{\"i\":0}]}]}") []
    ∷ row (codes "\"inputs\":32,\"nodes\":[{\"op\":\"neg\",\"from\":[{\"i\":0}]}]}") []
    ∷ row (codes "\"inputs\":33,\"nodes\":[{\"op\":\"neg\",\"from\":[{\"i\":0}]}]}") (8 ∷ 6 ∷ [])
    ∷ row (codes "\"inputs\":0,\"nodes\":[{\"op\":\"neg\",\"from\":[{\"i\":0}]}]}") (8 ∷ 3 ∷ 0 ∷ 0 ∷ [])
    ∷ row (codes "\"inputs\":1,\"nodes\":[1]}") (3 ∷ []) ∷ row (codes "\"inputs\":1,\"nodes\":[]}") (8 ∷ 1 ∷ [])
    ∷ row (codes "\"inputs\":33,\"nodes\":[]}") (8 ∷ 1 ∷ [])
    ∷ row (codes "\"inputs\":33,\"nodes\":[{\"op\":\"add\",\"from\":[]}]}") (8 ∷ 6 ∷ []) ∷ [])
unfolding serde_json_on_literals is_utf8 chars
flow = refl

-- a flow of one base array and two nodes: a source behind its node, too few sources, and the faults of both nodes, of
-- which that of the first is told
second_node : AreTold (between (codes "{\"flow\":\"f\",\"inputs\":1,\"nodes\":[{") (codes "}]}")) (
    row (codes "\"op\":\"neg\",\"from\":[{\"i\":0}]},{\"op\":\"neg\",\"from\":[{\"n\":1}]") (8 ∷ 3 ∷ 1 ∷ 0 ∷ [])
    ∷ row (codes "\"op\":\"neg\",\"from\":[{\"i\":0}]},{\"op\":\"add\",\"from\":[{\"i\":0}]") (8 ∷ 4 ∷ 1 ∷ [])
    ∷ row (codes "\"op\":\"clip\",\"lo\":1,\"hi\":0,\"from\":[{\"i\":0}]},{\"op\":\"add\",\"from\":[]") (8 ∷ 5 ∷ 0 ∷ [])
    ∷ [])
unfolding serde_json_on_literals is_utf8 chars
second_node = refl

-- how many sources comes first, then where they are, then the parameters
node : AreTold node_read_as (
    row (codes "\"op\":\"neg\",\"from\":[{\"i\":9},{\"i\":9}]") (8 ∷ 4 ∷ 0 ∷ [])
    ∷ row (codes "\"op\":\"clip\",\"lo\":1,\"hi\":0,\"from\":[]") (8 ∷ 4 ∷ 0 ∷ [])
    ∷ row (codes "\"op\":\"clip\",\"lo\":1,\"hi\":0,\"from\":[{\"i\":9}]") (8 ∷ 3 ∷ 0 ∷ 0 ∷ [])
    ∷ row (codes "\"op\":\"add\",\"from\":[{\"i\":1},{\"i\":1}]") []
    ∷ row (codes "\"op\":\"add\",\"from\":[{\"i\":1},{\"i\":2}]") (8 ∷ 3 ∷ 0 ∷ 1 ∷ []) ∷ [])
unfolding serde_json_on_literals is_utf8 chars
node = refl
