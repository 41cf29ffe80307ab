-- Tables of the nodes of a flow: of each operator its right parameters; a further one; and each of them missing,
-- wrongly typed, and given twice, where the last stands. Each is found by computing; expected numbers by hand.
--
-- The key idea: the rows of an operator follow from its parameters, with a right value and wrong ones of each.
use Rattle.std.specs.Prelude.{ℕ, List, [], ◌∷◌, ◌++◌, flat_map, codes}
use Rattle.std.specs.Str.{is_utf8, chars}
use Rattle.std.proofs.Common.{refl}
use Rattle.serde_json.proofs.OnLiterals.{serde_json_on_literals}
use Rattle.sz_script.proofs.RowsTold.{AreTold, Row, row, each, node_read_as, Field, rows_of}

-- the sources of an operator of one input and of two
abbrev one : List ℕ
one = codes "\"from\":[{\"i\":0}]"

abbrev two : List ℕ
two = codes "\"from\":[{\"i\":0},{\"i\":1}]"

-- the operator of a node
abbrev of_op : List ℕ → List ℕ
of_op word = codes "\"op\":\"" ++ word ++ codes "\""

-- the rows of an operator by its parameters
abbrev with_parameters : List ℕ → List Field → List Row
with_parameters word fs = rows_of [] (of_op word ∷ []) (one ∷ []) fs

-- a parameter of an operator
abbrev parameter : List ℕ → List ℕ → List (List ℕ) → Field
parameter key right wrong =
    record { key = key; right = right; wrong = wrong; before = codes "[[[]]]"; behind = codes "{}" }

-- ---- without parameters

abbrev of_one : List ℕ → List Row
of_one word = rows_of [] (of_op word ∷ []) (one ∷ []) []

abbrev of_two : List ℕ → List Row
of_two word = rows_of [] (of_op word ∷ []) (two ∷ []) []

without_parameters : AreTold node_read_as (
    flat_map of_one (codes "neg" ∷ codes "abs" ∷ codes "transpose" ∷ [])
    ++ flat_map of_two
    (codes "add" ∷ codes "sub" ∷ codes "mul" ∷ codes "min" ∷ codes "max" ∷ codes "lookup" ∷ []))
unfolding serde_json_on_literals is_utf8 chars
without_parameters = refl

-- ---- the operator and the sources

-- a negation, by what stands behind its word
abbrev neg : List ℕ → List ℕ
neg text = codes "\"op\":\"neg\"" ++ text

-- a negation of these sources
abbrev neg_of : List ℕ → List ℕ
neg_of sources = neg (codes ",\"from\":" ++ sources)

operator_and_sources : AreTold node_read_as (
    each [] (neg_of (codes "[{\"i\":0}]") ∷ codes "\"op\":\"add\",\"op\":\"neg\",\"from\":[{\"i\":0}]"
    ∷ neg_of (codes "1,\"from\":[{\"i\":0}]") ∷ neg_of (codes "[{\"i\":9,\"i\":0}]") ∷ [])
    ++ each (3 ∷ []) (
    codes "\"from\":[{\"i\":0}]" ∷ codes "\"op\":1,\"from\":[{\"i\":0}]"
    ∷ codes "\"op\":\"negate\",\"from\":[{\"i\":0}]" ∷ neg [] ∷ neg_of (codes "{\"i\":0}") ∷ neg_of (codes "[0]")
    ∷ neg_of (codes "[{}]") ∷ neg_of (codes "[{\"i\":0,\"n\":0}]") ∷ neg_of (codes "[{\"m\":0}]")
    ∷ neg_of (codes "[{\"i\":-1}]") ∷ neg_of (codes "[{\"n\":\"0\"}]") ∷ neg_of (codes "[{\"i\":0}],\"from\":1") ∷ [])
    ++ row (neg (codes ",\"op\":\"add\",\"from\":[{\"i\":0}]")) (8 ∷ 4 ∷ 0 ∷ [])
    ∷ row (neg_of (codes "[{\"i\":0,\"i\":9}]")) (8 ∷ 3 ∷ 0 ∷ 0 ∷ []) ∷ [])
unfolding serde_json_on_literals is_utf8 chars
operator_and_sources = refl

-- ---- numbers

abbrev with_k : List ℕ → List Row
with_k word = with_parameters word (parameter (codes "k") (codes "-1") (codes "9223372036854775808" ∷ []) ∷ [])

abbrev with_t : List ℕ → List Row
with_t word = with_parameters word (parameter (codes "t") (codes "-1") (codes "1.0" ∷ []) ∷ [])

one_number : AreTold node_read_as (
    flat_map with_k (codes "add_k" ∷ codes "mul_k" ∷ []) ++ flat_map with_t (codes "regions" ∷ codes "clean" ∷ []))
unfolding serde_json_on_literals is_utf8 chars
one_number = refl

clip : AreTold node_read_as (with_parameters (codes "clip") (
    parameter (codes "lo") (codes "-1") (codes "\"1\"" ∷ []) ∷ parameter (codes "hi") (codes "-1") (codes "null" ∷ [])
    ∷ []))
unfolding serde_json_on_literals is_utf8 chars
clip = refl

slice : AreTold node_read_as (with_parameters (codes "slice") (
    parameter (codes "r0") (codes "0") (codes "4294967296" ∷ []) ∷ parameter (codes "c0") (codes "4") (codes "-1" ∷ [])
    ∷ parameter (codes "h") (codes "1") (codes "1.0" ∷ []) ∷ parameter (codes "w") (codes "1") (codes "true" ∷ [])
    ∷ []))
unfolding serde_json_on_literals is_utf8 chars
slice = refl

-- the greatest numbers; and bounds, rows and columns that are none: lo at most hi, at least one row and one column
edges : AreTold node_read_as (
    each [] (codes "\"op\":\"slice\",\"r0\":4294967295,\"c0\":4294967295,\"h\":1,\"w\":1,\"from\":[{\"i\":0}]"
    ∷ codes "\"op\":\"clip\",\"lo\":0,\"hi\":0,\"from\":[{\"i\":0}]" ∷ [])
    ++ each (8 ∷ 5 ∷ 0 ∷ []) (
    codes "\"op\":\"clip\",\"lo\":1,\"hi\":0,\"from\":[{\"i\":0}]"
    ∷ codes "\"op\":\"slice\",\"r0\":0,\"c0\":0,\"h\":0,\"w\":1,\"from\":[{\"i\":0}]"
    ∷ codes "\"op\":\"slice\",\"r0\":0,\"c0\":0,\"h\":1,\"w\":0,\"from\":[{\"i\":0}]"
    ∷ codes "\"op\":\"block\",\"fold\":\"max\",\"h\":0,\"w\":1,\"from\":[{\"i\":0}]"
    ∷ codes "\"op\":\"block\",\"fold\":\"max\",\"h\":1,\"w\":0,\"from\":[{\"i\":0}]" ∷ []))
unfolding serde_json_on_literals is_utf8 chars
edges = refl

-- ---- folds

block : AreTold node_read_as (with_parameters (codes "block") (
    parameter (codes "fold") (codes "\"sum\"") (codes "\"sums\"" ∷ codes "0" ∷ [])
    ∷ parameter (codes "h") (codes "1") (codes "-1" ∷ []) ∷ parameter (codes "w") (codes "1") (codes "\"1\"" ∷ [])
    ∷ []))
unfolding serde_json_on_literals is_utf8 chars
block = refl

fold_layers : AreTold node_read_as (with_parameters (codes "fold_layers")
    (parameter (codes "fold") (codes "\"count\"") (codes "0" ∷ codes "\"Count\"" ∷ []) ∷ []))
unfolding serde_json_on_literals is_utf8 chars
fold_layers = refl

-- both operators of a fold, by its word
abbrev of_fold : List ℕ → List (List ℕ)
of_fold word =
    (codes "\"op\":\"fold_layers\",\"fold\":\"" ++ word ++ codes "\",\"from\":[{\"i\":0}]")
    ∷ (codes "\"op\":\"block\",\"fold\":\"" ++ word ++ codes "\",\"h\":1,\"w\":1,\"from\":[{\"i\":0}]") ∷ []

folds : AreTold node_read_as (each []
    (flat_map of_fold (codes "sum" ∷ codes "min" ∷ codes "max" ∷ codes "count" ∷ [])))
unfolding serde_json_on_literals is_utf8 chars
folds = refl

-- ---- kernels

convolve : AreTold node_read_as (with_parameters (codes "convolve") (
    parameter (codes "kernel") (codes "[[1]]")
    (codes "1" ∷ codes "[1]" ∷ codes "[[1.5]]" ∷ codes "[[9223372036854775808]]" ∷ []) ∷ []))
unfolding serde_json_on_literals is_utf8 chars
convolve = refl

-- the numbers of the refusal of a flow of one convolution, by its kernel
abbrev kernel_read_as : List ℕ → List ℕ
kernel_read_as text =
    node_read_as (codes "\"op\":\"convolve\",\"kernel\":" ++ text ++ codes ",\"from\":[{\"i\":0}]")

-- none, empty, ragged, even, too large, and weights past an i32: a fault of the flow, and its form is right
kernels : AreTold kernel_read_as (
    each (8 ∷ 5 ∷ 0 ∷ []) (
    codes "[]" ∷ codes "[[]]" ∷ codes "[[],[]]" ∷ codes "[[1],[1,2,3]]" ∷ codes "[[1],[1],[1,1]]"
    ∷ codes "[[1,2,3],[1]]" ∷ codes "[[1,1,1],[1,1],[1,1,1,1]]" ∷ codes "[[1],[],[1,1]]" ∷ codes "[[1,1]]"
    ∷ codes "[[1],[1]]" ∷ codes "[[1,1,1,1,1,1,1,1,1,1,1]]"
    ∷ codes "[[1],[1],[1],[1],[1],[1],[1],[1],[1],[1],[1]]" ∷ codes "[[2147483648]]" ∷ codes "[[-2147483649]]" ∷ [])
    ++ each [] (codes "[[1,1,1],[1,1,1],[1,1,1]]" ∷ codes "[[1,1,1,1,1,1,1,1,1]]"
    ∷ codes "[[1],[1],[1],[1],[1],[1],[1],[1],[1]]" ∷ codes "[[2147483647,0,-2147483648]]" ∷ []))
unfolding serde_json_on_literals is_utf8 chars
kernels = refl
