-- Nodes of a flow as a line gives them: one table of operators, with a line each that says its
-- word, its parameters, and how they are read.
use Rattle.std.specs.Prelude.{ℕ, ℤ, List, [], ◌∷◌, codes, Bool}
use Rattle.std.specs.Prelude.{if◌then◌else◌, Option, Some, None, option_map}
use Rattle.std.specs.Prelude.{option_and_then}
use Rattle.std.specs.Str.{bytes_eq}
use Rattle.serde_json.specs.Data.{Data}
use Rattle.serde_json.specs.Find.{as_str}
use Rattle.sz_spec.specs.declared.op.Op.{Op}
use Rattle.sz_spec.specs.declared.op.Op.TheVariants as op
use Rattle.sz_spec.specs.declared.flow.Node.{Node}
use Rattle.sz_spec.specs.declared.flow.SourceRef.{SourceRef}
use Rattle.sz_spec.specs.declared.flow.SourceRef.TheVariants as source
use Rattle.sz_script.specs.Fields.{only_if, has_fields, number_in, whole_in, list_in, list_at, at}
use Rattle.sz_script.specs.Words.{fold_in}
use Rattle.sz_script.specs.Kernels.{kernel_in}

-- ---- parameters

-- a node has the fields `op` and `from`, and exactly these parameters
abbrev pub has_parameters : List (List ℕ) → Data → Bool
has_parameters names d = has_fields (codes "op" ∷ codes "from" ∷ names) d

-- an operator without parameters
abbrev pub alone : Op → Data → Option Op
alone o d = only_if (has_parameters [] d) (Some o)

-- one whole number
abbrev pub one_whole : List ℕ → Data → Option ℤ
one_whole key d = only_if (has_parameters (key ∷ []) d) (at whole_in key d)

abbrev pub clip_in : Data → Option Op
clip_in d = only_if (has_parameters (codes "lo" ∷ codes "hi" ∷ []) d)
    (option_and_then (λ lo. option_map (op.Clip lo) (at whole_in (codes "hi") d))
    (at whole_in (codes "lo") d))

-- how high and how wide
abbrev pub sides_in : Data → Option (ℕ × ℕ)
sides_in d =
    option_and_then (λ h. option_map (λ w. (h, w)) (at number_in (codes "w") d))
    (at number_in (codes "h") d)

abbrev pub slice_in : Data → Option Op
slice_in d =
    only_if (has_parameters (codes "r0" ∷ codes "c0" ∷ codes "h" ∷ codes "w" ∷ []) d)
    (option_and_then
    (λ r0. option_and_then
    (λ c0. option_map (λ (s : ℕ × ℕ). op.Slice r0 c0 s.0 s.1) (sides_in d))
    (at number_in (codes "c0") d))
    (at number_in (codes "r0") d))

abbrev pub block_in : Data → Option Op
block_in d = only_if (has_parameters (codes "fold" ∷ codes "h" ∷ codes "w" ∷ []) d)
    (option_and_then
    (λ fold. option_map (λ (s : ℕ × ℕ). op.Block fold s.0 s.1) (sides_in d))
    (at fold_in (codes "fold") d))

abbrev pub fold_layers_in : Data → Option Op
fold_layers_in d = only_if (has_parameters (codes "fold" ∷ []) d)
    (option_map op.FoldLayers (at fold_in (codes "fold") d))

abbrev pub convolve_in : Data → Option Op
convolve_in d = only_if (has_parameters (codes "kernel" ∷ []) d)
    (option_map op.Convolve (option_and_then kernel_in (at list_in (codes "kernel") d)))

-- ---- the table of operators

-- an operator's word, and what a node of that word is
pub record Operator : Type 0 where
  pub word : List ℕ
  pub read : Data → Option Op

abbrev pub operator : List ℕ → (Data → Option Op) → Operator
operator word read = record { word = word; read = read }

abbrev pub operators : List Operator
operators = operator (codes "neg") (alone op.Neg)
    ∷ operator (codes "abs") (alone op.Abs)
    ∷ operator (codes "add") (alone op.Add)
    ∷ operator (codes "sub") (alone op.Sub)
    ∷ operator (codes "mul") (alone op.Mul)
    ∷ operator (codes "min") (alone op.Min)
    ∷ operator (codes "max") (alone op.Max)
    ∷ operator (codes "transpose") (alone op.Transpose)
    ∷ operator (codes "lookup") (alone op.Lookup)
    ∷ operator (codes "add_k") (λ d. option_map op.AddK (one_whole (codes "k") d))
    ∷ operator (codes "mul_k") (λ d. option_map op.MulK (one_whole (codes "k") d))
    ∷ operator (codes "regions") (λ d. option_map op.Regions (one_whole (codes "t") d))
    ∷ operator (codes "clean") (λ d. option_map op.Clean (one_whole (codes "t") d))
    ∷ operator (codes "clip") clip_in
    ∷ operator (codes "slice") slice_in
    ∷ operator (codes "block") block_in
    ∷ operator (codes "fold_layers") fold_layers_in
    ∷ operator (codes "convolve") convolve_in ∷ []

-- what a node is by the line of its word
abbrev pub op_by : List Operator → List ℕ → Data → Option Op
op_by [] word d = None
op_by (o ∷ os) word d = if bytes_eq word o.word then o.read d else op_by os word d

abbrev pub op_in : Data → Option Op
op_in d = option_and_then (λ word. op_by operators word d) (at as_str (codes "op") d)

-- ---- nodes

-- {"i":U} or {"n":U}
abbrev pub source_in : Data → Option SourceRef
source_in d = if has_fields (codes "i" ∷ []) d
    then option_map source.Input (at number_in (codes "i") d)
    else only_if (has_fields (codes "n" ∷ []) d)
    (option_map source.Node (at number_in (codes "n") d))

abbrev pub node_in : Data → Option Node
node_in d =
    option_and_then
    (λ o. option_map (λ from. record { op = o; from = from })
    (list_at source_in (codes "from") d))
    (op_in d)
