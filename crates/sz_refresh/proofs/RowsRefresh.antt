-- Rows of what a changed base array changes, beside those of the definition: a sound cell that becomes hot, a key and a
-- table that change, blocks, layers, and a node behind a cell that stays; and plain cases of what the laws presume.
--
-- The key idea: on written-out flows and arrays every definition is a computation. Expected values by hand. Sets are
-- given by the row-major indexes of their cells.
use Rattle.std.proofs.Common.{◌≡◌, ℕ, zero, suc, ◌<◌, ℤ, pos, true, false, ◌||◌, ◌==◌, Option, Some, None}
use Rattle.std.proofs.Common.{List, [], ◌∷◌, map, refl, sym, ◌∙◌, arith, unwrap_or, eq-eqb, true≢false}
use Rattle.std.specs.List.{slice_get}
use Rattle.std.proofs.lemmas.Bool.{and_from, or_left}
use Rattle.sz_cells.specs.Cells.{Cells, has}
use Rattle.sz_cells.specs.Extent.{flat, layered, holds, index_of}
use Rattle.sz_cells.proofs.Sets.{index-below}
use Rattle.sz_spec.specs.declared.op.Op.{Op}
use Rattle.sz_spec.specs.declared.op.Op.TheVariants as op
use Rattle.sz_spec.specs.declared.op.Fold.TheVariants as fold
use Rattle.sz_spec.specs.declared.flow.SourceRef.TheVariants.{Input, Node as Output}
use Rattle.sz_spec.specs.Values.{Grid}
use Rattle.sz_spec.specs.Flows.{Graph}
use Rattle.sz_spec.specs.Affected.{affected}
use Rattle.sz_spec.proofs.RowsArrays.{node, flow, n, none, grid, stack, at}
use Rattle.sz_refresh.specs.Laws.{DifferAtMostIn}

-- the indexes of the affected cells of each node
abbrev reached : Graph → List Grid → List Grid → ℕ → Cells → List (List ℕ)
reached g old new input changed = map (λ (set : Cells). set.indexes) (affected g old new input changed)

-- one row of numbers
abbrev row3 : List ℕ → Grid
row3 cells = grid 1 3 (map n cells)

abbrev alone : Op → Graph
alone o = flow 1 (node o (Input 0 ∷ []) ∷ [])

-- a sound cell that becomes hot stood on itself, and stands on the square round it
pub heated : reached (alone (op.Clean (pos 100))) (row3 (1 ∷ 2 ∷ 3 ∷ []) ∷ []) (row3 (1 ∷ 300 ∷ 3 ∷ []) ∷ []) 0
    (at (flat 1 3) (1 ∷ [])) ≡ (1 ∷ []) ∷ []
heated = refl

-- and so do the hot cells beside it, which stood on it, but not the one that is two cells away
pub heated-beside : reached (alone (op.Clean (pos 100))) (grid 1 4 (n 300 ∷ n 2 ∷ n 300 ∷ n 300 ∷ []) ∷ [])
    (grid 1 4 (n 300 ∷ n 300 ∷ n 300 ∷ n 300 ∷ []) ∷ []) 0 (at (flat 1 4) (1 ∷ [])) ≡ (0 ∷ 1 ∷ 2 ∷ []) ∷ []
heated-beside = refl

-- keys in base array 0, and the table in base array 1
abbrev looking : Graph
looking = flow 2 (node op.Lookup (Input 0 ∷ Input 1 ∷ []) ∷ [])

-- a key that changes
pub keyed : reached looking (row3 (0 ∷ 2 ∷ 0 ∷ []) ∷ row3 (7 ∷ 8 ∷ 9 ∷ []) ∷ [])
    (row3 (0 ∷ 0 ∷ 0 ∷ []) ∷ row3 (7 ∷ 8 ∷ 9 ∷ []) ∷ []) 0 (at (flat 1 3) (1 ∷ [])) ≡ (1 ∷ []) ∷ []
keyed = refl

-- an entry of the table that changes reaches the keys that name it, and no others
pub tabled : reached looking (row3 (0 ∷ 2 ∷ 0 ∷ []) ∷ row3 (7 ∷ 8 ∷ 9 ∷ []) ∷ [])
    (row3 (0 ∷ 2 ∷ 0 ∷ []) ∷ row3 (5 ∷ 8 ∷ 9 ∷ []) ∷ []) 1 (at (flat 1 3) (0 ∷ [])) ≡ (0 ∷ 2 ∷ []) ∷ []
tabled = refl

-- one that no key names reaches nothing
pub untabled : reached looking (row3 (0 ∷ 2 ∷ 0 ∷ []) ∷ row3 (7 ∷ 8 ∷ 9 ∷ []) ∷ [])
    (row3 (0 ∷ 2 ∷ 0 ∷ []) ∷ row3 (7 ∷ 5 ∷ 9 ∷ []) ∷ []) 1 (at (flat 1 3) (1 ∷ [])) ≡ [] ∷ []
untabled = refl

-- the second of two blocks of a row of three, the last one short
pub blocked : reached (alone (op.Block fold.Sum 1 2)) (row3 (1 ∷ 2 ∷ 3 ∷ []) ∷ []) (row3 (1 ∷ 2 ∷ 4 ∷ []) ∷ []) 0
    (at (flat 1 3) (2 ∷ [])) ≡ (1 ∷ []) ∷ []
blocked = refl

-- a cell of the second of two layers reaches the one under which it lies
pub layers-folded : reached (alone (op.FoldLayers fold.Max)) (stack 2 1 2 (n 1 ∷ n 2 ∷ n 3 ∷ none ∷ []) ∷ [])
    (stack 2 1 2 (n 1 ∷ n 2 ∷ n 3 ∷ n 0 ∷ []) ∷ []) 0 (at (layered 2 1 2) (3 ∷ [])) ≡ (1 ∷ []) ∷ []
layers-folded = refl

-- a node behind a cell that keeps its value is affected all the same: 5 is cut to 3 as 4 was, and then negated
pub kept-behind : reached (flow 1 (node (op.Clip (pos 0) (pos 3)) (Input 0 ∷ []) ∷ node op.Neg (Output 0 ∷ []) ∷ []))
    (row3 (1 ∷ 4 ∷ 2 ∷ []) ∷ []) (row3 (1 ∷ 5 ∷ 2 ∷ []) ∷ []) 0 (at (flat 1 3) (1 ∷ [])) ≡ (1 ∷ []) ∷ (1 ∷ []) ∷ []
kept-behind = refl

-- ---- arrays that differ at most in the middle one of three cells

middle : (k : ℕ) (a b d c : Option ℤ) → k < 3 → (k ≡ 1 → ⊥)
    → unwrap_or (slice_get (a ∷ b ∷ c ∷ []) k) None ≡ unwrap_or (slice_get (a ∷ d ∷ c ∷ []) k) None
middle zero a b d c low other = refl
middle (suc zero) a b d c low other = absurd (other refl)
middle (suc (suc zero)) a b d c low other = refl
middle (suc (suc (suc k))) a b d c low other = absurd (omega arith)

pub middle-differs : (a b d c : Option ℤ)
    → DifferAtMostIn 0 (at (flat 1 3) (1 ∷ [])) (grid 1 3 (a ∷ b ∷ c ∷ []) ∷ []) (grid 1 3 (a ∷ d ∷ c ∷ []) ∷ [])
middle-differs a b d c zero x held out =
    let k = index_of (flat 1 3) x in
    middle k a b d c (index-below (flat 1 3) x held)
    (λ one.
    let named : has (at (flat 1 3) (1 ∷ [])) x ≡ true =
    and_from (holds (flat 1 3) x) ((1 == k) || false) held (or_left (1 == k) false (eq-eqb 1 k (sym one))) in
    true≢false (sym named ∙ out refl))
middle-differs a b d c (suc n) x held out = refl

-- but not in another one
pub first-differs : DifferAtMostIn 0 (at (flat 1 3) (1 ∷ [])) (row3 (1 ∷ 2 ∷ 3 ∷ []) ∷ []) (row3 (7 ∷ 2 ∷ 3 ∷ []) ∷ [])
    → ⊥
first-differs h =
    let same : Some (pos 1) ≡ Some (pos 7) = h 0 (record { row = 0; col = 0 }) refl (λ named. refl) in (cc)
