-- A step of a refresh, in terms of the runs of nodes.
--
-- The key idea: the runs so far, their executions and their outputs are one list three times, so what is known of the
-- next node over executions is known of it over runs.
use Rattle.std.proofs.Common.{◌≡◌, ℕ, ◌+◌, ◌<◌, List, [], ◌∷◌, ◌++◌, map, length, Some, get_or, refl, sym, ap, ap₂, ◌∙◌}
use Rattle.std.proofs.Common.{arith, subst}
use Rattle.std.specs.Arc.{arc_value}
use Rattle.std.specs.List.{slice_get}
use Rattle.std.proofs.lemmas.List.{get_or-map, length-map, map-append}
use Rattle.std.proofs.lemmas.Option.{slice_get-get_or}
use Rattle.sz_cells.specs.Cells.{Cells}
use Rattle.sz_spec.specs.declared.flow.Node.{Node}
use Rattle.sz_spec.specs.Values.{Grid}
use Rattle.sz_spec.specs.Flows.{Graph}
use Rattle.sz_spec.specs.Affected.{affected_by}
use Rattle.sz_flow.specs.declared.node_run.NodeRun.{NodeRun}
use Rattle.sz_flow.specs.Executions.{Execution, execution, execution_of}
use Rattle.sz_flow.specs.Nodes.{inputs_among}
use Rattle.sz_flow.proofs.Executions.{executions-count}
use Rattle.sz_refresh.specs.Before.{IsBefore}
use Rattle.sz_refresh.specs.Changes.{changed_from}
use Rattle.sz_refresh.proofs.Nodes.{IsSoFar, Over, IsNode, node-known, so_far-next}

-- the outputs of runs
abbrev pub outs : List NodeRun → List Grid
outs rs = map (λ r. arc_value r.out) rs

outs-of : (rs : List NodeRun) → map (λ (d : Execution). d.out) (map execution_of rs) ≡ outs rs
outs-of [] = refl
outs-of (r ∷ rs) = ap (λ (gs : List Grid). arc_value r.out ∷ gs) (outs-of rs)

-- an element of a list, by its number
pub there-of : {X : Type 0} (xs ys : List X) (n : ℕ) (x : X) → xs ≡ ys → n < length xs → x ≡ get_or xs n x
    → slice_get ys n ≡ Some x
there-of xs ys n x same inside is =
    ap (λ zs. slice_get zs n) (sym same) ∙ slice_get-get_or xs n x inside ∙ ap (λ z. Some z) (sym is)

-- the old execution of a node
pub old-there : (olds : List NodeRun) (n : ℕ) (r : NodeRun) → n < length olds → r ≡ get_or olds n r
    → slice_get (map execution_of olds) n ≡ Some (execution_of r)
old-there olds n r inside is =
    slice_get-get_or (map execution_of olds) n (execution_of r) (omega (arith, inside, length-map olds execution_of))
    ∙ ap (λ (d : Execution). Some d) (get_or-map execution_of olds n r (execution_of r) inside
    ∙ ap execution_of (sym is))

-- there is an old run for each node
pub olds-count : (flow : Graph) (olds : List NodeRun) (base : List Grid) (input : ℕ) (changed : Cells)
    (before : List Grid) → IsBefore flow (map execution_of olds) base input changed before
    → length olds ≡ length flow.nodes
olds-count flow olds base input changed before is =
    sym (length-map olds execution_of)
    ∙ ap (λ (ds : List Execution). length ds) is.run
    ∙ executions-count flow before

-- what is known of the next node
pub step-known : (flow : Graph) (olds rs earlier : List NodeRun) (base : List Grid) (input : ℕ) (changed : Cells)
    (before : List Grid) (sets given : List Cells) (count n : ℕ) (x : Node) (r : NodeRun)
    → Over flow (map execution_of olds) base input changed
    → IsBefore flow (map execution_of olds) base input changed before
    → IsSoFar flow (map execution_of olds) base input changed (map execution_of rs) sets count n
    → slice_get flow.nodes n ≡ Some x → n < length olds → r ≡ get_or olds n r → earlier ≡ rs → given ≡ sets
    → IsNode flow base input changed before n x (execution_of r) (inputs_among base (outs earlier) x) given
    (map (changed_from input changed given) x.from)
step-known flow olds rs earlier base input changed before sets given count n x r over is so_far there inside at same
    one =
    let known = node-known flow (map execution_of olds) base input changed before (map execution_of rs) sets count n x
    (execution_of r) over is so_far there (old-there olds n r inside at) in
    subst (λ (ss : List Cells). IsNode flow base input changed before n x (execution_of r)
    (inputs_among base (outs earlier) x) ss (map (changed_from input changed ss) x.from)) (sym one)
    (subst (λ (gs : List Grid). IsNode flow base input changed before n x (execution_of r)
    (inputs_among base gs x) sets (map (changed_from input changed sets) x.from))
    (outs-of rs ∙ ap outs (sym same)) known)

-- one node more
pub step-next : (flow : Graph) (olds rs earlier more : List NodeRun) (base : List Grid) (input : ℕ) (changed : Cells)
    (before : List Grid) (sets given all : List Cells) (count n : ℕ) (x : Node) (r run : NodeRun) (set : Cells)
    (counted : ℕ)
    → Over flow (map execution_of olds) base input changed
    → IsBefore flow (map execution_of olds) base input changed before
    → IsSoFar flow (map execution_of olds) base input changed (map execution_of rs) sets count n
    → slice_get flow.nodes n ≡ Some x → n < length olds → r ≡ get_or olds n r → earlier ≡ rs → given ≡ sets
    → execution_of run ≡ execution x.op (inputs_among base (outs earlier) x)
    → set ≡ affected_by x.op r.inputs (inputs_among base (outs earlier) x)
    (map (changed_from input changed given) x.from)
    → counted ≡ count + length set.indexes → more ≡ rs ++ run ∷ [] → all ≡ sets ++ set ∷ []
    → IsSoFar flow (map execution_of olds) base input changed (map execution_of more) all counted (n + 1)
step-next flow olds rs earlier more base input changed before sets given all count n x r run set counted over is so_far
    there inside at same one made reached ticks pushed added =
    let taken : inputs_among base (outs earlier) x ≡ inputs_among base (map (λ (d : Execution). d.out)
    (map execution_of rs)) x = ap (λ (gs : List Grid). inputs_among base gs x) (ap outs same ∙ sym (outs-of rs)) in
    let next = so_far-next flow (map execution_of olds) base input changed before (map execution_of rs) sets count n x
    (execution_of r) (execution_of run) set counted over is so_far there (old-there olds n r inside at) (
      made ∙ ap (execution x.op) taken,
      reached
          ∙ ap₂ (λ (gs : List Grid) (ss : List Cells). affected_by x.op r.inputs gs
          (map (changed_from input changed ss) x.from)) taken one,
    ) ticks in
    subst (λ (ss : List Cells). IsSoFar flow (map execution_of olds) base input changed (map execution_of more) ss
    counted (n + 1)) (sym added)
    (subst (λ (ds : List Execution). IsSoFar flow (map execution_of olds) base input changed ds
    (sets ++ set ∷ []) counted
    (n + 1)) (sym (ap (map execution_of) pushed ∙ map-append execution_of rs (run ∷ []))) next)
