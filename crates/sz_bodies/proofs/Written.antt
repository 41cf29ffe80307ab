-- The body of a version is lawful wherever the version can be added.
--
-- The key idea: by the names that it says, the body finds the flow and the base arrays of the version. So it says that
-- version, and each condition on what it says is one on the version.
use Rattle.std.proofs.Common.{◌≡◌, ℕ, List, [], ◌∷◌, map, length, refl, sym, ap, ap₂, subst, ◌∙◌, true, false, not}
use Rattle.std.proofs.Common.{Option, Some, None, option_map, unwrap_or, is_some, is_none, eq-eqb}
use Rattle.std.specs.Prelude.{All}
use Rattle.std.specs.List.{list_all}
use Rattle.std.specs.Result.{result_err}
use Rattle.std.proofs.lemmas.List.{length-map}
use Rattle.std.proofs.lemmas.Simd.{map-map}
use Rattle.std.proofs.lemmas.List.Elements.{All-head, All-tail}
use Rattle.sz_spec.specs.declared.modes.Strategy.{Strategy}
use Rattle.sz_spec.specs.Shapes.{Site}
use Rattle.sz_spec.specs.Flows.{Graph}
use Rattle.sz_spec.specs.FlowShapes.{output_shapes}
use Rattle.sz_store.specs.Kept.{NodeLineage}
use Rattle.sz_script.specs.Names.{is_name}
use Rattle.sz_script.specs.declared.command.BaseName.{BaseName}
use Rattle.sz_catalogue.specs.Holdings.{Workflow, Base, Version, Holdings, array_version, flow_named, shapes_of}
use Rattle.sz_catalogue.specs.Holdings.{no_workflow}
use Rattle.sz_catalogue.specs.Holdings.{output_cells}
use Rattle.sz_catalogue.specs.Starts.{workflow_of, bases_of}
use Rattle.sz_catalogue.specs.Rules as rules
use Rattle.sz_bodies.specs.Bodies.{NodePart, IsBodyOf}
use Rattle.sz_bodies.specs.Fitting.{FitNodes, sites_of, parts_of, named_base, body_of}
use Rattle.sz_bodies.specs.Lawful.{version_said}
use Rattle.sz_bodies.specs.Laws.{WrittenBodiesAreLawful}

-- each base array is the one that is held
abbrev pub AreHeld : Holdings → List Base → Type 0
AreHeld c base = All (λ (b : Base). array_version c b.name b.version ≡ Some b.array) base

-- a flow that is found under a name
pub flow-found : (o : Option Workflow) (flow : Graph) → option_map (λ w. w.graph) o ≡ Some flow
    → ((unwrap_or o no_workflow).graph ≡ flow) × (is_none o ≡ false)
flow-found None flow is = cc
flow-found (Some w) flow is = (cc, refl)

-- the base arrays are found by their names
pub bases-found : (c : Holdings) (base : List Base) → AreHeld c base → bases_of c (map named_base base) ≡ base
bases-found c [] held = refl
bases-found c (b ∷ base) held =
    rw (All-head (λ (x : Base). array_version c x.name x.version ≡ Some x.array) b base held)
    (ap (λ (bs : List Base). b ∷ bs)
    (bases-found c base (All-tail (λ (x : Base). array_version c x.name x.version ≡ Some x.array) b base held)))

none-missing : (c : Holdings) (base : List Base) → AreHeld c base → rules.has_no_array c (map named_base base) ≡ false
none-missing c [] held = refl
none-missing c (b ∷ base) held =
    rw (All-head (λ (x : Base). array_version c x.name x.version ≡ Some x.array) b base held)
    (none-missing c base (All-tail (λ (x : Base). array_version c x.name x.version ≡ Some x.array) b base held))

-- the lists are those of the nodes
pub lists-said : (sites : List Site) (lists : List (List Strategy)) (stores : List (Option NodeLineage))
    → FitNodes sites lists stores → map (λ (x : NodePart). x.list) (parts_of lists stores) ≡ lists
lists-said [] [] [] fit = refl
lists-said [] [] (k ∷ stores) fit = absurd fit
lists-said [] (l ∷ lists) stores fit = absurd fit
lists-said (s ∷ sites) [] stores fit = absurd fit
lists-said (s ∷ sites) (l ∷ lists) [] fit = absurd fit
lists-said (s ∷ sites) (l ∷ lists) (k ∷ stores) fit =
    ap (λ (ls : List (List Strategy)). l ∷ ls) (lists-said sites lists stores fit.1)

-- the names that the body says are those of the version
names-said : (name : List ℕ) (base : List Base)
    → list_all is_name (name ∷ map (λ (b : Base). b.name) base) ≡ true
    → list_all is_name (name ∷ map (λ (b : BaseName). b.name) (map named_base base)) ≡ true
names-said name base is =
    subst (λ (names : List (List ℕ)). list_all is_name (name ∷ names) ≡ true)
    (sym (map-map (λ (b : BaseName). b.name) named_base base)) is

pub written-lawful : WrittenBodiesAreLawful
written-lawful format c n v stores bytes can fit spelled =
    let found = flow-found (flow_named c v.flow_name) v.flow can.flow in
    let bases = bases-found c v.base can.base in
    let lists = lists-said (sites_of v) v.lists stores fit in
    let said : version_said c (body_of n v stores) ≡ record v { awaited = true } =
    ap (λ (flow : Graph). record (version_said c (body_of n v stores)) { flow = flow }) found.0
    ∙ ap (λ (bs : List Base). record (version_said c (body_of n v stores)) { flow = v.flow; base = bs }) bases
    ∙ ap (λ (ls : List (List Strategy)). record v { lists = ls; awaited = true }) lists in (
      record {
        number = rw (can.some, can.new) refl;
        names = names-said v.flow_name v.base can.names;
        flow = ap not found.1;
        bases = ap not (none-missing c v.base can.base);
        each =
            ap (λ b. not (not b))
            (eq-eqb (length (map named_base v.base)) (workflow_of c v.flow_name).graph.inputs
            (length-map v.base named_base ∙ can.count ∙ sym (ap (λ (g : Graph). g.inputs) found.0)));
        shapes =
            ap (λ (o : Option ℕ). not (is_some o))
            (ap₂ (λ (g : Graph) (bs : List Base). result_err (output_shapes g (shapes_of bs))) found.0 bases
            ∙ can.fits);
        room = ap (λ (x : Version). rules.has_room c (output_cells x)) said ∙ can.room;
        lists =
            ap₂ (λ (g : Graph) (ls : List (List Strategy)). rules.are_lists_for g.nodes ls) found.0 lists ∙ can.lists;
        spelled =
            subst (λ (x : Version). IsBodyOf format (sites_of x) (body_of n v stores) bytes) (sym said) spelled;
      },
      said,
    )
