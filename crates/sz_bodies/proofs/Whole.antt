-- A body as a whole: what was read is lawful, and where something else stands there nothing is.
--
-- The key idea: what stands before the nodes is read in one way, so every lawful body says the number, the flow and the
-- base arrays that were read. So its conditions are conditions on these, and its nodes are those that stand behind.
use Rattle.std.proofs.Common.{◌≡◌, ℕ, ◌<◌, ◌≤◌, ◌^◌, List, [], ◌∷◌, ◌++◌, length, map, drop, refl, sym, ap, ap₂}
use Rattle.std.proofs.Common.{subst, ◌∙◌, arith, true, false, true≢false, not, ◌==◌, All, Some, Option}
use Rattle.std.proofs.Common.{suc, ◌||◌, is_none, is_some, nat_le, Bool}
use Rattle.std.specs.Prelude.{Result, Ok, Err}
use Rattle.std.specs.List.{list_all}
use Rattle.std.specs.Result.{result_err, result_unwrap_or}
use Rattle.std.proofs.lemmas.Bool.{and_parts, eqb-true, not-true, not-false}
use Rattle.std.proofs.lemmas.List.{length-map}
use Rattle.std.proofs.lemmas.List.Elements.{All-cons, All-nil, All-head, All-tail, All-weaker}
use Rattle.sz_cells.specs.SetBytes.{four_bytes}
use Rattle.sz_cells.specs.Extent.{Extent}
use Rattle.sz_spec.specs.declared.flow.Node.{Node}
use Rattle.sz_spec.specs.declared.modes.Strategy.{Strategy}
use Rattle.sz_spec.specs.Flows.{Graph}
use Rattle.sz_spec.specs.FlowShapes.{output_shapes}
use Rattle.sz_spec.specs.Shapes.{Site}
use Rattle.sz_region.specs.Counted.{counted, IsAt}
use Rattle.sz_region.specs.Stores.{NoneAt}
use Rattle.sz_store.specs.Kept.{NodeLineage}
use Rattle.sz_script.specs.Names.{is_name}
use Rattle.sz_script.specs.declared.command.BaseName.{BaseName}
use Rattle.sz_catalogue.specs.Holdings.{Base, Version, Holdings, array_version, flow_named, shapes_of}
use Rattle.sz_catalogue.specs.Holdings.{cells_of}
use Rattle.sz_catalogue.specs.Starts.{workflow_of, bases_of}
use Rattle.sz_catalogue.specs.Rules as rules
use Rattle.sz_bodies.specs.Bodies.{NodePart, VersionBody, BeginNodes, IsBodyOf, IsShortBase}
use Rattle.sz_bodies.specs.Bodies.{name_bytes, base_bytes}
use Rattle.sz_bodies.specs.Fitting.{FitNodes, Fit, named_base, parts_of, body_of, sites_of}
use Rattle.sz_bodies.specs.Lawful.{version_said, IsLawful, CanBeAdded}
use Rattle.sz_bodies.specs.Taking.{NoneIsLawful, IsHeldBase, Said, said_bytes, IsHeldHead, Begun, said_in}
use Rattle.sz_bodies.specs.Taking.{IsArray, IsBegun, FitShapes, NoShapesFit, site_over, AreNodesAt, NoNodesAt}
use Rattle.sz_bodies.specs.Taking.{AreOnlyNodes}
use Rattle.sz_bodies.proofs.HeadParts.{heads-free, begun-held, name-short}
use Rattle.sz_bodies.proofs.NodesPut.{fit-length}
use Rattle.sz_bodies.proofs.OneWay.{place-same}
use Rattle.sz_bodies.proofs.Sequence.{list-right}
use Rattle.sz_bodies.proofs.Written.{flow-found, bases-found, lists-said, written-lawful}

-- ---- tests

made : (r : Result (List Extent) ℕ) → not (is_some (result_err r)) ≡ true → (outs : List Extent) × (r ≡ Ok outs)
made (Ok outs) is = (outs, refl)
made (Err n) is = absurd (true≢false (sym is))

-- there is a list for each node
lists-count : (nodes : List Node) (lists : List (List Strategy)) → rules.are_lists_for nodes lists ≡ true
    → length nodes ≡ length lists
lists-count [] [] is = refl
lists-count [] (l ∷ lists) is = absurd (true≢false (sym is))
lists-count (x ∷ nodes) [] is = absurd (true≢false (sym is))
lists-count (x ∷ nodes) (l ∷ lists) is =
    ap suc (lists-count nodes lists (and_parts (rules.is_list_for x.op l) (rules.are_lists_for nodes lists) is).1)

-- ---- nodes

-- nodes that begin at the sites of a flow's nodes, with a list for each, stand there
nodes-from : (format : ℕ) (base outs : List Extent) (nodes : List Node) (bytes : List ℕ) (at next : ℕ)
    (xs : List NodePart)
    → next ≤ length bytes → rules.are_lists_for nodes (map (λ (x : NodePart). x.list) xs) ≡ true
    → BeginNodes format (map (site_over base outs) nodes) bytes at next xs
    → AreNodesAt format base outs nodes bytes at next xs
nodes-from format base outs [] bytes at next [] within right begin = begin
nodes-from format base outs [] bytes at next (x ∷ xs) within right begin = absurd begin
nodes-from format base outs (n ∷ nodes) bytes at next [] within right begin = absurd begin
nodes-from format base outs (n ∷ nodes) bytes at next (x ∷ xs) within right begin =
    let both = and_parts (rules.is_list_for n.op x.list)
    (rules.are_lists_for nodes (map (λ (y : NodePart). y.list) xs)) right in (
      begin.1,
      record { right = both.0; mid = begin.0; here = begin.3; within = begin.2; stores = begin.4 },
      nodes-from format base outs nodes bytes begin.1 next xs within both.1 begin.5,
    )

-- and the other way round
nodes-into : (format : ℕ) (base outs : List Extent) (nodes : List Node) (bytes : List ℕ) (at next : ℕ)
    (xs : List NodePart)
    → AreNodesAt format base outs nodes bytes at next xs
    → BeginNodes format (map (site_over base outs) nodes) bytes at next xs
    × (rules.are_lists_for nodes (map (λ (x : NodePart). x.list) xs) ≡ true)
    × All (λ (x : NodePart). length x.list < 256) xs
nodes-into format base outs [] bytes at next [] are = (are, refl, All-nil (λ (x : NodePart). length x.list < 256))
nodes-into format base outs [] bytes at next (x ∷ xs) are = absurd are
nodes-into format base outs (n ∷ nodes) bytes at next [] are = absurd are
nodes-into format base outs (n ∷ nodes) bytes at next (x ∷ xs) are =
    let rest = nodes-into format base outs nodes bytes are.0 next xs are.2 in
    let node = are.1 in (
      (node.mid, are.0, node.within, node.here, node.stores, rest.0),
      rw (node.right, rest.1) refl,
      All-cons (λ (y : NodePart). length y.list < 256) x xs
          (omega (arith, (list-right n.op x.list node.right).0)) rest.2,
    )

-- ---- what a lawful body says

abbrev pub said_of : VersionBody → Said
said_of b = record { number = b.number; flow_name = b.flow_name; base = b.base; count = length b.nodes }

-- each base array that it says is held
bases-held : (c : Holdings) (base : List BaseName) → list_all is_name (map (λ (b : BaseName). b.name) base) ≡ true
    → All IsShortBase base → rules.has_no_array c base ≡ false → All (IsHeldBase c) base
bases-held c [] names short held = All-nil (IsHeldBase c)
bases-held c (b ∷ base) names short held =
    let name = and_parts (is_name b.name) (list_all is_name (map (λ (x : BaseName). x.name) base)) names in
    let there = either (is_none (array_version c b.name b.version)) (rules.has_no_array c base) held in
    All-cons (IsHeldBase c) b base
    (record { name = name.0; version = (All-head IsShortBase b base short).1; held = there.0 })
    (bases-held c base name.1 (All-tail IsShortBase b base short) there.1)
  where
    either : (x y : Bool) → (x || y) ≡ false → (x ≡ false) × (y ≡ false)
    either true y is = absurd (true≢false is)
    either false y is = (refl, is)

lawful-head : (format : ℕ) (c : Holdings) (b : VersionBody) (bytes : List ℕ) → IsLawful format c b bytes
    → IsHeldHead c (said_of b)
lawful-head format c b bytes is =
    let names = and_parts (is_name b.flow_name) (list_all is_name (map (λ (x : BaseName). x.name) b.base)) is.names in
    let short = is.spelled.short in
    record {
      number = record { small = short.number; new = is.number };
      flow = record { right = names.0; held = not-true (rules.has_no_flow c b.flow_name) is.flow };
      bases = (
        bases-held c b.base names.1 short.bases (not-true (rules.has_no_array c b.base) is.bases),
        short.few_bases,
      );
      count = short.few_nodes;
    }

-- where there is no head, there is no body
pub no-body-head : (format : ℕ) (c : Holdings) (bytes : List ℕ) → NoneAt (IsHeldHead c) said_bytes bytes 0
    → NoneIsLawful format c bytes
no-body-head format c bytes none b is =
    none (said_of b) (drop is.spelled.place bytes) (lawful-head format c b bytes is) is.spelled.head.spelled

-- ---- what was read before the nodes

-- the head that was read, with its place
pub record HeadIs (c : Holdings) (bytes : List ℕ) (h : Begun) (place : ℕ) : Type 0 where
  pub begun : IsBegun c h
  pub here : IsAt bytes 0 place (said_bytes (said_in h))

-- a body that says what was read, with some nodes
abbrev body_with : Begun → List NodePart → VersionBody
body_with h nodes = record {
  number = h.number;
  flow_name = h.flow_name;
  base = map named_base h.base;
  nodes = nodes;
}

-- a lawful body says what was read, and its nodes begin behind it
record SaysHead (format : ℕ) (c : Holdings) (bytes : List ℕ) (h : Begun) (place : ℕ) (b : VersionBody) : Type 0 where
  count : h.count ≡ length b.nodes
  lawful : IsLawful format c (body_with h b.nodes) bytes
  place_is : lawful.spelled.place ≡ place

says-head : (format : ℕ) (c : Holdings) (bytes : List ℕ) (h : Begun) (place : ℕ) (b : VersionBody)
    → HeadIs c bytes h place
    → IsLawful format c b bytes → SaysHead format c bytes h place b
says-head format c bytes h place b read is =
    let same = heads-free c (said_in h) (said_of b) (drop place bytes) (drop is.spelled.place bytes)
    (begun-held c h read.begun) (lawful-head format c b bytes is) (sym read.here.spelled ∙ is.spelled.head.spelled) in
    let make : Said → VersionBody = λ s.
    record { number = s.number; flow_name = s.flow_name; base = s.base; nodes = b.nodes } in
    let body : b ≡ body_with h b.nodes = ap make (sym same.0) in
    let at : is.spelled.place ≡ place =
    place-same bytes is.spelled.place place is.spelled.head.within read.here.within (sym same.1) in
    let moved : (x : VersionBody) → b ≡ x → (l : IsLawful format c x bytes) × (l.spelled.place ≡ place) =
    λ x e. subst (λ (y : VersionBody). (l : IsLawful format c y bytes) × (l.spelled.place ≡ place)) e (is, at) in
    let own = moved (body_with h b.nodes) body in
    record { count = ap (λ (s : Said). s.count) same.0; lawful = own.0; place_is = own.1 }

-- what its conditions are on what was read
pub record Goes (format : ℕ) (c : Holdings) (bytes : List ℕ) (h : Begun) (place : ℕ) (xs : List NodePart) : Type 0 where
  pub outs : List Extent
  pub fit : FitShapes c h outs
  pub nodes : AreNodesAt format (shapes_of h.base) outs h.flow.nodes bytes place (length bytes) xs

abbrev sites_over : Graph → List Base → List Site
sites_over g base = map (site_over (shapes_of base) (result_unwrap_or (output_shapes g (shapes_of base)) [])) g.nodes

pub lawful-goes : (format : ℕ) (c : Holdings) (bytes : List ℕ) (h : Begun) (place : ℕ) (b : VersionBody)
    → HeadIs c bytes h place
    → IsLawful format c b bytes → Goes format c bytes h place b.nodes
lawful-goes format c bytes h place b read is =
    let said = says-head format c bytes h place b read is in
    let own = said.lawful in
    let g = (workflow_of c h.flow_name).graph in
    let bs = bases_of c (map named_base h.base) in
    let flow : g ≡ h.flow = (flow-found (flow_named c h.flow_name) h.flow read.begun.flow.held).0 in
    let base : bs ≡ h.base = bases-found c h.base (All-weaker (IsArray c)
    (λ (x : Base). array_version c x.name x.version ≡ Some x.array) (λ x array. array.held) h.base read.begun.bases) in
    let given = made (output_shapes g (shapes_of bs)) own.shapes in
    let outs = given.0 in
    let fits : output_shapes h.flow (shapes_of h.base) ≡ Ok outs =
    sym (ap₂ (λ (x : Graph) (xs : List Base). output_shapes x (shapes_of xs)) flow base) ∙ given.1 in
    let found : result_unwrap_or (output_shapes g (shapes_of bs)) [] ≡ outs =
    ap (λ (r : Result (List Extent) ℕ). result_unwrap_or r []) given.1 in
    let sites : sites_over g bs ≡ map (site_over (shapes_of h.base) outs) h.flow.nodes =
    ap₂ (λ (x : Graph) (xs : List Base). sites_over x xs) flow base
    ∙ ap (λ (r : Result (List Extent) ℕ).
    map (site_over (shapes_of h.base) (result_unwrap_or r [])) h.flow.nodes) fits in
    let lists : rules.are_lists_for h.flow.nodes (map (λ (x : NodePart). x.list) b.nodes) ≡ true =
    subst (λ (x : Graph). rules.are_lists_for x.nodes (map (λ (y : NodePart). y.list) b.nodes) ≡ true) flow own.lists in
    let many : length (map named_base h.base) ≡ g.inputs =
    let same = length (map named_base h.base) == g.inputs in
    eqb-true (length (map named_base h.base)) g.inputs (not-false same (not-true (not same) own.each)) in
    let begin : BeginNodes format (map (site_over (shapes_of h.base) outs) h.flow.nodes) bytes place
    (length bytes) b.nodes =
    subst (λ (k : ℕ). BeginNodes format (map (site_over (shapes_of h.base) outs) h.flow.nodes) bytes k
    (length bytes) b.nodes)
    said.place_is
    (subst (λ (ss : List Site). BeginNodes format ss bytes own.spelled.place (length bytes) b.nodes) sites
    own.spelled.nodes) in
    record {
      outs = outs;
      fit =
          record {
            inputs = sym (length-map h.base named_base) ∙ many ∙ ap (λ (x : Graph). x.inputs) flow;
            nodes =
                said.count ∙ sym (length-map b.nodes (λ (x : NodePart). x.list))
                ∙ sym (lists-count h.flow.nodes (map (λ (x : NodePart). x.list) b.nodes) lists);
            fits = fits;
            room = subst (λ (es : List Extent). rules.has_room c (cells_of es) ≡ true) found own.room;
          };
      nodes =
          nodes-from format (shapes_of h.base) outs h.flow.nodes bytes place (length bytes) b.nodes
          (omega arith) lists begin;
    }

-- where the shapes do not fit, there is no body
pub no-body-shapes : (format : ℕ) (c : Holdings) (bytes : List ℕ) (h : Begun) (place : ℕ) → HeadIs c bytes h place
    → NoShapesFit c h → NoneIsLawful format c bytes
no-body-shapes format c bytes h place read none b is =
    let goes = lawful-goes format c bytes h place b read is in none goes.outs goes.fit

-- the shapes that were found are the only ones
outs-same : (c : Holdings) (h : Begun) (a b : List Extent) → FitShapes c h a → FitShapes c h b → a ≡ b
outs-same c h a b one other =
    ap (λ (r : Result (List Extent) ℕ). result_unwrap_or r []) (sym one.fits ∙ other.fits)

goes-with : (format : ℕ) (c : Holdings) (bytes : List ℕ) (h : Begun) (place : ℕ) (b : VersionBody)
    (base outs : List Extent)
    → HeadIs c bytes h place → base ≡ shapes_of h.base → FitShapes c h outs → IsLawful format c b bytes
    → AreNodesAt format base outs h.flow.nodes bytes place (length bytes) b.nodes
goes-with format c bytes h place b base outs read shapes fit is =
    let goes = lawful-goes format c bytes h place b read is in
    subst (λ (es : List Extent). AreNodesAt format es outs h.flow.nodes bytes place (length bytes) b.nodes) (sym shapes)
    (subst (λ (es : List Extent). AreNodesAt format (shapes_of h.base) es h.flow.nodes bytes place
    (length bytes) b.nodes)
    (outs-same c h goes.outs outs goes.fit fit) goes.nodes)

-- nor where there are no nodes
pub no-body-nodes : (format : ℕ) (c : Holdings) (bytes : List ℕ) (h : Begun) (place : ℕ) (base outs : List Extent)
    → HeadIs c bytes h place → base ≡ shapes_of h.base → FitShapes c h outs
    → NoNodesAt format base outs h.flow.nodes bytes place → NoneIsLawful format c bytes
no-body-nodes format c bytes h place base outs read shapes fit none b is =
    none (length bytes) b.nodes (goes-with format c bytes h place b base outs read shapes fit is)

-- nor where something stands behind those that there are
pub no-body-end : (format : ℕ) (c : Holdings) (bytes : List ℕ) (h : Begun) (place end : ℕ) (base outs : List Extent)
    (xs : List NodePart) → HeadIs c bytes h place → base ≡ shapes_of h.base → FitShapes c h outs
    → AreOnlyNodes format base outs h.flow.nodes bytes place end xs → (end ≡ length bytes → ⊥)
    → NoneIsLawful format c bytes
no-body-end format c bytes h place end base outs xs read shapes fit only other b is =
    other (sym (only (length bytes) b.nodes (goes-with format c bytes h place b base outs read shapes fit is)).1)

-- what is so of lists is so of those that are equal
pub carried : (P : List Extent → List Extent → List Node → Type 0) (a b c d : List Extent) (m n : List Node) → a ≡ b
    → c ≡ d → m ≡ n → P a c m → P b d n
carried P a b c d m n base outs nodes is =
    subst (λ (xs : List Node). P b d xs) nodes
    (subst (λ (es : List Extent). P b es m) outs (subst (λ (es : List Extent). P es c m) base is))

-- ---- what was read is lawful

-- the version that was read
abbrev pub version_read : Begun → List (List Strategy) → Version
version_read h lists = record {
  flow_name = h.flow_name;
  flow = h.flow;
  base = h.base;
  lists = lists;
  awaited = true;
}

-- what is so of it
pub record IsRead (format : ℕ) (c : Holdings) (bytes : List ℕ) (n : ℕ) (v : Version) (stores : List
    (Option NodeLineage))
    : Type 0 where
  pub added : CanBeAdded c n v
  pub fit : Fit v stores
  pub lawful : IsLawful format c (body_of n v stores) bytes
  pub said : v ≡ version_said c (body_of n v stores)

names-all : (c : Holdings) (base : List Base) → All (IsArray c) base
    → list_all is_name (map (λ (b : Base). b.name) base) ≡ true
names-all c [] are = refl
names-all c (b ∷ base) are =
    rw ((All-head (IsArray c) b base are).name, names-all c base (All-tail (IsArray c) b base are)) refl

bases-short : (c : Holdings) (base : List Base) → All (IsArray c) base → All IsShortBase (map named_base base)
bases-short c [] are = All-nil IsShortBase
bases-short c (b ∷ base) are =
    let one = All-head (IsArray c) b base are in
    All-cons IsShortBase (named_base b) (map named_base base) (name-short b.name one.name, one.version)
    (bases-short c base (All-tail (IsArray c) b base are))

pub body-read : (format : ℕ) (c : Holdings) (bytes : List ℕ) (h : Begun) (place end : ℕ) (base outs : List Extent)
    (lists : List (List Strategy)) (stores : List (Option NodeLineage)) → HeadIs c bytes h place
    → base ≡ shapes_of h.base → FitShapes c h outs
    → AreNodesAt format base outs h.flow.nodes bytes place end (parts_of lists stores)
    → FitNodes (map (site_over base outs) h.flow.nodes) lists stores → end ≡ length bytes
    → IsRead format c bytes h.number (version_read h lists) stores
body-read format c bytes h place end base outs lists stores read shapes fit nodes fits last =
    let v = version_read h lists in
    let xs = parts_of lists stores in
    let into = nodes-into format base outs h.flow.nodes bytes place end xs nodes in
    let sites : map (site_over base outs) h.flow.nodes ≡ sites_of v =
    ap (λ (es : List Extent). map (site_over es outs) h.flow.nodes) shapes
    ∙ ap (λ (r : Result (List Extent) ℕ).
    map (site_over (shapes_of h.base) (result_unwrap_or r [])) h.flow.nodes) (sym fit.fits) in
    let lengths = fit-length (map (site_over base outs) h.flow.nodes) lists stores fits in
    let count : h.count ≡ length xs =
    fit.nodes ∙ sym (length-map h.flow.nodes (site_over base outs)) ∙ lengths.1 ∙ sym lengths.2 in
    let said : map (λ (x : NodePart). x.list) xs ≡ lists =
    lists-said (map (site_over base outs) h.flow.nodes) lists stores fits in
    let held = read.begun in
    let new = and_parts (nat_le 1 h.number) (rules.has_no_version c h.number) held.number.new in
    let can : CanBeAdded c h.number v = record {
      some = new.0;
      new = new.1;
      names = rw (held.flow.right, names-all c h.base held.bases) refl;
      flow = held.flow.held;
      base = All-weaker (IsArray c) (λ (x : Base). array_version c x.name x.version ≡ Some x.array)
          (λ x array. array.held) h.base held.bases;
      count = fit.inputs;
      fits = ap (λ (r : Result (List Extent) ℕ). result_err r) fit.fits;
      lists = subst (λ (ls : List (List Strategy)). rules.are_lists_for h.flow.nodes ls ≡ true) said into.1;
      room =
          ap (λ (r : Result (List Extent) ℕ). rules.has_room c (cells_of (result_unwrap_or r []))) fit.fits ∙ fit.room;
    } in
    let own : Fit v stores = subst (λ (ss : List Site). FitNodes ss lists stores) sites fits in
    let body : IsBodyOf format (sites_of v) (body_of h.number v stores) bytes = record {
      short =
          record {
            number = held.number.small;
            flow_name = name-short h.flow_name held.flow.right;
            few_bases = subst (λ (k : ℕ). k < 2 ^ 32) (sym (length-map h.base named_base)) held.few;
            bases = bases-short c h.base held.bases;
            few_nodes = subst (λ (k : ℕ). k < 2 ^ 32) count held.count;
            lists = into.2;
          };
      place = place;
      head =
          subst (λ (k : ℕ). IsAt bytes 0 place (four_bytes h.number ++ (name_bytes h.flow_name
          ++ (counted base_bytes (map named_base h.base) ++ four_bytes k)))) count read.here;
      nodes =
          subst (λ (k : ℕ). BeginNodes format (sites_of v) bytes place k xs) last
          (subst (λ (ss : List Site). BeginNodes format ss bytes place end xs) sites into.0);
    } in
    let lawful = written-lawful format c h.number v stores bytes can own body in
    record { added = can; fit = own; lawful = lawful.0; said = sym lawful.1 }
