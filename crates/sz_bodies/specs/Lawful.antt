-- Which bodies are lawful over what is held: each condition is a test with its name.
use Rattle.std.specs.Prelude.{◌≡◌, ℕ, List, ◌∷◌, map, length, Bool, true, not, ◌&&◌, nat_le}
use Rattle.std.specs.Prelude.{Some, None, option_map, All}
use Rattle.std.specs.Result.{result_err}
use Rattle.std.specs.List.{list_all}
use Rattle.sz_spec.specs.FlowShapes.{output_shapes}
use Rattle.sz_script.specs.Names.{is_name}
use Rattle.sz_catalogue.specs.Holdings.{Version, Holdings, array_version, flow_named, shapes_of}
use Rattle.sz_catalogue.specs.Holdings.{output_cells}
use Rattle.sz_catalogue.specs.Starts.{workflow_of, bases_of}
use Rattle.sz_catalogue.specs.Rules as rules
use Rattle.sz_bodies.specs.Bodies.{VersionBody, IsBodyOf}
use Rattle.sz_bodies.specs.Fitting.{sites_of}

-- the version that a body says: awaited, of the flow and on the base arrays that are held under
-- these names
abbrev pub version_said : Holdings → VersionBody → Version
version_said c b = record {
  flow_name = b.flow_name;
  flow = (workflow_of c b.flow_name).graph;
  base = bases_of c b.base;
  lists = map (λ x. x.list) b.nodes;
  awaited = true;
}

-- the number is at least 1, and no version has it
abbrev pub has_new_number : Holdings → VersionBody → Bool
has_new_number c b = nat_le 1 b.number && rules.has_no_version c b.number

-- each name is one: whatever is held under a name came by a command whose names are names, so that
-- no body of things that are held is lost
abbrev pub has_names : VersionBody → Bool
has_names b = list_all is_name (b.flow_name ∷ map (λ x. x.name) b.base)

-- the flow is held, and so is each base array
abbrev pub has_flow : Holdings → VersionBody → Bool
has_flow c b = not (rules.has_no_flow c b.flow_name)

abbrev pub has_bases : Holdings → VersionBody → Bool
has_bases c b = not (rules.has_no_array c b.base)

-- there are as many base arrays as the flow takes, and their shapes fit
abbrev pub has_each_base : Holdings → VersionBody → Bool
has_each_base c b = not (rules.has_wrong_base c b.flow_name b.base)

abbrev pub has_right_shapes : Holdings → VersionBody → Bool
has_right_shapes c b = not (rules.has_broken_shapes c b.flow_name b.base)

-- there is room for a further version, and for the cells of its outputs
abbrev pub has_room : Holdings → VersionBody → Bool
has_room c b = rules.has_room c (output_cells (version_said c b))

-- there is a list for each node of the flow, one for its operator
abbrev pub has_lists : Holdings → VersionBody → Bool
has_lists c b = rules.are_lists_for (workflow_of c b.flow_name).graph.nodes (version_said c b).lists

-- The bytes are the body that says this in a format, and it is lawful over what is held.
pub record IsLawful (format : ℕ) (c : Holdings) (b : VersionBody) (bytes : List ℕ) : Type 0 where
  pub number : has_new_number c b ≡ true
  pub names : has_names b ≡ true
  pub flow : has_flow c b ≡ true
  pub bases : has_bases c b ≡ true
  pub each : has_each_base c b ≡ true
  pub shapes : has_right_shapes c b ≡ true
  pub room : has_room c b ≡ true
  pub lists : has_lists c b ≡ true
  pub spelled : IsBodyOf format (sites_of (version_said c b)) b bytes

-- A version can be added to what is held under a number: the number is new; each name is one; its
-- flow and its base arrays are those that are held under these names, as many as the flow takes,
-- and their shapes fit; each node has a list for its operator; and there is room.
pub record CanBeAdded (c : Holdings) (n : ℕ) (v : Version) : Type 0 where
  pub some : nat_le 1 n ≡ true
  pub new : rules.has_no_version c n ≡ true
  pub names : list_all is_name (v.flow_name ∷ map (λ b. b.name) v.base) ≡ true
  pub flow : option_map (λ w. w.graph) (flow_named c v.flow_name) ≡ Some v.flow
  pub base : All (λ b. array_version c b.name b.version ≡ Some b.array) v.base
  pub count : length v.base ≡ v.flow.inputs
  pub fits : result_err (output_shapes v.flow (shapes_of v.base)) ≡ None
  pub lists : rules.are_lists_for v.flow.nodes v.lists ≡ true
  pub room : rules.has_room c (output_cells v) ≡ true
