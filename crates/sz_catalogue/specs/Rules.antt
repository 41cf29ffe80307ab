-- Which commands are refused. Each rule is a test with a plain name; the ordered table says by
-- which rules a command is judged, and the first that holds refuses it.
use Rattle.std.specs.Prelude.{ℕ, ◌+◌, List, [], ◌∷◌, length, Bool, true, false, not, ◌&&◌, ◌||◌}
use Rattle.std.specs.Prelude.{◌==◌, nat_lt, nat_le, Option, option_map, unwrap_or}
use Rattle.std.specs.Prelude.{is_some, is_none, find}
use Rattle.std.specs.List.{list_all, list_any, slice_get}
use Rattle.std.specs.Option.{option_map_or}
use Rattle.std.specs.Result.{result_err}
use Rattle.sz_cells.specs.Extent.{Extent, size_of, is_place}
use Rattle.sz_spec.specs.declared.modes.Dir.{Dir}
use Rattle.sz_spec.specs.declared.modes.Strategy.{Strategy}
use Rattle.sz_spec.specs.declared.flow.Node.{Node}
use Rattle.sz_spec.specs.declared.op.Op.{Op}
use Rattle.sz_spec.specs.Modes.{supports, is_listed, is_stored}
use Rattle.sz_spec.specs.Values.{Grid}
use Rattle.sz_spec.specs.FlowShapes.{output_shapes}
use Rattle.sz_spec.specs.Paths.{Step, is_joined}
use Rattle.sz_script.specs.declared.command.BaseName.{BaseName}
use Rattle.sz_script.specs.declared.command.NamedCell.{NamedCell}
use Rattle.sz_script.specs.declared.command.NewCell.{NewCell}
use Rattle.sz_script.specs.declared.command.Command.{Command}
use Rattle.sz_script.specs.declared.command.Command.TheVariants as command
use Rattle.sz_script.specs.declared.refusal.Refusal.{Refusal}
use Rattle.sz_script.specs.declared.refusal.Refusal.TheVariants as refusal
use Rattle.sz_catalogue.specs.Holdings.{Version, Holdings, array_version, flow_named, shapes_of}
use Rattle.sz_catalogue.specs.Holdings.{version_numbered, no_version, next_number, held_cells}
use Rattle.sz_catalogue.specs.Holdings.{output_cells}
use Rattle.sz_catalogue.specs.Starts.{workflow_of, bases_of, version_started, path_start}
use Rattle.sz_catalogue.specs.Refreshes.{has_input, base_at, has_new_cell}
use Rattle.sz_catalogue.specs.Merges.{is_merge_asked}

-- the most arrays, flows and versions that are held, the most cells, and the greatest number of a
-- version
abbrev pub most_arrays : ℕ
most_arrays = 4096

abbrev pub most_flows : ℕ
most_flows = 1024

abbrev pub most_versions : ℕ
most_versions = 4096

abbrev pub most_cells : ℕ
most_cells = 4194304

abbrev pub greatest_number : ℕ
greatest_number = 4294967295

-- the most units that a plan may have
abbrev pub most_units : ℕ
most_units = 65536

-- ---- arrays and flows

-- as many arrays are held as may be, or with this one there would be too many cells
abbrev pub has_no_room_for_array : Holdings → Grid → Bool
has_no_room_for_array c array =
    nat_le most_arrays (length c.arrays)
    || nat_lt most_cells (held_cells c + size_of array.extent)

-- as many flows are held as may be, or one of this name is
abbrev pub has_no_room_for_flow : Holdings → List ℕ → Bool
has_no_room_for_flow c name =
    nat_le most_flows (length c.flows) || is_some (flow_named c name)

-- no flow of this name is held
abbrev pub has_no_flow : Holdings → List ℕ → Bool
has_no_flow c name = is_none (flow_named c name)

-- ---- strategies

-- no strategy stands twice in the list
abbrev pub are_distinct : List Strategy → Bool
are_distinct [] = true
are_distinct (s ∷ list) = not (is_listed list s) && are_distinct list

-- one to three different strategies, each supported by the operator
abbrev pub is_list_for : Op → List Strategy → Bool
is_list_for op list =
    nat_le 1 (length list) && nat_le (length list) 3 && are_distinct list
    && list_all (supports op) list

-- each node has a list for its operator
abbrev pub are_lists_for : List Node → List (List Strategy) → Bool
are_lists_for [] [] = true
are_lists_for (x ∷ nodes) (list ∷ lists) = is_list_for x.op list && are_lists_for nodes lists
are_lists_for _ _ = false

-- the node is one of the nodes, and the list one for its operator
abbrev pub is_list_of : List Node → ℕ → List Strategy → Bool
is_list_of nodes node list =
    option_map_or (λ (x : Node). is_list_for x.op list) (slice_get nodes node) false

-- the flow has no such node, or the list is none for it
abbrev pub has_bad_strategies : Holdings → List ℕ → ℕ → List Strategy → Bool
has_bad_strategies c name node list = not (is_list_of (workflow_of c name).graph.nodes node list)

-- the list has a strategy that keeps a store
abbrev pub names_a_store : List Strategy → Bool
names_a_store list = list_any is_stored list

-- ---- starts and plans

-- a base array is not held
abbrev pub has_no_array : Holdings → List BaseName → Bool
has_no_array c base = list_any (λ b. is_none (array_version c b.name b.version)) base

-- there are more or fewer base arrays than the flow takes
abbrev pub has_wrong_base : Holdings → List ℕ → List BaseName → Bool
has_wrong_base c name base = not (length base == (workflow_of c name).graph.inputs)

-- a node's shape rule is broken, and the first such node
abbrev pub broken_node : Holdings → List ℕ → List BaseName → Option ℕ
broken_node c name base =
    result_err (output_shapes (workflow_of c name).graph (shapes_of (bases_of c base)))

abbrev pub has_broken_shapes : Holdings → List ℕ → List BaseName → Bool
has_broken_shapes c name base = is_some (broken_node c name base)

abbrev pub first_broken : Holdings → List ℕ → List BaseName → ℕ
first_broken c name base = unwrap_or (broken_node c name base) 0

-- as many versions are held as may be, or with so many more cells there would be too many
abbrev pub has_room : Holdings → ℕ → Bool
has_room c cells =
    nat_lt (length c.versions) most_versions && nat_le (held_cells c + cells) most_cells

-- no further version is held whose outputs have so many cells: there is no room for it, or its
-- number would be too great
abbrev pub has_no_room_for_outputs : Holdings → ℕ → Bool
has_no_room_for_outputs c cells =
    not (has_room c cells) || nat_lt greatest_number (next_number c)

abbrev pub has_no_room_for_version : Holdings → List ℕ → List BaseName → Bool
has_no_room_for_version c name base =
    has_no_room_for_outputs c (output_cells (version_started c name base))

-- a plan has more units than it may
abbrev pub has_too_many_units : ℕ → Bool
has_too_many_units units = nat_lt most_units units

-- ---- versions

-- no version of this number is held
abbrev pub has_no_version : Holdings → ℕ → Bool
has_no_version c n = is_none (version_numbered c n)

-- the version of a number as it is held, and one of no node where it is not
abbrev pub version_of : Holdings → ℕ → Version
version_of c n = unwrap_or (version_numbered c n) no_version

-- the path is not one of 1 to 32 joined steps
abbrev pub is_not_joined : Holdings → ℕ → Dir → List Step → Bool
is_not_joined c n dir path = not (is_joined dir (version_of c n).flow path)

-- the shape has the cell that is named
abbrev pub has_named_cell : Extent → NamedCell → Bool
has_named_cell e x = is_place e x.layer x.row x.col

-- a cell is out of range of the array in which the path starts
abbrev pub is_out_of_range : Holdings → ℕ → Dir → List Step → List NamedCell → Bool
is_out_of_range c n dir path named =
    not (list_all (has_named_cell (path_start dir (version_of c n) path)) named)

abbrev pub is_not_awaited : Holdings → ℕ → Bool
is_not_awaited c n = not (version_of c n).awaited

-- the version has no such node
abbrev pub has_no_node : Holdings → ℕ → ℕ → Bool
has_no_node c n node = nat_le (length (version_of c n).flow.nodes) node

-- ---- refreshes and merges

-- a version is held, and has this input
abbrev pub names_an_input : Holdings → ℕ → ℕ → Bool
names_an_input c n i = has_input (version_of c n) i

-- how many cells the base array of this input has
abbrev pub input_cells : Holdings → ℕ → ℕ → ℕ
input_cells c n i = size_of (base_at (version_of c n) i).array.extent

-- as many arrays are held as may be, or with a further one in this input's place there would be too
-- many cells
abbrev pub has_no_room_to_set : Holdings → ℕ → ℕ → Bool
has_no_room_to_set c n i =
    nat_le most_arrays (length c.arrays)
    || (names_an_input c n i && nat_lt most_cells (held_cells c + input_cells c n i))

-- as many versions are held as may be, or the next number would be too great, or with that array
-- and the outputs of a version on it there would be too many cells
abbrev pub has_no_room_to_refresh : Holdings → ℕ → ℕ → Bool
has_no_room_to_refresh c n i =
    nat_le most_versions (length c.versions) || nat_lt greatest_number (next_number c)
    || (names_an_input c n i
    && nat_lt most_cells (held_cells c + input_cells c n i + output_cells (version_of c n)))

-- a cell that is set is out of range of the base array of an input
abbrev pub sets_out_of_range : Holdings → ℕ → ℕ → List NewCell → Bool
sets_out_of_range c n i set = names_an_input c n i
    && not (list_all (has_new_cell (base_at (version_of c n) i).array.extent) set)

-- the version has no such input
abbrev pub has_no_input : Holdings → ℕ → ℕ → Bool
has_no_input c n i = not (names_an_input c n i)

-- no merge of the version was asked
abbrev pub is_not_merged : Holdings → ℕ → Bool
is_not_merged c n = not (is_merge_asked c n)

-- ---- the ordered table

-- the rules by which a command is judged, in their order: whether each holds, and the refusal
abbrev pub rules_of : Holdings → Command → List (Bool × Refusal)
rules_of c (command.Array name array) =
    (has_no_room_for_array c array, refusal.NoRoomForArray) ∷ []
rules_of c (command.Csv name array) =
    (has_no_room_for_array c array, refusal.NoRoomForArray) ∷ []
rules_of c (command.Layers name array) =
    (has_no_room_for_array c array, refusal.NoRoomForArray) ∷ []
rules_of c (command.Flow name flow) =
    (has_no_room_for_flow c name, refusal.NoRoomForFlow) ∷ []
rules_of c (command.Strategy name node list) =
    (has_no_flow c name, refusal.NoSuchFlow)
    ∷ (has_bad_strategies c name node list, refusal.BadStrategies) ∷ []
rules_of c (command.Start name base) =
    (has_no_flow c name, refusal.NoSuchFlow)
    ∷ (has_no_array c base, refusal.NoSuchArray)
    ∷ (has_wrong_base c name base, refusal.WrongBase)
    ∷ (has_broken_shapes c name base, refusal.ShapesDoNotFit (first_broken c name base))
    ∷ (has_no_room_for_version c name base, refusal.NoRoomForVersion) ∷ []
rules_of c (command.Plan name base units back forward) =
    (has_no_flow c name, refusal.NoSuchFlow)
    ∷ (has_no_array c base, refusal.NoSuchArray)
    ∷ (has_wrong_base c name base, refusal.WrongBase)
    ∷ (has_broken_shapes c name base, refusal.ShapesDoNotFit (first_broken c name base))
    ∷ (has_too_many_units units, refusal.TooManyUnits) ∷ []
rules_of c (command.Refresh n i set) =
    (has_no_room_to_set c n i, refusal.NoRoomForArray)
    ∷ (has_no_room_to_refresh c n i, refusal.NoRoomForVersion)
    ∷ (has_no_version c n, refusal.NoSuchVersion)
    ∷ (sets_out_of_range c n i set, refusal.OutOfRange)
    ∷ (is_not_awaited c n, refusal.StillBuilt)
    ∷ (has_no_input c n i, refusal.NoSuchInput) ∷ []
rules_of c (command.Merge n) =
    (has_no_version c n, refusal.NoSuchVersion)
    ∷ (is_not_awaited c n, refusal.StillBuilt) ∷ []
rules_of c (command.Merged n) =
    (has_no_version c n, refusal.NoSuchVersion)
    ∷ (is_not_merged c n, refusal.NotMerged) ∷ []
rules_of c (command.Await n) =
    (has_no_version c n, refusal.NoSuchVersion) ∷ []
rules_of c (command.Ask n dir path named) =
    (has_no_version c n, refusal.NoSuchVersion)
    ∷ (is_not_joined c n dir path, refusal.NotJoined)
    ∷ (is_out_of_range c n dir path named, refusal.OutOfRange) ∷ []
rules_of c (command.Explain n dir path named) =
    (has_no_version c n, refusal.NoSuchVersion)
    ∷ (is_not_joined c n dir path, refusal.NotJoined)
    ∷ (is_out_of_range c n dir path named, refusal.OutOfRange)
    ∷ (is_not_awaited c n, refusal.NotAwaited) ∷ []
rules_of c (command.Show n node) =
    (has_no_version c n, refusal.NoSuchVersion)
    ∷ (has_no_node c n node, refusal.NoSuchNode) ∷ []

-- the refusal of the first rule that holds
abbrev pub first_of : List (Bool × Refusal) → Option Refusal
first_of rules = option_map (λ (r : Bool × Refusal). r.1) (find (λ (r : Bool × Refusal). r.0) rules)

-- how a command is judged: the first rule that holds refuses it, and else nothing does
abbrev pub judged : Holdings → Command → Option Refusal
judged c command = first_of (rules_of c command)
