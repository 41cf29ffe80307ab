-- What a command changes of what is held, and its reply.
use Rattle.std.specs.Prelude.{ℕ, ◌+◌, List, [], ◌∷◌, ◌++◌, map, filter, sum_by, length, slice_set}
use Rattle.std.specs.Prelude.{Bool, true, false, Option, Some, None, unwrap_or}
use Rattle.std.specs.Prelude.{Result, Ok, Err}
use Rattle.std.specs.List.{slice_get}
use Rattle.std.specs.Ordering.{nat_cmp}
use Rattle.std.specs.Cmp.Lexicographic.{slice_cmp}
use Rattle.std.specs.Map.{set_value}
use Rattle.std.specs.BTreeMap.{is_at, insert_entry}
use Rattle.sz_cells.specs.Extent.{size_of}
use Rattle.sz_cells.specs.Cells.{Cells, named_in}
use Rattle.sz_spec.specs.declared.modes.Dir.{Dir}
use Rattle.sz_spec.specs.declared.modes.Strategy.{Strategy}
use Rattle.sz_spec.specs.declared.modes.Strategy.TheVariants as strategy
use Rattle.sz_spec.specs.Modes.{way}
use Rattle.sz_spec.specs.Values.{Grid, input_at, extent_at}
use Rattle.sz_spec.specs.Flows.{Graph, evaluations}
use Rattle.sz_spec.specs.Paths.{Step, compose}
use Rattle.sz_script.specs.Reading.{reading}
use Rattle.sz_script.specs.declared.command.NamedCell.{NamedCell}
use Rattle.sz_script.specs.declared.command.Command.{Command}
use Rattle.sz_script.specs.declared.command.Command.TheVariants as command
use Rattle.sz_script.specs.declared.refusal.Refusal.{Refusal}
use Rattle.sz_catalogue.specs.Holdings.{Workflow, Version, Holdings, things_named, next_number}
use Rattle.sz_catalogue.specs.Holdings.{arrays_of}
use Rattle.sz_catalogue.specs.Starts.{first_lists, workflow_of, version_started, outputs_of}
use Rattle.sz_catalogue.specs.Starts.{path_start, cell_named}
use Rattle.sz_catalogue.specs.Rules.{version_of, judged}
use Rattle.sz_catalogue.specs.Responses.{Response, array_held, flow_held, strategy_set, started}
use Rattle.sz_catalogue.specs.Responses.{done, cells, explained, values, refused}
use Rattle.sz_catalogue.specs.Responses.{refreshed, merging, merged}
use Rattle.sz_catalogue.specs.Plans.{plan_for}
use Rattle.sz_catalogue.specs.Refreshes.{base_at, version_on, array_refreshed, cells_affected}
use Rattle.sz_catalogue.specs.Merges.{with_merge, kinds_told}

-- ---- what is held after

-- an array behind the others, under its name
abbrev pub with_array : Holdings → List ℕ → Grid → Holdings
with_array c name array =
    record c { arrays = c.arrays ++ record { name = name; thing = array } ∷ [] }

-- a flow under its name, with its first strategies
abbrev pub with_flow : Holdings → List ℕ → Graph → Holdings
with_flow c name flow = record c {
  flows = insert_entry (slice_cmp nat_cmp) c.flows name (record {
    graph = flow;
    lists = first_lists flow;
  });
}

-- a flow with another list of strategies at a node
abbrev pub with_list : Workflow → ℕ → List Strategy → Workflow
with_list w node list = record w { lists = slice_set w.lists node list }

abbrev pub with_strategies : Holdings → List ℕ → ℕ → List Strategy → Holdings
with_strategies c name node list = record c {
  flows = set_value (is_at (slice_cmp nat_cmp name)) c.flows
      (with_list (workflow_of c name) node list);
}

-- a version under its number
abbrev pub with_version : Holdings → ℕ → Version → Holdings
with_version c n v = record c { versions = insert_entry nat_cmp c.versions n v }

-- the version of a number awaited
abbrev pub with_await : Holdings → ℕ → Holdings
with_await c n = record c {
  versions = set_value (is_at (nat_cmp n)) c.versions (record (version_of c n) { awaited = true });
}

-- an array as the next version of the name that an input of a version has, and under the next
-- number that version on it
abbrev pub with_refreshed : Holdings → ℕ → ℕ → Grid → Holdings
with_refreshed c n i array = let v = version_of c n in
    with_version (with_array c (base_at v i).name array) (next_number c) (version_on c v i array)

-- ---- what is answered

-- the outputs of a version's nodes
abbrev pub outputs : Version → List Grid
outputs v = evaluations v.flow (arrays_of v.base)

-- the cells of an ask: the composed relation along the path, from the cells that it names
abbrev pub cells_answered : Version → Dir → List Step → List NamedCell → Cells
cells_answered v dir path named =
    let start = path_start dir v path in
    compose dir v.flow (arrays_of v.base) (outputs v) path
    (named_in start (map (cell_named start) named))

-- the way of a step: by the strategies of its node
abbrev pub way_of : Version → Dir → Step → Strategy
way_of v dir s = way (unwrap_or (slice_get v.lists s.node) []) dir

abbrev pub is_black_box : Strategy → Bool
is_black_box strategy.Map = false
is_black_box strategy.FullOneB = false
is_black_box strategy.FullOneF = false
is_black_box strategy.FullManyB = false
is_black_box strategy.FullManyF = false
is_black_box strategy.PayOne = false
is_black_box strategy.PayMany = false
is_black_box strategy.CompOne = false
is_black_box strategy.CompMany = false
is_black_box strategy.BlackBox = true

-- how many cells are traced along a path: the outputs of the nodes whose way is black box
abbrev pub traced : Version → Dir → List Step → ℕ
traced v dir path =
    sum_by (λ (s : Step). size_of (extent_at (outputs_of v) s.node))
    (filter (λ s. is_black_box (way_of v dir s)) path)

-- ---- commands

-- the commands that change no version and look at none: what they say is of what else is held
abbrev pub changes_no_version : Command → Bool
changes_no_version (command.Array name array) = true
changes_no_version (command.Csv name array) = true
changes_no_version (command.Layers name array) = true
changes_no_version (command.Flow name flow) = true
changes_no_version (command.Strategy name node list) = true
changes_no_version (command.Plan name base units back forward) = true
changes_no_version (command.Merge n) = true
changes_no_version _ = false

-- what a command that no rule refuses changes, and its reply
abbrev pub accepted : Holdings → Command → Holdings × Response
accepted c (command.Array name array) =
    (with_array c name array, array_held name (length (things_named name c.arrays) + 1))
accepted c (command.Csv name array) =
    (with_array c name array, array_held name (length (things_named name c.arrays) + 1))
accepted c (command.Layers name array) =
    (with_array c name array, array_held name (length (things_named name c.arrays) + 1))
accepted c (command.Flow name flow) = (with_flow c name flow, flow_held name)
accepted c (command.Strategy name node list) =
    (with_strategies c name node list, strategy_set name node)
accepted c (command.Start name base) =
    (with_version c (next_number c) (version_started c name base), started (next_number c))
accepted c (command.Plan name base units back forward) =
    (c, plan_for (version_started c name base) units back forward)
accepted c (command.Refresh n i set) = (
  with_refreshed c n i (array_refreshed (version_of c n) i set),
  refreshed (next_number c) (cells_affected c (version_of c n) i set),
)
accepted c (command.Merge n) = (with_merge c n, merging n)
accepted c (command.Merged n) = (c, merged n (kinds_told (version_of c n)))
accepted c (command.Await n) = (with_await c n, done n)
accepted c (command.Ask n dir path named) =
    (c, cells (cells_answered (version_of c n) dir path named))
accepted c (command.Explain n dir path named) =
    (c, explained (map (way_of (version_of c n) dir) path) (traced (version_of c n) dir path))
accepted c (command.Show n node) = (c, values (input_at (outputs (version_of c n)) node))

-- a command that a rule refuses changes nothing
abbrev pub after_judging : Holdings → Command → Option Refusal → Holdings × Response
after_judging c command None = accepted c command
after_judging c command (Some rule) = (c, refused rule)

abbrev pub after_command : Holdings → Command → Holdings × Response
after_command c command = after_judging c command (judged c command)

-- and so does a line that is read as no command
abbrev pub after_reading : Holdings → Result Command Refusal → Holdings × Response
after_reading c (Err rule) = (c, refused rule)
after_reading c (Ok command) = after_command c command

-- One line: refused where it is read as no command or a rule refuses the command, and else what the
-- command changes and replies.
abbrev pub after_line : Holdings → List ℕ → Holdings × Response
after_line c line = after_reading c (reading line)
