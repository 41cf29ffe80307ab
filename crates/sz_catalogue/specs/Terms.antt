-- The words that clauses of this crate are written in, each from the file that defines it.
pub use Rattle.std.specs.Arc.{arc_value}
pub use Rattle.std.specs.BTreeMap.{insert_entry, is_at}
pub use Rattle.std.specs.Cmp.Lexicographic.{slice_cmp}
pub use Rattle.std.specs.List.{cons_option, list_all}
pub use Rattle.std.specs.List.Sorted.{IsStrictlySortedBy}
pub use Rattle.std.specs.Map.{keys_of, lookup, set_value}
pub use Rattle.std.specs.Option.{option_copied}
pub use Rattle.std.specs.Ordering.{nat_cmp}
pub use Rattle.std.specs.Prelude.{All, IfOk, IfSome, List, None, Ok, OnErr, OnOk, Some, [], false}
pub use Rattle.std.specs.Prelude.{flat_map, is_some, length, map, option_map, slice_set}
pub use Rattle.std.specs.Prelude.{string_bytes, true, unwrap_or, ℕ}
pub use Rattle.std.specs.Result.{result_err}
pub use Rattle.std.specs.Str.{bytes_eq}
pub use Rattle.sz_cells.specs.Extent.{size_of}
pub use Rattle.sz_cells.specs.Runs.{indexes_of}
pub use Rattle.sz_script.specs.Names.{is_name}
pub use Rattle.sz_script.specs.Refusals.{before}
pub use Rattle.sz_script.specs.Right.{is_right}
pub use Rattle.sz_script.specs.Words.{name_of_strategy}
pub use Rattle.sz_spec.specs.FlowShapes.{output_shapes}
pub use Rattle.sz_spec.specs.Flows.{Graph, is_well_formed}
pub use Rattle.sz_spec.specs.Modes.{is_listed, supports}
pub use Rattle.sz_spec.specs.Paths.{are_joined, follows, is_joined, is_output_of, is_there}
pub use Rattle.sz_spec.specs.Paths.{source_of}
pub use Rattle.sz_spec.specs.Values.{Grid, extent_at}
pub use Rattle.sz_spec.specs.declared.modes.Strategy.{Strategy}
pub use Rattle.sz_catalogue.specs.Changes.{accepted, changes_no_version, with_array, with_list}
pub use Rattle.sz_catalogue.specs.Changes.{with_refreshed, with_version}
pub use Rattle.sz_catalogue.specs.Holdings.{Base, Holdings, Named, Version, Workflow, array_version}
pub use Rattle.sz_catalogue.specs.Holdings.{cells_of, flow_named, greatest, next_number}
pub use Rattle.sz_catalogue.specs.Holdings.{no_holdings, no_version, output_cells, shapes_of}
pub use Rattle.sz_catalogue.specs.Holdings.{thing_numbered, things_named, version_numbered}
pub use Rattle.sz_catalogue.specs.Holdings.{workflow_in}
pub use Rattle.sz_catalogue.specs.Kept.{IsRun, IsVersionIndex, IsWorkflow, by_bytes, is_of_room}
pub use Rattle.sz_catalogue.specs.Kept.{is_open, refusal_by, refusal_on_version, versions_in}
pub use Rattle.sz_catalogue.specs.Laws.{FirstRulesRefuse, NextNumbersAreNew, NumbersReadBack}
pub use Rattle.sz_catalogue.specs.Laws.{OtherCommandsAreTaken, PathsStartInTheirArrays}
pub use Rattle.sz_catalogue.specs.Laws.{RefusalsAreTheFirst, RefusedCommandsChangeNothing}
pub use Rattle.sz_catalogue.specs.Laws.{TakenCommandsBreakNoRule}
pub use Rattle.sz_catalogue.specs.Merges.{is_merge_asked}
pub use Rattle.sz_catalogue.specs.Order.{IsInOrder, IsKept}
pub use Rattle.sz_catalogue.specs.Plans.{plan_for, plan_over}
pub use Rattle.sz_catalogue.specs.Refreshes.{base_at, base_on, has_input, has_new_cell, version_on}
pub use Rattle.sz_catalogue.specs.Responses.{cell_text, number_text, reply_line, reply_text}
pub use Rattle.sz_catalogue.specs.Responses.{shape_text, value_text, word_text}
pub use Rattle.sz_catalogue.specs.Rules.{are_distinct, are_lists_for, first_of, has_broken_shapes}
pub use Rattle.sz_catalogue.specs.Rules.{has_named_cell, has_no_array, has_no_flow}
pub use Rattle.sz_catalogue.specs.Rules.{has_no_room_for_array, has_no_room_to_refresh}
pub use Rattle.sz_catalogue.specs.Rules.{has_no_room_to_set, has_no_version, has_room}
pub use Rattle.sz_catalogue.specs.Rules.{has_too_many_units, has_wrong_base, is_list_for}
pub use Rattle.sz_catalogue.specs.Rules.{is_list_of, is_not_awaited, judged, names_a_store}
pub use Rattle.sz_catalogue.specs.Rules.{names_an_input, version_of}
pub use Rattle.sz_catalogue.specs.Seen.{Judges, response_of}
pub use Rattle.sz_catalogue.specs.Sites.{IsFitting, site_over, sites_of}
pub use Rattle.sz_catalogue.specs.Starts.{base_of, bases_of, first_list, first_lists, inputs_of}
pub use Rattle.sz_catalogue.specs.Starts.{outputs_of, step_start, version_started, workflow_of}
