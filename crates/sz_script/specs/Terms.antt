-- The words that clauses of this crate are written in, each from the file that defines it.
pub use Rattle.std.specs.List.{flat_map, list_all}
pub use Rattle.std.specs.Prelude.{Err, IfErr, IfOk, IfSome, List, MatchResult, None, OnOk, Some, []}
pub use Rattle.std.specs.Prelude.{codes, get_or, length, map, option_and_then, option_map}
pub use Rattle.std.specs.Prelude.{string_bytes, true, ℕ}
pub use Rattle.csv.specs.Reading.{error_kind}
pub use Rattle.csv.specs.Records.{fields_of}
pub use Rattle.serde_json.specs.Find.{as_str, get}
pub use Rattle.serde_json.specs.View.{view}
pub use Rattle.sz_cells.specs.Extent.{is_layered, layered}
pub use Rattle.sz_script.specs.Drafts.{reading_of_draft, reading_of_form}
pub use Rattle.sz_script.specs.Fields.{at, each_of, first_length, has_fields, items_in, list_at}
pub use Rattle.sz_script.specs.Fields.{list_in, number_in, numbers_in, two_in, whole_in}
pub use Rattle.sz_script.specs.Forms.{draft_of}
pub use Rattle.sz_script.specs.Forms.Array.{array_form, one_layer}
pub use Rattle.sz_script.specs.Forms.Ask.{ask_form}
pub use Rattle.sz_script.specs.Forms.Await.{await_form}
pub use Rattle.sz_script.specs.Forms.Csv.{csv_form}
pub use Rattle.sz_script.specs.Forms.Explain.{explain_form}
pub use Rattle.sz_script.specs.Forms.Flow.{flow_form}
pub use Rattle.sz_script.specs.Forms.Layers.{layers_form}
pub use Rattle.sz_script.specs.Forms.Merge.{merge_form}
pub use Rattle.sz_script.specs.Forms.Merged.{merged_form}
pub use Rattle.sz_script.specs.Forms.Plan.{plan_form, within_units}
pub use Rattle.sz_script.specs.Forms.Refresh.{new_cell_at, new_cell_in, refresh_form}
pub use Rattle.sz_script.specs.Forms.Show.{show_form}
pub use Rattle.sz_script.specs.Forms.Start.{base_in, start_form, with_base}
pub use Rattle.sz_script.specs.Forms.Strategy.{strategy_form}
pub use Rattle.sz_script.specs.Kernels.{cols_of, is_row_of_wholes, is_whole, kernel_in, side_of}
pub use Rattle.sz_script.specs.Kernels.{weight_of, weights_of}
pub use Rattle.sz_script.specs.Laws.{BadCellsExactly, BadFlowExactly, BadNameExactly}
pub use Rattle.sz_script.specs.Laws.{CommandsAreRight, NoFormExactly, NoJsonExactly, NoOtherRefusal}
pub use Rattle.sz_script.specs.Laws.{ReadExactly, TooLongExactly, TooManyCellsExactly}
pub use Rattle.sz_script.specs.Laws.{WordsNameTheirStrategies}
pub use Rattle.sz_script.specs.Layers.{are_counted, array_in, filled, height_of, is_layer, is_row}
pub use Rattle.sz_script.specs.Layers.{is_value, value_in, value_of, values_of_layer, values_of_row}
pub use Rattle.sz_script.specs.Layers.{width_of}
pub use Rattle.sz_script.specs.Names.{is_name, is_name_byte}
pub use Rattle.sz_script.specs.Nodes.{alone, block_in, clip_in, convolve_in, fold_layers_in}
pub use Rattle.sz_script.specs.Nodes.{has_parameters, node_in, one_whole, op_by, op_in, operators}
pub use Rattle.sz_script.specs.Nodes.{sides_in, slice_in, source_in}
pub use Rattle.sz_script.specs.Questions.{named_cell_at, named_cell_in, question_in, step_in}
pub use Rattle.sz_script.specs.Reading.{Reads, json_of, reading}
pub use Rattle.sz_script.specs.Records.{IsTable, fault_of, first_values, records_in, table_in}
pub use Rattle.sz_script.specs.Refusals.{before, fault_numbers, numbers_of}
pub use Rattle.sz_script.specs.Words.{dir_in, dir_named, fold_in, fold_named, name_of_dir}
pub use Rattle.sz_script.specs.Words.{name_of_fold, name_of_strategy, strategy_in, strategy_named}
pub use Rattle.sz_script.specs.declared.command.LineFault.TheVariants.{Refused}
pub use Rattle.sz_script.specs.declared.refusal.Refusal.TheVariants.{NoJson}
