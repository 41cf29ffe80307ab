-- The words that clauses of this crate are written in, each from the file that defines it.
pub use Rattle.std.specs.Arc.{arc_value}
pub use Rattle.std.specs.Bool.{Decides}
pub use Rattle.std.specs.List.{AllZip}
pub use Rattle.std.specs.Prelude.{All, IfErr, IfOk, IfSome, List, None, OnOk, Some, [], false}
pub use Rattle.std.specs.Prelude.{get_or, length, map, option_map, true, ℕ}
pub use Rattle.sz_bodies.specs.Fitting.{Fit, FitNodes, FitsNode, lineages}
pub use Rattle.sz_bodies.specs.Taking.{IfBad, NoneIsLawful}
pub use Rattle.sz_catalogue.specs.Holdings.{arrays_of, no_holdings}
pub use Rattle.sz_catalogue.specs.Kept.{IsRun}
pub use Rattle.sz_cells.specs.Extent.{Extent, cell_of, holds, size_of}
pub use Rattle.sz_flow.specs.Executions.{execution_of}
pub use Rattle.sz_formats.specs.Formats.{is_format}
pub use Rattle.sz_frame.specs.Fits.{Fits}
pub use Rattle.sz_frame.specs.Images.{measure_of}
pub use Rattle.sz_frame.specs.Parts.{Parts}
pub use Rattle.sz_log.specs.Log.{LogGroup}
pub use Rattle.sz_ops.specs.Aids.{aid_of}
pub use Rattle.sz_outside.specs.Counts.{faults_after}
pub use Rattle.sz_outside.specs.Disk.{Passes, Said, Same, Told}
pub use Rattle.sz_spec.specs.Modes.{is_listed, is_stored, supports}
pub use Rattle.sz_spec.specs.Pieces.{pieces_of}
pub use Rattle.sz_spec.specs.Shapes.{Site}
pub use Rattle.sz_spec.specs.Sides.{far_side, near_side}
pub use Rattle.sz_spec.specs.Values.{extent_at, extents_of}
pub use Rattle.sz_store.specs.Checklists.{joined, table_in, ticked_in}
pub use Rattle.sz_store.specs.Kept.{holding_for, with_lineage, with_part}
pub use Rattle.sz_recover.specs.Calls.{Keeps, Stays}
pub use Rattle.sz_recover.specs.Comparing.{AgreeAt, AgreeOn, AgreeOnEach, AreSides, IsListAt}
pub use Rattle.sz_recover.specs.Comparing.{IsOneOf}
pub use Rattle.sz_recover.specs.Growing.{AwaitsAct, AwaitsAreOnce, CommandsKeepOrder}
pub use Rattle.sz_recover.specs.Growing.{FormatsAreByGroups, HeldBodiesAreLawful, LinesAct}
pub use Rattle.sz_recover.specs.Growing.{LinesKeepVersions, LogsAreInOrder, LogsAreSpelled}
pub use Rattle.sz_recover.specs.Growing.{LogsGrow, LogsGrowOrStay, MadeLogsEnd, MadeLogsGrow}
pub use Rattle.sz_recover.specs.Growing.{NothingIsInOrder, ReadGroupsAreLogs, StartsAreNotLogged}
pub use Rattle.sz_recover.specs.Growing.{UpgradesAct, WellMadeLogsEnd}
pub use Rattle.sz_recover.specs.Logs.{Acts, ActsAsVersion, IsBad, IsFurther, IsMade, IsNext}
pub use Rattle.sz_recover.specs.Logs.{IsPlain, Kept, SaysBad, SaysWhy, TakesNext, has_read}
pub use Rattle.sz_recover.specs.Logs.{held_behind, is_of_kind, version_kind}
pub use Rattle.sz_recover.specs.OneReading.{LogsAreFirstBadAtOnePlace, WellMadeLogsAreNotBad}
pub use Rattle.sz_recover.specs.OneReading.{WellMadeLogsAreReadInOneWay}
pub use Rattle.sz_recover.specs.Opened.{AreOfVersions, HasItsStores, HeldVersionsAreAwaited}
pub use Rattle.sz_recover.specs.Opened.{HeldVersionsHaveEntries, IsEntryOf}
pub use Rattle.sz_recover.specs.Opened.{WellMadeLogsKeepTheirVersions}
pub use Rattle.sz_recover.specs.Props.{own-prop}
pub use Rattle.sz_recover.specs.Soundness.{EachMeansNone, IsExact, NoneMeansEach, OneThingIsTold}
pub use Rattle.sz_recover.specs.Soundness.{TellsOfAll, TellsOfEntry, TellsOfNode, TellsOfNodes}
pub use Rattle.sz_recover.specs.Soundness.{TellsOfStrategy, WrongStoresAreUnsound, executions_of}
pub use Rattle.sz_recover.specs.Ticking.{AreTicksOf, IsFork, IsTicked}
pub use Rattle.sz_recover.specs.declared.ticking.PieceTicks.{PieceTicks}
