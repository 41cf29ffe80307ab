-- The words that clauses of this crate are written in, each from the file that defines it.
pub use Rattle.std.specs.Arc.{arc_value}
pub use Rattle.std.specs.List.{slice_index_or}
pub use Rattle.std.specs.Option.{option_map, option_or}
pub use Rattle.std.specs.Prelude.{All, IfOk, IfSome, None, Ok, OnErr, OnOk, Option, Some, [], false}
pub use Rattle.std.specs.Prelude.{is_none, length, map, not, true, ℕ}
pub use Rattle.std.specs.declared.snapshot.Snapshot.{Snapshot}
pub use Rattle.sz_cells.specs.Cells.{has, with_those}
pub use Rattle.sz_core.specs.Events.{after_look, after_place, after_seal, look_reply, place_reply}
pub use Rattle.sz_core.specs.Events.{seal_reply}
pub use Rattle.sz_frame.specs.Images.{measure_of}
pub use Rattle.sz_spec.specs.Modes.{is_listed, is_stored}
pub use Rattle.sz_spec.specs.Sides.{far_side, image_in, near_side}
pub use Rattle.sz_store.specs.Kept.{holding_for, holding_stands}
pub use Rattle.sz_store.specs.Needed.{FitsAsNeeded}
pub use Rattle.sz_shelf.specs.Answers.{look_answer, place_answer, read_by, seal_answer}
pub use Rattle.sz_shelf.specs.Apart.{HasImages, IsRegions, StayApart}
pub use Rattle.sz_shelf.specs.Changes.{Counts as CountsOne, GivesBack as GivesStoreBack, Joins}
pub use Rattle.sz_shelf.specs.Changes.{Loads as LoadsCount, Releases as EndsTurn, Splits}
pub use Rattle.sz_shelf.specs.Changes.{Takes as TakesStore, WinsOrLoses}
pub use Rattle.sz_shelf.specs.Contents.{is_in, least_missing, missing_in}
pub use Rattle.sz_shelf.specs.Fitting.{FittingLineagesFitAsNeeded, NeededPartsCanBePlaced}
pub use Rattle.sz_shelf.specs.Keeping.{CanTake, IsFirst, IsSharedFrom, IsThere, store_in, with_more}
pub use Rattle.sz_shelf.specs.LawsMachine.{AsksComeToTheTagsImage, LooksHoldTheTagsImage}
pub use Rattle.sz_shelf.specs.LawsMachine.{PairsSayTheRelation}
pub use Rattle.sz_shelf.specs.LawsStores.{EachStrategyStandsForTheTag, ImagesByStoresAreTheTags}
pub use Rattle.sz_shelf.specs.LawsStores.{LineagesOfAllPiecesStandForTheTag}
pub use Rattle.sz_shelf.specs.LawsStores.{LineagesStandOnTheirPieces}
pub use Rattle.sz_shelf.specs.LawsStores.{WholeStoresStandOnPlacedPieces}
pub use Rattle.sz_shelf.specs.Machine.{first_step, found_shelf, left_shelf, told_of_look}
pub use Rattle.sz_shelf.specs.Machine.{told_of_place, told_of_seal}
pub use Rattle.sz_shelf.specs.Passes.{TookTurn, newcomer, place_of, split_off, with_split}
pub use Rattle.sz_shelf.specs.Placed.{StandsOnPlaced}
pub use Rattle.sz_shelf.specs.Rule.{IsKept, Table, contents, count_of, first_view, last_of}
pub use Rattle.sz_shelf.specs.Rule.{spent_view}
pub use Rattle.sz_shelf.specs.Rules.{Rules}
pub use Rattle.sz_shelf.specs.Steps.{Grows, IsCounting, IsGiving, IsLoad, IsReleasing, IsTaking}
pub use Rattle.sz_shelf.specs.Steps.{IsTry, after_count, after_join, after_load, after_release}
pub use Rattle.sz_shelf.specs.Steps.{after_split, after_take, after_win, longer, parted_view}
pub use Rattle.sz_shelf.specs.Tags.{IsTag, StandsFor, tag_image, tag_pieces}
pub use Rattle.sz_shelf.specs.Turns.{Entered, Has, HasOut, HasTaken, IsIdle}
pub use Rattle.sz_shelf.specs.declared.answers.Placed.TheVariants.{New}
pub use Rattle.sz_shelf.specs.declared.answers.SealReply.TheVariants.{Sealed as SealedNow}
pub use Rattle.sz_shelf.specs.declared.rule.Stage.TheVariants.{StoreOut}
pub use Rattle.sz_shelf.specs.declared.tag.TagParts.{TagParts}
