-- The words that clauses of this crate are written in, each from the file that defines it.
pub use Rattle.std.specs.Arc.{arc_value}
pub use Rattle.std.specs.Bool.{Decides}
pub use Rattle.std.specs.List.{AllZip, HoldsAt, flat_map, list_any, range_with_len, slice_get}
pub use Rattle.std.specs.Prelude.{All, IfErr, IfNone, IfOk, IfSome, IsPermutation, List}
pub use Rattle.std.specs.Prelude.{MatchOption, None, OnErr, OnOk, Some, [], drop, fold, length, map}
pub use Rattle.std.specs.Prelude.{max, replicate, slice_index_or, sum_by, take, true, vec_capacity}
pub use Rattle.std.specs.Prelude.{vec_len, ℕ}
pub use Rattle.sz_cells.specs.Cells.{Cells, any_cell, has, next_index, union_of, with_those}
pub use Rattle.sz_cells.specs.Extent.{holds, is_extent, size_of}
pub use Rattle.sz_cells.specs.Rising.{AreRising}
pub use Rattle.sz_cells.specs.Runs.{AreRunsFrom, Spells, covers, indexes_of, is_in, runs_of}
pub use Rattle.sz_cells.specs.SetBytes.{IsSetOf, four_bytes, set_bytes}
pub use Rattle.sz_cells.specs.Words.{cells_at}
pub use Rattle.sz_cells.specs.declared.Cell.{Cell}
pub use Rattle.sz_frame.specs.Fits.{AreApart}
pub use Rattle.sz_frame.specs.Stands.{full_stands, set_of}
pub use Rattle.sz_region.specs.Counted.{IsAt, counted, rows_bytes}
pub use Rattle.sz_region.specs.FullBytes.{BeginsRegions, IsFullWord, IsListed, Listed, listed_bytes}
pub use Rattle.sz_region.specs.PayBytes.{BeginsEntries, IsPayWord, IsShort, payload_bytes}
pub use Rattle.sz_region.specs.Putting.{HasShapes}
pub use Rattle.sz_region.specs.Stores.{AreEntriesNames, AreEntryNames, AreFew, ArePairNames}
pub use Rattle.sz_region.specs.Stores.{AreStoreNames, IsNameFor, IsNumberIn, NoEntriesBegin}
pub use Rattle.sz_region.specs.Stores.{NoRegionsBegin, NoneAt, OnBad, SaysNoEntries, SaysNoRegions}
pub use Rattle.sz_region.specs.Stores.{SaysWhetherApart}
pub use Rattle.sz_spec.specs.Sides.{extent_after, extent_before, image_between}
pub use Rattle.sz_spec.specs.Values.{extent_at}
pub use Rattle.sz_tables.specs.Apart.{AreOneOrApart, IsOneOrApart}
pub use Rattle.sz_tables.specs.Checklists.{pair_named}
pub use Rattle.sz_tables.specs.Entries.{KeepsEntries, NamesBoth, entries, entry_at, entry_named}
pub use Rattle.sz_tables.specs.Entries.{entry_row_at, no_rows, numbers_of, table_with}
pub use Rattle.sz_tables.specs.Filed.{IsLastBelow, IsWidened, rest_under, told}
pub use Rattle.sz_tables.specs.Listed.{AreNamesOfRow, BeginsTable, HasNumber, IsOneOf, IsRead}
pub use Rattle.sz_tables.specs.Listing.{AreListed, AreSetsOf, listed_as, numbers_at, shifted}
pub use Rattle.sz_tables.specs.Payloads.{mixed_byte, payload_at, payload_mix}
pub use Rattle.sz_tables.specs.Placing.{Gets, IsOfArray, IsPart, IsRowNamed, IsTable, NoPart, place_for}
pub use Rattle.sz_tables.specs.Rows.{HasRoomFor, IsRowOf, Keeps, Row, TakeEach, Takes, empty_rows}
pub use Rattle.sz_tables.specs.Rows.{empty_sets, number_in, pairings, row_at, rows_of, runs_in}
pub use Rattle.sz_tables.specs.Rows.{set_at, sets_of, table_of, weight_of}
pub use Rattle.sz_tables.specs.Scans.{HasSeen, far_number, far_sets, near_number, near_sets}
pub use Rattle.sz_tables.specs.Scans.{pair_adds, pairing_at}
pub use Rattle.sz_tables.specs.Sets.{IsRound}
pub use Rattle.sz_tables.specs.Stores.{cells_in, most_given}
pub use Rattle.sz_tables.specs.Tables.{AreDifferent, HasAtMostOneMore, first_capacities, first_of}
pub use Rattle.sz_tables.specs.Tables.{mix_of, mixed, spans_from, spelled}
