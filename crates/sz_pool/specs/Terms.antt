-- The words that clauses of this crate are written in, each from the file that defines it.
pub use Rattle.std.specs.Arc.{arc_value}
pub use Rattle.std.specs.Prelude.{All, IfOk, MatchResult, OnOk, length, map, true}
pub use Rattle.sz_cells.specs.Extent.{size_of}
pub use Rattle.sz_core.specs.Events.{after_seal, seal_reply}
pub use Rattle.sz_frame.specs.Written.{cells_in_piece}
pub use Rattle.sz_ops.specs.Aids.{aid_of}
pub use Rattle.sz_shelf.specs.Contents.{is_in}
pub use Rattle.sz_shelf.specs.Machine.{found_shelf, left_shelf, told_of_seal}
pub use Rattle.sz_shelf.specs.Passes.{place_of}
pub use Rattle.sz_spec.specs.Pieces.{pieces_of}
pub use Rattle.sz_pool.specs.Effort.{cells_of, left_over}
pub use Rattle.sz_pool.specs.Growing.{AreReached, Grows, GrowsBy, claimed_since}
pub use Rattle.sz_pool.specs.Making.{IsPlaced, IsRefused}
pub use Rattle.sz_pool.specs.Replies.{IsReplyOf}
pub use Rattle.sz_pool.specs.Tagged.{tag_over}
pub use Rattle.sz_pool.specs.Tasks.{IsSameTask, IsTaskFor}
pub use Rattle.sz_pool.specs.Tries.{HasTried, HasTriedAll, refused_after}
