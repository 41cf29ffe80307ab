-- The words that clauses of this crate are written in, each from the file that defines it.
pub use Rattle.std.specs.Int.{to_be_bytes, w32, w64}
pub use Rattle.std.specs.Prelude.{length}
pub use Rattle.sz_numbers.specs.Numbers.{eight_at, four_at}
