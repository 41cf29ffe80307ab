-- The words that clauses of this crate are written in, each from the file that defines it.
pub use Rattle.std.specs.Arc.{arc_value}
pub use Rattle.std.specs.Prelude.{Contains, IfOk, Some, [], false, true, ℕ}
pub use Rattle.sz_claims.specs.Changes.{AddsBothUp, IsExchangeOnly, IsOnlyCounted, KnowsNothing}
pub use Rattle.sz_claims.specs.Changes.{NoneLosesFree, NoneWinsClaimed, SplitsOff, WinsOrLoses}
pub use Rattle.sz_claims.specs.Claims.{AreDisjoint, newcomer}
pub use Rattle.sz_claims.specs.Owners.{WordsTell}
pub use Rattle.sz_claims.specs.Rule.{HasNoRepeats, IsKept, IsLook, IsTry, Table, after_join}
pub use Rattle.sz_claims.specs.Rule.{after_look, after_loss, after_split, after_win, empty_view}
pub use Rattle.sz_claims.specs.declared.rule.View.{View}
