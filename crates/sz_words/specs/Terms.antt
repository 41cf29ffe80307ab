-- The words that clauses of this crate are written in, each from the file that defines it.
pub use Rattle.std.specs.Prelude.{Err, IfOk, None, OnOk, Some, [], false, map, option_map, pos}
pub use Rattle.std.specs.Prelude.{string_bytes}
pub use Rattle.clap.specs.Words.{app_of, first_of, found_of, one_of, rows_of, rule_of}
pub use Rattle.sz_words.specs.Command.{faults_of, matches_in, number_option, subzero}
pub use Rattle.sz_words.specs.Job.{IsInRange, fitting_mode, is_on_log, job_of, mode_named}
pub use Rattle.sz_words.specs.Numbers.{HasNumbers, IsNumberIn, number_of}
pub use Rattle.sz_words.specs.Place.{makes_log, path_and_make, place_of}
