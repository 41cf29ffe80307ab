-- The words that clauses of this crate are written in, each from the file that defines it.
pub use Rattle.std.specs.Prelude.{IfOk, OnOk, [], codes, decimal}
pub use Rattle.sz_gen.specs.Draws.{draw_of, next_number, number_after}
pub use Rattle.sz_gen.specs.Laws.{DrawsAreBelow, SessionsHave42Lines}
pub use Rattle.sz_gen.specs.Lists.{separator}
pub use Rattle.sz_gen.specs.Session.{array_line, ask_line, await_line, flow_line, load_text}
pub use Rattle.sz_gen.specs.Session.{row_text, rows_text, start_line, strategy_lines, text_of_lines}
pub use Rattle.sz_gen.specs.Session.{triple, triples}
pub use Rattle.sz_gen.specs.Summary.{summary_line}
