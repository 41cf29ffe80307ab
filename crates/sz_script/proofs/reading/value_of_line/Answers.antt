-- A line is JSON where it is UTF-8 and reads as a value.
use Rattle.std.proofs.lemmas.Bool.{false≢true}
use Rattle.sz_script.proofs.Lines.{is_json, no_json}
use Rattle.sz_script.proofs.reading.value_of_line.Goals as goal

pub returns-in-Ok-clause-ok : goal.returns-in-Ok-clause-ok
returns-in-Ok-clause-ok c = is_json c.args.line.now _ c.in-Ok.ensures.ok.0 c.in-Ok.ensures.ok.1

pub returns-else-is_memory-clause-json : goal.returns-else-is_memory-clause-json
returns-else-is_memory-clause-json c _ =
    no_json c.args.line.now (c.in-Err.ensures.err (λ m. false≢true (c.if-is_memory.ensures.1 m)))
