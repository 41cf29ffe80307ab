-- What a trace writes into an empty bitmap is its image.
use Rattle.std.proofs.Common.{map, sym, ap₂, Global}
use Rattle.std.specs.Arc.{arc_value}
use Rattle.std.specs.declared.sync.Arc.{Arc}
use Rattle.sz_spec.specs.Values.{Grid}
use Rattle.sz_query.specs.Views.{by_trace}
use Rattle.sz_query.proofs.Images.{written}
use Rattle.sz_query.proofs.views.NodeRunRef.trace_into.Goals as goal

pub returns-clause-to : goal.returns-clause-to
returns-clause-to c =
    let run = c.args.self.now in
    let arrays = map (λ (a : Arc Grid Global). arc_value a) c.as_slice-arrays.result.now in
    written c.args.dir (by_trace (arc_value run.at) run.inputs) (by_trace c.deref.result.now arrays) c.args.input
    c.args.from.now c.args.to.now c.trace.new.to (ap₂ by_trace (sym c.deref.ensures) (sym c.as_slice-arrays.ensures))
    c.requires.to c.in_ok-trace.ensures.to
