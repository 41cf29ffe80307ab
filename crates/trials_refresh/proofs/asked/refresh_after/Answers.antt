-- Arrays that agree have the same shapes, and differ at most in the set.
use Rattle.std.proofs.Common.{List, map}
use Rattle.std.specs.Arc.{arc_value}
use Rattle.sz_spec.specs.Values.{Grid}
use Rattle.trials_refresh.proofs.Arrays.{agreed-shapes, agreed-differ}
use Rattle.trials_refresh.proofs.asked.refresh_after.Goals as goal

pub refresh-requires-clause-before : goal.refresh-requires-clause-before
refresh-requires-clause-before g c κs within =
    let before : List Grid = map (λ a. arc_value a) c.args.before.now in
    let base : List Grid = map (λ a. arc_value a) c.args.base.now in
    let agreed = c.are_agreed.ensures c.if-not-are_agreed.false in (
      before,
      record {
        run = c.requires.old;
        shapes = agreed-shapes c.args.input c.args.changed.now before base agreed;
        same = agreed-differ c.args.input c.args.changed.now before base agreed;
      },
    )
