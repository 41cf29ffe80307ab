-- One name more, held or not.
use Rattle.std.proofs.Common.{◌++◌, List, [], ap, sym, ◌∙◌}
use Rattle.std.specs.List.{cons_option}
use Rattle.sz_catalogue.specs.Holdings.{Base}
use Rattle.sz_catalogue.specs.Starts.{base_of}
use Rattle.sz_catalogue.proofs.Bases.{named-more}
use Rattle.sz_catalogue.proofs.catalogue.Catalogue.arrays_named.Goals as goal

pub loop-only-preserved : goal.loop-only-preserved
loop-only-preserved c =
    c.in_ok-push_named.ensures
    ∙ ap (λ (bs : List Base). bs ++ cons_option (base_of c.args.self.now c.only-item.result) []) c.loop-only.invariant
    ∙ sym (named-more c.args.self.now c.args.base.now c.loop-only.only-index c.only-item.result
    c.loop-only-test.true c.only-item.is)
