-- What is kept is a shelf of the run, off whose pass one is split for each worker at the most.
use Rattle.std.proofs.Common.{false, sym, ap, ◌∙◌, subst, arith, ◌+◌, ℕ}
use Rattle.std.specs.Arc.{arc_value}
use Rattle.sz_claims.specs.Claims.{Claimant}
use Rattle.sz_flow.specs.Executions.{execution_of}
use Rattle.sz_shelf.specs.Passes.{Onlooker}
use Rattle.sz_versions.specs.Stores.{IsKeptOf, IsShelfFor, growing, keeping_of}
use Rattle.sz_versions.specs.Lending.{lent}
use Rattle.sz_versions.proofs.tasks.Hands.hand_out_node.Goals as goal

-- the same pass, with another number of splits
with : Onlooker → ℕ → Onlooker
with p n = record p { splits = n }

pub loop-init : goal.loop-init
loop-init g c = record {
  pass = (0, omega arith, ap (λ (n : ℕ). record c.in-Growing.pass { splits = n }) (omega arith));
  claimant = ap (λ (d : Claimant). d.table) c.in-Ok.ensures.pass;
}

pub hand_out_one-requires-clause-own : goal.hand_out_one-requires-clause-own
hand_out_one-requires-clause-own g c =
    let e = execution_of c.args.run.now in
    let own = subst (λ s. IsKeptOf false e c.args.list.now (keeping_of s)) c.in-Growing.is c.requires in
    subst (λ (p : Onlooker). IsShelfFor e c.args.list.now (arc_value c.in-Growing.shelf) p)
    (sym c.loop.invariant.pass.2) (record { own = own.2.own; tag = own.2.tag })

pub hand_out_one-requires-clause-claimant : goal.hand_out_one-requires-clause-claimant
hand_out_one-requires-clause-claimant g c = c.loop.invariant.claimant

pub loop-preserved : goal.loop-preserved
loop-preserved g c =
    let before = c.loop.invariant.pass in
    let more = c.hand_out_one.ensures.pass in
    let first = c.in-Growing.pass in record {
      pass = (
        before.0 + more.0,
        omega (arith, before.1, more.1),
        more.2 ∙ ap (λ (p : Onlooker). record p { splits = p.splits + more.0 }) before.2
            ∙ ap (λ (n : ℕ). record first { splits = n }) (omega arith),
      );
      claimant = c.hand_out_one.ensures.claimant ∙ c.loop.invariant.claimant;
    }

pub returns : goal.returns
returns g c =
    let before = c.loop.invariant.pass in (
      before.0,
      omega (arith, before.1),
      ap (growing (arc_value c.in-Growing.shelf)) before.2
          ∙ ap (lent before.0) (sym (ap (λ k. keeping_of k) c.in-Growing.is)),
    )
