-- Each pair of the input lies within, and is added; the others are passed over.
use Rattle.std.proofs.Common.{◌≡◌, ◌||◌, List, refl, sym, ap, ◌∙◌, arith, take}
use Rattle.std.proofs.lemmas.List.{take_all}
use Rattle.std.specs.List.{list_any}
use Rattle.sz_core.specs.declared.pairs.Pair.{Pair}
use Rattle.sz_core.specs.Links.{leads, pair_leads}
use Rattle.sz_core.proofs.Groups.{or-false, pair-added, pair-passed}
use Rattle.sz_core.proofs.index.Index.add_pairs.Goals as goal
use Rattle.sz_core.proofs.index.Index.add_pairs.Goals.{then-pair-input+in_ok-add, else-pair-input}

-- the pair of noughts, for a place that is out of range
no_pair : Pair
no_pair = record { out = 0; input = 0; cell = 0 }

pub loop-pair-init : goal.loop-pair-init
loop-pair-init c = (refl, refl, λ k t. sym (or-false (leads c.args.self.now k t)))

pub add-requires : goal.add-requires
unfolding no_pair
add-requires c =
    let lies = c.requires c.loop-pair.pair-index no_pair c.loop-pair-test.true c.if-pair-input.true in
    record {
      near = rw (c.ends-near.ensures.near, c.loop-pair.invariant.1) lies.0;
      far = rw (c.ends-near.ensures.far, c.loop-pair.invariant.0) lies.1;
    }

pub loop-pair-preserved : goal.loop-pair-preserved
unfolding no_pair
loop-pair-preserved c = elim c.if-pair-input.branch [
  | then-pair-input+in_ok-add w ↦
      rw w.self-is (
        w.in_ok-add.ensures.to ∙ c.loop-pair.invariant.0,
        w.in_ok-add.ensures.count ∙ c.loop-pair.invariant.1,
        pair-added c.args.dir c.args.input c.args.pairs.now c.loop-pair.pair-index no_pair c.loop-pair.self
            w.add.new.self (leads c.args.self.now)
            w.ends-near.result.0 w.ends-near.result.1 c.loop-pair-test.true w.if-pair-input.true
            w.ends-near.ensures.near w.ends-near.ensures.far
            c.loop-pair.invariant.2 w.in_ok-add.ensures.ok,
      )
  | else-pair-input w ↦
      rw w.self-is (
        c.loop-pair.invariant.0,
        c.loop-pair.invariant.1,
        pair-passed c.args.dir c.args.input c.args.pairs.now c.loop-pair.pair-index no_pair c.loop-pair.self
            (leads c.args.self.now)
            c.loop-pair-test.true w.if-pair-input.false c.loop-pair.invariant.2,
      )
]

pub returns : goal.returns
returns c =
    let whole : take c.loop-pair.pair-index c.args.pairs.now ≡ c.args.pairs.now =
    take_all c.loop-pair.pair-index c.args.pairs.now (omega arith) in
    record {
      to = c.loop-pair.invariant.0;
      count = c.loop-pair.invariant.1;
      ok = λ k t. c.loop-pair.invariant.2 k t
          ∙ ap (λ (l : List Pair). leads c.args.self.now k t || list_any (pair_leads c.args.dir c.args.input k t)
          l) whole;
    }
