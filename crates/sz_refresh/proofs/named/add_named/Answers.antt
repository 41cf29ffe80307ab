-- Where an index fails, the range before it is added, and the next one starts behind it. Behind a gap none passes.
use Rattle.std.proofs.Common.{◌≡◌, ℕ, ◌+◌, ◌≤◌, Bool, ◌||◌, true, false, None, get_or, refl, sym, ap, ◌∙◌, arith}
use Rattle.std.proofs.Common.{max}
use Rattle.std.proofs.lemmas.Bool.{or_left}
use Rattle.std.proofs.lemmas.Bool.Decides.{nat_tests}
use Rattle.sz_cells.specs.Extent.{size_of}
use Rattle.sz_cells.specs.Cells.{with_those}
use Rattle.sz_frame.proofs.Added.{own-at}
use Rattle.sz_refresh.specs.Names.{has_named, is_named}
use Rattle.sz_refresh.proofs.Names.{is_below, below-none, below-more, below-skip, below-all, below-rest}
use Rattle.sz_refresh.proofs.Names.{one-more}
use Rattle.sz_refresh.proofs.named.add_named.Goals as goal
use Rattle.sz_refresh.proofs.named.add_named.Goals.{then-has_named, else-has_named}
use Rattle.sz_refresh.proofs.named.add_named.Goals.{then-is_named, else-is_named}

pub loop-index-init : goal.loop-index-init
loop-index-init c =
    let to = c.args.to.now in
    let test = is_named c.args.first c.args.old.now c.args.old_set.now c.args.new.now c.args.new_set.now in (
      c.size-size.ensures.value ∙ ap size_of c.shape.ensures.value,
      omega arith,
      λ k low high. absurd (omega (arith, low, high)),
      below-none to test c.args.from (own-at to to.extent refl c.shape.ensures.rising) c.requires.before,
      λ k low high. c.requires.before k high,
      λ j there.
          let last : c.max-idle.result ≡ max c.span_of-old_span.result.last c.span_of-new_span.result.last =
          c.max-idle.ensures in
          let ends = c.span_of-old_span.ensures.within j there in
          grind (arith, nat_tests, last, ends.1),
      λ j there.
          let last : c.max-idle.result ≡ max c.span_of-old_span.result.last c.span_of-new_span.result.last =
          c.max-idle.ensures in
          let ends = c.span_of-new_span.ensures.within j there in
          grind (arith, nat_tests, last, ends.1),
    )

pub returns-then-index-idle : goal.returns-then-index-idle
returns-then-index-idle c =
    let to = c.args.to.now in
    let test = is_named c.args.first c.args.old.now c.args.old_set.now c.args.new.now c.args.new_set.now in
    let inv = c.loop-index.invariant in
    let i = c.loop-index.index in
    below-more to c.loop-index.to c.add_between.new.to test c.loop-index.start i inv.1 inv.2 inv.3 c.add_between.ensures
    ∙ below-rest to test i
    (λ k low high.
    c.requires.gap c.loop-index.idle k inv.5 inv.6
    (λ j from upto. inv.4 j from (omega (arith, upto, c.if-idle-index.true, c.if-index-idle.true)))
    (omega (arith, low, c.if-idle-index.true, c.if-index-idle.true)) high)

pub loop-index-preserved : goal.loop-index-preserved
loop-index-preserved c =
    let to = c.args.to.now in
    let test = is_named c.args.first c.args.old.now c.args.old_set.now c.args.new.now c.args.new_set.now in
    let inv = c.loop-index.invariant in
    let i = c.loop-index.index in
    let a : Bool = has_named c.args.first (get_or c.args.old.now i None) c.args.old_set.now in
    let b : Bool = has_named c.args.first (get_or c.args.new.now i None) c.args.new_set.now in
    let told : c.if-has_named.is_named ≡ test i =
    elim c.if-has_named.branch [
      | then-has_named w ↦
          w.is_named-is
          ∙ w.if-has_named.true
          ∙ sym (or_left a b (sym c.has_named.ensures ∙ w.if-has_named.true))
      | else-has_named w ↦
          w.is_named-is
          ∙ w.has_named-is_named.ensures
          ∙ sym (ap (λ (p : Bool). p || b) (sym c.has_named.ensures ∙ w.if-has_named.false))
    ] in
    elim c.if-is_named.branch [
      | then-is_named w ↦
          let passes : test i ≡ true = sym told ∙ w.if-is_named.true in
          let more : w.max-idle-then-is_named.result ≡ max c.loop-index.idle (i + 1) =
          w.max-idle-then-is_named.ensures in
          let low : c.loop-index.idle ≤ c.if-is_named.idle = grind (arith, nat_tests, w.idle-is, more) in
          let past : i + 1 ≤ c.if-is_named.idle = grind (arith, nat_tests, w.idle-is, more) in (
            inv.0,
            omega (arith, w.start-is, inv.1),
            λ k from high.
                one-more test true c.loop-index.start i inv.2 passes k (omega (arith, from, w.start-is)) high,
            w.to-is
                ∙ inv.3
                ∙ ap (λ (n : ℕ). with_those to (is_below test n to.extent)) (sym w.start-is),
            λ k from high. absurd (omega (arith, from, high, past)),
            λ j there. omega (arith, inv.5 j there, low),
            λ j there. omega (arith, inv.6 j there, low),
          )
      | else-is_named w ↦
          let fails : test i ≡ false = sym told ∙ w.if-is_named.false in
          let added = below-more to c.loop-index.to w.add_between-else-is_named.new.to test c.loop-index.start i inv.1
          inv.2 inv.3 w.add_between-else-is_named.ensures in (
            inv.0,
            omega (arith, w.start-is),
            λ k low high. absurd (omega (arith, low, high, w.start-is)),
            w.to-is
                ∙ below-skip to w.add_between-else-is_named.new.to test i fails added
                ∙ ap (λ (n : ℕ). with_those to (is_below test n to.extent)) (sym w.start-is),
            λ k low high. one-more test false c.loop-index.idle i inv.4 fails k (omega (arith, low, w.idle-is)) high,
            λ j there. omega (arith, inv.5 j there, w.idle-is),
            λ j there. omega (arith, inv.6 j there, w.idle-is),
          )
    ]

pub returns : goal.returns
returns c =
    let to = c.args.to.now in
    let e = to.extent in
    let test = is_named c.args.first c.args.old.now c.args.old_set.now c.args.new.now c.args.new_set.now in
    let inv = c.loop-index.invariant in
    let end : c.loop-index.index ≡ c.size-size.result =
    omega (arith, c.loop-index-test.false, c.loop-index.auto.index-end, inv.0, c.requires.from) in
    let order : c.loop-index.start ≤ c.size-size.result = omega (arith, inv.1, end) in
    below-more to c.loop-index.to c.add_between-2.new.to test c.loop-index.start c.size-size.result order
    (λ k low high. inv.2 k low (omega (arith, high, end))) inv.3 c.add_between-2.ensures
    ∙ below-all to test c.size-size.result inv.0
