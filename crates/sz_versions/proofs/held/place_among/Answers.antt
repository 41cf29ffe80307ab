-- Those before the place have other numbers.
use Rattle.std.proofs.Common.{◌≡◌, ◌+◌, suc, take, length, None, ℕ, sym, ◌∙◌, subst, arith, refl}
use Rattle.std.specs.Prelude.{find}
use Rattle.std.proofs.lemmas.Option.{slice_get_read}
use Rattle.sz_versions.proofs.Residents.{has_number}
use Rattle.sz_versions.proofs.Stays.{none-more, found-at, is-equal, is-unequal}
use Rattle.sz_versions.proofs.held.place_among.Goals as goal

pub returns-then-number-version-clause-some : goal.returns-then-number-version-clause-some
returns-then-number-version-clause-some c =
    let rs = c.args.runs.now in
    let r = c.index-runs-at.result in (
      r,
      slice_get_read rs (length rs) c.loop-at.at r refl c.loop-at-test.true c.index-runs-at.is,
      found-at (has_number c.args.version) rs c.loop-at.at r c.loop-at.invariant.none c.loop-at-test.true
          c.index-runs-at.is (is-equal _ _ (sym c.number.ensures ∙ c.if-number-version.true)),
    )

pub loop-at-preserved : goal.loop-at-preserved
loop-at-preserved c =
    let test = has_number c.args.version in
    let next : suc c.loop-at.at ≡ c.loop-at.at + 1 = omega arith in
    record {
      end = refl;
      none = subst (λ (n : ℕ). find test (take n c.args.runs.now) ≡ None) next
          (none-more test c.args.runs.now c.loop-at.at c.index-runs-at.result c.loop-at.invariant.none
          c.loop-at-test.true c.index-runs-at.is
          (is-unequal _ _ (λ h. c.if-number-version.false (c.number.ensures ∙ h))));
    }
