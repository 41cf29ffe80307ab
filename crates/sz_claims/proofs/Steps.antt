-- Each kind of step keeps the rule.
-- Key idea: the rule says that a word is the number of times its piece stands in all lists. A try adds one to both, or
-- to neither; a look, a split and a join move nothing in or out of all lists.
use Rattle.std.proofs.Common.{◌≡◌, ◌==◌, ◌<◌, ◌+◌, ℕ, List, set, length, sym, refl, ap, ◌∙◌}
use Rattle.std.proofs.Common.{subst, ⊎_elim, arith, length-set}
use Rattle.std.proofs.lemmas.List.{set-get_or}
use Rattle.std.proofs.lemmas.List.Sums.{sum_by_push}
use mathlib.Core.Option.{none, some}
use mathlib.Core.Logic.{dite}
use native.Mathlib.Decide.{ℕ_discrete}
use prog.Atomic.{either}
use lib.ListN.{get_elem?}
use Rattle.std.specs.Prelude.{slice_index}
use Rattle.atomic_table.specs.Table.{step, keeps, Allows, Valid, stepped, carried_after, Splits, Joins}
use Rattle.atomic_table.proofs.Lists.{at_set, at_snoc, set_else, exchanged}
use Rattle.sz_claims.specs.declared.rule.View.{View}
use Rattle.sz_claims.specs.Rule.{Table, Own, IsKept, IsTry, IsLook, times, empty_view, after_win, after_loss}
use Rattle.sz_claims.specs.Rule.{after_look, after_split, after_join}
use Rattle.sz_claims.proofs.Counts.{claims_with, meets_with, inside_at, part-le-sum_by, times-append, times-push}
use Rattle.sz_claims.proofs.Counts.{mark-other, word-win, bit-win}
use Rattle.sz_claims.proofs.Readings.{alone-has, claimed-is-one, met-is-one, one-seat-has-it-once}

-- two seats are not alone
two_inside : (l : List View) (i j : ℕ) (v w : View) → (i ≡ j → ⊥) → get_elem? l i ≡ some v
    → get_elem? l j ≡ some w → length l ≡ 1 → ⊥
two_inside l i j v w apart at there one =
    apart (omega (arith, one, (inside_at l i v at).0, (inside_at l j w there).0))

-- a seat that stays where it is, at its depth, and that was never split unless it is split still, leaves who is alone
alone_stays : (pieces id : ℕ) (v w : View) (s : Table) → IsKept pieces s → get_elem? s.views id ≡ some v
    → w.depth ≡ v.depth → (w.splits ≡ 0 → v.splits ≡ 0) → (j : ℕ) (u : View)
    → get_elem? (set s.views id w) j ≡ some u → u.depth ≡ 0 → u.splits ≡ 0
    → length (set s.views id w) ≡ 1
alone_stays pieces id v w s kept me depth splits j u at first never =
    length-set s.views id w
    ∙ ⊎_elim
    (λ here. kept.alone id v me
    (sym depth ∙ ap (λ (x : View). x.depth) here.1 ∙ first)
    (splits (ap (λ (x : View). x.splits) here.1 ∙ never)))
    (λ there. kept.alone j u there.1 first never)
    (at_set s.views id j w u at)

-- a win turns the word and adds the piece to one list
win : (pieces id piece : ℕ) (v : View) (s : Table) (carried : List (ℕ × Unit {0})) → piece < pieces
    → IsKept pieces s → get_elem? s.views id ≡ some v → slice_index s.words piece ≡ 0
    → IsKept pieces (stepped s piece 1 id carried (after_win piece v) keeps)
win pieces id piece v s carried small kept me free =
    let w : View = after_win piece v in
    let inside : piece < length s.words = omega (arith, small, kept.sized) in record {
      sized = length-set s.words piece 1 ∙ kept.sized;
      bit = λ k. bit-win s.words piece k inside (kept.bit k);
      held = λ k. omega (
        arith,
        kept.held k,
        word-win s.words piece k inside free,
        claims_with k s id v w me,
        times-push k v.claimed piece,
      );
      met = λ k there. omega (
        arith,
        there,
        kept.met k (omega (arith, there, meets_with k s id v w me)),
        word-win s.words piece k inside free,
        bit-win s.words piece k inside (kept.bit k),
      );
      alone = alone_stays pieces id v w s kept me refl (λ never. never);
    }

-- a piece that a seat met is claimed, by the count
met_count : (pieces id : ℕ) (v : View) (s : Table) → IsKept pieces s → get_elem? s.views id ≡ some v
    → (k : ℕ) → 0 < times k v.met → slice_index s.words k ≡ 1
met_count pieces id v s kept me k there =
    kept.met k (omega (arith, there, part-le-sum_by (λ x. times k x.met) s.views id v me))

-- the word is written as it was, and the seat's view becomes w, which has the same claimed pieces and has met no free
-- one
word_stays : (pieces id word : ℕ) (v w : View) (s : Table) (carried : List (ℕ × Unit {0})) → IsKept pieces s
    → get_elem? s.views id ≡ some v → w.claimed ≡ v.claimed → w.depth ≡ v.depth → w.splits ≡ v.splits
    → ((k : ℕ) → 0 < times k w.met → slice_index s.words k ≡ 1)
    → IsKept pieces (stepped s word (slice_index s.words word) id carried w keeps)
word_stays pieces id word v w s carried kept me claimed depth splits met =
    let with : List ℕ → Table = λ ws. record { words = ws; homes = s.homes; views = set s.views id w } in
    subst (λ (ws : List ℕ). IsKept pieces (with ws)) (sym (set-get_or s.words word 0)) record {
      sized = kept.sized;
      bit = kept.bit;
      held = λ k. omega (arith, kept.held k, claims_with k s id v w me, ap (times k) claimed);
      met = λ k there. dite (ℕ_discrete (times k w.met) 0)
          (λ no. kept.met k (omega (arith, no, there, meets_with k s id v w me)))
          (λ now. met k (omega (arith, now)));
      alone = alone_stays pieces id v w s kept me depth (λ never. sym splits ∙ never);
    }

-- a loss leaves the words and adds a claimed piece to those met
loss : (pieces id piece : ℕ) (v : View) (s : Table) (carried : List (ℕ × Unit {0})) → IsKept pieces s
    → get_elem? s.views id ≡ some v → slice_index s.words piece ≡ 1
    → IsKept pieces (stepped s piece (slice_index s.words piece) id carried (after_loss piece v) keeps)
loss pieces id piece v s carried kept me taken =
    word_stays pieces id piece v (after_loss piece v) s carried kept me refl refl refl (λ k there.
    dite (ℕ_discrete piece k)
    (λ same. subst (λ (x : ℕ). slice_index s.words x ≡ 1) same taken)
    (λ other.
    let less : 0 < times k v.met = omega (arith, there, times-push k v.met piece, mark-other piece k other) in
    met_count pieces id v s kept me k less))

-- a try keeps the rule and tells what it says, whatever word it finds
pub tries-keep : (pieces slots id piece : ℕ) (m : Own) → piece < pieces
    → Allows (IsKept pieces) slots id m piece (λ n. either (n == 0) 1 n) (IsTry (step slots piece 0 1 none) m)
tries-keep pieces slots id piece m small s kept wide me _ =
    let word : ℕ = slice_index s.words piece in
    let tells : ℕ → Own → Type 0 = IsTry (step slots piece 0 1 none) m in
    exchanged word 0 1
    (λ k. (w : View) × (a : _) × Valid s.homes m.1 a × IsKept pieces (stepped s piece k id m.1 w a)
    × tells word (w, carried_after m.1 a))
    (λ free. (
      after_win piece m.0,
      keeps,
      tt,
      win pieces id piece m.0 s m.1 small kept me free,
      record {
        exchange = (refl, refl);
        win = λ _. refl;
        anew = λ _. (
          (λ has. absurd (omega (arith, free, claimed-is-one kept id m.0 me piece has))),
          (λ has. absurd (omega (arith, free, met-is-one kept id m.0 me piece has))),
        );
        loss = λ no. absurd (no free);
        alone = λ _ _ _. free;
      },
    ))
    (λ held. let taken : word ≡ 1 = omega (arith, held, kept.bit piece) in (
      after_loss piece m.0,
      keeps,
      tt,
      loss pieces id piece m.0 s m.1 kept me taken,
      record {
        exchange = (refl, refl);
        win = λ free. absurd (held free);
        anew = λ free. absurd (held free);
        loss = λ _. (taken, refl);
        alone = λ first never lacks. absurd (lacks (alone-has kept id m.0 me first never piece taken));
      },
    ))

-- a look keeps the rule, and tells that the seat has each of its pieces once
pub looks-keep : (pieces slots id : ℕ) (m : Own)
    → Allows (IsKept pieces) slots id m 0 (λ n. n) (λ _ n. IsLook (step slots 0 0 0 none) m n)
looks-keep pieces slots id m s kept wide me _ = (
  after_look m.0,
  keeps,
  tt,
  word_stays pieces id 0 m.0 (after_look m.0) s m.1 kept me refl refl refl (met_count pieces id m.0 s kept me),
  record { load = (refl, refl); same = refl; once = one-seat-has-it-once kept id m.0 me },
)

-- a split keeps the rule: the seat's lists stay, the new one adds to no count, and neither is a first seat never split
pub splits-keep : (pieces id : ℕ) (v : View)
    → Splits (IsKept pieces) id v (after_split v) (empty_view (v.depth + 1))
splits-keep pieces id v s kept me =
    let w : View = after_split v in
    let new : View = empty_view (v.depth + 1) in
    let seats : List View = set s.views id w in record {
      sized = kept.sized;
      bit = kept.bit;
      held = λ k. let all = sum_by_push (λ x. times k x.claimed) seats new in
          omega (arith, kept.held k, claims_with k s id v w me, all);
      met = λ k there. let all = sum_by_push (λ x. times k x.met) seats new in
          kept.met k (omega (arith, there, meets_with k s id v w me, all));
      alone = λ j u at first never. absurd (⊎_elim
          (λ among. ⊎_elim
          (λ here. omega (arith, never, ap (λ (x : View). x.splits) here.1))
          (λ there. two_inside s.views j id u v there.0 there.1 me (kept.alone j u there.1 first never))
          (at_set s.views id j w u among))
          (λ last. omega (arith, first, ap (λ (x : View). x.depth) last))
          (at_snoc seats new u j at));
    }

-- a join keeps the rule: what the kept seat gains the spent one loses, and neither was alone
pub joins-keep : (pieces id : ℕ) (v : View) (other : ℕ) (w : View)
    → Joins (IsKept pieces) id v other w (after_join v w) (empty_view 1)
joins-keep pieces id v other w s kept me apart them =
    let both : View = after_join v w in
    let spent : View = empty_view 1 in
    let mid : Table = record { words = s.words; homes = s.homes; views = set s.views id both } in
    let there : get_elem? s.views other ≡ some w = sym (set_else s.views id other both apart) ∙ them in
    let not_alone : length s.views ≡ 1 → ⊥ = two_inside s.views other id w v apart there me in record {
      sized = kept.sized;
      bit = kept.bit;
      held = λ k. omega (
        arith,
        kept.held k,
        claims_with k s id v both me,
        claims_with k mid other w spent them,
        times-append k v.claimed w.claimed,
      );
      met = λ k there. kept.met k (omega (
        arith,
        there,
        meets_with k s id v both me,
        meets_with k mid other w spent them,
        times-append k v.met w.met,
      ));
      alone = λ j u at first never. absurd (⊎_elim
          (λ here. omega (arith, first, ap (λ (x : View). x.depth) here.1))
          (λ else. let one = alone_stays pieces id v both s kept me refl (λ sum. omega (arith, sum)) j u else.1 first
          never in
          not_alone (sym (length-set s.views id both) ∙ one))
          (at_set mid.views other j spent u at));
    }
