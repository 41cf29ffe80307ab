-- What each kind of step changes, and what holds of a step of any kind.
-- Key idea: a step replaces one word and one view, so each law is read off the two places; of a step of any kind the
-- rule before and the rule after give two sums, which differ by that one view and that one word alone.
use Rattle.std.proofs.Common.{◌≡◌, ◌==◌, ◌+◌, ◌⊎◌, ℕ, List, set, sym, refl, ap, ◌∙◌, subst}
use Rattle.std.proofs.Common.{arith, inl, inr, get_or-set_same, get_or-set_other}
use Rattle.std.proofs.lemmas.List.{set-get_or}
use mathlib.Core.Option.{some}
use mathlib.Core.Logic.{dite}
use native.Mathlib.Decide.{ℕ_discrete}
use prog.Atomic.{either}
use lib.ListN.{get_elem?}
use Rattle.std.specs.Prelude.{slice_index}
use Rattle.atomic_table.specs.Table.{Act, stepped}
use Rattle.atomic_table.proofs.Lists.{set_here, set_else, exchanged}
use Rattle.sz_claims.specs.declared.rule.View.{View}
use Rattle.sz_claims.specs.Rule.{Table, Own, IsKept, IsTry, IsLook, times, times_claimed, empty_view, after_split}
use Rattle.sz_claims.specs.Rule.{after_join}
use Rattle.sz_claims.specs.Owners.{OneHas, WordsTell}
use Rattle.sz_claims.specs.Changes.{OneView, IsWin, IsLoss, KnowsNothing, WinsOrLoses, IsOnlyCounted, SplitsOff}
use Rattle.sz_claims.specs.Changes.{AddsBothUp, Keeps, NoneLosesFree, NoneWinsClaimed}
use Rattle.sz_claims.proofs.Counts.{claims_with, inside_at, times-push, mark-same}
use Rattle.sz_claims.proofs.Readings.{claimed-is-one, one-is-claimed, two-seats-are-disjoint, one-seat-has-it-once}
use Rattle.sz_claims.proofs.Readings.{met-is-one}

-- a step gives its own seat a view, and leaves each other
one-view : (word new id : ℕ) (v w : View) (s : Table) (carried : List (ℕ × Unit {0})) (a : Act (Unit {0}))
    → get_elem? s.views id ≡ some v → OneView id v w s (stepped s word new id carried w a)
one-view word new id v w s carried a me = record {
  before = me;
  after = set_here s.views id w (inside_at s.views id v me).0;
  others = λ other apart. set_else s.views id other w apart;
}

-- Where the word found is 0 the try is a win, else it is a loss
pub tries-win-or-lose : WinsOrLoses IsTry
tries-win-or-lose slots piece first second id m n s a inside me t =
    let word : ℕ = slice_index s.words piece in
    let after : ℕ → Table = λ k. stepped s piece k id m.1 n.0 a in
    let Changes : ℕ → Type 0 = λ k. IsWin piece id m.0 n.0 s (after k) ⊎ IsLoss piece id m.0 n.0 s (after k) in
    subst (λ x. Changes (either (word == x) second word)) (sym t.exchange.0)
    (subst (λ x. Changes (either (word == 0) x word)) (sym t.exchange.1)
    (exchanged word 0 1 Changes
    (λ free. let is = t.win free in inl record {
      free = free;
      taken = get_or-set_same s.words piece 1 0 inside;
      others = λ other apart. get_or-set_other s.words piece other 1 0 apart;
      seat = one-view piece 1 id m.0 n.0 s m.1 a me;
      claimed = ap (λ (o : Own). o.0.claimed) is;
      met = ap (λ (o : Own). o.0.met) is;
      found = ap (λ (o : Own). o.0.found) is;
      tries = ap (λ (o : Own). o.0.tries) is;
      looks = ap (λ (o : Own). o.0.looks) is;
      splits = ap (λ (o : Own). o.0.splits) is;
      depth = ap (λ (o : Own). o.0.depth) is;
    })
    (λ held. let is = t.loss held in inr record {
      taken = is.0;
      words = set-get_or s.words piece 0;
      seat = one-view piece word id m.0 n.0 s m.1 a me;
      claimed = ap (λ (o : Own). o.0.claimed) is.1;
      met = ap (λ (o : Own). o.0.met) is.1;
      found = ap (λ (o : Own). o.0.found) is.1;
      tries = ap (λ (o : Own). o.0.tries) is.1;
      looks = ap (λ (o : Own). o.0.looks) is.1;
      splits = ap (λ (o : Own). o.0.splits) is.1;
      depth = ap (λ (o : Own). o.0.depth) is.1;
    })))

-- a look is only counted
pub looks-only-count : IsOnlyCounted (λ st m _ n. IsLook st m n)
looks-only-count slots word id m n s a me t = record {
  words = set-get_or s.words word 0;
  seat = one-view word (slice_index s.words word) id m.0 n.0 s m.1 a me;
  claimed = ap (λ (o : Own). o.0.claimed) t.same;
  met = ap (λ (o : Own). o.0.met) t.same;
  found = ap (λ (o : Own). o.0.found) t.same;
  tries = ap (λ (o : Own). o.0.tries) t.same;
  looks = ap (λ (o : Own). o.0.looks) t.same;
  splits = ap (λ (o : Own). o.0.splits) t.same;
  depth = ap (λ (o : Own). o.0.depth) t.same;
}

knows-nothing : (depth : ℕ) → KnowsNothing depth (empty_view depth)
knows-nothing depth = record {
  claimed = refl;
  met = refl;
  found = refl;
  tries = refl;
  looks = refl;
  splits = refl;
  at = refl;
}

-- a split is counted, and adds a seat
pub splits-add-a-seat : SplitsOff after_split (λ v. empty_view (v.depth + 1))
splits-add-a-seat id v s me = record {
  words = refl;
  before = me;
  views = refl;
  claimed = refl;
  met = refl;
  found = refl;
  tries = refl;
  looks = refl;
  splits = refl;
  depth = refl;
  empty = knows-nothing _;
}

-- a join changes its two seats
pub joins-add-up : AddsBothUp after_join (empty_view 1)
joins-add-up id spent v u s apart me them =
    let w : View = after_join v u in
    let vs : List View = set s.views id w in
    let there : get_elem? vs spent ≡ some u = set_else s.views id spent w apart ∙ them in record {
      words = refl;
      kept_before = me;
      spent_before = them;
      kept_after = set_else vs spent id (empty_view 1) (λ same. apart (sym same))
          ∙ set_here s.views id w (inside_at s.views id v me).0;
      spent_after = set_here vs spent (empty_view 1) (inside_at vs spent u there).0;
      others = λ other not_kept not_spent.
          set_else vs spent other (empty_view 1) not_spent ∙ set_else s.views id other w not_kept;
      claimed = refl;
      met = refl;
      found = refl;
      tries = refl;
      looks = refl;
      splits = refl;
      depth = refl;
      empty = knows-nothing _;
    }

-- Over a step of any kind that keeps the rule, a piece's word changes by as much as the count of it in the seat's list
word-follows-list : {pieces id : ℕ} {v w : View} {s t : Table} → Keeps pieces id v w s t → (piece : ℕ)
    → slice_index t.words piece + times piece v.claimed ≡ slice_index s.words piece + times piece w.claimed
word-follows-list {id} {v} {w} {s} {t} k piece =
    let (word, new, carried, a, is) = k.step in
    let views : t.views ≡ set s.views id w = ap (λ (x : Table). x.views) is in
    let all = ap (times_claimed piece) views in
    omega (arith, k.before.held piece, k.after.held piece, all, claims_with piece s id v w k.seat)

-- what the seat has met after the step is claimed after it, and where no list of claimed pieces grew it was so before
pub none-loses-free : NoneLosesFree
none-loses-free pieces id v w s t k same piece has =
    let (word, new, carried, a, is) = k.step in
    let inside = (inside_at s.views id v k.seat).0 in
    let here : get_elem? t.views id ≡ some w =
    ap (λ (x : Table). get_elem? x.views id) is ∙ set_here s.views id w inside in
    let one = met-is-one k.after id w here piece has in
    omega (arith, one, word-follows-list k piece, ap (times piece) same)

-- a piece more in the seat's list is a word that rose, and no word is above 1
pub none-wins-claimed : NoneWinsClaimed
none-wins-claimed pieces id piece v w s t k more =
    let rises : slice_index t.words piece ≡ slice_index s.words piece + 1 = omega (
      arith,
      word-follows-list k piece,
      ap (times piece) more,
      times-push piece v.claimed piece,
      mark-same piece piece refl,
    ) in
    (omega (arith, rises, k.after.bit piece), omega (arith, rises, k.after.bit piece))

-- a word tells who claimed its piece
pub words-tell : (pieces : ℕ) (s : Table) → IsKept pieces s → WordsTell pieces s
words-tell pieces s kept =
    let if_one : (piece : ℕ) → OneHas piece s.views → slice_index s.words piece ≡ 1 =
    λ piece o. claimed-is-one kept o.id o.view o.at piece o.has in
    let one : (piece : ℕ) → slice_index s.words piece ≡ 1 → OneHas piece s.views = λ piece is.
    let t = one-is-claimed kept piece is in record {
      id = t.0;
      view = t.1;
      at = t.2;
      has = t.3;
      others = λ other w there also. dite (ℕ_discrete other t.0)
          (λ same. same)
          (λ apart. let two = two-seats-are-disjoint kept t.0 other t.1 w (λ e. apart (sym e)) t.2 there in
          absurd (two piece t.3 also));
    } in record {
      each = kept.sized;
      one = one;
      if_one = if_one;
      none = λ piece free id v at has. absurd (omega (arith, free, claimed-is-one kept id v at piece has));
      if_none = λ piece nobody. dite (ℕ_discrete (slice_index s.words piece) 0) (λ free. free)
          (λ held. let o = one piece (omega (arith, held, kept.bit piece)) in absurd (nobody o.id o.view o.at o.has));
      once = λ id v at. one-seat-has-it-once kept id v at;
      met = λ id v at piece has. met-is-one kept id v at piece has;
    }
