-- What one turn of a worker tells: a piece that was placed is seen, and the reply of a seal is what the pass has seen.
use Rattle.std.proofs.Common.{◌≡◌, ℕ, ◌+◌, ◌<◌, ◌≤◌, List, [], ◌∷◌, ◌++◌, arith, Option, Some, None}
use Rattle.std.proofs.Common.{Bool, true, false, sym, refl, ap, ◌∙◌, subst, true≢false}
use Rattle.std.specs.Prelude.{if◌then◌else◌, Result, Ok, Err}
use Rattle.sz_cells.specs.declared.NoMemory.{NoMemory}
use Rattle.std.specs.Option.{option_map_or}
use Rattle.sz_shelf.specs.Passes.{Onlooker, place_of, TookTurn}
use Rattle.sz_shelf.specs.Places.{ShelfPlace}
use Rattle.sz_shelf.specs.Contents.{is_in, missing_in}
use Rattle.sz_pool.specs.Growing.{Grows}
use Rattle.sz_shelf.specs.Tags.{tag_pieces}
use Rattle.sz_shelf.specs.declared.answers.Placed.{Placed}
use Rattle.sz_shelf.specs.declared.answers.SealReply.{SealReply}
use Rattle.sz_shelf.specs.declared.answers.SealReply.TheVariants.{Sealed, Missing}
use Rattle.sz_shelf.specs.Answers.{place_answer, seal_answer}
use Rattle.sz_pool.specs.Replies.{IsReplyOf}
use Rattle.sz_shelf.proofs.Marks.{each-placed}
use Rattle.sz_shelf.specs.declared.answers.Placed.TheVariants.{New, Already}
use Rattle.sz_pool.proofs.Left.{in-last}

-- a turn lets the pass grow
pub grows-turn : (p q : Onlooker) → TookTurn p q → q.kept ≡ p.kept → Grows p q
grows-turn p q turn kept = record {
  place = turn.place;
  seen = turn.begins;
  saw = λ h. turn.saw (turn.sealed h);
  kept = kept;
  turns = let e = turn.turns in omega arith;
  loads = let e = turn.loads in omega arith;
  splits = turn.splits;
}

-- ---- a place

-- what a place told
abbrev pub told-by : Result Placed NoMemory → Placed
told-by (Ok placed) = placed
told-by (Err _) = New

-- Whatever a place told, the piece is seen: it is new and was put behind the others, or it was there, or there was a
-- seal, and then every piece is.
pub seen-placed : (n k : ℕ) (told : Placed) (found seen : List ℕ) (found_sealed saw : Bool)
    → told ≡ place_answer k found found_sealed → (told ≡ New → seen ≡ found ++ k ∷ [])
    → (¬ (told ≡ New) → seen ≡ found) → saw ≡ found_sealed → (saw ≡ true → missing_in n seen ≡ None) → k < n
    → is_in seen k ≡ true
seen-placed n k told found seen true saw is new other seal whole inside =
    each-placed n seen (whole seal) k inside
seen-placed n k told found seen false saw is new other seal whole inside =
    by_test (is_in found k) refl is where
      by_test : (b : Bool) → is_in found k ≡ b → told ≡ (if b then Already else New) → is_in seen k ≡ true
      by_test true here e =
          ap (λ (l : List ℕ). is_in l k) (other (λ n. already-new (sym e ∙ n))) ∙ here where
            already-new : Already ≡ New → ⊥
            already-new x = absurd (cc)
      by_test false here e = ap (λ (l : List ℕ). is_in l k) (new e) ∙ in-last found k

-- ---- a seal

missing-of : (k : ℕ) (o : Option ℕ) → Missing k ≡ option_map_or Missing o Sealed → o ≡ Some k
missing-of k None e = absurd (cc)
missing-of k (Some j) e = let same : k ≡ j = cc in ap (λ (i : ℕ). Some i) (sym same)

unsaw : (b : Bool) (k : ℕ) (o : Option ℕ) → o ≡ Some k → (b ≡ true → o ≡ None) → b ≡ false
unsaw false k o is none = refl
unsaw true k o is none = let e = none refl in absurd (cc)

-- a seal's reply is what the pass has seen by then
pub reply-told : (p q : Onlooker) (r : SealReply) → TookTurn p q → r ≡ seal_answer (tag_pieces q.tag) q.found
    → q.seen ≡ q.found → (r ≡ Sealed → q.saw ≡ true) → IsReplyOf q r
reply-told p q Sealed turn answer seen sealed = sealed refl
reply-told p q (Missing k) turn answer seen sealed =
    let n = tag_pieces q.tag in
    let told : missing_in n q.seen ≡ Some k =
    ap (missing_in n) seen ∙ missing-of k (missing_in n q.found) answer in
    let whole : q.saw ≡ true → missing_in n q.seen ≡ None =
    λ h. ap (λ (z : ShelfPlace). missing_in (tag_pieces z.tag) q.seen) turn.place ∙ turn.whole h in
    (unsaw q.saw k (missing_in n q.seen) told whole, told)
