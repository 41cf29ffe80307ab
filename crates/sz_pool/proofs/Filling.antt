-- How a shelf is filled.
--
-- The key idea: each seal names the least piece that is missing, and the piece is placed then. So the next seal names a
-- later one. Of the pieces before it, those were made that the pass had not seen at first, and no others.
use Rattle.std.proofs.Common.{◌≡◌, ℕ, ◌+◌, ◌*◌, ◌-◌, ◌/◌, ◌^◌, ◌<◌, ◌≤◌, List, Bool, true, false, not, min, arith}
use Rattle.std.proofs.Common.{sym, refl, ap, ◌∙◌, subst, true≢false, inl, inr}
use Rattle.std.proofs.lemmas.Bool.{cases_lt}
use Rattle.sz_cells.specs.Extent.{Extent, size_of}
use Rattle.sz_spec.specs.Pieces.{pieces_of}
use Rattle.sz_frame.specs.Written.{cells_in_piece}
use Rattle.sz_shelf.specs.Rule.{Begins}
use Rattle.sz_shelf.specs.Answers.{seal_answer}
use Rattle.sz_shelf.specs.Passes.{Onlooker, TookTurn}
use Rattle.sz_shelf.specs.Places.{ShelfPlace}
use Rattle.sz_shelf.specs.Contents.{is_in, missing_in}
use Rattle.sz_pool.specs.Growing.{Grows}
use Rattle.sz_shelf.specs.Tags.{tag_pieces, Tag}
use Rattle.sz_pool.specs.Effort.{cells_of, left_over}
use Rattle.sz_shelf.specs.declared.answers.SealReply.{SealReply}
use Rattle.sz_shelf.specs.declared.answers.SealReply.TheVariants.{Sealed, Missing}
use Rattle.sz_pool.specs.Replies.{IsReplyOf}
use Rattle.sz_pool.specs.Making.{IsPlaced, IsRefused}
use Rattle.sz_pool.proofs.Cells.{cells-within}
use Rattle.sz_pool.proofs.Left.{passing, counted-next, counted-rises, counted-few, one-passes, missing-told, in-begins}
use Rattle.sz_pool.proofs.Following.{grows-then}
use Rattle.sz_pool.proofs.Turns.{grows-turn, reply-told}

-- the least piece that is missing, or the number of pieces
abbrev pub frontier : ℕ → SealReply → ℕ
frontier n Sealed = n
frontier n (Missing k) = k

-- the piece is not in the list
abbrev pub unseen : List ℕ → ℕ → Bool
unseen seen k = not (is_in seen k)

-- The pass grew, this is the last reply, and the tally rose by at most the cells of the pieces before the least that is
-- missing, of which the pass had not seen at first.
pub record IsFilling (out : Extent) (p q : Onlooker) (reply : SealReply) (t u : ℕ) : Type 0 where
  pub shape : out ≡ p.tag.site.out
  pub pass : Grows p q
  pub told : IsReplyOf q reply
  pub rises : t ≤ u
  pub most : u ≤ t + cells_of out (passing (unseen p.seen) (frontier (pieces_of out) reply))

same-tag : (p q : Onlooker) → Grows p q → q.tag ≡ p.tag
same-tag p q g = ap (λ (z : ShelfPlace). z.tag) g.place

-- what is known while piece k is the least that is missing
pub record IsNext (out : Extent) (p q : Onlooker) (k : ℕ) : Type 0 where
  pub inside : k < pieces_of out
  pub unseen : is_in p.seen k ≡ false
  pub below : (j : ℕ) → j < k → is_in q.seen j ≡ true

not-before : (xs ys : List ℕ) (k : ℕ) → Begins xs ys → is_in ys k ≡ false → is_in xs k ≡ false
not-before xs ys k b later = by_test (is_in xs k) refl where
  by_test : (t : Bool) → is_in xs k ≡ t → t ≡ false
  by_test false e = refl
  by_test true e = absurd (true≢false (sym (in-begins xs ys b.0 k b.1 e) ∙ later))

-- it is one of the output that the pass had not seen at first, and each before it is seen
pub next-of : (out : Extent) (p q : Onlooker) (k : ℕ) (t u : ℕ) → IsFilling out p q (Missing k) t u → IsNext out p q k
next-of out p q k t u f =
    let n-is : tag_pieces q.tag ≡ pieces_of out = ap tag_pieces (same-tag p q f.pass) ∙ ap pieces_of (sym f.shape) in
    let told = missing-told (tag_pieces q.tag) k q.seen f.told.1 in record {
      inside = subst (λ (n : ℕ). k < n) n-is told.0;
      unseen = not-before p.seen q.seen k f.pass.seen told.1;
      below = told.2;
    }

-- the tally with the piece
made-most : (out : Extent) (p q : Onlooker) (k : ℕ) (t u v : ℕ) → IsFilling out p q (Missing k) t u
    → v ≤ u + cells_in_piece out k → v ≤ t + cells_of out (passing (unseen p.seen) (k + 1))
made-most out p q k t u v f h =
    let next = next-of out p q k t u f in
    let counted = counted-next out (unseen p.seen) k in
    let one = one-passes out (unseen p.seen) k (ap not next.unseen) in
    let most = f.most in omega (arith, counted, one, h, most)

-- there is room for the cells of the piece
pub filling-room : (out : Extent) (p q : Onlooker) (k : ℕ) (t u : ℕ) → IsFilling out p q (Missing k) t u
    → t + size_of out < 2 ^ 63 → u + cells_in_piece out k < 2 ^ 63
filling-room out p q k t u f room =
    let next = next-of out p q k t u f in
    let few = counted-few out (unseen p.seen) k (let h = next.inside in omega arith) in
    cells-within (size_of out) k t u (cells_of out (passing (unseen p.seen) k)) next.inside few f.most room

-- the next reply names a later piece
later : (out : Extent) (p q r : Onlooker) (k : ℕ) (reply : SealReply) → IsNext out p q k → Grows p r
    → out ≡ p.tag.site.out → ((j : ℕ) → j < k + 1 → is_in r.seen j ≡ true) → IsReplyOf r reply
    → (k < frontier (pieces_of out) reply) × (frontier (pieces_of out) reply ≤ pieces_of out)
later out p q r k Sealed next g same below told = (next.inside, omega arith)
later out p q r k (Missing j) next g same below told =
    let n-is : tag_pieces r.tag ≡ pieces_of out = ap tag_pieces (same-tag p r g) ∙ ap pieces_of (sym same) in
    let least = missing-told (tag_pieces r.tag) j r.seen told.1 in
    let inside : j < pieces_of out = subst (λ (n : ℕ). j < n) n-is least.0 in (
      elim (cases_lt k j) [
        | inl less ↦ less
        | inr not_less ↦ absurd (true≢false (sym (below j (omega (arith, not_less))) ∙ least.1))
      ],
      omega (arith, inside),
    )

below-next : (xs ys : List ℕ) (k : ℕ) → Begins xs ys → ((j : ℕ) → j < k → is_in xs j ≡ true) → is_in ys k ≡ true
    → (j : ℕ) → j < k + 1 → is_in ys j ≡ true
below-next xs ys k b before here j h =
    elim (cases_lt j k) [
      | inl less ↦ in-begins xs ys b.0 j b.1 (before j less)
      | inr end ↦ let e : k ≡ j = omega (arith, h, end) in subst (λ (i : ℕ). is_in ys i ≡ true) e here
    ]

-- a piece was placed, and then there was a seal
pub record IsFurther (out : Extent) (p s : Onlooker) (k : ℕ) (reply : SealReply) (t v : ℕ) : Type 0 where
  pub filling : IsFilling out p s reply t v
  pub further : k < frontier (pieces_of out) reply
  pub within : frontier (pieces_of out) reply ≤ pieces_of out

-- the tally rose by its cells, and the next reply names a later one
pub filling-next : (out : Extent) (p q r s : Onlooker) (k : ℕ) (reply : SealReply) (t u v : ℕ)
    → IsFilling out p q (Missing k) t u → IsPlaced out k q r u v → Grows r s → IsReplyOf s reply
    → IsFurther out p s k reply t v
filling-next out p q r s k reply t u v f made sealed told =
    let next = next-of out p q k t u f in
    let g : Grows p s = grows-then p r s (grows-then p q r f.pass made.grows) sealed in
    let qs : Begins q.seen s.seen = (grows-then q r s made.grows sealed).seen in
    let here : is_in s.seen k ≡ true = in-begins r.seen s.seen sealed.seen.0 k sealed.seen.1 made.seen in
    let end = later out p q s k reply next g f.shape (below-next q.seen s.seen k qs next.below here) told in
    let ticks = made.ticks in
    let most = made-most out p q k t u v f (omega arith) in
    let rises = f.rises in record {
      filling = record {
        shape = f.shape;
        pass = g;
        told = told;
        rises = omega arith;
        most =
            let here = frontier (pieces_of out) reply in
            let up = counted-rises out (unseen p.seen) (k + 1) here (omega (arith, end.0)) in omega (arith, most, up);
      };
      further = end.0;
      within = end.1;
    }

-- the same, by what the seal tells
pub filling-turn : (out : Extent) (p q r s : Onlooker) (k : ℕ) (reply : SealReply) (t u v : ℕ)
    → IsFilling out p q (Missing k) t u → IsPlaced out k q r u v → TookTurn r s → s.kept ≡ r.kept
    → reply ≡ seal_answer (tag_pieces s.tag) s.found → s.seen ≡ s.found → (reply ≡ Sealed → s.saw ≡ true)
    → IsFurther out p s k reply t v
filling-turn out p q r s k reply t u v f made turn kept answer seen sealed =
    filling-next out p q r s k reply t u v f made (grows-turn r s turn kept)
    (reply-told r s reply turn answer seen sealed)

-- where the piece is refused, no more was counted than what was left over at first
pub left-most : (out : Extent) (p q : Onlooker) (k : ℕ) (t u v : ℕ) → IsFilling out p q (Missing k) t u
    → v ≤ u + cells_in_piece out k → v ≤ t + cells_of out (left_over p.tag p.seen)
left-most out p q k t u v f h =
    let next = next-of out p q k t u f in
    let most = made-most out p q k t u v f h in
    let up = counted-rises out (unseen p.seen) (k + 1) (pieces_of out) (let i = next.inside in omega arith) in
    subst (λ (e : Extent). v ≤ t + cells_of out (passing (unseen p.seen) (pieces_of e))) f.shape
    (omega (arith, most, up))
