-- Lineages of all pieces that fit stand for the relation.
--
-- The key idea: each output cell is in one piece. What another piece has is of no cell of that piece, so whatever is
-- looked
-- for of the cell among all pieces is found where it is found in its own.
use Rattle.std.proofs.Common.{inl, inr, true≢false, ◌≡◌, ℕ, ◌/◌, ◌<◌, ◌==◌, Bool, true, false}
use Rattle.std.proofs.Common.{◌&&◌, ◌||◌, List, [], ◌∷◌, refl, sym, ap, ap₂, ◌∙◌, arith}
use Rattle.std.proofs.Common.{eqb-true, eq-eqb}
use Rattle.std.specs.Prelude.{if◌then◌else◌}
use Rattle.std.specs.List.{All, flat_map, list_any, range_with_len}
use Rattle.std.proofs.lemmas.Bool.{cases_Bool, and_parts, and_from}
use Rattle.std.proofs.lemmas.List.Elements.{All-head, All-tail}
use Rattle.std.proofs.lemmas.List.Folds.{list_any-append}
use Rattle.sz_cells.specs.declared.Cell.{Cell}
use Rattle.sz_cells.specs.Extent.{Extent, holds, index_of}
use Rattle.sz_cells.specs.Cells.{has}
use Rattle.sz_cells.proofs.Sets.{index-below, any-filter_range_at}
use Rattle.sz_spec.specs.Pieces.{pieces_of, is_in_piece}
use Rattle.sz_frame.specs.Stands.{set_of}
use Rattle.sz_frame.specs.Fits.{IsRegion, IsEntry}
use Rattle.sz_frame.specs.Laws.{RegionsOfAllPiecesAreTheRelation}
use Rattle.sz_frame.specs.Laws.{PayloadsOfAllPiecesAreTheRelation}
use Rattle.sz_frame.specs.Laws.{OverridesOfAllPiecesAreTheRelation}
use Rattle.sz_frame.proofs.Added.{any-filter, any-range_ext}

-- what is found among lists one after the other
any-flat_map : {X : Type 0} (p : X → Bool) (part : ℕ → List X) (ks : List ℕ)
    → list_any p (flat_map part ks) ≡ list_any (λ k. list_any p (part k)) ks
any-flat_map p part [] = refl
any-flat_map p part (k ∷ ks) =
    list_any-append p (part k) (flat_map part ks) ∙ ap (λ b. list_any p (part k) || b) (any-flat_map p part ks)

-- where a test of numbers fails at all others, some number passes exactly where that one does
any-one : (test : ℕ → Bool) (n k : ℕ) → k < n → ((j : ℕ) → j < n → (j == k) ≡ false → test j ≡
    false)
    → list_any test (range_with_len 0 n) ≡ test k
any-one test n k inside others =
    any-range_ext test (λ j. test j && (j == k)) 0 n
    (λ j low high.
    elim (cases_Bool (j == k)) [
      | inl t ↦ rw t (elim (cases_Bool (test j)) [ inl passes ↦ rw passes refl | inr fails ↦ rw fails refl ])
      | inr f ↦ rw (others j (omega arith) f) refl
    ])
    ∙ sym (any-filter test (λ j. j == k) (range_with_len 0 n))
    ∙ any-filter_range_at test k n inside

-- the piece of a cell
own-piece : (e : Extent) (o : Cell) → holds e o ≡ true → (index_of e o / 64 < pieces_of e) × (is_in_piece e
    (index_of e o / 64) o ≡ true)
own-piece e o held =
    let below = index-below e o held in (
      omega arith,
      and_from (holds e o) (index_of e o / 64 == index_of e o / 64) held (eq-eqb (index_of e o / 64)
          (index_of e o / 64) refl),
    )

-- what is inside another piece has not the cell
not-inside : (e : Extent) (j : ℕ) (o : Cell) (there : Bool) → (j == index_of e o / 64) ≡ false
    → (there ≡ true → is_in_piece e j o ≡ true) → there ≡ false
not-inside e j o false other inside = refl
not-inside e j o true other inside =
    let both = and_parts (holds e o) (index_of e o / 64 == j) (inside refl) in
    let same : j ≡ index_of e o / 64 = sym (eqb-true (index_of e o / 64) j both.1) in
    absurd (true≢false (sym (eq-eqb j (index_of e o / 64) same) ∙ other))

-- what is looked for of the cell among what another piece has
none-there : {X : Type 0} (e : Extent) (j : ℕ) (o : Cell) (P : X → Type 0) (p : X → Bool) (xs : List X)
    → (j == index_of e o / 64) ≡ false → ((x : X) → P x → p x ≡ true → is_in_piece e j o ≡ true)
    → All P xs
    → list_any p xs ≡ false
none-there e j o P p [] other inside all = refl
none-there e j o P p (x ∷ xs) other inside all =
    let out = not-inside e j o (p x) other (inside x (All-head P x xs all)) in
    rw out (none-there e j o P p xs other inside (All-tail P x xs all))

-- so among what all pieces have, it is looked for in its own
any-in_own : {X : Type 0} (e : Extent) (o : Cell) (P : ℕ → X → Type 0) (p : X → Bool) (of : ℕ → List X)
    → holds e o ≡ true → ((j : ℕ) (x : X) → P j x → p x ≡ true → is_in_piece e j o ≡ true)
    → ((j : ℕ) → j < pieces_of e → All (P j) (of j))
    → list_any p (flat_map of (range_with_len 0 (pieces_of e))) ≡ list_any p (of (index_of e o / 64))
any-in_own e o P p of held inside each =
    any-flat_map p of (range_with_len 0 (pieces_of e))
    ∙ any-one (λ j. list_any p (of j)) (pieces_of e) (index_of e o / 64) (own-piece e o held).0
    (λ j below other. none-there e j o (P j) p (of j) other (inside j) (each j below))

-- and what stands there of those with the cell stands among all
stands-in_all : {X : Type 0} (e : Extent) (o : Cell) (P : ℕ → X → Type 0) (here rest : X → Bool) (of : ℕ → List X)
    (found : Bool)
    → holds e o ≡ true → ((j : ℕ) (x : X) → P j x → here x ≡ true → is_in_piece e j o ≡ true)
    → ((j : ℕ) → j < pieces_of e → All (P j) (of j))
    → ((k : ℕ) → k < pieces_of e → is_in_piece e k o ≡ true → list_any (λ x. here x && rest x) (of k) ≡ found)
    → list_any (λ x. here x && rest x) (flat_map of (range_with_len 0 (pieces_of e))) ≡ found
stands-in_all e o P here rest of found held inside each stands =
    let own = own-piece e o held in
    any-in_own e o P (λ x. here x && rest x) of held
    (λ j x is both. inside j x is (and_parts (here x) (rest x) both).0) each
    ∙ stands (index_of e o / 64) own.0 own.1

-- region pairs
pub regions-all : RegionsOfAllPiecesAreTheRelation
regions-all m list parts fits need i o x few held there =
    stands-in_all m.out o (IsRegion m) (λ r. has r.out o) (λ r. has (set_of r i) x) (λ j. (parts j).regions) _ held
    (λ j r is. is.out.inside o) (λ j below. ((fits j below).full need).each)
    (λ k below own. ((fits k below).full need).stands i o x few own there)

-- payload entries
pub pays-all : PayloadsOfAllPiecesAreTheRelation
pays-all m list parts fits need i o x few held there =
    stands-in_all m.out o (IsEntry m) (λ e. has e.out o) (λ e. m.kept e.payload i o x) (λ j. (parts j).pays) _ held
    (λ j e is. is.out.inside o) (λ j below. ((fits j below).pay need).each)
    (λ k below own. ((fits k below).pay need).stands i o x few own there)

-- composite entries
pub comps-all : OverridesOfAllPiecesAreTheRelation
comps-all m list parts fits need i o x few held there =
    let k = index_of m.out o / 64 in
    let own = own-piece m.out o held in
    let each : (j : ℕ) → j < pieces_of m.out → All (IsEntry m j) (parts j).comps =
    λ j below. ((fits j below).comp need).each in
    let stood = any-in_own m.out o (IsEntry m) (λ e. has e.out o && m.kept e.payload i o x) (λ j. (parts j).comps) held
    (λ j e is both. is.out.inside o (and_parts (has e.out o) (m.kept e.payload i o x) both).0) each in
    let had = any-in_own m.out o (IsEntry m) (λ e. has e.out o) (λ j. (parts j).comps) held
    (λ j e is there. is.out.inside o there) each in
    ap₂ (λ (b c : Bool). if b then c else m.default i o x) had stood
    ∙ ((fits k own.0).comp need).stands i o x few own.1 there
