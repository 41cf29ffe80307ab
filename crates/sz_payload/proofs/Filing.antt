-- Entries that are filed by the rests of their cells: what filing adds, and that each cell of an entry is met.
--
-- The key idea: a cell of an entry is an index of its set, so its number stands behind the files at the index's place.
use Rattle.std.proofs.Common.{◌≡◌, ◌≢◌, ℕ, zero, suc, ◌+◌, ◌-◌, ◌%◌, ◌<◌, ◌≤◌, ◌==◌, Bool, true, false, true≢false}
use Rattle.std.proofs.Common.{List, [], ◌∷◌, ◌++◌, length, take, get_or, All, Option, Some, None}
use Rattle.std.proofs.Common.{refl, sym, ap, subst, ◌∙◌, arith, inl, inr}
use Rattle.std.proofs.Common.{append-nil, append_assoc, length-append, eqb-true}
use Rattle.std.specs.List.{list_any, range_with_len, flat_map, HoldsAt}
use Rattle.std.proofs.lemmas.Bool.{cases_lt, or_cases}
use Rattle.std.proofs.lemmas.List.{get_or-append-add, length-map, get_or-map, map-append, take_more}
use Rattle.std.proofs.lemmas.List.Concat.{flat_map-append}
use Rattle.std.proofs.lemmas.List.Elements.{All-nil}
use Rattle.std.proofs.Math.ListN.{get_or-append}
use Rattle.sz_cells.specs.declared.Cell.{Cell}
use Rattle.sz_cells.specs.declared.Run.{Run}
use Rattle.sz_cells.specs.Extent.{Extent, size_of, cell_of}
use Rattle.sz_cells.specs.Cells.{Cells, has}
use Rattle.sz_cells.specs.Runs.{indexes_of}
use Rattle.sz_cells.proofs.Sets.{has-index}
use Rattle.sz_frame.specs.Parts.{Entry}
use Rattle.sz_tables.specs.Entries.{entry_at}
use Rattle.sz_tables.specs.Filed.{Filed, Files}
use Rattle.sz_tables.proofs.Chained.{entry-within}
use Rattle.sz_tables.proofs.Filing.{each-none, each-next, each-room, each-run}
use Rattle.sz_payload.specs.Owned.{AreFilesOf, IsFiledAt, rests, with_cells}
use Rattle.sz_payload.proofs.Owning.{entry-kept, entry-last, long-more}

-- ---- cells filed one after another

-- the entry of an index: a number under its rest
abbrev rest_of : ℕ → ℕ → ℕ → Filed
rest_of n = λ keys k. record { key = k % keys; item = n }

-- no cell more changes nothing
pub cells-none : (f : Files) (n : ℕ) → f ≡ with_cells f [] n
cells-none f n = each-none (rest_of n) f

-- one cell more
pub cells-next : (f so_far new : Files) (a n k item : ℕ) → so_far ≡ with_cells f (range_with_len a n) item
    → new ≡ with_cells so_far (k ∷ []) item → a + n ≡ k → new ≡ with_cells f (range_with_len a (n + 1)) item
cells-next f so_far new a n k item before more at = each-next (rest_of item) f so_far new a n k before more at

-- room is left while fewer cells are filed than there was room for
pub cells-room : (f so_far : Files) (ks : List ℕ) (item n : ℕ) → so_far ≡ with_cells f ks item
    → length ks + n ≤ f.spare → n ≤ so_far.spare
cells-room f so_far ks item n before room = each-room (rest_of item) f so_far ks n before room

-- one run more
pub cells-run : (f so_far new : Files) (runs : List Run) (i item : ℕ) (d : Run) → i < length runs
    → so_far ≡ with_cells f (flat_map indexes_of (take i runs)) item
    → new ≡ with_cells so_far (indexes_of (get_or runs i d)) item
    → new ≡ with_cells f (flat_map indexes_of (take (i + 1) runs)) item
cells-run f so_far new runs i item d inside before more =
    each-run (rest_of item) f so_far new runs i d inside before more

-- ---- one entry more

-- an index that is one of some stands at a place of them
placed : (ks : List ℕ) (k : ℕ) → list_any (λ x. x == k) ks ≡ true → (p : ℕ) × (p < length ks) × (get_or ks p 0 ≡ k)
placed [] k some = absurd (true≢false (sym some))
placed (x ∷ ks) k some =
    elim (or_cases (x == k) (list_any (λ y. y == k) ks) some) [
      | inl here ↦ (zero, omega arith, eqb-true x k here)
      | inr rest ↦ let at = placed ks k rest in (suc at.0, omega (arith, at.1), at.2)
    ]

all-join : {X : Type 0} (P Q : X → Type 0) (xs ys : List X) → All P xs → ((x : X) → P x → Q x) → All Q ys
    → All Q (xs ++ ys)
all-join P Q xs ys all onward more = λ n d below.
    elim (cases_lt n (length xs)) [
      | inl low ↦ rw (get_or-append xs ys d n low) (onward (get_or xs n d) (all n d low))
      | inr high ↦
          let at : length xs + (n - length xs) ≡ n = omega arith in
          subst (λ (k : ℕ). Q (get_or (xs ++ ys) k d)) at
          (rw (get_or-append-add xs ys (n - length xs) d) (more (n - length xs) d (omega (arith, length-append xs ys))))
    ]

pub files-more : (shape : Extent) (es : List Entry) (e : Entry) (set : Cells) (old new : Files) (row : ℕ)
    → set.extent ≡ shape → new ≡ with_cells old set.indexes row → e.out ≡ set → length es ≡ row
    → AreFilesOf shape es old → AreFilesOf shape (es ++ e ∷ []) new
files-more shape es e set old new row same is at count files =
    let more = rests old.keys set.indexes row in
    let f : ℕ → Filed = λ k. record { key = k % old.keys; item = row } in
    subst (AreFilesOf shape (es ++ e ∷ [])) (sym is) (record {
      keys = files.keys;
      items = all-join (λ (x : Filed). x.item < length es) (λ (x : Filed). x.item < length (es ++ e ∷ []))
          old.entries more
          files.items (λ x below. omega (arith, long-more es e))
          (λ n d below. rw (get_or-map f set.indexes n 0 d (omega (arith, length-map set.indexes f)))
          (omega (arith, long-more es e)));
      each = λ n k inside below there.
          elim (cases_lt n (length es)) [
            | inl low ↦
                let was = files.each n k low below
                (ap (λ (x : Entry). has x.out (cell_of shape k)) (sym (entry-kept es e n low)) ∙ there) in
                let within = entry-within old.entries was.0 (k % old.keys) (λ d. (was.1 d).0) in
                (was.0, λ d. rw (get_or-append old.entries more d was.0 within) (was.1 d))
            | inr high ↦
                let last : n ≡ length es = omega (arith, long-more es e) in
                let own : has set (cell_of shape k) ≡ true =
                ap (λ (s : Cells). has s (cell_of shape k)) (sym at)
                ∙ ap (λ (x : Entry). has x.out (cell_of shape k)) (sym (entry-last es e n last)) ∙ there in
                let place = placed set.indexes k (sym (has-index set shape k same below) ∙ own) in (
                  length old.entries + place.0,
                  λ d. rw (
                    get_or-append-add old.entries more place.0 d,
                    get_or-map f set.indexes place.0 0 d place.1,
                    place.2,
                  ) (refl, sym count ∙ sym last),
                )
          ];
    })

-- ---- entries of a table

-- one run more, whatever the room
pub rests-run : (keys : ℕ) (front now before : List Filed) (runs : List Run) (i n : ℕ) (d : Run) → i < length runs
    → before ≡ front ++ rests keys (flat_map indexes_of (take i runs)) n
    → now ≡ before ++ rests keys (indexes_of (get_or runs i d)) n
    → now ≡ front ++ rests keys (flat_map indexes_of (take (i + 1) runs)) n
rests-run keys front now before runs i n d inside so_far more =
    let first = flat_map indexes_of (take i runs) in
    let here = indexes_of (get_or runs i d) in
    let all : flat_map indexes_of (take (i + 1) runs) ≡ first ++ here =
    rw (take_more runs i d inside, flat_map-append indexes_of (take i runs) (get_or runs i d ∷ []))
    (ap (λ (ks : List ℕ). first ++ ks) (append-nil here)) in
    more
    ∙ ap (λ (fs : List Filed). fs ++ rests keys here n) so_far
    ∙ append_assoc front (rests keys first n) (rests keys here n)
    ∙ ap (λ (fs : List Filed). front ++ fs) (sym (map-append (λ (k : ℕ). rest_of n keys k) first here))
    ∙ ap (λ (ks : List ℕ). front ++ rests keys ks n) (sym all)

-- nothing is filed of no entry
pub files-none : (shape : Extent) (f : Files) → 0 < f.keys → f.entries ≡ [] → AreFilesOf shape [] f
files-none shape f keys none = record {
  keys = keys;
  items = rw none (All-nil (λ (x : Filed). x.item < 0));
  each = λ n k inside below there. absurd (omega (arith, inside));
}

-- one entry more, whatever the room
pub files-next : (shape : Extent) (es : List Entry) (e : Entry) (old new : Files) (row : ℕ) → e.out.extent ≡ shape
    → new.keys ≡ old.keys → new.entries ≡ old.entries ++ rests old.keys e.out.indexes row → length es ≡ row
    → AreFilesOf shape es old → AreFilesOf shape (es ++ e ∷ []) new
files-next shape es e old new row same keys filed count files =
    let other = with_cells old e.out.indexes row in
    let was = files-more shape es e e.out old other row same refl refl count files in
    record {
      keys = omega (arith, keys, was.keys);
      items = rw filed was.items;
      each = λ n k inside below there.
          let at = was.each n k inside below there in
          (at.0, λ d. rw (filed, keys) (at.1 d));
    }
