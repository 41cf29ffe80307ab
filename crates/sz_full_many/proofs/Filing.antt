-- Trees of a table's region pairs.
--
-- The key idea: a tree gets one rectangle a row, round the set of that row's region pair.
use Rattle.std.proofs.Common.{◌≡◌, ℕ, ◌+◌, ◌<◌, List, [], ◌∷◌, ◌++◌, length, get_or, take}
use Rattle.std.proofs.Common.{sym, ap, subst, ◌∙◌, inl, inr, arith, length-append}
use Rattle.std.proofs.lemmas.Bool.{cases_lt}
use Rattle.std.proofs.lemmas.List.{get_or_append_left, get_or_push, length-map, take_more, take_all}
use Rattle.sz_cells.specs.declared.Bounds.{Bounds}
use Rattle.sz_region.proofs.Numbering.{zip-append}
use Rattle.sz_rtree.specs.Rectangles.{Rectangles}
use Rattle.sz_spec.specs.declared.modes.Dir.{Dir}
use Rattle.sz_frame.specs.Parts.{Pairing}
use Rattle.sz_tables.specs.Rows.{RowTable, pairings, pairing_of}
use Rattle.sz_tables.specs.Scans.{near_set, pairing_at}
use Rattle.sz_tables.specs.Sets.{IsRound}
use Rattle.sz_tables.proofs.Scanned.{pairing-get}
use Rattle.sz_full_many.specs.Indexed.{AreRound}

-- one tree more
pub trees-push : (dir : Dir) (given : List Pairing) (trees : List Rectangles) (t : Rectangles)
    → ((i : ℕ) (d : Rectangles) → i < length trees → AreRound dir i given (get_or trees i d).rectangles)
    → AreRound dir (length trees) given t.rectangles → (i : ℕ) (d : Rectangles) → i < length (trees ++ t ∷ [])
    → AreRound dir i given (get_or (trees ++ t ∷ []) i d).rectangles
trees-push dir given trees t round new i d below =
    elim (cases_lt i (length trees)) [
      | inl before ↦ rw (get_or_append_left trees (t ∷ []) d i before) (round i d before)
      | inr behind ↦
          let here : i ≡ length trees = omega (arith, length-append trees (t ∷ [])) in
          rw (here, get_or_push trees t d (length trees) (omega arith)) new
    ]

-- one rectangle more
pub rows-push : (dir : Dir) (i n : ℕ) (t : RowTable) (rectangles : List Bounds) (b : Bounds) → n < length t.rows
    → AreRound dir i (take n (pairings t)) rectangles → IsRound b (near_set dir i (pairing_at t n))
    → AreRound dir i (take (n + 1) (pairings t)) (rectangles ++ b ∷ [])
rows-push dir i n t rectangles b inside round here =
    let given = pairings t in
    let r = pairing_at t n in
    let below : n < length given = omega (arith, length-map t.rows (pairing_of t.outs t.sets)) in
    let more : take (n + 1) given ≡ take n given ++ r ∷ [] =
    take_more given n r below ∙ ap (λ (x : Pairing). take n given ++ x ∷ []) (pairing-get t n r inside) in
    subst (λ (rs : List Pairing). AreRound dir i rs (rectangles ++ b ∷ [])) (sym more)
    (zip-append (λ (x : Pairing) (y : Bounds). IsRound y (near_set dir i x)) (take n given) (r ∷ []) rectangles (b ∷ [])
    round (here, tt))

-- all of them
pub rows-all : (dir : Dir) (i n : ℕ) (t : RowTable) (rectangles : List Bounds) → n ≡ length t.rows
    → AreRound dir i (take n (pairings t)) rectangles → AreRound dir i (pairings t) rectangles
rows-all dir i n t rectangles all round =
    subst (λ (rs : List Pairing). AreRound dir i rs rectangles)
    (take_all n (pairings t) (omega (arith, length-map t.rows (pairing_of t.outs t.sets)))) round
