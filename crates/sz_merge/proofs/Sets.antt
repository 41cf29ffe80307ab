-- Lineages made by tests: one region pair more is one test more.
--
-- The key idea: of each input a lineage has the set of the cells that pass a test, so what is true of two tests cell by
-- cell is true of two lineages.
use Rattle.std.proofs.Common.{◌≡◌, ℕ, zero, suc, ◌+◌, ◌<◌, ◌≤◌, Bool, true, false, ◌||◌, ◌==◌}
use Rattle.std.proofs.Common.{◌++◌, take, drop, Some, List, [], ◌∷◌, map, length, get_or, refl, sym, ap, ap₂, subst}
use Rattle.std.proofs.Common.{◌∙◌, arith}
use Rattle.std.proofs.Common.{length-append, eqb-true, inl, inr, ◌⊎◌}
use Rattle.std.specs.List.{range_with_len, list_all, All, slice_get}
use Rattle.std.proofs.lemmas.Bool.{and_parts, cases_lt}
use Rattle.std.proofs.lemmas.List.{get_or-map, length-map, same_lists, get_or_default}
use Rattle.std.proofs.lemmas.List.{map-append, take_more, append-nil}
use Rattle.std.proofs.lemmas.Grind.{flat_map-append}
use Rattle.std.proofs.lemmas.List.Elements.{All-head, All-tail}
use Rattle.std.specs.Option.{option_map}
use Rattle.std.proofs.lemmas.List.FromFn.{get_or-map-range_with_len, length-map-range_with_len, map-range_with_len_more}
use Rattle.std.proofs.lemmas.Option.{unwrap_or-slice_get, slice_get-map, slice_get_within, slice_get-get_or}
use Rattle.std.proofs.lemmas.Option.{same_Some}
use Rattle.sz_cells.specs.declared.Cell.{Cell}
use Rattle.sz_cells.specs.Extent.{Extent, holds, size_of, is_extent}
use Rattle.sz_cells.specs.Cells.{Cells, cells_where, has, union_of, no_cells}
use Rattle.sz_cells.proofs.Sets.{cells_where-ext, has-cells_where}
use Rattle.sz_cells.proofs.Rising.{filter-false}
use Rattle.sz_spec.specs.Values.{extent_at, no_extent}
use Rattle.sz_tables.specs.Rows.{set_at}
use Rattle.sz_cells.specs.SetBytes.{IsSetOf, set_bytes}
use Rattle.sz_cells.proofs.LawsOfSets.{bytes-one}
use Rattle.sz_tables.specs.Tables.{AreDifferent, HasAtMostOneMore}
use Rattle.sz_merge.specs.Lineages.{sets_where, nothing, joined, is_nothing, spelling}
use Rattle.sz_merge.specs.Spelled.{AreSetsOver, AreSpelled}

pub or-false : (b : Bool) → (b || false) ≡ b
or-false true = refl
or-false false = refl

pub map-range_ext : {X : Type 0} (f g : ℕ → X) (n a : ℕ) → ((i : ℕ) → a ≤ i → i < a + n → f i ≡ g i)
    → map f (range_with_len a n) ≡ map g (range_with_len a n)
map-range_ext f g zero a same = refl
map-range_ext {X} f g (suc n) a same =
    ap₂ (λ (x : X) (xs : List X). x ∷ xs) (same a (omega arith) (omega arith))
    (map-range_ext f g n (a + 1) (λ i low high. same i (omega arith) (omega arith)))

-- tests that agree on each cell make one lineage
pub sets_where-ext : (ins : List Extent) (p q : ℕ → Cell → Bool) → ((i : ℕ) (x : Cell) → p i x ≡ q i x)
    → sets_where ins p ≡ sets_where ins q
sets_where-ext ins p q same =
    map-range_ext (λ i. cells_where (extent_at ins i) (p i)) (λ i. cells_where (extent_at ins i) (q i)) (length ins) 0
    (λ i low high. cells_where-ext (extent_at ins i) (p i) (q i) (λ x held. same i x))

pub where-length : (ins : List Extent) (p : ℕ → Cell → Bool) → length (sets_where ins p) ≡ length ins
where-length ins p = length-map-range_with_len (λ i. cells_where (extent_at ins i) (p i)) 0 (length ins)

-- the set of an input
pub set-where : (ins : List Extent) (p : ℕ → Cell → Bool) (i : ℕ) → i < length ins
    → set_at (sets_where ins p) i ≡ cells_where (extent_at ins i) (p i)
set-where ins p i inside =
    unwrap_or-slice_get (sets_where ins p) i (no_cells no_extent)
    ∙ get_or-map-range_with_len (λ k. cells_where (extent_at ins k) (p k)) 0 (length ins) i i
    (no_cells no_extent) inside
    (omega arith)

pub has-where : (ins : List Extent) (p : ℕ → Cell → Bool) (i : ℕ) (x : Cell) → i < length ins
    → holds (extent_at ins i) x ≡ true → has (set_at (sets_where ins p) i) x ≡ p i x
has-where ins p i x inside held =
    ap (λ (s : Cells). has s x) (set-where ins p i inside) ∙ has-cells_where (extent_at ins i) (p i) x held

-- a lineage joined with sets has the cells of both
pub joined-where : (ins : List Extent) (p : ℕ → Cell → Bool) (sets : List Cells)
    → joined (sets_where ins p) sets ≡ sets_where ins (λ i x. p i x || has (set_at sets i) x)
joined-where ins p sets =
    ap (λ (n : ℕ). map (λ i. union_of (set_at (sets_where ins p) i) (set_at sets i)) (range_with_len 0 n))
    (where-length ins p)
    ∙ map-range_ext (λ i. union_of (set_at (sets_where ins p) i) (set_at sets i))
    (λ i. cells_where (extent_at ins i) (λ x. p i x || has (set_at sets i) x)) (length ins) 0
    (λ i low high.
    ap (λ (s : Cells). union_of s (set_at sets i)) (set-where ins p i (omega arith))
    ∙ cells_where-ext (extent_at ins i) (λ x. has (cells_where (extent_at ins i) (p i)) x || has (set_at sets i) x)
    (λ x. p i x || has (set_at sets i) x)
    (λ x held. ap (λ b. b || has (set_at sets i) x) (has-cells_where (extent_at ins i) (p i) x held)))

-- ---- nothing

nil-of : {X : Type 0} (xs : List X) → length xs ≡ 0 → xs ≡ []
nil-of [] none = refl
nil-of (x ∷ xs) none = absurd (omega (arith, none))

cases-at : (a i : ℕ) → a ≤ i → (a ≡ i) ⊎ (a + 1 ≤ i)
cases-at a i low =
    elim (cases_lt a i) [ inl less ↦ inr (omega arith) | inr not ↦ inl (omega arith) ]

all-range : {X : Type 0} (p : X → Bool) (f : ℕ → X) (n a : ℕ) → list_all p (map f (range_with_len a n)) ≡ true
    → (i : ℕ) → a ≤ i → i < a + n → p (f i) ≡ true
all-range p f zero a all i low high = absurd (omega arith)
all-range p f (suc n) a all i low high =
    let both = and_parts (p (f a)) (list_all p (map f (range_with_len (a + 1) n))) all in
    elim (cases-at a i low) [
      | inl here ↦ subst (λ (k : ℕ). p (f k) ≡ true) here both.0
      | inr later ↦ all-range p f n (a + 1) both.1 i later (omega arith)
    ]

-- a lineage of no cell is that of nothing
empty-where : (e : Extent) (p : Cell → Bool) → (length (cells_where e p).indexes == 0) ≡ true
    → cells_where e p ≡ cells_where e (λ x. false)
empty-where e p none =
    let make : List ℕ → Cells = λ xs. record { extent = e; indexes = xs } in
    ap make (nil-of (cells_where e p).indexes (eqb-true (length (cells_where e p).indexes) 0 none) ∙ sym
    (filter-false (range_with_len 0 (size_of e))))

pub nothing-where : (ins : List Extent) (p : ℕ → Cell → Bool) → is_nothing (sets_where ins p) ≡ true
    → sets_where ins p ≡ nothing ins
nothing-where ins p none =
    map-range_ext (λ i. cells_where (extent_at ins i) (p i)) (λ i. cells_where (extent_at ins i) (λ x. false))
    (length ins) 0
    (λ i low high. empty-where (extent_at ins i) (p i)
    (all-range (λ (s : Cells). length s.indexes == 0) (λ k. cells_where (extent_at ins k) (p k))
    (length ins) 0 none i low
    high))

-- the sets have the inputs' shapes
pub extents-where : (ins : List Extent) (p : ℕ → Cell → Bool) → map (λ s. s.extent) (sets_where ins p) ≡ ins
extents-where ins p =
    same_lists (map (λ (s : Cells). s.extent) (sets_where ins p)) ins
    (length-map (sets_where ins p) (λ (s : Cells). s.extent) ∙ where-length ins p)
    (λ i d inside.
    let within : i < length ins = omega (
      arith,
      length-map (sets_where ins p) (λ (s : Cells). s.extent),
      where-length ins p,
      inside,
    ) in
    let there : i < length (sets_where ins p) = omega (arith, where-length ins p, within) in
    get_or-map (λ (s : Cells). s.extent) (sets_where ins p) i (no_cells no_extent) d there
    ∙ ap (λ (s : Cells). s.extent)
    (get_or-map-range_with_len (λ k. cells_where (extent_at ins k) (p k)) 0 (length ins) i i
    (no_cells no_extent) within (omega arith))
    ∙ (unwrap_or-slice_get ins i no_extent ∙ get_or_default ins i no_extent d within))

-- the shape of the set of an input
pub extent-of : (sets : List Cells) (ins : List Extent) (i : ℕ) → map (λ s. s.extent) sets ≡ ins → i < length ins
    → (set_at sets i).extent ≡ extent_at ins i
extent-of sets ins i shape inside =
    let there : i < length sets = omega (arith, length-map sets (λ (s : Cells). s.extent), ap length shape, inside) in
    ap (λ (s : Cells). s.extent) (unwrap_or-slice_get sets i (no_cells no_extent))
    ∙ sym (get_or-map (λ (s : Cells). s.extent) sets i (no_cells no_extent) no_extent there)
    ∙ ap (λ (es : List Extent). get_or es i no_extent) shape
    ∙ sym (unwrap_or-slice_get ins i no_extent)

-- sets of the same shapes have the same shape at a place
pub extent-both : (a b : List Cells) (i : ℕ) → map (λ s. s.extent) b ≡ map (λ s. s.extent) a → i < length a
    → (set_at b i).extent ≡ (set_at a i).extent
extent-both a b i same inside =
    let es = map (λ (s : Cells). s.extent) a in
    let within : i < length es = omega (arith, length-map a (λ (s : Cells). s.extent), inside) in
    extent-of b es i same within ∙ sym (extent-of a es i refl within)

-- a join has the shapes of the first
pub joined-extents : (a b : List Cells) → map (λ s. s.extent) (joined a b) ≡ map (λ s. s.extent) a
joined-extents a b =
    let f : ℕ → Cells = λ i. union_of (set_at a i) (set_at b i) in
    let long : length (joined a b) ≡ length a = length-map-range_with_len f 0 (length a) in
    same_lists (map (λ (s : Cells). s.extent) (joined a b)) (map (λ (s : Cells). s.extent) a)
    (length-map (joined a b) (λ (s : Cells). s.extent) ∙ long ∙ sym (length-map a (λ (s : Cells). s.extent)))
    (λ i d inside.
    let within : i < length a = omega (arith, length-map (joined a b) (λ (s : Cells). s.extent), long, inside) in
    let there : i < length (joined a b) = omega (arith, long, within) in
    get_or-map (λ (s : Cells). s.extent) (joined a b) i (no_cells no_extent) d there
    ∙ ap (λ (s : Cells). s.extent)
    (get_or-map-range_with_len f 0 (length a) i i (no_cells no_extent) within (omega arith))
    ∙ ap (λ (s : Cells). s.extent) (unwrap_or-slice_get a i (no_cells no_extent))
    ∙ sym (get_or-map (λ (s : Cells). s.extent) a i (no_cells no_extent) d within))

-- one more of what is made of each number of a range
pub push-range : {A X : Type 0} (v : A → X) (f : ℕ → X) (xs new : List A) (x : A) (n : ℕ)
    → map v xs ≡ map f (range_with_len 0 n) → new ≡ xs ++ x ∷ [] → v x ≡ f n
    → map v new ≡ map f (range_with_len 0 (n + 1))
push-range {A} {X} v f xs new x n was more is =
    ap (map v) more ∙ map-append v xs (x ∷ [])
    ∙ ap₂ (λ (a b : List X). a ++ b) was (ap (λ (y : X). y ∷ []) is)
    ∙ sym (map-range_with_len_more f 0 n n (omega arith))

-- the shape that is read at a place
pub extent-read : (ins : List Extent) (i : ℕ) (e : Extent) → i < length ins → e ≡ get_or ins i e → e ≡ extent_at ins i
extent-read ins i e inside read =
    read ∙ get_or_default ins i e no_extent inside ∙ sym (unwrap_or-slice_get ins i no_extent)

-- ---- words

-- the word of one set more
pub spelling-more : (xs : List Cells) (i : ℕ) (x : Cells) → i < length xs → get_or xs i x ≡ x
    → spelling (take (i + 1) xs) ≡ spelling (take i xs) ++ set_bytes x
spelling-more xs i x inside here =
    ap spelling (take_more xs i x inside ∙ ap (λ (y : Cells). take i xs ++ y ∷ []) here)
    ∙ flat_map-append set_bytes (take i xs) (x ∷ [])
    ∙ ap (λ (b : List ℕ). spelling (take i xs) ++ b) (append-nil (set_bytes x))

-- lineages differ where their words do
pub lists-different : (lists : List (List Cells)) (words : List (List ℕ)) → words ≡ map spelling lists
    → AreDifferent words → AreDifferent lists
lists-different lists words spelled different m n x at too =
    let word : (k : ℕ) → slice_get lists k ≡ Some x → slice_get words k ≡ Some (spelling x) =
    λ k here.
    ap (λ (w : List (List ℕ)). slice_get w k) spelled
    ∙ (slice_get-map spelling lists k ∙ ap (option_map spelling) here) in
    different m n (spelling x) (word m at) (word n too)

first-extent : (e : Extent) (ins : List Extent) (x : Cells) (a : List Cells)
    → map (λ s. s.extent) (x ∷ a) ≡ e ∷ ins → (x.extent ≡ e) × (map (λ s. s.extent) a ≡ ins)
first-extent e ins x a same =
    (ap (λ (es : List Extent). get_or es 0 e) same, ap (λ (es : List Extent). drop 1 es) same)

-- lineages over the same inputs with one word are one
pub spelling-one : (ins : List Extent) (a b : List Cells) → All (λ e. is_extent e ≡ true) ins → AreSetsOver ins a
    → AreSetsOver ins b → spelling a ≡ spelling b → a ≡ b
spelling-one [] [] [] right is_a is_b same = refl
spelling-one [] (x ∷ a) b right is_a is_b same = absurd (omega (arith, ap length is_a.extents))
spelling-one [] [] (y ∷ b) right is_a is_b same = absurd (omega (arith, ap length is_b.extents))
spelling-one (e ∷ ins) [] b right is_a is_b same = absurd (omega (arith, ap length is_a.extents))
spelling-one (e ∷ ins) (x ∷ a) [] right is_a is_b same = absurd (omega (arith, ap length is_b.extents))
spelling-one (e ∷ ins) (x ∷ a) (y ∷ b) right is_a is_b same =
    let of_x = first-extent e ins x a is_a.extents in
    let of_y = first-extent e ins y b is_b.extents in
    let set_x : IsSetOf e x = subst (λ (f : Extent). IsSetOf f x) of_x.0
    (All-head (λ (s : Cells). IsSetOf s.extent s) x a is_a.right) in
    let set_y : IsSetOf e y = subst (λ (f : Extent). IsSetOf f y) of_y.0
    (All-head (λ (s : Cells). IsSetOf s.extent s) y b is_b.right) in
    let one = bytes-one e x y (spelling a) (spelling b)
    (All-head (λ (f : Extent). is_extent f ≡ true) e ins right) set_x
    set_y same in
    let rest = spelling-one ins a b (All-tail (λ (f : Extent). is_extent f ≡ true) e ins right)
    (record { extents = of_x.1; right = All-tail (λ (s : Cells). IsSetOf s.extent s) x a is_a.right })
    (record { extents = of_y.1; right = All-tail (λ (s : Cells). IsSetOf s.extent s) y b is_b.right }) one.1 in
    ap₂ (λ (s : Cells) (ss : List Cells). s ∷ ss) one.0 rest

-- a word that is there, where none was added, is that of an equal lineage
pub same-lineage : (ins : List Extent) (lists : List (List Cells)) (words old new : List (List ℕ)) (n : ℕ)
    (word : List ℕ) (sets : List Cells) → AreSpelled ins lists words → old ≡ words → HasAtMostOneMore old new word
    → length new ≤ length lists → slice_get new n ≡ Some word → word ≡ spelling sets → AreSetsOver ins sets
    → slice_get lists n ≡ Some sets
same-lineage ins lists words old new n word sets are was (inl same) short number is over =
    let at : slice_get (map spelling lists) n ≡ Some word =
    ap (λ (w : List (List ℕ)). slice_get w n) (sym (same ∙ was ∙ are.spelled)) ∙ number in
    let inside : n < length lists =
    omega (arith, slice_get_within (map spelling lists) n word at, length-map lists spelling) in
    let l = get_or lists n [] in
    let here = slice_get-get_or lists n [] inside in
    let own : word ≡ spelling l =
    same_Some word (spelling l) (sym at ∙ (slice_get-map spelling lists n ∙ ap (option_map spelling) here)) in
    here ∙ ap Some (spelling-one ins l sets are.shapes (are.each n [] inside) over (sym own ∙ is))
same-lineage ins lists words old new n word sets are was (inr more) short number is over =
    absurd (omega (
      arith,
      ap length more,
      length-append old (word ∷ []),
      ap length (was ∙ are.spelled),
      length-map lists spelling,
      short,
    ))
