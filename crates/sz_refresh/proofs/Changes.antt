-- What is changed of the sources of one node, and which cells that reaches.
--
-- The key idea: what the changed cells of the first inputs reach is a test of cells, which each further input makes
-- wider; after the last one it is the definition's. An image forward is such a test within the output's shape.
use Rattle.std.proofs.Common.{◌≡◌, ℕ, zero, suc, ◌+◌, ◌<◌, Bool, true, false, List, [], ◌∷◌, map, length, refl, sym}
use Rattle.std.proofs.Common.{ap, ap₂, ◌∙◌, arith, ◌&&◌, ◌||◌, ◌==◌, ltb-true, subst, eqb-true, get_or}
use Rattle.std.specs.List.{list_any, range_with_len}
use Rattle.std.proofs.Math.Bool.{or_assoc, or-false}
use Rattle.std.proofs.lemmas.Option.{slice_get-get_or}
use Rattle.sz_cells.specs.declared.Cell.{Cell}
use Rattle.sz_cells.specs.declared.Run.{Run}
use Rattle.sz_cells.specs.Rising.{AreRising}
use Rattle.sz_cells.specs.Runs.{Spells}
use Rattle.sz_cells.specs.Extent.{Extent, holds, size_of, cell_of}
use Rattle.sz_cells.specs.Cells.{Cells, cells_where, any_cell, has, no_cells, with_those}
use Rattle.sz_cells.proofs.Sets.{has-cells_where, cells_where-ext}
use Rattle.sz_cells.proofs.Rising.{filter-false}
use Rattle.sz_spec.specs.declared.op.Op.{Op}
use Rattle.sz_spec.specs.declared.flow.SourceRef.{SourceRef}
use Rattle.sz_spec.specs.declared.flow.SourceRef.TheVariants as source
use Rattle.sz_spec.specs.Values.{Grid, extent_at, extents_of}
use Rattle.sz_spec.specs.Lineage.{related, mapped, forward}
use Rattle.sz_spec.specs.Modes.{has_mapping}
use Rattle.sz_spec.specs.Flows.{is_source}
use Rattle.sz_spec.specs.Affected.{set_at, changed_of, changed_in}
use Rattle.sz_spec.proofs.PayloadLineage.{related-mapped}
use Rattle.sz_frame.proofs.Added.{with-ext, with-more, with-none, own-at}
use Rattle.sz_refresh.specs.Changes.{changed_from, is_before, is_changed, HaveShapes, reaches}
use Rattle.sz_refresh.proofs.Affected.{changed-base, any-either, mapped-set}

-- ---- sources

-- what is changed of a right source is what the definition says
pub changed-from_in : (inputs input n : ℕ) (changed : Cells) (sets : List Cells) (s : SourceRef)
    → is_source inputs n s ≡ true
    → changed_from input changed sets s ≡ changed_in (changed_of inputs input changed) sets s
changed-from_in inputs input n changed sets (source.Input b) right =
    sym (changed-base inputs input b changed (ltb-true b inputs right))
changed-from_in inputs input n changed sets (source.Node m) right = refl

-- a right source is no later node
pub source-before : (inputs n : ℕ) (s : SourceRef) → is_source inputs n s ≡ true → is_before n s ≡ true
source-before inputs n (source.Input b) right = refl
source-before inputs n (source.Node m) right = right

-- ---- one input

-- no cell of an empty set passes
none-passes : (test : Cell → Bool) (set : Cells) → set.indexes ≡ [] → any_cell test set ≡ false
none-passes test set none = ap (λ (ks : List ℕ). list_any (λ k. test (cell_of set.extent k)) ks) none

-- a cell of a set is reached by the old relation or by the new one
pub reaches-either : (op : Op) (old new : List Grid) (i : ℕ) (set : Cells) (o : Cell)
    → reaches op old new i set o
    ≡ (any_cell (λ x. related op old i o x) set || any_cell (λ x. related op new i o x) set)
reaches-either op old new i set o =
    any-either (λ k. related op old i o (cell_of set.extent k)) (λ k. related op new i o (cell_of set.extent k))
    set.indexes

-- what the image by a mapping adds
pub mapped-reaches : (op : Op) (ins : List Extent) (out : Extent) (old new : List Grid) (i : ℕ) (set to : Cells)
    → has_mapping op ≡ true → extents_of old ≡ ins → extents_of new ≡ ins → to.extent ≡ out
    → with_those to (has (forward (mapped op ins i) out set)) ≡ with_those to (reaches op old new i set)
mapped-reaches op ins out old new i set to known first second same =
    with-ext to (has (forward (mapped op ins i) out set)) (reaches op old new i set)
    (λ o held.
    let there : holds out o ≡ true = subst (λ (e : Extent). holds e o ≡ true) same held in
    has-cells_where out (λ c. any_cell (λ x. mapped op ins i c x) set) o there
    ∙ any-same-cells (λ x. mapped op ins i o x) (λ x. related op old i o x || related op new i o x) (λ x.
    sym (ap₂ (λ (a b : Bool). a || b)
    (related-mapped op old i o x known ∙ ap (λ (es : List Extent). mapped op es i o x) first)
    (related-mapped op new i o x known ∙ ap (λ (es : List Extent). mapped op es i o x) second)
    ∙ twice (mapped op ins i o x))) set.indexes) where
      twice : (b : Bool) → (b || b) ≡ b
      twice true = refl
      twice false = refl

      any-same-cells : (p q : Cell → Bool) → ((x : Cell) → p x ≡ q x) → (ks : List ℕ)
          → any_cell p (record { extent = set.extent; indexes = ks }) ≡ any_cell q (record {
            extent = set.extent;
            indexes = ks;
          })
      any-same-cells p q same_test [] = refl
      any-same-cells p q same_test (k ∷ ks) =
          ap₂ (λ (a b : Bool). a || b) (same_test _) (any-same-cells p q same_test ks)

-- what the images by the old relation and by the new one add
pub traced-reaches : (op : Op) (out : Extent) (old new : List Grid) (i : ℕ) (set to : Cells) → to.extent ≡ out
    → with_those (with_those to (has (forward (related op old i) out set))) (has (forward (related op new i) out set))
    ≡ with_those to (reaches op old new i set)
traced-reaches op out old new i set to same =
    with-more to (has (forward (related op old i) out set)) (has (forward (related op new i) out set))
    (reaches op old new i set)
    (λ o held.
    let there : holds out o ≡ true = subst (λ (e : Extent). holds e o ≡ true) same held in
    ap₂ (λ (a b : Bool). a || b) (has-cells_where out (λ c. any_cell (λ x. related op old i c x) set) o there)
    (has-cells_where out (λ c. any_cell (λ x. related op new i c x) set) o there)
    ∙ sym (reaches-either op old new i set o))

-- a set of no cell reaches none
pub none-reaches : (op : Op) (old new : List Grid) (i : ℕ) (set to : Cells) → set.indexes ≡ []
    → to ≡ cells_where to.extent (has to) → to ≡ with_those to (reaches op old new i set)
none-reaches op old new i set to none own =
    with-none to (reaches op old new i set) own
    (λ o held. none-passes (λ x. related op old i o x || related op new i o x) set none)

-- ---- one input after another

-- what the changed cells of the first n inputs reach
abbrev pub reached_by : Op → List Grid → List Grid → List Cells → ℕ → Cell → Bool
reached_by op old new changes n o =
    list_any (λ i. reaches op old new i (set_at changes i) o) (range_with_len 0 n)

-- a range with one number more
any-range_more : (p : ℕ → Bool) (a n j : ℕ) → a + n ≡ j
    → list_any p (range_with_len a (n + 1)) ≡ (list_any p (range_with_len a n) || p j)
any-range_more p a zero j at =
    let same : a ≡ j = omega arith in ap (λ (k : ℕ). p k || false) same ∙ or-false (p j)
any-range_more p a (suc n) j at =
    let more : suc n + 1 ≡ suc (n + 1) = omega arith in
    ap (λ m. list_any p (range_with_len a m)) more
    ∙ ap (λ b. p a || b) (any-range_more p (a + 1) n j (omega arith))
    ∙ sym (or_assoc (p a) (list_any p (range_with_len (a + 1) n)) (p j))

-- the next input
pub reached-next : (op : Op) (old new : List Grid) (changes : List Cells) (e : Extent) (n : ℕ) (so_far more : Cells)
    → so_far ≡ with_those (no_cells e) (reached_by op old new changes n)
    → more ≡ with_those so_far (reaches op old new n (set_at changes n))
    → more ≡ with_those (no_cells e) (reached_by op old new changes (n + 1))
reached-next op old new changes e n so_far more is added =
    added
    ∙ ap (λ (set : Cells). with_those set (reaches op old new n (set_at changes n))) is
    ∙ with-more (no_cells e) (reached_by op old new changes n) (reaches op old new n (set_at changes n))
    (reached_by op old new changes (n + 1))
    (λ o held. sym (any-range_more (λ i. reaches op old new i (set_at changes i) o) 0 n n (omega arith)))

-- one of which nothing is changed
pub reached-skip : (op : Op) (old new : List Grid) (changes : List Cells) (e : Extent) (n : ℕ) (so_far : Cells)
    → so_far ≡ with_those (no_cells e) (reached_by op old new changes n) → (set_at changes n).indexes ≡ []
    → so_far ≡ with_those (no_cells e) (reached_by op old new changes (n + 1))
reached-skip op old new changes e n so_far is none =
    is
    ∙ with-ext (no_cells e) (reached_by op old new changes n) (reached_by op old new changes (n + 1))
    (λ o held.
    sym (any-range_more (λ i. reaches op old new i (set_at changes i) o) 0 n n (omega arith)
    ∙ ap (λ b. reached_by op old new changes n o || b)
    (none-passes (λ x. related op old n o x || related op new n o x) (set_at changes n) none)
    ∙ or-false (reached_by op old new changes n o)))

-- what was added to no cell
pub with_those-none : (e : Extent) (test : Cell → Bool) → with_those (no_cells e) test ≡ cells_where e test
with_those-none e test = cells_where-ext e (λ c. has (no_cells e) c || test c) test
    (λ c held. ap (λ (b : Bool). (b && false) || test c) held)

-- no input yet
pub reached-none : (op : Op) (old new : List Grid) (changes : List Cells) (e : Extent)
    → no_cells e ≡ with_those (no_cells e) (reached_by op old new changes 0)
reached-none op old new changes e =
    sym (with_those-none e (λ o. false)
    ∙ ap (λ (ks : List ℕ). let set : Cells = record { extent = e; indexes = ks } in set)
    (filter-false (range_with_len 0 (size_of e))))

-- ---- sets as bitmaps

-- a set that is added to none
pub with-set : (e : Extent) (set : Cells) → set.extent ≡ e → AreRising 0 (size_of set.extent) set.indexes
    → with_those (no_cells e) (has set) ≡ set
with-set e set same rises = with_those-none e (has set) ∙ sym (own-at set e same rises)

-- runs that are none spell no cell
pub runs-none : (runs : List Run) (set : Cells) → Spells runs set → (length runs == 0) ≡ true → set.indexes ≡ []
runs-none [] set spelled none = sym spelled.spelled
runs-none (r ∷ runs) set spelled none = absurd (omega (arith, eqb-true (length (r ∷ runs)) 0 none))

-- the changed cells of the source at a place
place : (f : SourceRef → Cells) (from : List SourceRef) (n : ℕ) (d : SourceRef) → n < length from
    → set_at (map f from) n ≡ f (get_or from n d)
place f from n d inside = mapped-set f from n (get_or from n d) (slice_get-get_or from n d inside)

pub given-some : (f : SourceRef → Cells) (from : List SourceRef) (n : ℕ) (d : SourceRef) (set : Cells)
    → n < length from → set ≡ f (get_or from n d) → set ≡ set_at (map f from) n
given-some f from n d set inside is = is ∙ sym (place f from n d inside)

pub given-none : (f : SourceRef → Cells) (from : List SourceRef) (n : ℕ) (d : SourceRef) → n < length from
    → (f (get_or from n d)).indexes ≡ [] → (set_at (map f from) n).indexes ≡ []
given-none f from n d inside none = ap (λ (z : Cells). z.indexes) (place f from n d inside) ∙ none

pub given-shape : (input : ℕ) (changed : Cells) (sets : List Cells) (ins : List Extent) (from : List SourceRef) (n : ℕ)
    (d : SourceRef) (set : Cells) → HaveShapes input changed sets ins from → n < length from
    → is_changed input (get_or from n d) ≡ true → set ≡ changed_from input changed sets (get_or from n d)
    → set.extent ≡ extent_at ins n
given-shape input changed sets ins from n d set shapes inside named is =
    ap (λ (z : Cells). z.extent) is
    ∙ shapes n (get_or from n d) (slice_get-get_or from n d inside) named
