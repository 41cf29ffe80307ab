-- Trees of rectangles beside a table of region pairs.
--
-- The key idea: rectangles are only added, one to each tree for each region pair, so those that were round their sets
-- stay so; and the room of a store is the least room of its parts.
use Rattle.std.proofs.Common.{◌≡◌, ℕ, zero, suc, ◌+◌, ◌-◌, ◌<◌, ◌≤◌, min, List, [], ◌∷◌, ◌++◌, length, map, get_or}
use Rattle.std.proofs.Common.{All, refl, sym, ap, subst, ◌∙◌, arith}
use Rattle.std.specs.List.{AllZip, concat}
use Rattle.std.proofs.lemmas.List.{length-map, get_or-map, same_lists}
use Rattle.std.proofs.lemmas.List.Elements.{All-head, All-tail}
use Rattle.std.proofs.lemmas.Slice.Zip.{all_zipped_more}
use Rattle.sz_cells.specs.declared.Bounds.{Bounds}
use Rattle.sz_cells.specs.Extent.{Extent}
use Rattle.sz_spec.specs.declared.modes.Dir.{Dir}
use Rattle.sz_spec.specs.declared.modes.Dir.TheVariants.{Back, Forward}
use Rattle.sz_spec.specs.declared.op.Op.{Op}
use Rattle.sz_spec.specs.declared.op.Op.TheVariants.{Add, Sub, Mul, Min, Max, Lookup}
use Rattle.sz_spec.specs.Shapes.{Site, arity}
use Rattle.sz_frame.specs.Parts.{Pairing}
use Rattle.sz_rtree.specs.Rectangles.{Rectangles}
use Rattle.sz_tables.specs.Rows.{RowTable, pairings}
use Rattle.sz_tables.specs.Stores.{IsPairOf}
use Rattle.sz_tables.specs.Scans.{near_set}
use Rattle.sz_tables.specs.Sets.{IsRound}
use Rattle.sz_full_many.specs.Indexed.{AreRound, HasNext, IsIndexed, room_in, trees_for, tree_for}
use Rattle.sz_full_many.specs.Indexed.{tree_capacities}

-- ---- inputs

-- an operator has at most two inputs
pub arity-few : (op : Op) → arity op ≤ 2
arity-few Add = omega arith
arity-few Sub = omega arith
arity-few Mul = omega arith
arity-few Min = omega arith
arity-few Max = omega arith
arity-few Lookup = omega arith
arity-few _ = omega arith

-- a region pair has a set for each input
pub pair-long : (s : Site) (r : Pairing) → IsPairOf s r → length r.ins ≡ length s.ins
pair-long s r pair = sym (length-map r.ins (λ x. x.extent)) ∙ ap length pair.ins

-- ---- room

pub room-rows : (rows : ℕ) (trees : List Rectangles) → room_in rows trees ≤ rows
room-rows rows [] = omega arith
room-rows rows (t ∷ trees) = let rest = room-rows rows trees in omega arith

pub room-tree : (rows : ℕ) (trees : List Rectangles) (k : ℕ) (d : Rectangles) → k < length trees
    → room_in rows trees ≤ (get_or trees k d).spare
room-tree rows [] k d inside = absurd (omega arith)
room-tree rows (t ∷ trees) zero d inside = omega arith
room-tree rows (t ∷ trees) (suc k) d inside =
    let rest = room-tree rows trees k d (omega arith) in
    omega arith

pub room-from : (n rows : ℕ) (trees : List Rectangles) → n ≤ rows → All (λ t. n ≤ t.spare) trees
    → n ≤ room_in rows trees
room-from n rows [] table each = table
room-from n rows (t ∷ trees) table each =
    let here = All-head (λ (x : Rectangles). n ≤ x.spare) t trees each in
    let rest = room-from n rows trees table (All-tail (λ (x : Rectangles). n ≤ x.spare) t trees each) in
    omega arith

pub room-none : (trees : List Rectangles) → room_in 0 trees ≡ 0
room-none trees = let least = room-rows 0 trees in omega arith

-- one place of each is taken
pub room-less : (dir : Dir) (r : Pairing) (rows left : ℕ) (trees new : List Rectangles) → rows ≤ left + 1
    → length new ≡ length trees
    → ((k : ℕ) (d : Rectangles) → k < length trees → HasNext dir k r (get_or trees k d) (get_or new k d))
    → room_in rows trees ≤ room_in left new + 1
room-less dir r rows left trees new fewer long next =
    let most = room-rows rows trees in
    let less = room-from (room_in rows trees - 1) left new (omega arith)
    (λ k d inside.
    let had = room-tree rows trees k d (omega arith) in
    let has = (next k d (omega arith)).spare in
    omega arith) in
    omega arith

-- ---- rectangles

-- where the rectangles and the region pairs stay
pub indexed-kept : (s : Site) (dir : Dir) (t kept : RowTable) (trees new : List Rectangles) → IsIndexed s dir t trees
    → kept.out ≡ t.out → kept.ins ≡ t.ins → pairings kept ≡ pairings t
    → map (λ x. x.rectangles) new ≡ map (λ x. x.rectangles) trees → IsIndexed s dir kept new
indexed-kept s dir t kept trees new ix out ins given same =
    let rectangles : Rectangles → List Bounds = λ x. x.rectangles in
    let long : length new ≡ length trees =
    sym (length-map new rectangles) ∙ ap length same ∙ length-map trees rectangles in
    record {
      out = out ∙ ix.out;
      ins = ins ∙ ix.ins;
      count = long ∙ ix.count;
      round = λ i d inside.
          let within : i < length trees = omega arith in
          let own : (get_or new i d).rectangles ≡ (get_or trees i d).rectangles =
          sym (get_or-map rectangles new i d [] inside)
          ∙ ap (λ (xs : List (List Bounds)). get_or xs i []) same
          ∙ get_or-map rectangles trees i d [] within in
          rw (given, own) (ix.round i d within);
    }

-- where each tree has one rectangle more, round the set of the region pair that is added
pub indexed-more : (s : Site) (dir : Dir) (t more : RowTable) (r : Pairing) (trees new : List Rectangles)
    → IsIndexed s dir t trees → more.out ≡ t.out → more.ins ≡ t.ins → pairings more ≡ pairings t ++ r ∷ []
    → length new ≡ length trees
    → ((k : ℕ) (d : Rectangles) → k < length trees → HasNext dir k r (get_or trees k d) (get_or new k d))
    → IsIndexed s dir more new
indexed-more s dir t more r trees new ix out ins given long next = record {
  out = out ∙ ix.out;
  ins = ins ∙ ix.ins;
  count = long ∙ ix.count;
  round = λ i d inside.
      let within : i < length trees = omega arith in
      let one = next i d within in
      let rectangles = one.rectangles in
      rw (given, rectangles)
      (all_zipped_more (λ x b. IsRound b (near_set dir i x)) (pairings t) (get_or trees i d).rectangles r one.bounds
      (ix.round i d within) one.round);
}

-- where each tree has taken no memory
pub trees-hold : (dir : Dir) (r : Pairing) (trees new : List Rectangles) → length new ≡ length trees
    → ((k : ℕ) (d : Rectangles) → k < length trees → HasNext dir k r (get_or trees k d) (get_or new k d))
    → tree_capacities new ≡ tree_capacities trees
trees-hold dir r trees new long next =
    let own : Rectangles → List ℕ = λ t. t.capacities in
    let none : Rectangles = record { rectangles = []; spare = 0; capacities = [] } in
    ap concat (same_lists (map own new) (map own trees)
    (length-map new own ∙ long ∙ sym (length-map trees own))
    (λ k d below.
    let inside : k < length trees = omega (arith, length-map new own) in
    get_or-map own new k none d (omega arith)
    ∙ (next k none inside).capacities
    ∙ sym (get_or-map own trees k none d inside)))

-- where there is no region pair, there is none to be round
pub indexed-none : (s : Site) (dir : Dir) (t : RowTable) (trees : List Rectangles) → t.out ≡ s.out → t.ins ≡ s.ins
    → pairings t ≡ [] → length trees ≡ trees_for dir (length s.ins) → All (λ x. x.rectangles ≡ []) trees
    → IsIndexed s dir t trees
indexed-none s dir t trees out ins none count empty = record {
  out = out;
  ins = ins;
  count = count;
  round = λ i d inside. let bare = empty i d inside in rw (none, bare) tt;
}

-- ---- the tree of a look

tree-inside : (dir : Dir) (i n : ℕ) → i < n → tree_for dir i < trees_for dir n
tree-inside Back i n inside = omega arith
tree-inside Forward i n inside = inside

tree-round : (dir : Dir) (i : ℕ) (given : List Pairing) (rectangles : List Bounds)
    → AreRound dir (tree_for dir i) given rectangles → AreRound dir i given rectangles
tree-round Back i given rectangles round = round
tree-round Forward i given rectangles round = round

-- there is one, and its rectangles are round the sets from which the look starts
pub tree-found : (s : Site) (dir look : Dir) (t : RowTable) (trees : List Rectangles) (i at : ℕ) (tree : Rectangles)
    → IsIndexed s dir t trees → look ≡ dir → i < length s.ins → at ≡ tree_for look i → tree ≡ get_or trees at tree
    → AreRound look i (pairings t) tree.rectangles
tree-found s dir look t trees i at tree ix same inside is read =
    let place : at ≡ tree_for dir i = is ∙ ap (λ (d : Dir). tree_for d i) same in
    let within : at < length trees = omega (arith, place, ix.count, tree-inside dir i (length s.ins) inside) in
    let round = ix.round at tree within in
    let own : (get_or trees at tree).rectangles ≡ tree.rectangles = ap (λ (x : Rectangles). x.rectangles) (sym read) in
    let here : AreRound dir (tree_for dir i) (pairings t) tree.rectangles =
    subst (λ (n : ℕ). AreRound dir n (pairings t) tree.rectangles) place
    (subst (λ (bs : List Bounds). AreRound dir at (pairings t) bs) own round) in
    subst (λ (d : Dir). AreRound d i (pairings t) tree.rectangles) (sym same)
    (tree-round dir i (pairings t) tree.rectangles here)
