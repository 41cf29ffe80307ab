-- Nodes one after another, and behind what was there.
--
-- The key idea: each node is told of whatever bytes follow it, so the nodes before a number and the next one stand in
-- the same bytes, and join where the first end.
use Rattle.std.proofs.Common.{◌≡◌, ℕ, zero, suc, ◌+◌, ◌<◌, List, [], ◌∷◌, ◌++◌, length, take, drop, refl, sym, ap, ap₂}
use Rattle.std.proofs.Common.{subst, ◌∙◌, arith, append_assoc, length-append, Some, None, true, false}
use Rattle.std.proofs.Common.{true≢false, Option, get_or}
use Rattle.std.specs.List.{All, slice_get}
use Rattle.std.proofs.Math.Seq.{drop-append_seam, take-suc}
use Rattle.std.proofs.lemmas.List.Elements.{All-push}
use Rattle.sz_spec.specs.declared.modes.Strategy.{Strategy}
use Rattle.sz_spec.specs.Shapes.{Site}
use Rattle.sz_spec.specs.Modes.{is_stored}
use Rattle.sz_region.specs.Counted.{IsAt}
use Rattle.sz_store.specs.Kept.{NodeLineage, stored_in}
use Rattle.sz_formats.specs.Words.{BeginEachIn}
use Rattle.sz_catalogue.specs.Rules.{names_a_store}
use Rattle.sz_bodies.specs.Bodies.{NodePart, VersionBody, head_bytes, list_bytes, BeginNodes, IsShort, IsBodyOf}
use Rattle.sz_bodies.specs.Fitting.{FitsNode, FitNodes, part_of, parts_of}

-- ---- lists

-- the elements before a number and the one at it
pub one-taken : {X : Type 0} (xs : List X) (j : ℕ) (x : X) → j < length xs → x ≡ get_or xs j x
    → take (j + 1) xs ≡ take j xs ++ x ∷ []
one-taken {X} xs j x below is =
    let one : j + 1 ≡ suc j = omega arith in
    ap (λ n. take n xs) one ∙ take-suc xs j x below ∙ ap (λ (y : X). take j xs ++ y ∷ []) (sym is)

-- one element more, of which holds what holds of the others
pub one-pushed : {X : Type 0} (P : X → Type 0) (xs ys : List X) (x : X) (n : ℕ) → ys ≡ xs ++ x ∷ []
    → (length xs ≡ n) × All P xs → P x → (length ys ≡ n + 1) × All P ys
one-pushed {X} P xs ys x n is so one = (
  ap (λ (zs : List X). length zs) is ∙ length-append xs (x ∷ []) ∙ ap (λ (k : ℕ). k + 1) so.0,
  subst (All P) (sym is) (All-push P xs x so.1 one),
)

-- a list that names no store has no stored strategy
pub none-stored : (list : List Strategy) → names_a_store list ≡ false → stored_in list ≡ []
none-stored [] none = refl
none-stored (t ∷ list) none =
    elim (is_stored t) as (λ b. is_stored t ≡ b → stored_in (t ∷ list) ≡ []) [
      | true ↦ λ is. absurd (true≢false (rw is at none))
      | false ↦ λ is. rw is (none-stored list (rw is at none))
    ] refl

-- ---- where bytes stand

-- bytes stand behind what was there, whatever follows them
pub at-behind : (old word rest : List ℕ) → IsAt (old ++ (word ++ rest)) (length old) (length (old ++ word)) word
at-behind old word rest = record {
  spelled =
      drop-append_seam old (word ++ rest)
      ∙ ap (λ (xs : List ℕ). word ++ xs)
      (sym (ap (drop (length (old ++ word))) (sym (append_assoc old word rest)) ∙ drop-append_seam (old ++ word) rest));
  within = omega (arith, length-append old word, length-append old (word ++ rest), length-append word rest);
}

-- ---- nodes

-- nodes, and behind them others
pub nodes-append : (format : ℕ) (sites more : List Site) (bytes : List ℕ) (a b c : ℕ) (xs ys : List NodePart)
    → BeginNodes format sites bytes a b xs → BeginNodes format more bytes b c ys
    → BeginNodes format (sites ++ more) bytes a c (xs ++ ys)
nodes-append format [] more bytes a b c [] ys first second = subst (λ
    (n : ℕ). BeginNodes format more bytes n c ys) first second
nodes-append format [] more bytes a b c (x ∷ xs) ys first second = absurd first
nodes-append format (s ∷ sites) more bytes a b c [] ys first second = absurd first
nodes-append format (s ∷ sites) more bytes a b c (x ∷ xs) ys first second = (
  first.0,
  first.1,
  first.2,
  first.3,
  first.4,
  nodes-append format sites more bytes first.1 b c xs ys first.5 second,
)

-- the node at a number, and what it is to those before it
pub record NextNode (n : ℕ) (sites : List Site) (lists : List (List Strategy)) (stores : List (Option NodeLineage))
    (own : List Strategy) (kept : Option NodeLineage) : Type 0 where
  pub site : Site
  pub fits : FitsNode site own kept
  pub taken : take (suc n) sites ≡ take n sites ++ site ∷ []
  pub parts :
      parts_of (take (suc n) lists) (take (suc n) stores)
      ≡ parts_of (take n lists) (take n stores) ++ part_of own kept ∷ []

pub node-next : (n : ℕ) (sites : List Site) (lists : List (List Strategy)) (stores : List (Option NodeLineage))
    (own : List Strategy) (kept : Option NodeLineage) → FitNodes sites lists stores → slice_get lists n ≡ Some own
    → slice_get stores n ≡ Some kept → NextNode n sites lists stores own kept
node-next n [] [] [] own kept fit here there = cc
node-next n [] [] (k ∷ stores) own kept fit here there = absurd fit
node-next n [] (l ∷ lists) stores own kept fit here there = absurd fit
node-next n (s ∷ sites) [] stores own kept fit here there = absurd fit
node-next n (s ∷ sites) (l ∷ lists) [] own kept fit here there = absurd fit
node-next zero (s ∷ sites) (l ∷ lists) (k ∷ stores) own kept fit here there =
    let list : l ≡ own = cc in
    let store : k ≡ kept = cc in
    record {
      site = s;
      fits =
          subst (λ (x : List Strategy). FitsNode s x kept) list
          (subst (λ (x : Option NodeLineage). FitsNode s l x) store fit.0);
      taken = refl;
      parts = ap₂ (λ (x : List Strategy) (y : Option NodeLineage). part_of x y ∷ []) list store;
    }
node-next (suc n) (s ∷ sites) (l ∷ lists) (k ∷ stores) own kept fit here there =
    let r = node-next n sites lists stores own kept fit.1 here there in
    record {
      site = r.site;
      fits = r.fits;
      taken = ap (λ (xs : List Site). s ∷ xs) r.taken;
      parts = ap (λ (xs : List NodePart). part_of l k ∷ xs) r.parts;
    }

-- there is a list for each node that has a place for stores
pub fit-length : (sites : List Site) (lists : List (List Strategy)) (stores : List (Option NodeLineage))
    → FitNodes sites lists stores → (length lists ≡ length stores) × (length sites ≡ length stores)
    × (length (parts_of lists stores) ≡ length stores)
fit-length [] [] [] fit = (refl, refl, refl)
fit-length [] [] (k ∷ stores) fit = absurd fit
fit-length [] (l ∷ lists) stores fit = absurd fit
fit-length (s ∷ sites) [] stores fit = absurd fit
fit-length (s ∷ sites) (l ∷ lists) [] fit = absurd fit
fit-length (s ∷ sites) (l ∷ lists) (k ∷ stores) fit =
    let rest = fit-length sites lists stores fit.1 in (ap suc rest.0, ap suc rest.1, ap suc rest.2)

-- a node without stores is its list
pub no-stores : (format : ℕ) (s : Site) (list : List Strategy) (old new rest : List ℕ) → new ≡ old ++ list_bytes list
    → FitsNode s list None → BeginNodes format (s ∷ []) (new ++ rest) (length old) (length new) (part_of list None ∷ [])
no-stores format s list old new rest is fits =
    let bytes : new ++ rest ≡ old ++ (list_bytes list ++ rest) =
    ap (λ (xs : List ℕ). xs ++ rest) is ∙ append_assoc old (list_bytes list) rest in
    let here : IsAt (new ++ rest) (length old) (length new) (list_bytes list) =
    subst (λ (xs : List ℕ). IsAt xs (length old) (length new) (list_bytes list)) (sym bytes)
    (subst (λ (n : ℕ). IsAt (old ++ (list_bytes list ++ rest)) (length old) n (list_bytes list))
    (ap length (sym is)) (at-behind old (list_bytes list) rest)) in
    let none : BeginEachIn format s (stored_in list) (new ++ rest) (length new) (length new) [] =
    subst (λ (ts : List Strategy). BeginEachIn format s ts (new ++ rest) (length new) (length new) [])
    (sym (none-stored list fits)) refl in
    (length new, length new, omega (arith, length-append new rest), here, none, refl)

-- ---- the whole

-- what stands before the nodes, and behind it the nodes
pub body-whole : (format : ℕ) (sites : List Site) (b : VersionBody) (head more bytes : List ℕ) → IsShort b
    → head ≡ head_bytes b
    → bytes ≡ head ++ more → BeginNodes format sites bytes (length head) (length bytes) b.nodes
    → IsBodyOf format sites b bytes
body-whole format sites b head more bytes short is spelled nodes = record {
  short = short;
  place = length head;
  head =
      subst (λ (xs : List ℕ). IsAt bytes 0 (length head) xs) is
      (subst (λ (xs : List ℕ). IsAt xs 0 (length head) head) (sym spelled) (at-behind [] head more));
  nodes = nodes;
}

-- four parts, one put behind the other
pub four-parts : (a b c d first second third fourth : List ℕ) → first ≡ a → second ≡ first ++ b → third ≡ second ++ c
    → fourth ≡ third ++ d → fourth ≡ a ++ (b ++ (c ++ d))
four-parts a b c d first second third fourth one two three four =
    let both : second ≡ a ++ b = two ∙ ap (λ (xs : List ℕ). xs ++ b) one in
    four ∙ ap (λ (xs : List ℕ). xs ++ d) (three ∙ ap (λ (xs : List ℕ). xs ++ c) both)
    ∙ append_assoc (a ++ b) c d ∙ append_assoc a b (c ++ d)
