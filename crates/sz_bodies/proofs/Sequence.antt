-- Nodes that are read one after another.
--
-- The key idea: at most one node stands at a place, and it ends at one place. So the nodes that were read are the first
-- of all that stand there; where the next one is not there, no nodes are; and where it is, the others stand behind it.
use Rattle.std.proofs.Common.{◌≡◌, ℕ, suc, ◌+◌, ◌<◌, ◌≤◌, List, [], ◌∷◌, ◌++◌, length, drop, get_or, refl, sym}
use Rattle.std.proofs.Common.{ap, ap₂, subst, ◌∙◌, arith, true≢false, nat_le, ◌&&◌}
use Rattle.std.proofs.Common.{append_assoc, drop-cons, add-one, Option, true, false}
use Rattle.std.specs.List.{list_all}
use Rattle.std.proofs.lemmas.Bool.{and_parts, leb-true}
use Rattle.std.proofs.lemmas.List.{append-nil, drop_all}
use Rattle.sz_cells.specs.Extent.{Extent}
use Rattle.sz_spec.specs.declared.flow.Node.{Node}
use Rattle.sz_spec.specs.declared.modes.Strategy.{Strategy}
use Rattle.sz_spec.specs.declared.op.Op.{Op}
use Rattle.sz_spec.specs.Modes.{supports}
use Rattle.sz_spec.specs.Shapes.{Site}
use Rattle.sz_region.specs.Counted.{IsAt}
use Rattle.sz_region.specs.Stores.{NoneAt}
use Rattle.sz_store.specs.Kept.{Keep, NodeLineage, stored_in}
use Rattle.sz_formats.specs.Words.{BeginEachIn, NoneBeginIn}
use Rattle.sz_formats.proofs.Each.{each-one}
use Rattle.sz_catalogue.specs.Rules as rules
use Rattle.sz_bodies.specs.Bodies.{NodePart, list_bytes}
use Rattle.sz_bodies.specs.Fitting.{FitsNode, FitNodes, part_of, parts_of}
use Rattle.sz_bodies.specs.Laws.{IsRightSite}
use Rattle.sz_bodies.specs.Taking.{site_over, IsShortList, IsNodeAt, NoNodeAt, IsOnlyNode, AreNodesAt, NoNodesAt}
use Rattle.sz_bodies.specs.Taking.{AreOnlyNodes}
use Rattle.sz_bodies.proofs.OneWay.{list-same, place-same}
use Rattle.sz_bodies.proofs.NodesPut.{none-stored}

-- ---- one node

-- a list for an operator has at most three strategies, each of which is supported
pub list-right : (op : Op) (list : List Strategy) → rules.is_list_for op list ≡ true
    → (length list ≤ 3) × (list_all (supports op) list ≡ true)
list-right op list is =
    let outer = and_parts (nat_le 1 (length list) && nat_le (length list) 3 && rules.are_distinct list)
    (list_all (supports op) list) is in
    let middle = and_parts (nat_le 1 (length list) && nat_le (length list) 3) (rules.are_distinct list) outer.0 in
    let inner = and_parts (nat_le 1 (length list)) (nat_le (length list) 3) middle.0 in
    (leb-true (length list) 3 inner.1, outer.1)

abbrev pub part-make : List Strategy → List Keep → NodePart
part-make list stores = record { list = list; stores = stores }

-- the list of a node that stands there is the one that was read
pub list-there : (format : ℕ) (s : Site) (bytes : List ℕ) (at mid next : ℕ) (list : List Strategy) (x : NodePart)
    → IsAt bytes at mid (list_bytes list) → IsNodeAt format s bytes at next x
    → (x.list ≡ list) × BeginEachIn format s (stored_in list) bytes mid next x.stores
list-there format s bytes at mid next list x here node =
    let same = list-same x.list list (drop node.mid bytes) (drop mid bytes)
    (sym node.here.spelled ∙ here.spelled) in
    let place : node.mid ≡ mid = place-same bytes node.mid mid node.here.within here.within same.1 in (
      same.0,
      subst (λ (n : ℕ). BeginEachIn format s (stored_in list) bytes n next x.stores) place
          (subst (λ (ts : List Strategy). BeginEachIn format s (stored_in ts) bytes node.mid next x.stores) same.0
          node.stores),
    )

-- where there is no list, there is no node
pub no-node-list : (format : ℕ) (s : Site) (bytes : List ℕ) (at : ℕ) → NoneAt IsShortList list_bytes bytes at
    → NoNodeAt format s bytes at
no-node-list format s bytes at none next x node =
    none x.list (drop node.mid bytes) (omega (arith, (list-right s.op x.list node.right).0)) node.here.spelled

-- nor where it is none for the operator
pub no-node-other : (format : ℕ) (s : Site) (bytes : List ℕ) (at mid : ℕ) (list : List Strategy)
    → IsAt bytes at mid (list_bytes list) → rules.is_list_for s.op list ≡ false → NoNodeAt format s bytes at
no-node-other format s bytes at mid list here none next x node =
    let same = (list-there format s bytes at mid next list x here node).0 in
    true≢false (sym node.right ∙ ap (rules.is_list_for s.op) same ∙ none)

-- nor where its stores do not stand behind it
pub no-node-stores : (format : ℕ) (s : Site) (bytes : List ℕ) (at mid : ℕ) (list : List Strategy)
    → IsAt bytes at mid (list_bytes list) → NoneBeginIn format s (stored_in list) bytes mid → NoNodeAt format s bytes at
no-node-stores format s bytes at mid list here none next x node =
    none next x.stores (list-there format s bytes at mid next list x here node).1

-- a node of its list and stores
pub node-stands : (format : ℕ) (s : Site) (bytes : List ℕ) (at mid next : ℕ) (list : List Strategy) (stores : List Keep)
    → rules.is_list_for s.op list ≡ true → IsAt bytes at mid (list_bytes list) → next ≤ length bytes
    → BeginEachIn format s (stored_in list) bytes mid next stores
    → IsNodeAt format s bytes at next (part-make list stores)
node-stands format s bytes at mid next list stores right here within begin = record {
  right = right;
  mid = mid;
  here = here;
  within = within;
  stores = begin;
}

-- it is the only one there
pub node-only : (format : ℕ) (s : Site) (bytes : List ℕ) (at mid next : ℕ) (list : List Strategy) (stores : List Keep)
    → IsRightSite s → IsAt bytes at mid (list_bytes list) → BeginEachIn format s (stored_in list) bytes mid next stores
    → IsOnlyNode format s bytes at next (part-make list stores)
node-only format s bytes at mid next list stores right here begin other y node =
    let there = list-there format s bytes at mid other list y here node in
    let same = each-one format s (stored_in list) bytes mid other next y.stores stores right there.1 begin in
    (ap₂ part-make there.0 same.0, same.1)

-- without a stored strategy the list is all
pub bare-stands : (format : ℕ) (s : Site) (bytes : List ℕ) (at mid : ℕ) (list : List Strategy)
    → rules.is_list_for s.op list ≡ true → IsAt bytes at mid (list_bytes list) → rules.names_a_store list ≡ false
    → IsNodeAt format s bytes at mid (part-make list [])
bare-stands format s bytes at mid list right here none =
    node-stands format s bytes at mid mid list [] right here here.within
    (subst (λ (ts : List Strategy). BeginEachIn format s ts bytes mid mid []) (sym (none-stored list none)) refl)

pub bare-only : (format : ℕ) (s : Site) (bytes : List ℕ) (at mid : ℕ) (list : List Strategy)
    → IsAt bytes at mid (list_bytes list) → rules.names_a_store list ≡ false
    → IsOnlyNode format s bytes at mid (part-make list [])
bare-only format s bytes at mid list here none other y node =
    let there = list-there format s bytes at mid other list y here node in
    let begin : BeginEachIn format s [] bytes mid other y.stores =
    subst (λ (ts : List Strategy). BeginEachIn format s ts bytes mid other y.stores) (none-stored list none) there.1 in
    let empty : (ks : List Keep) → BeginEachIn format s [] bytes mid other ks → (ks ≡ []) × (other ≡ mid) = elim [
      | [] ↦ λ is. (refl, is)
      | k ∷ ks ↦ λ is. absurd is
    ] in
    let both = empty y.stores begin in
    (ap₂ part-make there.0 both.0, both.1)

-- ---- nodes one after another

-- how far the nodes were read: those before a number stand in front, and whatever stands there goes on behind them
pub record AreRead (format : ℕ) (base outs : List Extent) (nodes left : List Node) (bytes : List ℕ) (at place : ℕ)
    (done : List NodePart) : Type 0 where
  pub whole : (next : ℕ) (ys : List NodePart) → AreNodesAt format base outs left bytes place next ys
      → AreNodesAt format base outs nodes bytes at next (done ++ ys)
  pub ahead : (next : ℕ) (xs : List NodePart) → AreNodesAt format base outs nodes bytes at next xs
      → (ys : List NodePart) × (xs ≡ done ++ ys) × AreNodesAt format base outs left bytes place next ys

pub read-none : (format : ℕ) (base outs : List Extent) (nodes : List Node) (bytes : List ℕ) (at : ℕ)
    → AreRead format base outs nodes nodes bytes at at []
read-none format base outs nodes bytes at = record {
  whole = λ next ys are. are;
  ahead = λ next xs are.
      (xs, refl, are);
}

-- the first of nodes that stand there
first-there : (format : ℕ) (base outs : List Extent) (n : Node) (left : List Node) (bytes : List ℕ) (place next : ℕ)
    (ys : List NodePart) → AreNodesAt format base outs (n ∷ left) bytes place next ys
    → (y : NodePart) × (zs : List NodePart) × (mid : ℕ) × (ys ≡ y ∷ zs)
    × IsNodeAt format (site_over base outs n) bytes place mid y × AreNodesAt format base outs left bytes mid next zs
first-there format base outs n left bytes place next [] are = absurd are
first-there format base outs n left bytes place next (y ∷ ys) are = (y, ys, are.0, refl, are.1, are.2)

-- where the next node is not there, no nodes are
pub read-stops : (format : ℕ) (base outs : List Extent) (nodes : List Node) (n : Node) (left : List Node)
    (bytes : List ℕ)
    (at place : ℕ) (done : List NodePart) → AreRead format base outs nodes (n ∷ left) bytes at place done
    → NoNodeAt format (site_over base outs n) bytes place → NoNodesAt format base outs nodes bytes at
read-stops format base outs nodes n left bytes at place done read none next xs are =
    let rest = read.ahead next xs are in
    let first = first-there format base outs n left bytes place next rest.0 rest.2 in
    none first.2 first.0 first.4

-- and where it is, one more was read
pub read-more : (format : ℕ) (base outs : List Extent) (nodes : List Node) (n : Node) (left : List Node)
    (bytes : List ℕ)
    (at place mid : ℕ) (done : List NodePart) (x : NodePart)
    → AreRead format base outs nodes (n ∷ left) bytes at place done
    → IsNodeAt format (site_over base outs n) bytes place mid x
    → IsOnlyNode format (site_over base outs n) bytes place mid x
    → AreRead format base outs nodes left bytes at mid (done ++ x ∷ [])
read-more format base outs nodes n left bytes at place mid done x read node only = record {
  whole =
      λ next ys are.
      subst (AreNodesAt format base outs nodes bytes at next) (sym (append_assoc done (x ∷ []) ys))
      (read.whole next (x ∷ ys) (mid, node, are));
  ahead =
      λ next xs are.
      let rest = read.ahead next xs are in
      let first = first-there format base outs n left bytes place next rest.0 rest.2 in
      let same = only first.2 first.0 first.4 in
      let zs = first.1 in (
        zs,
        rest.1 ∙ ap (λ (ys : List NodePart). done ++ ys) (first.3 ∙ ap (λ (y : NodePart). y ∷ zs) same.0)
            ∙ sym (append_assoc done (x ∷ []) zs),
        subst (λ (k : ℕ). AreNodesAt format base outs left bytes k next zs) same.1 first.5,
      );
}

-- where all were read, they are all that stand there
pub read-all : (format : ℕ) (base outs : List Extent) (nodes : List Node) (bytes : List ℕ) (at place : ℕ)
    (done : List NodePart) (i : ℕ) → length nodes ≤ i
    → AreRead format base outs nodes (drop i nodes) bytes at place done
    → AreNodesAt format base outs nodes bytes at place done × AreOnlyNodes format base outs nodes bytes at place done
read-all format base outs nodes bytes at place done i far begun =
    let read : AreRead format base outs nodes [] bytes at place done =
    subst (λ (xs : List Node). AreRead format base outs nodes xs bytes at place done) (drop_all i nodes far) begun in (
      subst (AreNodesAt format base outs nodes bytes at place) (append-nil done) (read.whole place [] refl),
      λ other ys are.
          let rest = read.ahead other ys are in
          let ends : (zs : List NodePart) → AreNodesAt format base outs [] bytes place other zs
          → (zs ≡ []) × (other ≡ place)
          = elim [
            | [] ↦ λ is. (refl, is)
            | z ∷ zs ↦ λ is. absurd is
          ] in
          let last = ends rest.0 rest.2 in
          (rest.1 ∙ ap (λ (zs : List NodePart). done ++ zs) last.0 ∙ append-nil done, last.1),
    )

-- the nodes that are left begin with the next one
pub left-is : (nodes : List Node) (k : ℕ) (n : Node) → k < length nodes → n ≡ get_or nodes k n
    → drop k nodes ≡ n ∷ drop (k + 1) nodes
left-is nodes k n inside is =
    rw (add-one) (drop-cons nodes k n inside ∙ ap (λ (z : Node). z ∷ drop (suc k) nodes) (sym is))

-- ---- lists and stores that fit

pub fit-more : (sites : List Site) (lists : List (List Strategy)) (stores : List (Option NodeLineage)) (s : Site)
    (list : List Strategy) (kept : Option NodeLineage) → FitNodes sites lists stores → FitsNode s list kept
    → FitNodes (sites ++ s ∷ []) (lists ++ list ∷ []) (stores ++ kept ∷ [])
fit-more [] [] [] s list kept fit one = (one, tt)
fit-more [] [] (k ∷ stores) s list kept fit one = absurd fit
fit-more [] (l ∷ lists) stores s list kept fit one = absurd fit
fit-more (t ∷ sites) [] stores s list kept fit one = absurd fit
fit-more (t ∷ sites) (l ∷ lists) [] s list kept fit one = absurd fit
fit-more (t ∷ sites) (l ∷ lists) (k ∷ stores) s list kept fit one =
    (fit.0, fit-more sites lists stores s list kept fit.1 one)

pub parts-more : (sites : List Site) (lists : List (List Strategy)) (stores : List (Option NodeLineage))
    (list : List Strategy) (kept : Option NodeLineage) → FitNodes sites lists stores
    → parts_of (lists ++ list ∷ []) (stores ++ kept ∷ []) ≡ parts_of lists stores ++ part_of list kept ∷ []
parts-more [] [] [] list kept fit = refl
parts-more [] [] (k ∷ stores) list kept fit = absurd fit
parts-more [] (l ∷ lists) stores list kept fit = absurd fit
parts-more (t ∷ sites) [] stores list kept fit = absurd fit
parts-more (t ∷ sites) (l ∷ lists) [] list kept fit = absurd fit
parts-more (t ∷ sites) (l ∷ lists) (k ∷ stores) list kept fit =
    ap (λ (xs : List NodePart). part_of l k ∷ xs) (parts-more sites lists stores list kept fit.1)
