-- A checklist on which each piece is ticked.
--
-- The key idea: what is ticked is what a store of the same pieces keeps, and that store is exact.
use Rattle.std.proofs.Common.{◌≡◌, ℕ, zero, suc, ◌+◌, ◌<◌, ◌≤◌, Bool, true, false, List, [], ◌∷◌, map, replicate}
use Rattle.std.proofs.Common.{get_or, set, refl, sym, ap, subst, ◌∙◌, arith, get_or-set_other}
use Rattle.sz_spec.specs.declared.modes.Strategy.{Strategy}
use Rattle.sz_spec.specs.Modes.{is_stored, mode_of}
use Rattle.sz_spec.specs.Pieces.{pieces_of}
use Rattle.sz_spec.specs.Shapes.{Site}
use Rattle.sz_spec.specs.Values.{Grid}
use Rattle.sz_frame.specs.Parts.{Parts}
use Rattle.sz_flow.specs.Executions.{Execution}
use Rattle.sz_store.specs.Kept.{Holding, Keep, NodeLineage, no_lineage, with_lineage, is_placed, holding_for}
use Rattle.sz_store.specs.Kept.{keep_with, empty_keep, nothing_for, with_part}
use Rattle.sz_store.specs.Laws.{PlacedPiecesMakeTheRelation}
use Rattle.sz_store.specs.Checklists.{AreOneList, OtherOrdersStandForTheSame}
use Rattle.sz_store.specs.Checklists.{table_in, held_in, kept_in, ticked_in, emptied, joined}
use Rattle.sz_store.specs.declared.checklist.StoreChecklist.{StoreChecklist}
use Rattle.sz_store.specs.declared.checklist.StoreChecklist.TheVariants.{Pairs, Pays, Comps}
use Rattle.sz_recover.specs.Soundness.{IsExact}
use Rattle.sz_recover.specs.Ticking.{IsTicked}
use Rattle.sz_recover.proofs.Made.{IsMadeOf, made-none, made-more, made-exact, one-stored, front-holding}

-- the one store of a strategy, which keeps this
abbrev only : Strategy → Holding → List Keep
only t h = (let f : Keep = record { strategy = t; holding = h } in f) ∷ []

-- what is ticked so far: what a store keeps in which the pieces below a number are placed, and no other
pub record IsTickedOf (s : Site) (inputs : List Grid) (t : Strategy) (k : ℕ) (ticked : Holding) : Type 0 where
  pub made : NodeLineage
  pub so_far : IsMadeOf s inputs t k made
  pub one : made.stores ≡ only t ticked
  pub left : (j : ℕ) → k ≤ j → is_placed made.placed j ≡ false

none-placed : (n j : ℕ) → get_or (replicate n false) j false ≡ false
none-placed zero j = cc
none-placed (suc n) zero = refl
none-placed (suc n) (suc j) = none-placed n j

pub ticked-none : (s : Site) (inputs : List Grid) (t : Strategy) (ticked : Holding) → is_stored t ≡ true
    → ticked ≡ nothing_for (mode_of t) → IsTickedOf s inputs t 0 ticked
ticked-none s inputs t ticked kept is = record {
  made = no_lineage s (t ∷ []);
  so_far = made-none s inputs t (no_lineage s (t ∷ [])) refl;
  one = ap (map empty_keep) (one-stored t kept) ∙ ap (only t) (sym is);
  left = λ j below. none-placed (pieces_of s.out) j;
}

-- the store of a piece that is not placed yet
placed-stores : (made : NodeLineage) (p : Parts) → is_placed made.placed p.piece ≡ false
    → (with_lineage made p).stores ≡ map (keep_with p) made.stores
placed-stores made p free = rw free refl

placed-flags : (made : NodeLineage) (p : Parts) → is_placed made.placed p.piece ≡ false
    → (with_lineage made p).placed ≡ set made.placed p.piece true
placed-flags made p free = rw free refl

pub ticked-more : (e : Execution) (t : Strategy) (k : ℕ) (ticked new : Holding) → k < pieces_of e.site.out
    → IsTickedOf e.site e.inputs t k ticked → IsTicked e t k ticked new → IsTickedOf e.site e.inputs t (k + 1) new
ticked-more e t k ticked new inside before one =
    let s = e.site in
    let made = before.made in
    let p = one.lineage in
    let free : is_placed made.placed p.piece ≡ false = before.left p.piece (omega (arith, one.piece)) in record {
      made = with_lineage made p;
      so_far = made-more s e.inputs t k made (with_lineage made p) p inside before.so_far one.piece one.fits refl;
      one = placed-stores made p free ∙ ap (map (keep_with p)) before.one ∙ ap (only t) (sym one.more);
      left =
          λ j below.
          ap (λ (flags : List Bool). is_placed flags j) (placed-flags made p free)
          ∙ get_or-set_other made.placed p.piece j true false (λ same. omega (arith, same, one.piece, below))
          ∙ before.left j (omega (arith, below));
    }

-- ticks that are joined are ticked in a row
joined-part : (list : StoreChecklist) (p : Parts)
    → joined (ticked_in list) (with_part p (emptied (kept_in list))) ≡ with_part p (ticked_in list)
joined-part (Pairs c) p = refl
joined-part (Pays c) p = refl
joined-part (Comps c) p = refl

-- a piece that is ticked on a list of its own, and joined to those before it
pub joined-more : (e : Execution) (t : Strategy) (k : ℕ) (own first : StoreChecklist) (more new : Holding)
    → k < pieces_of e.site.out → IsTickedOf e.site e.inputs t k (ticked_in own) → table_in own ≡ table_in first
    → IsTicked e t k (emptied (kept_in first)) more → new ≡ joined (ticked_in own) more
    → IsTickedOf e.site e.inputs t (k + 1) new
joined-more e t k own first more new inside before same one is =
    let kept : kept_in first ≡ kept_in own = ap held_in (sym same) in
    let all : new ≡ with_part one.lineage (ticked_in own) =
    is ∙ ap (joined (ticked_in own)) (one.more ∙ ap (λ (h : Holding). with_part one.lineage (emptied h)) kept)
    ∙ joined-part own one.lineage in
    let here : IsTicked e t k (ticked_in own) new = record {
      lineage = one.lineage;
      piece = one.piece;
      fits = one.fits;
      more = all;
    } in
    ticked-more e t k (ticked_in own) new inside before here

-- a store that keeps in any order what is ticked of all pieces is exact
pub ticked-exact : PlacedPiecesMakeTheRelation → OtherOrdersStandForTheSame → (e : Execution) (t : Strategy) (k : ℕ)
    (held ticked : Holding) → is_stored t ≡ true → pieces_of e.site.out ≤ k → IsTickedOf e.site e.inputs t k ticked
    → AreOneList held ticked → IsExact e held
ticked-exact law orders e t k held ticked kept enough done one =
    let exact = made-exact law e t k done.made kept enough done.so_far in
    let own : holding_for t done.made.stores ≡ ticked =
    ap (holding_for t) done.one ∙ front-holding t ticked in
    let right : IsExact e ticked = subst (λ (h : Holding). IsExact e h) own exact in
    λ i o x inside out within. orders e.site held ticked i o x one ∙ right i o x inside out within
