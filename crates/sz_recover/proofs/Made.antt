-- A store that is made of all pieces.
--
-- The key idea: each piece that is added is one more of a list of lineages that fit, and in the end the list has each.
use Rattle.std.proofs.Common.{◌≡◌, ℕ, ◌+◌, ◌<◌, ◌≤◌, ◌==◌, Bool, true, false, ◌||◌, List, [], ◌∷◌, ◌++◌, map}
use Rattle.std.proofs.Common.{if◌then◌else◌, cond, refl, sym, ap, subst, ◌∙◌, arith, inl, inr, eq-eqb}
use Rattle.std.specs.Prelude.{All}
use Rattle.std.specs.List.{list_any}
use Rattle.std.specs.Bool.{Decides}
use Rattle.std.proofs.lemmas.Bool.{cases_lt}
use Rattle.std.proofs.lemmas.List.Elements.{All-nil, All-head, All-push}
use Rattle.sz_spec.specs.declared.modes.Strategy.{Strategy}
use Rattle.sz_spec.specs.Modes.{is_stored, is_listed, number_of}
use Rattle.sz_spec.specs.Pieces.{pieces_of}
use Rattle.sz_spec.specs.Shapes.{Site}
use Rattle.sz_spec.specs.Values.{Grid}
use Rattle.sz_frame.specs.Parts.{Parts}
use Rattle.sz_frame.specs.Fits.{Fits}
use Rattle.sz_frame.specs.Images.{measure_of}
use Rattle.sz_flow.specs.Executions.{Execution}
use Rattle.sz_store.specs.Kept.{Holding, Keep, NodeLineage, no_lineage, with_lineage, with_lineages, is_placed}
use Rattle.sz_store.specs.Kept.{holding_for, stored_in, keep_with, empty_keep}
use Rattle.sz_store.specs.Laws.{AllFit, HasEachPiece, PlacedPiecesMakeTheRelation}
use Rattle.sz_recover.specs.Comparing.{AgreeOnEach}
use Rattle.sz_recover.specs.Soundness.{IsExact}

-- what is made so far: the lineages of the pieces below a number are placed, and all that are placed fit
pub record IsMadeOf (s : Site) (inputs : List Grid) (t : Strategy) (k : ℕ) (made : NodeLineage) : Type 0 where
  pub ps : List Parts
  pub is : made ≡ with_lineages (no_lineage s (t ∷ [])) ps
  pub fit : AllFit s inputs (t ∷ []) ps
  pub each : (j : ℕ) → j < k → list_any (λ (p : Parts). p.piece == j) ps ≡ true
  pub site : made.site ≡ s
  pub own : made.list ≡ t ∷ []

-- one lineage more changes neither the operator nor the list
with-same : (b : Bool) (s other : NodeLineage) → other.site ≡ s.site → other.list ≡ s.list
    → ((if b then s else other).site ≡ s.site) × ((if b then s else other).list ≡ s.list)
with-same true s other site list = (refl, refl)
with-same false s other site list = (site, list)

lineage-same : (s : NodeLineage) (p : Parts)
    → ((with_lineage s p).site ≡ s.site) × ((with_lineage s p).list ≡ s.list)
lineage-same s p = with-same (is_placed s.placed p.piece) s _ refl refl

pub made-none : (s : Site) (inputs : List Grid) (t : Strategy) (made : NodeLineage)
    → made ≡ no_lineage s (t ∷ []) → IsMadeOf s inputs t 0 made
made-none s inputs t made is = record {
  ps = [];
  is = is;
  fit = All-nil _;
  each = λ j below. absurd (omega (arith, below));
  site = ap (λ (m : NodeLineage). m.site) is;
  own = ap (λ (m : NodeLineage). m.list) is;
}

with-more : (s : NodeLineage) (ps : List Parts) (p : Parts)
    → with_lineages s (ps ++ p ∷ []) ≡ with_lineage (with_lineages s ps) p
with-more s [] p = refl
with-more s (q ∷ ps) p = with-more (with_lineage s q) ps p

any-more : (j : ℕ) (ps : List Parts) (p : Parts)
    → list_any (λ (q : Parts). q.piece == j) ps ≡ true → list_any (λ (q : Parts). q.piece == j) (ps ++ p ∷ []) ≡ true
any-more j [] p there = cc
any-more j (q ∷ ps) p there = step (q.piece == j) refl there (any-more j ps p) where
  step : (b : Bool) → (q.piece == j) ≡ b → list_any (λ (r : Parts). r.piece == j) (q ∷ ps) ≡ true
      → (list_any (λ (r : Parts). r.piece == j) ps ≡ true
      → list_any (λ (r : Parts). r.piece == j) (ps ++ p ∷ []) ≡ true)
      → list_any (λ (r : Parts). r.piece == j) (q ∷ (ps ++ p ∷ [])) ≡ true
  step true is here more = rw is refl
  step false is here more =
      rw is (more (sym (ap (λ (b : Bool). b || list_any (λ (r : Parts). r.piece == j) ps) is) ∙ here))

any-last : (j : ℕ) (ps : List Parts) (p : Parts) → (p.piece == j) ≡ true
    → list_any (λ (q : Parts). q.piece == j) (ps ++ p ∷ []) ≡ true
any-last j [] p is = rw is refl
any-last j (q ∷ ps) p is = step (q.piece == j) refl (any-last j ps p is) where
  step : (b : Bool) → (q.piece == j) ≡ b → list_any (λ (r : Parts). r.piece == j) (ps ++ p ∷ []) ≡ true
      → list_any (λ (r : Parts). r.piece == j) (q ∷ (ps ++ p ∷ [])) ≡ true
  step true same rest = rw same refl
  step false other rest = rw other rest

pub made-more : (s : Site) (inputs : List Grid) (t : Strategy) (k : ℕ) (made new : NodeLineage) (p : Parts)
    → k < pieces_of s.out → IsMadeOf s inputs t k made → p.piece ≡ k
    → Fits (measure_of s inputs) (t ∷ []) k p → new ≡ with_lineage made p → IsMadeOf s inputs t (k + 1) new
made-more s inputs t k made new p inside so_far piece fits is =
    let P : Parts → Type 0 = λ q. (q.piece < pieces_of s.out) × Fits (measure_of s inputs) (t ∷ []) q.piece q in
    let one : P p = (
      omega (arith, piece, inside),
      subst (λ (j : ℕ). Fits (measure_of s inputs) (t ∷ []) j p) (sym piece) fits,
    ) in
    let same = lineage-same made p in record {
      ps = so_far.ps ++ p ∷ [];
      is =
          is ∙ ap (λ (m : NodeLineage). with_lineage m p) so_far.is
          ∙ sym (with-more (no_lineage s (t ∷ [])) so_far.ps p);
      fit = All-push P so_far.ps p so_far.fit one;
      each =
          λ j below.
          elim (cases_lt j k) [
            | inl less ↦ any-more j so_far.ps p (so_far.each j less)
            | inr high ↦
                let here : p.piece ≡ j = omega (arith, piece, below, high) in
                any-last j so_far.ps p (eq-eqb p.piece j here)
          ];
      site = ap (λ (m : NodeLineage). m.site) is ∙ same.0 ∙ so_far.site;
      own = ap (λ (m : NodeLineage). m.list) is ∙ same.1 ∙ so_far.own;
    }

-- what is placed changes no strategy
abbrev strategies : List Keep → List Strategy
strategies fs = map (λ (f : Keep). f.strategy) fs

strategies-with : (p : Parts) (fs : List Keep) → strategies (map (keep_with p) fs) ≡ strategies fs
strategies-with p [] = refl
strategies-with p (f ∷ fs) = ap (λ (ts : List Strategy). f.strategy ∷ ts) (strategies-with p fs)

strategies-if : (b : Bool) (s : NodeLineage) (p : Parts) (placed : List Bool)
    → strategies (if b then s else record s { placed = placed; stores = map (keep_with p) s.stores }).stores
    ≡ strategies s.stores
strategies-if true s p placed = refl
strategies-if false s p placed = strategies-with p s.stores

strategies-all : (s : NodeLineage) (ps : List Parts) → strategies (with_lineages s ps).stores ≡ strategies s.stores
strategies-all s [] = refl
strategies-all s (p ∷ ps) =
    strategies-all (with_lineage s p) ps ∙ strategies-if (is_placed s.placed p.piece) s p _

strategies-empty : (ts : List Strategy) → strategies (map empty_keep ts) ≡ ts
strategies-empty [] = refl
strategies-empty (t ∷ ts) = ap (λ (us : List Strategy). t ∷ us) (strategies-empty ts)

-- the only store of one strategy
only-store : (t : Strategy) (fs : List Keep) → map (λ (f : Keep). f.strategy) fs ≡ t ∷ []
    → (f : Keep) × (fs ≡ f ∷ []) × (f.strategy ≡ t)
only-store t [] is = cc
only-store t (f ∷ []) is = (f, refl, cc)
only-store t (f ∷ g ∷ fs) is = cc

pub one-stored : (t : Strategy) → is_stored t ≡ true → stored_in (t ∷ []) ≡ t ∷ []
one-stored t kept = ap (λ (b : Bool). cond b (t ∷ []) []) kept

pub one-listed : (t : Strategy) → is_listed (t ∷ []) t ≡ true
one-listed t = let same : (number_of t == number_of t) ≡ true = eq-eqb (number_of t) (number_of t) refl in rw same refl

-- what it keeps
pub front-holding : (t : Strategy) (h : Holding)
    → holding_for t ((let f : Keep = record { strategy = t; holding = h } in f) ∷ []) ≡ h
front-holding t h = let same : (number_of t == number_of t) ≡ true =
    eq-eqb (number_of t) (number_of t) refl in rw same refl

-- Made of all pieces, the store is exact.
pub made-exact : PlacedPiecesMakeTheRelation → (e : Execution) (t : Strategy) (k : ℕ) (made : NodeLineage)
    → is_stored t ≡ true → pieces_of e.site.out ≤ k → IsMadeOf e.site e.inputs t k made
    → IsExact e (holding_for t made.stores)
made-exact law e t k made kept enough done =
    let every : HasEachPiece e.site done.ps =
    λ j inside. let below : j < k = omega (arith, inside, enough) in done.each j below in
    let all = (law e.site e.inputs (t ∷ []) done.ps done.fit every).1 in
    let E : List Keep → Type 0 = λ fs. All (λ (f : Keep). IsExact e f.holding) fs in
    let each : E made.stores = subst (λ (m : NodeLineage). E m.stores) (sym done.is) all in
    let stored : strategies made.stores ≡ stored_in (t ∷ []) =
    ap (λ (m : NodeLineage). strategies m.stores) done.is
    ∙ strategies-all (no_lineage e.site (t ∷ [])) done.ps
    ∙ strategies-empty (stored_in (t ∷ [])) in
    let only = only-store t made.stores (stored ∙ one-stored t kept) in
    let one : E (only.0 ∷ []) = subst E only.1 each in
    let exact : IsExact e only.0.holding = All-head (λ (f : Keep). IsExact e f.holding) only.0 [] one in
    let same : (number_of only.0.strategy == number_of t) ≡ true =
    eq-eqb (number_of only.0.strategy) (number_of t) (ap number_of only.2) in
    let front : holding_for t (only.0 ∷ []) ≡ only.0.holding = rw same refl in
    subst (λ (fs : List Keep). IsExact e (holding_for t fs)) (sym only.1)
    (subst (λ (h : Holding). IsExact e h) (sym front) exact)

-- A store that stands for the same as an exact one is exact, and no other is.
pub exact-where : (b : Bool) (e : Execution) (made held : Holding) → IsExact e made
    → Decides b (AgreeOnEach e.site made held) → Decides b (IsExact e held)
exact-where b e made held exact same = (
  λ yes.
      λ i o x inside out within. sym (same.0 yes i inside o x out within) ∙ exact i o x inside out within,
  λ right.
      same.1 (λ i inside o x out within.
      exact i o x inside out within ∙ sym (right i o x inside out within)),
)
