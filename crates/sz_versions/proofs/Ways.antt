-- The way of a step by a list of strategies, and the view for it: the mapping of its operator, a trace, or a store.
--
-- The key idea: a way by a list is in the list, so what the list's strategies are, it is; and where it keeps a store,
-- one is kept for the list.
use Rattle.std.proofs.Common.{◌≡◌, ◌<◌, List, [], ◌∷◌, map, length, Bool, true, false, refl, sym, ap, ◌∙◌, subst}
use Rattle.std.proofs.Common.{true≢false}
use Rattle.std.proofs.Common.{◌≤◌, eqb-true, inl, inr, arith}
use Rattle.std.specs.Prelude.{◌==◌, ◌||◌, if◌then◌else◌}
use Rattle.std.specs.List.{All, list_all, list_any}
use Rattle.std.proofs.lemmas.Bool.{and_parts, cases_Bool}
use Rattle.std.proofs.lemmas.List.Elements.{All-head, All-tail}
use Rattle.sz_spec.specs.declared.op.Op.{Op}
use Rattle.sz_spec.specs.declared.modes.Dir.{Dir}
use Rattle.sz_spec.specs.declared.modes.Strategy.{Strategy}
use Rattle.sz_spec.specs.declared.modes.Strategy.TheVariants as strategy
use Rattle.sz_cells.specs.Extent.{size_of}
use Rattle.sz_spec.specs.Modes.{supports, is_stored, number_of, is_listed, way}
use Rattle.sz_spec.specs.Values.{Grid, extents_of}
use Rattle.sz_spec.proofs.Ways.{number-apart, listed-is_in, way-listed}
use Rattle.sz_flow.specs.Executions.{Execution}
use Rattle.sz_frame.specs.Images.{measure_of}
use Rattle.sz_frame.specs.Laws.{IsTheRelation}
use Rattle.sz_store.specs.Kept.{Holding, Keep, stored_in, holding_for, holding_stands}
use Rattle.sz_query.specs.Views.{View, view_site, IsUsable, traced_by, most_traced_by, used_of}
use Rattle.sz_query.specs.Turns.{IsAsked}
use Rattle.sz_query.specs.Laws.{IsFaithful}
use Rattle.sz_catalogue.specs.Changes.{is_black_box}
use Rattle.sz_shelf.specs.Tags.{Tag}
use Rattle.sz_versions.specs.Stores.{Keeping, nothing, growing, whole, read, IsKeptOf}
use Rattle.sz_versions.specs.Views.{view_kept, view_by, strategy_told}

-- the strategy at the front of a list is the one that is looked for, or that is further on
listed-cases : (t : Strategy) (list : List Strategy) (w : Strategy) → is_listed (t ∷ list) w ≡ true
    → (P : Strategy → Type 0) → P t → (is_listed list w ≡ true → P w) → P w
listed-cases t list w listed P here further =
    elim (cases_Bool (number_of t == number_of w)) [
      | inl same ↦ subst P (number-apart t w (eqb-true (number_of t) (number_of w) same)) here
      | inr other ↦ further (sym (ap (λ (b : Bool). b || is_listed list w) other) ∙ listed)
    ]

-- what all strategies of a list are, one that is listed is
listed-passes : (p : Strategy → Bool) (list : List Strategy) (w : Strategy) → list_all p list ≡ true
    → is_listed list w ≡ true → p w ≡ true
listed-passes p [] w all listed = cc
listed-passes p (t ∷ list) w all listed =
    let both = and_parts (p t) (list_all p list) all in
    listed-cases t list w listed (λ s. p s ≡ true) both.0 (λ further. listed-passes p list w both.1 further)

-- and what none of them is, it is not
listed-fails : (p : Strategy → Bool) (list : List Strategy) (w : Strategy) → list_any p list ≡ false
    → is_listed list w ≡ true → p w ≡ false
listed-fails p [] w none listed = cc
listed-fails p (t ∷ list) w none listed =
    let both = or_parts (p t) (list_any p list) none in
    listed-cases t list w listed (λ s. p s ≡ false) both.0 (λ further. listed-fails p list w both.1 further) where
      or_parts : (a b : Bool) → (a || b) ≡ false → (a ≡ false) × (b ≡ false)
      or_parts true b h = cc
      or_parts false b h = (refl, h)

pub way-is_listed : (list : List Strategy) (dir : Dir) → 0 < length list → is_listed list (way list dir) ≡ true
way-is_listed list dir some = (listed-is_in list (way list dir)).1 (way-listed list dir some)

-- the way by a list of supported strategies is supported
pub way-supported : (op : Op) (list : List Strategy) (dir : Dir) → 0 < length list
    → list_all (supports op) list ≡ true → supports op (way list dir) ≡ true
way-supported op list dir some all = listed-passes (supports op) list (way list dir) all (way-is_listed list dir some)

-- ---- the stores of a list

-- a stored strategy of a list is among its stored ones
listed-stored : (t : Strategy) (list : List Strategy) → is_stored t ≡ true → is_listed list t ≡ true
    → is_listed (stored_in list) t ≡ true
listed-stored t [] stored listed = listed
listed-stored t (u ∷ list) stored listed =
    elim (cases_Bool (number_of u == number_of t)) [
      | inl same ↦
          let is : u ≡ t = number-apart u t (eqb-true (number_of u) (number_of t) same) in
          let own : is_stored u ≡ true = ap is_stored is ∙ stored in
          rw own (ap (λ (b : Bool). b || is_listed (stored_in list) t) same)
      | inr other ↦
          let rest = listed-stored t list stored (sym (ap (λ (b : Bool). b || is_listed list t) other) ∙ listed) in
          elim (cases_Bool (is_stored u)) [
            | inl own ↦ rw own (ap (λ (b : Bool). b || is_listed (stored_in list) t) other ∙ rest)
            | inr none ↦ rw none rest
          ]
    ]

-- what all stores are, the store of a strategy that has one is
holding-is : (P : Holding → Type 0) (t : Strategy) (keeps : List Keep) → All (λ f. P f.holding) keeps
    → is_listed (map (λ f. f.strategy) keeps) t ≡ true → P (holding_for t keeps)
holding-is P t [] all listed = cc
holding-is P t (f ∷ keeps) all listed =
    elim (cases_Bool (number_of f.strategy == number_of t)) [
      | inl here ↦ rw here (All-head (λ (g : Keep). P g.holding) f keeps all)
      | inr other ↦
          rw other
          (holding-is P t keeps (All-tail (λ (g : Keep). P g.holding) f keeps all)
          (sym (ap (λ (b : Bool). b || is_listed (map (λ g. g.strategy) keeps) t) other) ∙ listed))
    ]

-- of a list that has a stored strategy something is kept, once its version is awaited
nothing-kept : (P : Type 0) (e : Execution) (list : List Strategy) (t : Strategy) → is_listed list t ≡ true
    → is_stored t ≡ true → IsKeptOf true e list nothing → P
nothing-kept P e list t listed stored own =
    absurd (true≢false (sym stored ∙ listed-fails is_stored list t (own refl) listed))

-- ---- the view for each way

-- a way is the mapping, black box, or by a store
by-ways : (P : Strategy → Type 0) → P strategy.Map → P strategy.BlackBox
    → ((t : Strategy) → is_stored t ≡ true → P t) → (s : Strategy) → P s
by-ways P map black stored strategy.Map = map
by-ways P map black stored strategy.FullOneB = stored strategy.FullOneB refl
by-ways P map black stored strategy.FullOneF = stored strategy.FullOneF refl
by-ways P map black stored strategy.FullManyB = stored strategy.FullManyB refl
by-ways P map black stored strategy.FullManyF = stored strategy.FullManyF refl
by-ways P map black stored strategy.PayOne = stored strategy.PayOne refl
by-ways P map black stored strategy.PayMany = stored strategy.PayMany refl
by-ways P map black stored strategy.CompOne = stored strategy.CompOne refl
by-ways P map black stored strategy.CompMany = stored strategy.CompMany refl
by-ways P map black stored strategy.BlackBox = black

-- what is so of the views by a store is so of the view for a stored strategy, which is not black box
by-store : (e : Execution) (kept : Keeping) (t : Strategy) → is_stored t ≡ true
    → (view_by t e kept ≡ view_kept t e kept) × (is_black_box t ≡ false)
by-store e kept strategy.Map stored = cc
by-store e kept strategy.FullOneB stored = (refl, refl)
by-store e kept strategy.FullOneF stored = (refl, refl)
by-store e kept strategy.FullManyB stored = (refl, refl)
by-store e kept strategy.FullManyF stored = (refl, refl)
by-store e kept strategy.PayOne stored = (refl, refl)
by-store e kept strategy.PayMany stored = (refl, refl)
by-store e kept strategy.CompOne stored = (refl, refl)
by-store e kept strategy.CompMany stored = (refl, refl)
by-store e kept strategy.BlackBox stored = cc

-- its operator is that of the execution
pub view_by-site : (s : Strategy) (e : Execution) (kept : Keeping) → view_site (view_by s e kept) ≡ e.site
view_by-site s e kept =
    by-ways (λ t. view_site (view_by t e kept) ≡ e.site) refl refl
    (λ t stored. ap view_site (by-store e kept t stored).0 ∙ at t kept) s where
      at : (t : Strategy) (k : Keeping) → view_site (view_kept t e k) ≡ e.site
      at t nothing = refl
      at t (growing z p) = refl
      at t (whole k) = refl
      at t (read k) = refl

-- it can be used where the way is a supported one of the list, for which this is kept
pub view_by-usable : (b : Bool) (list : List Strategy) (s : Strategy) (e : Execution) (kept : Keeping)
    → is_listed list s ≡ true → supports e.site.op s ≡ true → extents_of e.inputs ≡ e.site.ins
    → IsKeptOf b e list kept → IsUsable (view_by s e kept)
view_by-usable b list s e kept listed supported ins own =
    by-ways (λ t. is_listed list t ≡ true → supports e.site.op t ≡ true → IsUsable (view_by t e kept))
    (λ there mapped. mapped) (λ there any. ins)
    (λ t stored there any. subst IsUsable (sym (by-store e kept t stored).0) (at t stored there kept own)) s listed
    supported where
      at : (t : Strategy) → is_stored t ≡ true → is_listed list t ≡ true → (k : Keeping) → IsKeptOf b e list k
          → IsUsable (view_kept t e k)
      at t stored there nothing own = ins
      at t stored there (growing z p) own = record {
        own = own.2.own;
        site = ap (λ (x : Tag). x.site) own.2.tag;
        inputs = ap (λ (x : Tag). x.inputs) own.2.tag;
        fits = ins;
        listed = ap (λ (x : Tag). is_listed x.list t) own.2.tag ∙ there;
        stored = stored;
      }
      at t stored there (whole k) own = record {
        site = own.1.site;
        whole = own.1.whole;
        stored = stored;
        listed = ap (λ (ts : List Strategy). is_listed ts t) own.1.list ∙ there;
      }
      at t stored there (read k) own = absurd own

-- and then it stands for the relation of its operator
pub view_by-faithful : (b : Bool) (list : List Strategy) (s : Strategy) (e : Execution) (kept : Keeping)
    (gs : List Grid) → is_listed list s ≡ true → supports e.site.op s ≡ true → e.inputs ≡ gs → IsKeptOf b e list kept
    → IsFaithful (view_by s e kept) gs
view_by-faithful b list s e kept gs listed supported same own =
    by-ways (λ t. is_listed list t ≡ true → supports e.site.op t ≡ true → IsFaithful (view_by t e kept) gs)
    (λ there mapped. mapped) (λ there any. same)
    (λ t stored there any. subst (λ v. IsFaithful v gs) (sym (by-store e kept t stored).0) (at t stored there kept own))
    s listed supported where
      R : List Grid → Holding → Type 0
      R xs h = IsTheRelation (measure_of e.site xs) (holding_stands e.site h)

      at : (t : Strategy) → is_stored t ≡ true → is_listed list t ≡ true → (k : Keeping) → IsKeptOf b e list k
          → IsFaithful (view_kept t e k) gs
      at t stored there nothing own = same
      at t stored there (growing z p) own = same
      at t stored there (whole k) own =
          let found = ap (λ (ts : List Strategy). is_listed ts t) own.1.stored ∙ listed-stored t list stored there in
          subst (λ (xs : List Grid). R xs (holding_for t k.stores)) same
          (holding-is (R e.inputs) t k.stores own.1.exact found)
      at t stored there (read k) own = absurd own

-- it is told as traced by no more than its output
pub view_by-few : (s : Strategy) (e : Execution) (kept : Keeping)
    → most_traced_by (view_by s e kept) ≤ size_of e.site.out
view_by-few s e kept =
    by-ways (λ t. most_traced_by (view_by t e kept) ≤ size_of e.site.out) (omega arith) (omega arith)
    (λ t stored. omega (arith, ap most_traced_by (by-store e kept t stored).0, at t kept)) s where
      at : (t : Strategy) (k : Keeping) → most_traced_by (view_kept t e k) ≤ size_of e.site.out
      at t nothing = omega arith
      at t (growing z p) = omega arith
      at t (whole k) = omega arith
      at t (read k) = omega arith

-- ---- the view once it was asked

-- of a version that is awaited it is as before
pub view_by-stays : (list : List Strategy) (s : Strategy) (e : Execution) (kept : Keeping) (w : View)
    → is_listed list s ≡ true → IsKeptOf true e list kept → IsAsked (view_by s e kept) w → w ≡ view_by s e kept
view_by-stays list s e kept w listed own asked =
    by-ways (λ t. is_listed list t ≡ true → IsAsked (view_by t e kept) w → w ≡ view_by t e kept)
    (λ there h. h) (λ there h. h)
    (λ t stored there h.
    subst (λ v. IsAsked v w → w ≡ v) (sym (by-store e kept t stored).0) (at t stored there kept own) h) s listed
    asked where
      at : (t : Strategy) → is_stored t ≡ true → is_listed list t ≡ true → (k : Keeping) → IsKeptOf true e list k
          → IsAsked (view_kept t e k) w → w ≡ view_kept t e k
      at t stored there nothing own h = nothing-kept (w ≡ view_kept t e nothing) e list t there stored own
      at t stored there (growing z p) own h = absurd (true≢false own.0)
      at t stored there (whole k) own h = h
      at t stored there (read k) own h = h

-- and is told as traced by all of its output exactly where the way is black box
pub view_by-traced : (list : List Strategy) (s : Strategy) (e : Execution) (kept : Keeping)
    → is_listed list s ≡ true → IsKeptOf true e list kept
    → traced_by (view_by s e kept) ≡ (if is_black_box s then size_of e.site.out else 0)
view_by-traced list s e kept listed own =
    by-ways (λ t. is_listed list t ≡ true
    → traced_by (view_by t e kept) ≡ (if is_black_box t then size_of e.site.out else 0)) (λ there. refl) (λ there. refl)
    (λ t stored there.
    ap traced_by (by-store e kept t stored).0 ∙ at t stored there kept own
    ∙ sym (ap (λ (b : Bool). if b then size_of e.site.out else 0) (by-store e kept t stored).1)) s listed where
      at : (t : Strategy) → is_stored t ≡ true → is_listed list t ≡ true → (k : Keeping) → IsKeptOf true e list k
          → traced_by (view_kept t e k) ≡ 0
      at t stored there nothing own = nothing-kept (traced_by (view_kept t e nothing) ≡ 0) e list t there stored own
      at t stored there (growing z p) own = absurd (true≢false own.0)
      at t stored there (whole k) own = refl
      at t stored there (read k) own = refl

-- what is told of a step by it is the way
pub view_by-told : (list : List Strategy) (s : Strategy) (e : Execution) (kept : Keeping)
    → is_listed list s ≡ true → IsKeptOf true e list kept → strategy_told (used_of (view_by s e kept)) ≡ s
view_by-told list s e kept listed own =
    by-ways (λ t. is_listed list t ≡ true → strategy_told (used_of (view_by t e kept)) ≡ t) (λ there. refl)
    (λ there. refl)
    (λ t stored there.
    ap (λ (v : View). strategy_told (used_of v)) (by-store e kept t stored).0 ∙ at t stored there kept own) s
    listed where
      at : (t : Strategy) → is_stored t ≡ true → is_listed list t ≡ true → (k : Keeping) → IsKeptOf true e list k
          → strategy_told (used_of (view_kept t e k)) ≡ t
      at t stored there nothing own =
          nothing-kept (strategy_told (used_of (view_kept t e nothing)) ≡ t) e list t there stored own
      at t stored there (growing z p) own = absurd (true≢false own.0)
      at t stored there (whole k) own = refl
      at t stored there (read k) own = refl

-- whether or not the version is awaited, where the way is black box it is told as traced by all of its output
pub view_by-least : (s : Strategy) (e : Execution) (kept : Keeping) (w : View) → IsAsked (view_by s e kept) w
    → (if is_black_box s then size_of e.site.out else 0) ≤ traced_by w
view_by-least s e kept w asked =
    by-ways (λ t. IsAsked (view_by t e kept) w → (if is_black_box t then size_of e.site.out else 0) ≤ traced_by w)
    (λ h. omega arith) (λ h. omega (arith, ap traced_by h))
    (λ t stored h.
    omega (arith, ap (λ (b : Bool). if b then size_of e.site.out else 0) (by-store e kept t stored).1)) s asked
