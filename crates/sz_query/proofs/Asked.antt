-- What follows of a view that was asked: of one by a shelf only the pass is another, of the same shelf, which still saw
-- what it saw. So the operator, its relation and what the view needs are as before, and no more is told as traced.
use Rattle.std.proofs.Common.{◌≡◌, ℕ, ◌≤◌, Bool, true, false, true≢false, List, [], ◌∷◌, refl, sym, ap, subst, ◌∙◌}
use Rattle.std.proofs.Common.{arith, inl, inr, if◌then◌else◌, Result, Ok, Err, OnErr}
use Rattle.std.specs.List.{AllZip}
use Rattle.sz_cells.specs.Extent.{size_of}
use Rattle.sz_cells.specs.Cells.{Cells}
use Rattle.sz_spec.specs.declared.modes.Dir.{Dir}
use Rattle.sz_spec.specs.declared.modes.Strategy.{Strategy}
use Rattle.sz_spec.specs.Lineage.{related}
use Rattle.sz_spec.specs.Modes.{is_listed}
use Rattle.sz_spec.specs.Shapes.{Site}
use Rattle.sz_spec.specs.Sides.{image_in}
use Rattle.sz_spec.specs.Values.{Grid}
use Rattle.sz_shelf.specs.Tags.{Tag}
use Rattle.sz_shelf.specs.Places.{ShelfPlace}
use Rattle.sz_shelf.specs.Passes.{Onlooker}
use Rattle.sz_query.specs.Views.{View, by_map, by_store, by_shelf, by_growth, by_trace, traced_by, most_traced_by}
use Rattle.sz_query.specs.Views.{HasShelf, HasGrowth}
use Rattle.sz_query.specs.Turns.{LookedOnce, IsAsked, MayBeAsked}
use Rattle.sz_query.specs.Answers.{traced_of, most_traced_of}
use Rattle.sz_query.specs.Laws.{StaysAsked, AskedViewsStay}

-- ---- one view

-- of cells that are told as traced only where nothing was seen, there are at most as many, and no more where more was
-- seen
none-or : (saw : Bool) (n : ℕ) → (if saw then 0 else n) ≤ n
none-or true n = omega arith
none-or false n = omega arith

none-once : (saw sees : Bool) (n : ℕ) → (saw ≡ true → sees ≡ true)
    → (if sees then 0 else n) ≤ (if saw then 0 else n)
none-once true true n keeps = omega arith
none-once true false n keeps = absurd (true≢false (sym (keeps refl)))
none-once false true n keeps = omega arith
none-once false false n keeps = omega arith

-- a view that is the same stays
same-stays : (v w : View) → traced_by v ≤ most_traced_by v → w ≡ v → StaysAsked v w
same-stays v w most same =
    subst (λ (u : View). StaysAsked v u) (sym same) (record {
      site = refl;
      ready = λ ready. ready;
      image = λ dir i set. refl;
      most = most;
      fewer = omega arith;
      traced = λ fixed. refl;
      used = λ fixed. refl;
    })

-- the tag of a pass that looked once, and what it saw
looked-tag : (p q : Onlooker) → LookedOnce p q → q.tag ≡ p.tag
looked-tag p q looked = ap (λ (z : ShelfPlace). z.tag) looked.turn.place

pub looked-saw : (p q : Onlooker) → LookedOnce p q → p.saw ≡ true → q.saw ≡ true
looked-saw p q looked saw = looked.turn.saw (looked.turn.sealed saw)

listed-still : (p q : Onlooker) (t : Strategy) → LookedOnce p q → is_listed p.tag.list t ≡ true
    → is_listed q.tag.list t ≡ true
listed-still p q t looked listed = ap (λ (x : Tag). is_listed x.list t) (looked-tag p q looked) ∙ listed

-- a view by a shelf, and one by a shelf that may grow
shelf-stays : (s : Site) (z : ShelfPlace) (p q : Onlooker) (t : Strategy) → LookedOnce p q
    → StaysAsked (by_shelf s z p t) (by_shelf s z q t)
shelf-stays s z p q t looked = record {
  site = refl;
  ready = λ (has : HasShelf s z p t). record {
    own = looked.turn.place ∙ has.own;
    site = ap (λ (x : Tag). x.site) (looked-tag p q looked) ∙ has.site;
    saw = looked-saw p q looked has.saw;
    listed = listed-still p q t looked has.listed;
    stored = has.stored;
  };
  image = λ (dir : Dir) (i : ℕ) (set : Cells).
      ap (λ (x : Tag). image_in dir s i (related s.op x.inputs i) set) (looked-tag p q looked);
  most = omega arith;
  fewer = omega arith;
  traced = λ fixed. refl;
  used = λ fixed. refl;
}

growth-stays : (s : Site) (inputs : List Grid) (z : ShelfPlace) (p q : Onlooker) (t : Strategy) → LookedOnce p q
    → StaysAsked (by_growth s inputs z p t) (by_growth s inputs z q t)
growth-stays s inputs z p q t looked = record {
  site = refl;
  ready = λ (has : HasGrowth s inputs z p t). record {
    own = looked.turn.place ∙ has.own;
    site = ap (λ (x : Tag). x.site) (looked-tag p q looked) ∙ has.site;
    inputs = ap (λ (x : Tag). x.inputs) (looked-tag p q looked) ∙ has.inputs;
    fits = has.fits;
    listed = listed-still p q t looked has.listed;
    stored = has.stored;
  };
  image = λ (dir : Dir) (i : ℕ) (set : Cells). refl;
  most = none-or q.saw (size_of s.out);
  fewer = none-once p.saw q.saw (size_of s.out) (looked-saw p q looked);
  traced = λ fixed. absurd (true≢false fixed);
  used = λ fixed. absurd (true≢false fixed);
}

-- and so each view
pub asked-stay : AskedViewsStay
asked-stay (by_map s) w asked = same-stays (by_map s) w (omega arith) asked
asked-stay (by_store s kept t) w asked = same-stays (by_store s kept t) w (omega arith) asked
asked-stay (by_shelf s z p t) w asked =
    subst (λ (u : View). StaysAsked (by_shelf s z p t) u) (sym asked.2) (shelf-stays s z p asked.0 t asked.1)
asked-stay (by_growth s inputs z p t) w asked =
    subst (λ (u : View). StaysAsked (by_growth s inputs z p t) u) (sym asked.2)
    (growth-stays s inputs z p asked.0 t asked.1)
asked-stay (by_trace s inputs) w asked = same-stays (by_trace s inputs) w (omega arith) asked

-- ---- the views of a path

-- none of them was asked
pub none-asked : (views : List View) → AllZip MayBeAsked views views
none-asked [] = tt
none-asked (v ∷ views) = (inl refl, none-asked views)

-- all of them were
pub all-asked : (views news : List View) → AllZip IsAsked views news → AllZip MayBeAsked views news
all-asked [] [] asked = tt
all-asked [] (w ∷ news) asked = absurd asked
all-asked (v ∷ views) [] asked = absurd asked
all-asked (v ∷ views) (w ∷ news) asked = (inr asked.0, all-asked views news asked.1)

-- no more is told as traced than might be
pub most-asked : (views news : List View) → AllZip IsAsked views news → traced_of news ≤ most_traced_of views
most-asked [] [] asked = omega arith
most-asked [] (w ∷ news) asked = absurd asked
most-asked (v ∷ views) [] asked = absurd asked
most-asked (v ∷ views) (w ∷ news) asked =
    let here = asked-stay v w asked.0 in omega (arith, here.most, most-asked views news asked.1)

-- what holds in any case holds where there was no memory
pub on-err : {A E : Type 0} {P : Type 0} (r : Result A E) → P → OnErr r P
on-err (Ok x) h = tt
on-err (Err e) h = h
