-- Where a walk over the steps has come to: what is left of the path is again a path, from the set as it is now,
-- and gives the answer of the whole. One step takes the first view off.
use Rattle.std.proofs.Common.{◌≡◌, ℕ, zero, suc, ◌+◌, ◌<◌, ◌≤◌, List, [], ◌∷◌}
use Rattle.std.proofs.Common.{◌++◌, map, length, get_or, take, drop, set, refl, sym, ap, ap₂, subst}
use Rattle.std.proofs.Common.{◌∙◌, arith, append_assoc, inr}
use Rattle.std.specs.List.{AllZip}
use Rattle.std.proofs.Math.Seq.{drop-cons}
use Rattle.std.proofs.lemmas.List.{drop-drop, drop-set-lt, length-set, take_all, take_more_set, map-append}
use Rattle.sz_cells.specs.Extent.{Extent}
use Rattle.sz_cells.specs.Cells.{Cells, no_cells}
use Rattle.sz_spec.specs.declared.modes.Dir.{Dir}
use Rattle.sz_spec.specs.declared.modes.Dir.TheVariants.{Back, Forward}
use Rattle.sz_spec.specs.Sides.{far_side}
use Rattle.sz_query.specs.declared.views.NodeView.{NodeView}
use Rattle.sz_query.specs.declared.used.Used.{Used}
use Rattle.sz_query.specs.Views.{View, view_of, view_site, used_of, traced_by, most_traced_by, image_by}
use Rattle.sz_query.specs.Turns.{IsAsked, MayBeAsked}
use Rattle.sz_query.specs.Answers.{answered, traced_of, most_traced_of, IsStep, AreSteps}
use Rattle.sz_query.specs.Sides.{empty_sides}
use Rattle.sz_query.proofs.Asked.{asked-stay, none-asked}

-- the views from a number on, and those at the number and behind it
-- the views from a number on
abbrev pub views_from : List NodeView → ℕ → List View
views_from views k = map view_of (drop k views)

-- a list from a number on begins with the item there
pub drop-here : {X : Type 0} (xs : List X) (k : ℕ) (x : X) → k < length xs → x ≡ get_or xs k x
    → drop k xs ≡ x ∷ drop (k + 1) xs
drop-here {X = X} xs k x lt is =
    let next : suc k ≡ k + 1 = omega arith in
    drop-cons xs k x lt ∙ ap₂ (λ (y : X) (n : ℕ). y ∷ drop n xs) (sym is) next

-- of numbers it is named by any default
pub drop-here_number : (xs : List ℕ) (k : ℕ) → k < length xs → drop k xs ≡ get_or xs k 0 ∷ drop (k + 1) xs
drop-here_number xs k lt =
    let next : suc k ≡ k + 1 = omega arith in
    drop-cons xs k 0 lt ∙ ap (λ (n : ℕ). get_or xs k 0 ∷ drop n xs) next

-- so do the views
pub views-here : (views : List NodeView) (k : ℕ) (v : NodeView) → k < length views → v ≡ get_or views k v
    → views_from views k ≡ view_of v ∷ views_from views (k + 1)
views-here views k v lt is = ap (map view_of) (drop-here views k v lt is)

-- there is one input number for each view, and one empty set
pub steps-inputs : (dir : Dir) (views : List View) (inputs : List ℕ) (e : Extent) → AreSteps dir views inputs e
    → length inputs ≡ length views
steps-inputs dir [] [] e steps = refl
steps-inputs dir [] (i ∷ inputs) e steps = absurd steps
steps-inputs dir (v ∷ views) [] e steps = absurd steps
steps-inputs dir (v ∷ views) (i ∷ inputs) e steps =
    ap suc (steps-inputs dir views inputs (far_side dir (view_site v) i) steps.1)

pub sides-length : (dir : Dir) (views : List View) (inputs : List ℕ) → length inputs ≡ length views
    → length (empty_sides dir views inputs) ≡ length views
sides-length dir [] inputs same = refl
sides-length dir (v ∷ views) [] same = same
sides-length dir (v ∷ views) (i ∷ inputs) same =
    let rest : length inputs ≡ length views = omega (arith, same) in ap suc (sides-length dir views inputs rest)

-- the input of the step at a number is one of its operator
pub step-input : (dir : Dir) (views : List NodeView) (inputs : List ℕ) (e : Extent) (k : ℕ) (v : NodeView)
    → AreSteps dir (map view_of views) inputs e → k < length views → v ≡ get_or views k v
    → get_or inputs k 0 < length (view_site (view_of v)).ins
step-input dir [] inputs e k v steps lt is = absurd (omega (arith, lt))
step-input dir (w ∷ views) [] e k v steps lt is = absurd steps
step-input dir (w ∷ views) (i ∷ inputs) e zero v steps lt is =
    subst (λ (u : NodeView). i < length (view_site (view_of u)).ins) (sym is) steps.0.input
step-input dir (w ∷ views) (i ∷ inputs) e (suc k) v steps lt is =
    step-input dir views inputs (far_side dir (view_site (view_of w)) i) k v steps.1 (omega (arith, lt)) is

-- the bitmap of the step at a number
pub side-here : (dir : Dir) (views : List NodeView) (inputs : List ℕ) (k : ℕ) (v : NodeView) → k < length views
    → k < length inputs → v ≡ get_or views k v
    → empty_sides dir (views_from views k) (drop k inputs)
    ≡ no_cells (far_side dir (view_site (view_of v)) (get_or inputs k 0))
    ∷ empty_sides dir (views_from views (k + 1)) (drop (k + 1) inputs)
side-here dir views inputs k v lt few is =
    ap₂ (empty_sides dir) (views-here views k v lt is) (drop-here_number inputs k few)

-- one bitmap more is made
pub one-more : (dir : Dir) (views : List NodeView) (inputs : List ℕ) (k : ℕ) (v : NodeView) (made new all : List Cells)
    (side : Cells) → k < length views → k < length inputs → v ≡ get_or views k v
    → side ≡ no_cells (far_side dir (view_site (view_of v)) (get_or inputs k 0)) → new ≡ made ++ side ∷ []
    → made ++ empty_sides dir (views_from views k) (drop k inputs) ≡ all
    → new ++ empty_sides dir (views_from views (k + 1)) (drop (k + 1) inputs) ≡ all
one-more dir views inputs k v made new all side lt few is empty more before =
    let rest = empty_sides dir (views_from views (k + 1)) (drop (k + 1) inputs) in
    ap (λ (xs : List Cells). xs ++ rest) more ∙ append_assoc made (side ∷ []) rest
    ∙ ap (λ (s : Cells). made ++ s ∷ rest) empty
    ∙ ap (λ (xs : List Cells). made ++ xs) (sym (side-here dir views inputs k v lt few is)) ∙ before

-- ---- views that were asked one after the other

-- the views before a number were asked, and those from it on are as they were
pub record IsAskedTo (k : ℕ) (olds nows : List NodeView) : Type 0 where
  pub same : length nows ≡ length olds
  pub asked : AllZip IsAsked (map view_of (take k olds)) (map view_of (take k nows))
  pub rest : drop k nows ≡ drop k olds

-- the first of two lists that are one
first-same : (x y : NodeView) (xs ys : List NodeView) → x ∷ xs ≡ y ∷ ys → x ≡ y
first-same x y xs ys same = cc

rest-same : (x y : NodeView) (xs ys : List NodeView) → x ∷ xs ≡ y ∷ ys → xs ≡ ys
rest-same x y xs ys same = cc

-- the view at the number was asked too
one-asked : (k : ℕ) (olds nows : List NodeView) (v w : NodeView) → k < length olds → length nows ≡ length olds
    → v ≡ get_or nows k v → IsAsked (view_of v) (view_of w)
    → AllZip IsAsked (map view_of (take k olds)) (map view_of (take k nows)) → drop k nows ≡ drop k olds
    → AllZip IsAsked (map view_of (take (suc k) olds)) (map view_of (take (suc k) (set nows k w)))
one-asked k [] nows v w lt same is asked before rest = absurd (omega (arith, lt))
one-asked k (o ∷ olds) [] v w lt same is asked before rest = absurd (omega (arith, same))
one-asked zero (o ∷ olds) (n ∷ nows) v w lt same is asked before rest =
    (subst (λ (u : NodeView). IsAsked (view_of u) (view_of w)) (is ∙ first-same n o nows olds rest) asked, tt)
one-asked (suc k) (o ∷ olds) (n ∷ nows) v w lt same is asked before rest =
    (before.0, one-asked k olds nows v w (omega (arith, lt)) (omega (arith, same)) is asked before.1 rest)

-- what is left of it is what was left of the old list
rest-next : (k : ℕ) (olds nows : List NodeView) → drop k nows ≡ drop k olds → drop (k + 1) nows ≡ drop (k + 1) olds
rest-next k olds nows rest =
    sym (drop-drop 1 k nows) ∙ ap (λ (xs : List NodeView). drop 1 xs) rest ∙ drop-drop 1 k olds

pub asked-next : (k : ℕ) (olds nows : List NodeView) (v w : NodeView) → k < length nows → v ≡ get_or nows k v
    → IsAsked (view_of v) (view_of w) → IsAskedTo k olds nows → IsAskedTo (k + 1) olds (set nows k w)
asked-next k olds nows v w lt is asked before =
    let next : suc k ≡ k + 1 = omega arith in
    let few : k < length olds = omega (arith, lt, before.same) in
    record {
      same = length-set nows k w ∙ before.same;
      asked = subst (λ (n : ℕ). AllZip IsAsked (map view_of (take n olds)) (map view_of (take n (set nows k w)))) next
          (one-asked k olds nows v w few before.same is asked before.asked before.rest);
      rest = drop-set-lt (k + 1) nows k w (omega arith) ∙ rest-next k olds nows before.rest;
    }

-- where the step at the number fails, its view was asked or was not, and those behind it were not
pub tried-at : (k : ℕ) (olds nows : List NodeView) (v w : NodeView) → k < length nows → length nows ≡ length olds
    → v ≡ get_or nows k v → MayBeAsked (view_of v) (view_of w)
    → AllZip IsAsked (map view_of (take k olds)) (map view_of (take k nows)) → drop k nows ≡ drop k olds
    → AllZip MayBeAsked (map view_of olds) (map view_of (set nows k w))
tried-at k olds [] v w lt same is tried before rest = absurd (omega (arith, lt))
tried-at k [] (n ∷ nows) v w lt same is tried before rest = absurd (omega (arith, same))
tried-at zero (o ∷ olds) (n ∷ nows) v w lt same is tried before rest = (
  subst (λ (u : NodeView). MayBeAsked (view_of u) (view_of w)) (is ∙ first-same n o nows olds rest) tried,
  subst (λ (xs : List NodeView). AllZip MayBeAsked (map view_of olds) (map view_of xs))
      (sym (rest-same n o nows olds rest)) (none-asked (map view_of olds)),
)
tried-at (suc k) (o ∷ olds) (n ∷ nows) v w lt same is tried before rest =
    (inr before.0, tried-at k olds nows v w (omega (arith, lt)) (omega (arith, same)) is tried before.1 rest)

-- at the end all views were asked
pub asked-to_end : (k : ℕ) (olds nows : List NodeView) → length nows ≤ k → IsAskedTo k olds nows
    → AllZip IsAsked (map view_of olds) (map view_of nows)
asked-to_end k olds nows le before =
    let few : length olds ≤ k = omega (arith, le, before.same) in
    subst (λ (xs : List NodeView). AllZip IsAsked (map view_of xs) (map view_of nows)) (take_all k olds few)
    (subst (λ (xs : List NodeView). AllZip IsAsked (map view_of (take k olds)) (map view_of xs)) (take_all k nows le)
    before.asked)

-- before the first none was
pub asked-none : (olds : List NodeView) → IsAskedTo 0 olds olds
asked-none olds = record { same = refl; asked = tt; rest = refl }

-- the views that are left, at the number and behind it
pub left-here : (k : ℕ) (olds nows : List NodeView) (v : NodeView) → k < length nows → v ≡ get_or nows k v
    → IsAskedTo k olds nows → views_from olds k ≡ view_of v ∷ views_from olds (k + 1)
left-here k olds nows v lt is before =
    ap (map view_of) (sym before.rest ∙ drop-here nows k v lt is
    ∙ ap (λ (xs : List NodeView). v ∷ xs) (rest-next k olds nows before.rest))

-- ---- the walk

-- what was traced of one view more
traced-more : (views : List View) (w : View) → traced_of (views ++ w ∷ []) ≡ traced_of views + traced_by w
traced-more [] w = omega arith
traced-more (v ∷ views) w = omega (arith, traced-more views w)

-- the views before the next number, of which the last was asked just now
done-more : (k : ℕ) (nows : List NodeView) (w : NodeView) → k < length nows
    → map view_of (take (k + 1) (set nows k w)) ≡ map view_of (take k nows) ++ view_of w ∷ []
done-more k nows w lt = ap (map view_of) (take_more_set nows k w lt) ∙ map-append view_of (take k nows) (w ∷ [])

-- The walk has come to a number. Of the views before it each was asked, and tells how its step went and how much it
-- traced. What is left of the path leads from the set as it is now to the answer of the whole, by the bitmaps that are
-- not used yet, and there is room for all that may be traced on it.
pub record IsOnWay (dir : Dir) (olds : List NodeView) (numbers : List ℕ) (start : Cells) (before : ℕ) (k : ℕ)
    (nows : List NodeView) (bitmaps : List Cells) (here : Cells) (count : ℕ) (told : List Used) : Type 0 where
  pub asked : IsAskedTo k olds nows
  pub steps : AreSteps dir (views_from olds k) (drop k numbers) here.extent
  pub sides : bitmaps ≡ empty_sides dir (views_from olds k) (drop k numbers)
  pub set : answered dir (views_from olds k) (drop k numbers) here ≡ answered dir (map view_of olds) numbers start
  pub used : told ≡ map used_of (map view_of (take k nows))
  pub ticks : count ≡ before + traced_of (map view_of (take k nows))
  pub room : count + most_traced_of (views_from olds k) ≤ before + most_traced_of (map view_of olds)

-- the step at the number, as it is before it is taken
pub record IsNext (dir : Dir) (olds : List NodeView) (numbers : List ℕ) (k : ℕ) (v : View) (bitmaps : List Cells)
    (here : Cells) : Type 0 where
  pub step : IsStep dir v (get_or numbers k 0) here.extent
  pub steps : AreSteps dir (views_from olds (k + 1)) (drop (k + 1) numbers)
      (far_side dir (view_site v) (get_or numbers k 0))
  pub sides : bitmaps ≡ no_cells (far_side dir (view_site v) (get_or numbers k 0))
      ∷ empty_sides dir (views_from olds (k + 1)) (drop (k + 1) numbers)
  pub set : answered dir (views_from olds k) (drop k numbers) here
      ≡ answered dir (views_from olds (k + 1)) (drop (k + 1) numbers) (image_by dir v (get_or numbers k 0) here)
  pub most : most_traced_of (views_from olds k) ≡ most_traced_by v + most_traced_of (views_from olds (k + 1))

pub step-next : (dir : Dir) (olds : List NodeView) (numbers : List ℕ) (k : ℕ) (nows : List NodeView) (v : NodeView)
    (bitmaps : List Cells) (here : Cells) → k < length nows → k < length numbers → v ≡ get_or nows k v
    → IsAskedTo k olds nows → AreSteps dir (views_from olds k) (drop k numbers) here.extent
    → bitmaps ≡ empty_sides dir (views_from olds k) (drop k numbers)
    → IsNext dir olds numbers k (view_of v) bitmaps here
step-next dir olds numbers k nows v bitmaps here lt few is before steps sides =
    let left = left-here k olds nows v lt is before in
    let inputs = drop-here_number numbers k few in
    let both = subst (λ (xs : List ℕ). AreSteps dir (view_of v ∷ views_from olds (k + 1)) xs here.extent) inputs
    (subst (λ (vs : List View). AreSteps dir vs (drop k numbers) here.extent) left steps) in
    record {
      step = both.0;
      steps = both.1;
      sides = sides ∙ ap₂ (empty_sides dir) left inputs;
      set = ap₂ (λ (vs : List View) (xs : List ℕ). answered dir vs xs here) left inputs;
      most = ap most_traced_of left;
    }

-- an image is of the shape to which its step leads
extended-steps : (dir : Dir) (v : View) (i : ℕ) (set : Cells) (views : List View) (inputs : List ℕ)
    → AreSteps dir views inputs (far_side dir (view_site v) i)
    → AreSteps dir views inputs (image_by dir v i set).extent
extended-steps Back v i set views inputs steps = steps
extended-steps Forward v i set views inputs steps = steps

-- once it is taken, the walk has come to the next number
pub on-next : (dir : Dir) (olds : List NodeView) (numbers : List ℕ) (start : Cells) (before : ℕ) (k : ℕ)
    (nows : List NodeView) (bitmaps after : List Cells) (here to : Cells) (count next : ℕ) (told tells : List Used)
    (v w : NodeView) (used : Used) → k < length nows → k < length numbers → v ≡ get_or nows k v
    → IsOnWay dir olds numbers start before k nows bitmaps here count told
    → IsAsked (view_of v) (view_of w) → to ≡ image_by dir (view_of v) (get_or numbers k 0) here
    → used ≡ used_of (view_of w) → next ≡ count + traced_by (view_of w) → tells ≡ told ++ used ∷ []
    → after ≡ drop 1 bitmaps
    → IsOnWay dir olds numbers start before (k + 1) (set nows k w) after to next tells
on-next dir olds numbers start before k nows bitmaps after here to count next told tells v w used lt few is way asked
    image how ticks more used_up =
    let it = step-next dir olds numbers k nows v bitmaps here lt few is way.asked way.steps way.sides in
    let done = done-more k nows w lt in
    let stays = asked-stay (view_of v) (view_of w) asked in
    record {
      asked = asked-next k olds nows v w lt is asked way.asked;
      steps = subst (λ (s : Cells). AreSteps dir (views_from olds (k + 1)) (drop (k + 1) numbers) s.extent) (sym image)
          (extended-steps dir (view_of v) (get_or numbers k 0) here (views_from olds (k + 1)) (drop (k + 1) numbers)
          it.steps);
      sides = used_up ∙ ap (λ (xs : List Cells). drop 1 xs) it.sides;
      set = ap (answered dir (views_from olds (k + 1)) (drop (k + 1) numbers)) image ∙ sym it.set ∙ way.set;
      used = more ∙ ap₂ (λ (xs : List Used) (u : Used). xs ++ u ∷ []) way.used how
          ∙ sym (ap (map used_of) done ∙ map-append used_of (map view_of (take k nows)) (view_of w ∷ []));
      ticks = let all = ap traced_of done ∙ traced-more (map view_of (take k nows)) (view_of w) in
          omega (arith, ticks, way.ticks, all);
      room = omega (arith, ticks, stays.most, it.most, way.room);
    }
