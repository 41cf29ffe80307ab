-- What answers a search along a path of a version.
--
-- The key idea: the views of the search are those of the path's steps, so the lemmas on these say what is found by
-- them.
use Rattle.std.proofs.Common.{◌≡◌, ℕ, ◌≤◌, List, [], ◌∷◌, map, true, sym, ap, ◌∙◌, subst, arith}
use Rattle.std.proofs.Common.{Result, Ok, Err, IfOk, OnOk}
use Rattle.std.specs.List.{AllZip}
use Rattle.sz_cells.specs.Cells.{Cells, named_in}
use Rattle.sz_cells.specs.SetBytes.{IsSetOf}
use Rattle.sz_spec.specs.declared.modes.Dir.{Dir}
use Rattle.sz_spec.specs.Paths.{Step, compose}
use Rattle.sz_script.specs.declared.command.NamedCell.{NamedCell}
use Rattle.sz_query.specs.declared.path.Found.{Found}
use Rattle.sz_query.specs.Views.{View}
use Rattle.sz_query.specs.Turns.{IsAsked}
use Rattle.sz_query.specs.Answers.{answered, traced_of, most_traced_of}
use Rattle.sz_catalogue.specs.Holdings.{Version, arrays_of}
use Rattle.sz_catalogue.specs.Starts.{path_start, cell_named}
use Rattle.sz_catalogue.specs.Changes.{outputs, cells_answered, way_of, traced}
use Rattle.sz_versions.specs.Efforts.{most_traced}
use Rattle.sz_versions.specs.Views.{strategy_told}
use Rattle.sz_versions.specs.Searches.{Search, IsSearchOf, IsAnswerTo}
use Rattle.sz_versions.proofs.PathViews.{AreSound, sound-views, views-answer, named-set, joined-there, joined-parts}
use Rattle.sz_versions.proofs.PathViews.{views-told, views-traced, views-between, views-within, asked-most}

-- the views of a search are those of sound executions
searched-views : (v : Version) (dir : Dir) (path : List Step) (named : List NamedCell) (s : Search)
    → IsSearchOf v dir path named s → AreSound v dir path s.views
searched-views v dir path named s h =
    sound-views v dir path s.views h.sound (joined-there dir v.flow path (joined-parts dir v.flow path h.joined).2)
    h.views

-- the cells
pub found-cells : (v : Version) (dir : Dir) (path : List Step) (named : List NamedCell) (s : Search) (f : Found)
    → IsSearchOf v dir path named s → IsAnswerTo s f → f.cells ≡ cells_answered v dir path named
found-cells v dir path named s f h a =
    let start = path_start dir v path in
    let cells = named_in start (map (cell_named start) named) in
    let from : s.start.extent ≡ start = ap (λ (x : Cells). x.extent) h.start in
    let whole =
    subst (λ (x : Cells). IsSetOf x.extent x) (sym h.start) (named-set start (map (cell_named start) named)) in
    a.cells
    ∙ ap (λ (d : Dir). answered d s.views s.inputs s.start) h.turned
    ∙ ap (λ (is : List ℕ). answered dir s.views is s.start) h.inputs
    ∙ views-answer v dir path s.views s.start h.sound (joined-parts dir v.flow path h.joined).2
    (searched-views v dir path named s h) from whole
    ∙ ap (λ (x : Cells). compose dir v.flow (arrays_of v.base) (outputs v) path x) h.start

-- by which way each step went, once the version is awaited
pub found-ways : (v : Version) (dir : Dir) (path : List Step) (named : List NamedCell) (s : Search) (f : Found)
    → IsSearchOf v dir path named s → IsAnswerTo s f → v.awaited ≡ true
    → map strategy_told f.used ≡ map (way_of v dir) path
found-ways v dir path named s f h a awaited =
    ap (map strategy_told) a.used
    ∙ views-told v dir path s.views a.views awaited (searched-views v dir path named s h) a.asked

-- how many cells are told as traced: once the version is awaited exactly, and else from below and above
pub found-traced : (v : Version) (dir : Dir) (path : List Step) (named : List NamedCell) (s : Search) (f : Found)
    → IsSearchOf v dir path named s → IsAnswerTo s f → v.awaited ≡ true → f.traced ≡ traced v dir path
found-traced v dir path named s f h a awaited =
    a.traced
    ∙ views-traced v dir path s.views a.views h.sound awaited (searched-views v dir path named s h) a.asked

pub found-least : (v : Version) (dir : Dir) (path : List Step) (named : List NamedCell) (s : Search) (f : Found)
    → IsSearchOf v dir path named s → IsAnswerTo s f → traced v dir path ≤ f.traced
found-least v dir path named s f h a =
    omega (
      arith,
      a.traced,
      (views-between v dir path s.views a.views h.sound (searched-views v dir path named s h) a.asked).0,
    )

pub found-most : (v : Version) (dir : Dir) (path : List Step) (named : List NamedCell) (s : Search) (f : Found)
    → IsSearchOf v dir path named s → IsAnswerTo s f → f.traced ≤ most_traced v dir path
found-most v dir path named s f h a =
    omega (
      arith,
      a.traced,
      views-within v dir path s.views a.views h.sound (searched-views v dir path named s h) a.asked,
    )

-- what is traced of views that were asked is no more than was allowed for
pub asked-within : (views asked : List View) → AllZip IsAsked views asked → traced_of asked ≤ most_traced_of views
asked-within [] [] zip = omega arith
asked-within (w ∷ views) (x ∷ asked) zip =
    omega (arith, asked-most w x zip.0, asked-within views asked zip.1)
asked-within _ _ zip = absurd zip

-- what is so where there is a value follows from what is so of the value
pub on-found : {T E : Type 0} (P : T → Type 0) (Q : Type 0) (r : Result T E) → ((x : T) → P x → Q) → IfOk r P → OnOk r Q
on-found P Q (Ok x) f p = f x p
on-found P Q (Err e) f p = p

pub if-both : {T E : Type 0} (P Q : T → Type 0) (r : Result T E) → IfOk r P → IfOk r Q → IfOk r (λ x. P x × Q x)
if-both P Q (Ok x) p q = (p, q)
if-both P Q (Err e) p q = p

pub if-on : {T E : Type 0} (P : T → Type 0) (Q : Type 0) (r : Result T E) → IfOk r P → OnOk r Q → IfOk r (λ x. P x × Q)
if-on P Q (Ok x) p q = (p, q)
if-on P Q (Err e) p q = p
