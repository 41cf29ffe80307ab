-- What is asked along a path, and what answers it.
use Rattle.std.specs.Prelude.{◌≡◌, ℕ, ◌≤◌, List, map, true}
use Rattle.std.specs.List.{AllZip}
use Rattle.sz_cells.specs.Cells.{Cells, named_in}
use Rattle.sz_spec.specs.declared.modes.Dir.{Dir}
use Rattle.sz_spec.specs.Paths.{Step, is_joined}
use Rattle.sz_script.specs.declared.command.NamedCell.{NamedCell}
use Rattle.sz_query.specs.declared.path.Found.{Found}
use Rattle.sz_query.specs.Views.{View, used_of}
use Rattle.sz_query.specs.Turns.{IsAsked}
use Rattle.sz_query.specs.Answers.{answered, traced_of, most_traced_of, AreSteps, IsPath}
use Rattle.sz_catalogue.specs.Holdings.{Version}
use Rattle.sz_catalogue.specs.Starts.{path_start, cell_named}
use Rattle.sz_versions.specs.Runs.{IsSoundVersion}
use Rattle.sz_versions.specs.Views.{IsViewOf}

-- the view of each step, the number of each step's input, and the cells from which it starts
pub record Search : Type 0 where
  pub dir : Dir
  pub views : List View
  pub inputs : List ℕ
  pub start : Cells

-- Each step can be taken, and no more is told as traced than 32 outputs have.
pub record IsReady (s : Search) : Type 0 where
  pub path : IsPath s.views
  pub steps : AreSteps s.dir s.views s.inputs s.start.extent
  pub few : most_traced_of s.views ≤ 33554432

-- It is that of a path of a version, from some named cells: each view is that of its step.
pub record IsSearchOf (v : Version) (dir : Dir) (path : List Step) (named : List NamedCell)
    (s : Search) : Type 0 where
  pub sound : IsSoundVersion v
  pub joined : is_joined dir v.flow path ≡ true
  pub turned : s.dir ≡ dir
  pub views : AllZip (IsViewOf v dir) path s.views
  pub inputs : s.inputs ≡ map (λ (t : Step). t.input) path
  pub start : s.start
      ≡ named_in (path_start dir v path) (map (cell_named (path_start dir v path)) named)

-- What was found answers it: each view was asked once, and by the views as they are then it is told
-- how the steps went.
pub record IsAnswerTo (s : Search) (f : Found) : Type 0 where
  pub views : List View
  pub asked : AllZip IsAsked s.views views
  pub cells : f.cells ≡ answered s.dir s.views s.inputs s.start
  pub used : f.used ≡ map used_of views
  pub traced : f.traced ≡ traced_of views
  pub few : f.traced ≤ 33554432
