-- What answers a search along a path of a version that is held, by what it carries or by the stores that a log gave.
use Rattle.std.proofs.Common.{◌≡◌, ◌≤◌, List, map, true, Option, Some, None, ap, arith, Bool}
use Rattle.std.specs.Prelude.{if◌then◌else◌}
use Rattle.sz_spec.specs.declared.modes.Dir.{Dir}
use Rattle.sz_spec.specs.Paths.{Step}
use Rattle.sz_store.specs.Kept.{NodeLineage}
use Rattle.sz_script.specs.declared.command.NamedCell.{NamedCell}
use Rattle.sz_query.specs.declared.path.Found.{Found}
use Rattle.sz_catalogue.specs.Holdings.{Version}
use Rattle.sz_catalogue.specs.Changes.{way_of, traced}
use Rattle.sz_versions.specs.Efforts.{most_traced, sizes_along}
use Rattle.sz_versions.specs.Views.{strategy_told}
use Rattle.sz_commands.specs.States.{cells_by}
use Rattle.sz_versions.specs.Searches.{Search, IsAnswerTo}
use Rattle.sz_versions.specs.Inquiries.{IsInquiryBy}
use Rattle.sz_versions.proofs.Inquiries.{found-cells, found-ways, found-traced, found-least, found-most}
use Rattle.sz_versions.proofs.FromLogs.{recalled-cells, recalled-ways, recalled-traced}

-- what is found along a path: its cells; by which way each step went and how many cells are told as traced, once the
-- version is awaited; and how many these are at least and at most
pub record IsSought (k : Option (List (Option NodeLineage))) (v : Version) (dir : Dir) (path : List Step)
    (named : List NamedCell) (f : Found) : Type 0 where
  pub cells : f.cells ≡ cells_by k v dir path named
  pub ways : v.awaited ≡ true → map strategy_told f.used ≡ map (way_of v dir) path
  pub told : v.awaited ≡ true → f.traced ≡ traced v dir path
  pub least : traced v dir path ≤ f.traced
  pub most : f.traced ≤ most_traced v dir path

pub sought : (k : Option (List (Option NodeLineage))) (v : Version) (dir : Dir) (path : List Step)
    (named : List NamedCell) (s : Search) (f : Found) → IsInquiryBy k v dir path named s → IsAnswerTo s f
    → IsSought k v dir path named f
sought None v dir path named s f h a = record {
  cells = found-cells v dir path named s f h a;
  ways = λ awaited. found-ways v dir path named s f h a awaited;
  told = λ awaited. found-traced v dir path named s f h a awaited;
  least = found-least v dir path named s f h a;
  most = found-most v dir path named s f h a;
}
sought (Some stores) v dir path named s f h a =
    let told = recalled-traced v stores dir path named s f h.1 a in
    let most : most_traced v dir path ≡ traced v dir path =
    ap (λ (b : Bool). if b then traced v dir path else sizes_along v path) h.0 in
    record {
      cells = recalled-cells v stores dir path named s f h.1 a;
      ways = λ awaited. recalled-ways v stores dir path named s f h.1 a;
      told = λ awaited. told;
      least = omega (arith, told);
      most = omega (arith, most, told);
    }
