-- By induction on the nodes, whatever units are left: see Best.
use Rattle.sz_planner.specs.Laws.{ListsAreBestChoices}
use Rattle.sz_planner.proofs.Best.{all-best}
use Rattle.sz_planner.proofs.laws.lists_are_best_choices.Goals as goal

lists_are_best_choices_law : ListsAreBestChoices
lists_are_best_choices_law back forward limit sites = all-best back forward sites limit

pub returns : goal.returns
returns c = lists_are_best_choices_law
