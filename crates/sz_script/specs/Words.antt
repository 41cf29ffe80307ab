-- The words of strategies, directions and folds: one table each, for reading and for writing.
use Rattle.std.specs.Prelude.{ℕ, List, [], ◌∷◌, codes, Option, option_and_then}
use Rattle.std.specs.List.{find}
use Rattle.std.specs.Str.{bytes_eq}
use Rattle.serde_json.specs.Data.{Data}
use Rattle.serde_json.specs.Find.{as_str}
use Rattle.sz_spec.specs.declared.modes.Strategy.{Strategy}
use Rattle.sz_spec.specs.declared.modes.Strategy.TheVariants as strategy
use Rattle.sz_spec.specs.declared.modes.Dir.{Dir}
use Rattle.sz_spec.specs.declared.modes.Dir.TheVariants.{Back, Forward}
use Rattle.sz_spec.specs.declared.op.Fold.{Fold}
use Rattle.sz_spec.specs.declared.op.Fold.TheVariants as fold

-- ---- strategies

abbrev pub name_of_strategy : Strategy → List ℕ
name_of_strategy strategy.Map = codes "map"
name_of_strategy strategy.FullOneB = codes "full_one_b"
name_of_strategy strategy.FullOneF = codes "full_one_f"
name_of_strategy strategy.FullManyB = codes "full_many_b"
name_of_strategy strategy.FullManyF = codes "full_many_f"
name_of_strategy strategy.PayOne = codes "pay_one"
name_of_strategy strategy.PayMany = codes "pay_many"
name_of_strategy strategy.CompOne = codes "comp_one"
name_of_strategy strategy.CompMany = codes "comp_many"
name_of_strategy strategy.BlackBox = codes "blackbox"

abbrev pub strategies : List Strategy
strategies = strategy.Map ∷ strategy.FullOneB ∷ strategy.FullOneF ∷ strategy.FullManyB
    ∷ strategy.FullManyF ∷ strategy.PayOne ∷ strategy.PayMany ∷ strategy.CompOne
    ∷ strategy.CompMany ∷ strategy.BlackBox ∷ []

-- the strategy of a name
abbrev pub strategy_named : List ℕ → Option Strategy
strategy_named text = find (λ s. bytes_eq (name_of_strategy s) text) strategies

abbrev pub strategy_in : Data → Option Strategy
strategy_in d = option_and_then strategy_named (as_str d)

-- ---- directions

abbrev pub name_of_dir : Dir → List ℕ
name_of_dir Back = codes "back"
name_of_dir Forward = codes "forward"

abbrev pub dirs : List Dir
dirs = Back ∷ Forward ∷ []

-- the direction of a name
abbrev pub dir_named : List ℕ → Option Dir
dir_named text = find (λ dir. bytes_eq (name_of_dir dir) text) dirs

abbrev pub dir_in : Data → Option Dir
dir_in d = option_and_then dir_named (as_str d)

-- ---- folds

abbrev pub name_of_fold : Fold → List ℕ
name_of_fold fold.Sum = codes "sum"
name_of_fold fold.Min = codes "min"
name_of_fold fold.Max = codes "max"
name_of_fold fold.Count = codes "count"

abbrev pub folds : List Fold
folds = fold.Sum ∷ fold.Min ∷ fold.Max ∷ fold.Count ∷ []

-- the fold of a name
abbrev pub fold_named : List ℕ → Option Fold
fold_named text = find (λ f. bytes_eq (name_of_fold f) text) folds

abbrev pub fold_in : Data → Option Fold
fold_in d = option_and_then fold_named (as_str d)
