-- Which refusals are of lines: those that a line gets alone, whatever is held, and no others. Both lists are found by
-- computing.
use Rattle.std.specs.Prelude.{◌≡◌, [], ◌∷◌, true, not}
use Rattle.std.specs.List.{list_all}
use Rattle.std.proofs.Common.{refl}
use Rattle.sz_script.specs.declared.refusal.Refusal.TheVariants as refusal
use Rattle.sz_script.specs.Laws.{is_of_lines}

of_lines : list_all is_of_lines (refusal.TooLong ∷ refusal.NoForm ∷ refusal.TooManyCells ∷ []) ≡ true
of_lines = refl

of_what_is_held : list_all (λ r. not (is_of_lines r)) (
    refusal.NoRoomForArray ∷ refusal.NotJoined ∷ refusal.OutOfRange ∷ refusal.BadStrategies ∷ refusal.NotAwaited
    ∷ refusal.StillBuilt ∷ refusal.NoSuchInput ∷ refusal.NotMerged ∷ refusal.TooManyUnits ∷ []) ≡ true
of_what_is_held = refl
