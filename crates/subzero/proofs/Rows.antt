-- Folders of paths, worked by hand.
--
-- The key idea: what a path's parent is, std says; a folder that is not named is the one that the program runs in.
use Rattle.std.proofs.Common.{◌≡◌, None, Some, codes, refl, []}
use Rattle.subzero.specs.Places.{folder_or_here}

pub folder_or_here-none : folder_or_here None ≡ codes "."
folder_or_here-none = refl

pub folder_or_here-beside : folder_or_here (Some []) ≡ codes "."
folder_or_here-beside = refl

pub folder_or_here-below : folder_or_here (Some (codes "a/b")) ≡ codes "a/b"
folder_or_here-below = refl
