-- Where the file of a log stands.
use Rattle.std.specs.Prelude.{ℕ, List, [], ◌∷◌, Option, None, Some, codes}
use Rattle.std.specs.Path.{path_parent}

-- A folder as it is named, or the one that the program runs in where none is.
abbrev pub folder_or_here : Option (List ℕ) → List ℕ
folder_or_here None = codes "."
folder_or_here (Some []) = codes "."
folder_or_here (Some (c ∷ cs)) = c ∷ cs

-- The folder that a path names its file in.
abbrev pub folder_named : List ℕ → List ℕ
folder_named path = folder_or_here (path_parent path)
