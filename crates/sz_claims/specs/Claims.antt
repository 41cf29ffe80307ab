-- Tables of claims and their passes as contracts see them.
use Rattle.std.specs.Prelude.{ℕ, List, [], Option, None, Contains}
use Rattle.atomic_table.specs.Seated.{TableId}

-- the pieces of a table: which table it is, and how many it has
pub record Pieces : Type 0 where
  pub table : TableId
  pub count : ℕ

-- Who claims by a pass: the table, the pieces that it claimed and those that it met claimed, each
-- in the order of its claims, the word that its last claim found (0 free, 1 claimed), how many
-- compare-exchanges, looks and splits it and the passes joined into it made, and how many splits
-- lie between the first pass and it
pub record Claimant : Type 0 where
  pub table : TableId
  pub claimed : List ℕ
  pub met : List ℕ
  pub found : Option ℕ
  pub tries : ℕ
  pub looks : ℕ
  pub splits : ℕ
  pub depth : ℕ

-- who has no piece and made no step
abbrev pub newcomer : TableId → ℕ → Claimant
newcomer of depth =
    record {
      table = of;
      claimed = [];
      met = [];
      found = None;
      tries = 0;
      looks = 0;
      splits = 0;
      depth = depth;
    }

-- no piece is in both lists
abbrev pub AreDisjoint : List ℕ → List ℕ → Type 0
AreDisjoint xs ys = (piece : ℕ) → Contains xs piece → ¬ Contains ys piece
