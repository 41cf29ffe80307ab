-- What contracts see of a pass, and what a turn does to it.
use Rattle.std.specs.Prelude.{◌≡◌, ℕ, ◌+◌, List, Bool, true, Option, None}
use Rattle.atomic_table.specs.Seated.{TableId}
use Rattle.sz_store.specs.Kept.{NodeLineage}
use Rattle.sz_shelf.specs.Tags.{Tag, tag_pieces}
use Rattle.sz_shelf.specs.Contents.{missing_in}
use Rattle.sz_shelf.specs.Places.{ShelfPlace}
use Rattle.sz_shelf.specs.Rule.{Begins, ArePieces, first_view}
use Rattle.sz_shelf.specs.declared.rule.View.{View}

-- Who looks at a shelf by a pass: the table of the shelf and its tag, the placed pieces as it has
-- seen them, whether it saw the seal, how many turns, loads of the count and splits it and the
-- passes joined into it made, the placed list as its last turn found it and whether there was a
-- seal then, and the stores that it keeps.
pub record Onlooker : Type 0 where
  pub table : TableId
  pub tag : Tag
  pub seen : List ℕ
  pub saw : Bool
  pub turns : ℕ
  pub loads : ℕ
  pub splits : ℕ
  pub found : List ℕ
  pub found_sealed : Bool
  pub kept : Option NodeLineage

-- the same, read off the view of a seat of a table
abbrev pub onlooker : TableId → View → Option NodeLineage → Onlooker
onlooker z v kept = record {
  table = z;
  tag = v.tag;
  seen = v.seen;
  saw = v.saw;
  turns = v.turns;
  loads = v.loads;
  splits = v.splits;
  found = v.found;
  found_sealed = v.found_sealed;
  kept = kept;
}

-- the shelf that a pass is of
abbrev pub place_of : Onlooker → ShelfPlace
place_of p = record { table = p.table; tag = p.tag }

-- who has seen nothing
abbrev pub newcomer : ShelfPlace → Onlooker
newcomer z = onlooker z.table (first_view z.tag) None

-- a pass once one more was split off it, and the one that was: it has seen and keeps the same, and
-- made no step
abbrev pub with_split : Onlooker → Onlooker
with_split p = record p { splits = p.splits + 1 }

abbrev pub split_off : Onlooker → Onlooker
split_off p = record p { turns = 0; loads = 0; splits = 0 }

-- A pass took exactly one turn, and no load of the count out of turn, and none was split off it, so
-- that no pass but those that there were took one for it. What it found and what it has seen by the
-- turn's end begin with what it had seen, and are pieces of the output, none of them twice. Where
-- it saw the seal before, it found one; where it found one, it saw it; and where it saw one, every
-- piece is placed.
pub record TookTurn (p q : Onlooker) : Type 0 where
  pub place : place_of q ≡ place_of p
  pub turns : q.turns ≡ p.turns + 1
  pub loads : q.loads ≡ p.loads
  pub splits : q.splits ≡ p.splits
  pub found : Begins p.seen q.found
  pub grown : Begins q.found q.seen
  pub begins : Begins p.seen q.seen
  pub pieces : ArePieces p.tag q.seen
  pub sealed : p.saw ≡ true → q.found_sealed ≡ true
  pub saw : q.found_sealed ≡ true → q.saw ≡ true
  pub whole : q.saw ≡ true → missing_in (tag_pieces p.tag) q.seen ≡ None

-- What was done in a turn to what the seat knew when it had taken the store: all that it found
-- stays, and what it has seen may have grown.
pub record Stays (w y : View) : Type 0 where
  pub tag : y.tag ≡ w.tag
  pub turns : y.turns ≡ w.turns
  pub loads : y.loads ≡ w.loads
  pub splits : y.splits ≡ w.splits
  pub found : y.found ≡ w.found
  pub found_sealed : y.found_sealed ≡ w.found_sealed
  pub grown : Begins w.seen y.seen
  pub pieces : ArePieces w.tag y.seen
  pub saw : w.saw ≡ true → y.saw ≡ true
  pub whole : y.saw ≡ true → missing_in (tag_pieces w.tag) y.seen ≡ None
