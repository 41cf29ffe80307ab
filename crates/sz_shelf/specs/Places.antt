-- Which shelf it is: its table, and what the shelf is for.
use Rattle.atomic_table.specs.Seated.{TableId}
use Rattle.sz_shelf.specs.Tags.{Tag}

pub record ShelfPlace : Type 0 where
  pub table : TableId
  pub tag : Tag
