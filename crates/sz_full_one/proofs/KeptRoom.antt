-- A store's table and index while room is taken: what is filed does not depend on it.
use Rattle.std.proofs.Common.{◌≡◌, ℕ, ◌≤◌, zero, List, max, sym, ap, subst, ◌∙◌, arith, length}
use Rattle.sz_spec.specs.Shapes.{Site}
use Rattle.sz_full_one.specs.declared.index.Index.{Index}
use Rattle.sz_full_one.specs.declared.index.Index.TheVariants.{Outs, Ins}
use Rattle.sz_tables.specs.Rows.{RowTable}
use Rattle.sz_full_one.specs.ByCells.{IsIndexOf, HasRoom, HasFileRoom, IsKeptFor}

-- a table with other room
abbrev with_room : RowTable → ℕ → ℕ → List ℕ → RowTable
with_room t rows runs capacities = record t { spare_rows = rows; spare_runs = runs; capacities = capacities }

index-room : (t : RowTable) (rows runs : ℕ) (capacities : List ℕ) (x : Index) → IsIndexOf t x
    → IsIndexOf (with_room t rows runs capacities) x
index-room t rows runs capacities (Outs f) is = record { keys = is.keys; entries = is.entries; shapes = is.shapes }
index-room t rows runs capacities (Ins inputs) is = record {
  arity = is.arity;
  each = λ i d inside.
      let f = is.each i d inside in
      record {
        sets = record {
          keys = f.sets.keys;
          entries = f.sets.entries;
          shapes = f.sets.shapes;
          numbers = f.sets.numbers;
        };
        rows = f.rows;
      };
}

no-room : (x : Index) → HasRoom 0 0 x
no-room (Outs f) = omega arith
no-room (Ins inputs) = λ i d inside. record { cells = omega arith; numbers = omega arith; rows = omega arith }

-- the table and another index of it, with room
pub kept-with : (s : Site) (t new : RowTable) (x y : Index) (count least rows runs many few : ℕ)
    → IsKeptFor s t x count least → new ≡ with_room t rows runs new.capacities → (IsIndexOf new x → IsIndexOf new y)
    → many ≤ new.spare_rows → HasRoom few many y → IsKeptFor s new y many few
kept-with s t new x y count least rows runs many few kept is onward some room = record {
  out = ap (λ (u : RowTable). u.out) is ∙ kept.out;
  ins = ap (λ (u : RowTable). u.ins) is ∙ kept.ins;
  index = onward (subst (λ (u : RowTable). IsIndexOf u x) (sym is)
      (index-room t rows runs new.capacities x kept.index));
  rows = some;
  room = room;
}

-- and without room
pub kept-without : (s : Site) (t new : RowTable) (x y : Index) (count least rows runs : ℕ)
    → IsKeptFor s t x count least → new ≡ with_room t rows runs new.capacities → (IsIndexOf new x → IsIndexOf new y)
    → IsKeptFor s new y 0 0
kept-without s t new x y count least rows runs kept is onward =
    kept-with s t new x y count least rows runs 0 0 kept is onward (omega arith) (no-room y)
