-- What a look adds, entry by entry, and what it keeps from one to the next.
use Rattle.std.specs.Prelude.{◌≡◌, ℕ, List, Bool, true, ◌&&◌, not, Option, IfSome}
use Rattle.std.specs.List.{list_any}
use Rattle.sz_cells.specs.declared.Cell.{Cell}
use Rattle.sz_cells.specs.Extent.{holds}
use Rattle.sz_cells.specs.Cells.{Cells, any_cell, has}
use Rattle.sz_spec.specs.Lineage.{mapped}
use Rattle.sz_spec.specs.Payloads.{mapped_by_payload}
use Rattle.sz_spec.specs.Shapes.{Site}
use Rattle.sz_frame.specs.Parts.{Entry}
use Rattle.sz_frame.specs.Stands.{has_entry}
use Rattle.sz_tables.specs.Payloads.{payload_at}
use Rattle.sz_payload.specs.declared.forward.Tested.{Tested}

-- an entry adds output cell o: o is in its set, and its payload stands for an asked cell
abbrev pub entry_adds : Site → ℕ → Cells → Entry → Cell → Bool
entry_adds s i from e o =
    has e.out o && any_cell (mapped_by_payload s.op s.ins e.payload i o) from

-- some entry adds it
abbrev pub entries_add : Site → ℕ → Cells → List Entry → Cell → Bool
entries_add s i from es o = list_any (λ e. entry_adds s i from e o) es

-- the cells that the payload of the number stands for, if there is one, were added, whichever the
-- output cell is
abbrev pub IsDone : Site → List (List ℕ) → ℕ → Option ℕ → Cells → Type 0
IsDone s payloads i last to = IfSome last (λ n. (o x : Cell) → holds to.extent x ≡ true
    → mapped_by_payload s.op s.ins (payload_at payloads n) i o x ≡ true → has to x ≡ true)

-- whether the payload that was tested last stands for an asked cell is so, whichever the output
-- cell is
abbrev pub IsTested : Site → List (List ℕ) → ℕ → Cells → Option Tested → Type 0
IsTested s payloads i from last = IfSome last (λ t. (o : Cell)
    → t.meets ≡ any_cell (mapped_by_payload s.op s.ins (payload_at payloads t.number) i o) from)

-- output cell o has its default, and is in no entry: composite lineage stands for the default
abbrev pub lone : Site → List Entry → ℕ → Cell → Cell → Bool
lone s es i o x = mapped s.op s.ins i o x && not (has_entry es o)
