-- Stores that keep the same in another order stand for the same.
--
-- The key idea: what a store stands for is asked of each region pair or entry, and is so where it is so of one.
use Rattle.std.proofs.Common.{◌≡◌, ℕ, Bool, true, false, List, if◌then◌else◌, ◌∙◌, ap, ap₂, ◌&&◌}
use Rattle.std.specs.Prelude.{IsPermutation}
use Rattle.std.proofs.lemmas.List.Sorted.{list_any-IsPermutation}
use Rattle.sz_cells.specs.declared.Cell.{Cell}
use Rattle.sz_cells.specs.Cells.{has}
use Rattle.sz_spec.specs.Lineage.{mapped}
use Rattle.sz_spec.specs.Payloads.{mapped_by_payload}
use Rattle.sz_spec.specs.Shapes.{Site}
use Rattle.sz_frame.specs.Parts.{Pairing, Entry}
use Rattle.sz_frame.specs.Stands.{set_of}
use Rattle.sz_payload.specs.Kept.{entries_stand}
use Rattle.sz_store.specs.Kept.{Holding, regions, entries, holding_stands}
use Rattle.sz_store.specs.Checklists.{AreOneList}

entries-order : (comp : Bool) (s : Site) (a b : List Entry) (i : ℕ) (o x : Cell) → IsPermutation a b
    → entries_stand comp s a i o x ≡ entries_stand comp s b i o x
entries-order false s a b i o x one =
    list_any-IsPermutation (λ (e : Entry). has e.out o && mapped_by_payload s.op s.ins e.payload i o x) a b one
entries-order true s a b i o x one =
    ap₂ (λ (there shown : Bool). if there then shown else mapped s.op s.ins i o x)
    (list_any-IsPermutation (λ (e : Entry). has e.out o) a b one)
    (list_any-IsPermutation (λ (e : Entry). has e.out o && mapped_by_payload s.op s.ins e.payload i o x) a b one)

pub other-orders : (s : Site) (a b : Holding) (i : ℕ) (o x : Cell) → AreOneList a b
    → holding_stands s a i o x ≡ holding_stands s b i o x
other-orders s (regions a) (regions b) i o x one =
    list_any-IsPermutation (λ (r : Pairing). has r.out o && has (set_of r i) x) a b one
other-orders s (regions a) (entries d b) i o x one = absurd one
other-orders s (entries c a) (regions b) i o x one = absurd one
other-orders s (entries c a) (entries d b) i o x one =
    entries-order c s a b i o x one.1 ∙ ap (λ (comp : Bool). entries_stand comp s b i o x) one.0
