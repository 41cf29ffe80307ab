-- The entries so far are added, and there is room for the rest.
use Rattle.std.proofs.Common.{◌≡◌, ◌+◌, ◌≤◌, ◌++◌, List, length, take, drop, map}
use Rattle.std.specs.Prelude.{sum_by}
use Rattle.std.specs.Arc.{arc_value}
use Rattle.sz_frame.specs.Parts.{Entry}
use Rattle.sz_tables.specs.Rows.{runs_in}
use Rattle.sz_tables.specs.Stores.{cells_in}
use Rattle.sz_payload.proofs.store.PayStore.add_all.Given as goal

abbrev pub invariant-loop-entry : goal.invariant-loop-entry
invariant-loop-entry g l =
    let es : List Entry = map (λ a. arc_value a) l.entries in
    record {
      given : l.self.store.given ≡ l.fn.self.store.given ++ take l.entry-index es;
      site : l.self.store.site ≡ l.fn.self.store.site;
      comp : l.self.comp ≡ l.fn.self.comp;
      items : length es ≤ l.self.store.room.items + l.entry-index;
      runs : sum_by (λ e. runs_in e.out) (drop l.entry-index es) ≤ l.self.store.room.runs;
      cells : sum_by (λ e. cells_in e.out) (drop l.entry-index es) ≤ l.self.store.room.cells;
      bytes : sum_by (λ e. length e.payload) (drop l.entry-index es) ≤ l.self.store.room.bytes;
      capacities : l.self.store.capacities ≡ l.fn.self.store.capacities;
    }
