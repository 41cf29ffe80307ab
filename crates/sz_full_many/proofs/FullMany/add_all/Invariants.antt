-- The region pairs so far are added, and there is room for the rest.
use Rattle.std.proofs.Common.{◌≡◌, ◌+◌, ◌≤◌, ◌++◌, List, length, take, drop, map}
use Rattle.std.specs.Prelude.{sum_by}
use Rattle.std.specs.Arc.{arc_value}
use Rattle.sz_frame.specs.Parts.{Pairing}
use Rattle.sz_tables.specs.Rows.{weight_of}
use Rattle.sz_full_many.proofs.FullMany.add_all.Given as goal

abbrev pub invariant-loop-region : goal.invariant-loop-region
invariant-loop-region l =
    let rs : List Pairing = map (λ a. arc_value a) l.regions in
    record {
      given : l.self.given ≡ l.fn.self.given ++ take l.region-index rs;
      site : l.self.site ≡ l.fn.self.site;
      items : length rs ≤ l.self.room.items + l.region-index;
      runs : sum_by weight_of (drop l.region-index rs) ≤ l.self.room.runs;
      capacities : l.self.capacities ≡ l.fn.self.capacities;
    }
