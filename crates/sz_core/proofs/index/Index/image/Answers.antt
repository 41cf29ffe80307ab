-- The bitmap is first empty, and then has the cells to which the set's indexes are linked.
use Rattle.std.proofs.Common.{◌≡◌, ℕ, ◌≤◌, List, length, map, ap, ◌∙◌}
use Rattle.std.proofs.lemmas.List.{length-map}
use Rattle.std.specs.List.{flat_map}
use Rattle.sz_cells.proofs.Runs.{runs-widen}
use Rattle.sz_cells.specs.Extent.{Extent, size_of}
use Rattle.sz_cells.specs.Cells.{Cells, no_cells, with_those}
use Rattle.sz_cells.specs.Runs.{indexes_of}
use Rattle.sz_core.specs.Links.{Links, cells_linked, is_linked_from}
use Rattle.sz_core.proofs.Groups.{no_cells-spelled, none-with}
use Rattle.sz_core.proofs.index.Index.image.Goals as goal

pub add_runs-requires : goal.add_runs-requires
add_runs-requires c =
    let long : size_of c.args.from.now.extent ≤ length c.deref.result.now =
    rw (c.deref.ensures.value, ← length-map c.self.inside.groups.items (λ g. g.items))
    (rw (← c.self.view_is) at c.requires) in
    record {
      within = runs-widen 0 (size_of c.args.from.now.extent) (length c.deref.result.now) c.runs.result.now long
          c.runs.ensures.spelled.longest;
      links = rw (c.clear.ensures, c.deref.ensures.value) c.self.invariant;
      spelled = rw c.clear.ensures (no_cells-spelled c.self.inside.found.extent);
    }

pub returns : goal.returns
returns c =
    let e = c.self.inside.found.extent in
    let groups : List (List ℕ) = map (λ g. g.items) c.self.inside.groups.items in
    let add : Cells → List (List ℕ) → List ℕ
    → Cells = λ s gs ks. with_those s (is_linked_from gs ks s.extent) in
    let found : c.add_runs.new.found ≡ cells_linked (record { to = e; groups = groups }) c.args.from.now =
    c.add_runs.ensures
    ∙ ap (λ (s : Cells). add s (map (λ g. g.items) c.deref.result.now)
    (flat_map indexes_of c.runs.result.now)) c.clear.ensures
    ∙ ap (λ (ks : List ℕ). add (no_cells e) (map (λ g. g.items) c.deref.result.now) ks)
    c.runs.ensures.spelled.spelled
    ∙ ap (λ (gs : List _). add (no_cells e) (map (λ g. g.items) gs) c.args.from.now.indexes)
    c.deref.ensures.value
    ∙ none-with e (is_linked_from groups c.args.from.now.indexes e) in
    let same : c.add_runs.new.found.extent ≡ e = ap (λ (s : Cells). s.extent) found in
    let make : Extent → Links = λ x. record { to = x; groups = groups } in
    rw (← c.self.view_is) (record { same = ap make same; ok = rw found at c.to_set.ensures })
