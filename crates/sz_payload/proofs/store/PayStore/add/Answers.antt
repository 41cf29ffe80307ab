-- The table and the index have one entry more.
use Rattle.std.proofs.Common.{◌≡◌, ℕ, ◌+◌, true, List, [], ◌∷◌, ◌++◌, ap, ap₂, sym, subst, ◌∙◌, arith}
use Rattle.std.specs.Arc.{arc_value}
use Rattle.sz_cells.specs.Extent.{Extent}
use Rattle.sz_spec.specs.Payloads.{is_payload}
use Rattle.sz_spec.specs.Shapes.{Site}
use Rattle.sz_frame.specs.Fits.{AreApart}
use Rattle.sz_frame.specs.Parts.{Entry}
use Rattle.sz_tables.specs.Entries.{entries}
use Rattle.sz_payload.specs.Kept.{PayContents}
use Rattle.sz_payload.specs.Owned.{IsIndexOf}
use Rattle.sz_tables.specs.Stores.{cells_in}
use Rattle.sz_payload.proofs.Keeping.{all-more, cells-left, room-cells}
use Rattle.sz_payload.proofs.store.PayStore.add.Goals as goal

pub add-requires-clause-index : goal.add-requires-clause-index
add-requires-clause-index g c =
    let es = entries c.self.inside.table in
    let shape = c.out-shape.ensures.value ∙ ap (λ (s : Site). s.out) c.deref.ensures in
    (es, subst (λ (e : Extent). IsIndexOf e es c.self.inside.owner) (sym shape) c.self.invariant.0.index)

pub add-requires-clause-cells : goal.add-requires-clause-cells
add-requires-clause-cells g c =
    let set = c.deref-2.ensures ∙ ap (λ (x : Entry). x.out) c.entry.view_is in
    let room = ap (λ (k : PayContents). k.store.room.cells) c.self.view_is in
    room-cells c.self.inside.table.spare_runs (cells_in c.deref-2.result.now) c.self.inside.owner
    (omega (arith, c.requires.cells, room, ap cells_in set))

pub returns-clause-cells : goal.returns-clause-cells
returns-clause-cells g c = λ n few room.
    let set = c.deref-2.ensures ∙ ap (λ (x : Entry). x.out) c.entry.view_is in
    let seen = ap (λ (k : PayContents). k.store.room.cells) c.self.view_is in
    let before = room-cells c.self.inside.table.spare_runs (cells_in c.deref-2.result.now + n) c.self.inside.owner
    (omega (arith, room, seen, ap cells_in set)) in
    cells-left c.add-2.new.self.spare_runs n c.add.new.self few (c.add.ensures.cells n before)

pub invariant_of-self : goal.invariant_of-self
invariant_of-self g c =
    let site = arc_value c.self.inside.at in
    let held = c.self.invariant.0 in
    let t = c.self.inside.table in
    let es = entries t in
    let e = c.args.entry.now in
    let more = c.add-2.ensures in
    let shape = c.out-shape.ensures.value ∙ ap (λ (s : Site). s.out) c.deref.ensures in
    let seen : es ≡ c.args.self.now.store.given = ap (λ (k : PayContents). k.store.given) c.self.view_is in
    let own : site ≡ c.args.self.now.store.site = ap (λ (k : PayContents). k.store.site) c.self.view_is in
    let set = sym (c.deref-2.ensures ∙ ap (λ (x : Entry). x.out) c.entry.view_is) in
    let before = subst (λ (d : Extent). IsIndexOf d es c.self.inside.owner) (sym shape) held.index in
    let filed = c.add.ensures.index es e set (sym c.len-row.ensures.entries) before in (
      record {
        none = held.none;
        out = more.kept.out ∙ held.out;
        lawful =
            all-more (λ (p : List ℕ). is_payload site.op site.ins p ≡ true) t.payloads c.add-2.new.self.payloads
            e.payload
            held.lawful more.payloads
            (subst (λ (s : Site). is_payload s.op s.ins e.payload ≡ true) (sym own) c.requires.entry.payload);
        apart =
            subst AreApart (sym (more.entries ∙ ap (λ (xs : List Entry). xs ++ e ∷ []) seen)) c.requires.apart;
        index =
            subst (λ (d : Extent). IsIndexOf d (entries c.add-2.new.self) c.add.new.self) shape
            (subst (λ (xs : List Entry). IsIndexOf c.out-shape.result xs c.add.new.self) (sym more.entries) filed);
      },
      c.self.invariant.1,
    )

pub returns-clause-capacities : goal.returns-clause-capacities
returns-clause-capacities g c =
    rw (← c.self.view_is) (ap₂ (λ (ns ms : List ℕ). ns ++ ms) c.add-2.ensures.capacities c.add.ensures.capacities)
