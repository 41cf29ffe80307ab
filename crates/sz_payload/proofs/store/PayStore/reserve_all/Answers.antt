-- The entries stay as they were, and so does their index.
use Rattle.std.proofs.Common.{◌≡◌, ℕ, true, List, map, ap, sym, subst, ◌∙◌}
use Rattle.std.specs.Prelude.{All}
use Rattle.std.specs.Arc.{arc_value}
use Rattle.sz_cells.specs.Extent.{Extent}
use Rattle.sz_spec.specs.Payloads.{is_payload}
use Rattle.sz_spec.specs.Shapes.{Site}
use Rattle.sz_frame.specs.Fits.{AreApart}
use Rattle.sz_frame.specs.Parts.{Entry}
use Rattle.sz_tables.specs.Entries.{EntryRows, entries}
use Rattle.sz_payload.specs.Kept.{PayContents, IsEntryOf}
use Rattle.sz_payload.specs.declared.owner.Owner.{Owner}
use Rattle.sz_payload.specs.Owned.{IsIndexOf}
use Rattle.sz_payload.proofs.Short.{entries-short, first-small}
use Rattle.sz_payload.proofs.store.PayStore.reserve_all.Goals as goal

-- the index of entries of a table between these shapes, when it is made wider
widened : (e d : Extent) (es : List Entry) (old new : Owner) → d ≡ e → IsIndexOf e es old
    → (IsIndexOf d es old → IsIndexOf d es new) → IsIndexOf e es new
widened e d es old new same index onward =
    subst (λ (x : Extent). IsIndexOf x es new) same
    (onward (subst (λ (x : Extent). IsIndexOf x es old) (sym same) index))

pub bytes_of_all-bytes-requires-clause-short : goal.bytes_of_all-bytes-requires-clause-short
bytes_of_all-bytes-requires-clause-short g c =
    let s = c.deref.result.now in
    let few = first-small s (arc_value c.self.inside.at) c.out.result c.size.result c.self.invariant.0.none
    c.deref.ensures c.out.ensures.rule c.out.ensures.value c.size.ensures.value c.size.ensures.few in
    let es : List Entry = map (λ a. arc_value a) c.args.entries.now in
    let own : c.args.self.now.store.site ≡ s =
    sym (ap (λ (k : PayContents). k.store.site) c.self.view_is) ∙ sym c.deref.ensures in
    entries-short s es few (subst (λ (t : Site). All (IsEntryOf t) es) own c.requires.entries)

pub invariant_of-self : goal.invariant_of-self
invariant_of-self g c =
    let held = c.self.invariant.0 in (
      record {
        none = held.none;
        out = held.out;
        lawful = held.lawful;
        apart = held.apart;
        index = widened (arc_value c.self.inside.at).out c.self.inside.table.out (entries c.self.inside.table)
            c.self.inside.owner c.widen.new.self held.out held.index c.widen.ensures;
      },
      c.self.invariant.1,
    )

pub invariant_of-self-in_err-reserve : goal.invariant_of-self-in_err-reserve
invariant_of-self-in_err-reserve g c =
    let held = c.self.invariant.0 in (
      record {
        none = held.none;
        out = held.out;
        lawful = held.lawful;
        apart = held.apart;
        index = c.reserve.ensures.kept (arc_value c.self.inside.at).out (entries c.self.inside.table)
            (widened (arc_value c.self.inside.at).out c.self.inside.table.out (entries c.self.inside.table)
            c.self.inside.owner c.widen.new.self held.out held.index c.widen.ensures);
      },
      c.self.invariant.1,
    )

pub invariant_of-self-2 : goal.invariant_of-self-2
invariant_of-self-2 g c =
    let site = arc_value c.self.inside.at in
    let held = c.self.invariant.0 in
    let kept = c.reserve-2.ensures.kept in
    let same = ap entries kept in (
      record {
        none = held.none;
        out = ap (λ (t : EntryRows). t.out) kept ∙ held.out;
        lawful = subst (λ (ps : List (List ℕ)). All (λ (p : List ℕ). is_payload site.op site.ins p ≡ true) ps)
            (sym (ap (λ (t : EntryRows). t.payloads) kept)) held.lawful;
        apart = subst AreApart (sym same) held.apart;
        index = subst (λ (es : List Entry). IsIndexOf site.out es c.reserve.new.self) (sym same)
            (c.reserve.ensures.kept site.out (entries c.self.inside.table)
            (widened (arc_value c.self.inside.at).out c.self.inside.table.out (entries c.self.inside.table)
            c.self.inside.owner c.widen.new.self held.out held.index c.widen.ensures));
      },
      c.self.invariant.1,
    )
