-- One entry more: it is the one at the index, so it comes next, and what it needs is a part of the room that is left.
use Rattle.std.proofs.Common.{◌≡◌, ◌+◌, ◌<◌, List, length, map, drop, refl, ◌∙◌, arith}
use Rattle.std.specs.Prelude.{sum_by}
use Rattle.std.specs.Arc.{arc_value}
use Rattle.std.proofs.lemmas.List.{length-map}
use Rattle.sz_frame.specs.Parts.{Entry}
use Rattle.sz_tables.specs.Rows.{runs_in}
use Rattle.sz_tables.specs.Stores.{cells_in}
use Rattle.sz_tables.proofs.Counted.{item-made, rest-more}
use Rattle.sz_payload.proofs.Keeping.{IsNext, next-entry, few-cells}
use Rattle.sz_payload.proofs.store.PayStore.add_all.Given.{Over}
use Rattle.sz_payload.proofs.store.PayStore.add_all.Goals.{After-deref}
use Rattle.sz_payload.proofs.store.PayStore.add_all.Goals as goal

-- the entries that are handed in
abbrev given_to : (g : Over) → After-deref g → List Entry
given_to g c = map (λ a. arc_value a) c.args.entries.now

-- the entry of a turn: it is the one at the index, comes next, and is a part of what the rest needs
record IsOn (g : Over) (c : After-deref g) : Type 0 where
  pub inside : c.loop-entry.entry-index < length (given_to g c)
  pub next : IsNext c.loop-entry.self.store.site c.args.self.now.store.given (given_to g c)
      c.loop-entry.self.store.given c.loop-entry.entry-index c.deref.result.now
  pub runs : sum_by (λ x. runs_in x.out) (drop c.loop-entry.entry-index (given_to g c))
      ≡ runs_in c.deref.result.now.out
      + sum_by (λ x. runs_in x.out) (drop (c.loop-entry.entry-index + 1) (given_to g c))
  pub cells : sum_by (λ x. cells_in x.out) (drop c.loop-entry.entry-index (given_to g c))
      ≡ cells_in c.deref.result.now.out
      + sum_by (λ x. cells_in x.out) (drop (c.loop-entry.entry-index + 1) (given_to g c))
  pub bytes : sum_by (λ x. length x.payload) (drop c.loop-entry.entry-index (given_to g c))
      ≡ length c.deref.result.now.payload
      + sum_by (λ x. length x.payload) (drop (c.loop-entry.entry-index + 1) (given_to g c))

is-on : (g : Over) (c : After-deref g) → IsOn g c
is-on g c =
    let es = given_to g c in
    let i = c.loop-entry.entry-index in
    let e = c.deref.result.now in
    let inv = c.loop-entry.invariant in
    let there = item-made (λ a. arc_value a) c.args.entries.now es i c.entry-item.result e refl c.loop-entry-test.true
    c.entry-item.is c.deref.ensures in
    record {
      inside = there.0;
      next = next-entry c.args.self.now.store.site c.loop-entry.self.store.site c.args.self.now.store.given es
          c.loop-entry.self.store.given i e there
          (omega (arith, c.requires.few, length-map c.args.entries.now (λ a. arc_value a))) c.requires.entries
          c.requires.apart inv.site inv.given;
      runs = rest-more (λ (x : Entry). runs_in x.out) es i e there;
      cells = rest-more (λ (x : Entry). cells_in x.out) es i e there;
      bytes = rest-more (λ (x : Entry). length x.payload) es i e there;
    }

pub add-requires-clause-few : goal.add-requires-clause-few
add-requires-clause-few g c = (is-on g (goal.at.add-requires-clause-few g c).After-deref).next.few

pub add-requires-clause-entry : goal.add-requires-clause-entry
add-requires-clause-entry g c = (is-on g (goal.at.add-requires-clause-entry g c).After-deref).next.entry

pub add-requires-clause-apart : goal.add-requires-clause-apart
add-requires-clause-apart g c = (is-on g (goal.at.add-requires-clause-apart g c).After-deref).next.apart

pub add-requires-clause-items : goal.add-requires-clause-items
add-requires-clause-items g c =
    let on = is-on g (goal.at.add-requires-clause-items g c).After-deref in
    omega (arith, on.inside, c.loop-entry.invariant.items)

pub add-requires-clause-runs : goal.add-requires-clause-runs
add-requires-clause-runs g c =
    let on = is-on g (goal.at.add-requires-clause-runs g c).After-deref in
    omega (arith, on.runs, c.loop-entry.invariant.runs)

pub add-requires-clause-cells : goal.add-requires-clause-cells
add-requires-clause-cells g c =
    let on = is-on g (goal.at.add-requires-clause-cells g c).After-deref in
    omega (arith, on.cells, c.loop-entry.invariant.cells)

pub add-requires-clause-bytes : goal.add-requires-clause-bytes
add-requires-clause-bytes g c =
    let on = is-on g (goal.at.add-requires-clause-bytes g c).After-deref in
    omega (arith, on.bytes, c.loop-entry.invariant.bytes)

pub loop-entry-preserved : goal.loop-entry-preserved
loop-entry-preserved g c =
    let es : List Entry = map (λ a. arc_value a) c.args.entries.now in
    let i = c.loop-entry.entry-index in
    let inv = c.loop-entry.invariant in
    let on = is-on g (goal.at.loop-entry-preserved g c).After-deref in
    record {
      given = c.add.ensures.given ∙ on.next.onward;
      site = c.add.ensures.site ∙ inv.site;
      comp = c.add.ensures.comp ∙ inv.comp;
      items = omega (arith, inv.items, c.add.ensures.items);
      runs = omega (arith, on.runs, inv.runs, c.add.ensures.runs);
      cells = c.add.ensures.cells (sum_by (λ x. cells_in x.out) (drop (i + 1) es))
          (omega (
            arith,
            few-cells (i + 1) es c.runs_of_all.ensures.each,
            on.runs,
            inv.runs,
            c.add.ensures.runs,
          ))
          (omega (arith, on.cells, inv.cells));
      bytes = omega (arith, on.bytes, inv.bytes, c.add.ensures.bytes);
      capacities = c.add.ensures.capacities ∙ inv.capacities;
    }
