-- The cells of the set are met in rising order, and the numbers between them add nothing.
use Rattle.std.proofs.Common.{◌≡◌, ℕ, refl, sym, ap, ◌∙◌, arith}
use Rattle.sz_cells.specs.Extent.{size_of, cell_of}
use Rattle.sz_cells.specs.Cells.{with_those}
use Rattle.sz_spec.specs.declared.modes.Dir.TheVariants.{Back}
use Rattle.sz_frame.specs.Walks.{stepped, added}
use Rattle.sz_frame.proofs.Added.{with-none, own-at, next-is, next-none, stepped-next, stepped-skip, stepped-all}
use Rattle.sz_tables.specs.Entries.{entries}
use Rattle.sz_payload.specs.Kept.{entries_stand}
use Rattle.sz_payload.proofs.look.Look.back.Goals as goal

pub loop-start-init : goal.loop-start-init
loop-start-init g c =
    let s = c.args.self.now.at.now in
    let es = entries c.args.self.now.table.now in
    let to = c.args.to.now in
    let shape : c.shape-shape-2.result ≡ s.out = c.shape-shape-2.ensures.value ∙ c.requires.from in
    record {
      end = c.size-end.ensures.value ∙ ap size_of shape;
      within = omega arith;
      to = with-none to (added s.out (stepped Back (entries_stand c.args.comp s es c.args.input) c.args.from.now) 0)
          (own-at to to.extent refl c.shape-shape.ensures.rising) (λ x held. refl);
      done = tt;
    }

pub cell_back-last-requires-clause-index : goal.cell_back-last-requires-clause-index
cell_back-last-requires-clause-index g c =
    let e = c.args.self.now.at.now.out in
    (next-is c.args.from.now e c.loop-start.start c.in-Some.index c.requires.from c.shape-shape-2.ensures.rising
    (sym c.next_after.ensures ∙ c.in-Some.is)).high

pub loop-start-preserved-in-Some : goal.loop-start-preserved-in-Some
loop-start-preserved-in-Some g c =
    let s = c.args.self.now.at.now in
    let e = s.out in
    let es = entries c.args.self.now.table.now in
    let inv = c.loop-start.invariant in
    let next = next-is c.args.from.now e c.loop-start.start c.in-Some.index c.requires.from
    c.shape-shape-2.ensures.rising (sym c.next_after.ensures ∙ c.in-Some.is) in
    record {
      end = inv.end;
      within = omega (arith, next.high);
      to = stepped-next Back e (entries_stand c.args.comp s es c.args.input) c.args.from.now c.args.to.now
          c.loop-start.to
          c.cell_back-last.new.to c.loop-start.start c.in-Some.index (cell_of e c.in-Some.index) next inv.to refl
          c.cell_back-last.ensures.to;
      done = c.cell_back-last.ensures.done;
    }

pub loop-start-preserved : goal.loop-start-preserved
loop-start-preserved g c =
    let s = c.args.self.now.at.now in
    let e = s.out in
    let es = entries c.args.self.now.table.now in
    let inv = c.loop-start.invariant in
    let none = next-none c.args.from.now e c.loop-start.start c.requires.from (sym c.next_after.ensures
    ∙ c.in-None.is) in
    record {
      end = inv.end;
      within = omega (arith, inv.end);
      to = stepped-skip Back e (entries_stand c.args.comp s es c.args.input) c.args.from.now c.args.to.now
          c.loop-start.to
          c.loop-start.start c.size-end.result (omega (arith, inv.end, inv.within))
          (λ k low high. none k low (omega (arith, inv.end))) inv.to;
      done = inv.done;
    }

pub returns : goal.returns
returns g c =
    let s = c.args.self.now.at.now in
    let e = s.out in
    let relation = entries_stand c.args.comp s (entries c.args.self.now.table.now) c.args.input in
    let inv = c.loop-start.invariant in
    let all : c.loop-start.start ≡ size_of e = omega (arith, inv.end, inv.within) in
    inv.to
    ∙ ap (λ (n : ℕ). with_those c.args.to.now (added e (stepped Back relation c.args.from.now) n)) all
    ∙ stepped-all Back s c.args.input relation c.args.from.now c.args.to.now
    (own-at c.args.from.now e c.requires.from c.shape-shape-2.ensures.rising) c.requires.to

pub overflow_add-start : goal.overflow_add-start
overflow_add-start g c =
    let e = c.args.self.now.at.now.out in
    let next = next-is c.args.from.now e c.loop-start.start c.in-Some.index c.requires.from
    c.shape-shape-2.ensures.rising (sym c.next_after.ensures ∙ c.in-Some.is) in
    omega (arith, next.high, c.loop-start.invariant.end, c.size-end.ensures.few)

pub loop-start-smaller-in-Some : goal.loop-start-smaller-in-Some
loop-start-smaller-in-Some g c =
    let e = c.args.self.now.at.now.out in
    let next = next-is c.args.from.now e c.loop-start.start c.in-Some.index c.requires.from
    c.shape-shape-2.ensures.rising (sym c.next_after.ensures ∙ c.in-Some.is) in
    omega (arith, next.low, next.high, c.loop-start.invariant.end)
