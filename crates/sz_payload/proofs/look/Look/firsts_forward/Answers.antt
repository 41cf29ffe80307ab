-- The cells of the set are met in rising order, and the numbers between them add nothing.
use Rattle.std.proofs.Common.{◌≡◌, ℕ, ◌<◌, refl, sym, ap, subst, ◌∙◌, arith}
use Rattle.sz_cells.specs.Extent.{Extent, size_of, cell_of}
use Rattle.sz_cells.specs.Cells.{Cells, with_those}
use Rattle.sz_spec.specs.declared.modes.Dir.TheVariants.{Forward}
use Rattle.sz_spec.specs.Values.{extent_at}
use Rattle.sz_frame.specs.Walks.{stepped, added}
use Rattle.sz_frame.proofs.Added.{with-none, own-at, next-is, next-none, stepped-next, stepped-skip, stepped-all}
use Rattle.sz_tables.specs.Entries.{entries}
use Rattle.sz_payload.specs.Looks.{lone}
use Rattle.sz_payload.proofs.Operators.{own-shape}
use Rattle.sz_payload.proofs.look.Look.firsts_forward.Goals as goal

pub loop-start-init : goal.loop-start-init
loop-start-init c =
    let s = c.args.self.now.at.now in
    let es = entries c.args.self.now.table.now in
    let to = c.args.to.now in
    let e = extent_at s.ins 0 in
    let shape : c.shape-shape-2.result ≡ e = c.shape-shape-2.ensures.value ∙ c.requires.from in
    record {
      end = c.size-end.ensures.value ∙ ap size_of shape;
      within = omega arith;
      to = with-none to (added e (stepped Forward (lone s es 0) c.args.from.now) 0)
          (own-at to to.extent refl c.shape-shape.ensures.rising) (λ x held. refl);
    }

pub first_forward-requires-clause-index : goal.first_forward-requires-clause-index
first_forward-requires-clause-index c =
    let s = c.args.self.now.at.now in
    let e = extent_at s.ins 0 in
    let same = own-shape s.op s.ins s.out c.requires.held.none c.out-shape.ensures.rule in
    subst (λ (d : Extent). c.in-Some.index < size_of d) same
    (next-is c.args.from.now e c.loop-start.start c.in-Some.index c.requires.from c.shape-shape-2.ensures.rising
    (sym c.next_after.ensures ∙ c.in-Some.is)).high

pub first_forward-requires-clause-to : goal.first_forward-requires-clause-to
first_forward-requires-clause-to c = ap (λ (s : Cells). s.extent) c.loop-start.invariant.to ∙ c.requires.to

pub loop-start-preserved-in-Some : goal.loop-start-preserved-in-Some
loop-start-preserved-in-Some c =
    let s = c.args.self.now.at.now in
    let e = extent_at s.ins 0 in
    let es = entries c.args.self.now.table.now in
    let inv = c.loop-start.invariant in
    let same = own-shape s.op s.ins s.out c.requires.held.none (c.out-shape.ensures.rule) in
    let next = next-is c.args.from.now e c.loop-start.start c.in-Some.index c.requires.from
    c.shape-shape-2.ensures.rising (sym c.next_after.ensures ∙ c.in-Some.is) in
    record {
      end = inv.end;
      within = omega (arith, next.high);
      to = stepped-next Forward e (lone s es 0) c.args.from.now c.args.to.now c.loop-start.to
          c.first_forward.new.to c.loop-start.start c.in-Some.index (cell_of e c.in-Some.index) next inv.to refl
          (c.first_forward.ensures
          ∙ ap (λ (d : Extent). with_those c.loop-start.to (λ o. lone s es 0 o (cell_of d c.in-Some.index)))
          (sym same));
    }

pub loop-start-preserved : goal.loop-start-preserved
loop-start-preserved c =
    let s = c.args.self.now.at.now in
    let e = extent_at s.ins 0 in
    let es = entries c.args.self.now.table.now in
    let inv = c.loop-start.invariant in
    let none = next-none c.args.from.now e c.loop-start.start c.requires.from (sym c.next_after.ensures
    ∙ c.in-None.is) in
    record {
      end = inv.end;
      within = omega (arith, inv.end);
      to = stepped-skip Forward e (lone s es 0) c.args.from.now c.args.to.now c.loop-start.to
          c.loop-start.start c.size-end.result (omega (arith, inv.end, inv.within))
          (λ k low high. none k low (omega (arith, inv.end))) inv.to;
    }

pub returns : goal.returns
returns c =
    let s = c.args.self.now.at.now in
    let e = extent_at s.ins 0 in
    let relation = lone s (entries c.args.self.now.table.now) 0 in
    let inv = c.loop-start.invariant in
    let all : c.loop-start.start ≡ size_of e = omega (arith, inv.end, inv.within) in
    inv.to
    ∙ ap (λ (n : ℕ). with_those c.args.to.now (added e (stepped Forward relation c.args.from.now) n)) all
    ∙ stepped-all Forward s 0 relation c.args.from.now c.args.to.now
    (own-at c.args.from.now e c.requires.from c.shape-shape-2.ensures.rising) c.requires.to

pub overflow_add-start : goal.overflow_add-start
overflow_add-start c =
    let e = extent_at c.args.self.now.at.now.ins 0 in
    let next = next-is c.args.from.now e c.loop-start.start c.in-Some.index c.requires.from
    c.shape-shape-2.ensures.rising (sym c.next_after.ensures ∙ c.in-Some.is) in
    omega (arith, next.high, c.loop-start.invariant.end, c.size-end.ensures.few)

pub loop-start-smaller-in-Some : goal.loop-start-smaller-in-Some
loop-start-smaller-in-Some c =
    let e = extent_at c.args.self.now.at.now.ins 0 in
    let next = next-is c.args.from.now e c.loop-start.start c.in-Some.index c.requires.from
    c.shape-shape-2.ensures.rising (sym c.next_after.ensures ∙ c.in-Some.is) in
    omega (arith, next.low, next.high, c.loop-start.invariant.end)
