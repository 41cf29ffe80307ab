-- What is kept for the mark of the cell is its component.
use Rattle.std.proofs.Common.{◌≡◌, ◌<◌, ℕ, List, length, get_or, refl, sym, ap, subst, ◌∙◌, arith}
use Rattle.std.proofs.lemmas.List.{get_or_default}
use Rattle.sz_cells.specs.Extent.{Extent}
use Rattle.sz_cells.specs.Cells.{Cells, no_cells}
use Rattle.sz_ops_region.specs.declared.marks.Mark.{Mark}
use Rattle.sz_ops_region.specs.declared.marks.Mark.TheVariants.{Alone, Numbered}
use Rattle.sz_ops_region.specs.Marks.{mark_at, number_in}
use Rattle.sz_ops_region.specs.Sets.{set_of, sets_by}
use Rattle.sz_ops_region.proofs.Sets.{sets-at, sets-length, other-set}
use Rattle.sz_ops_region.proofs.components.Components.component.Goals as goal

pub at-requires : goal.at-requires
at-requires c =
    let kept = c.self.inside in
    omega (
      arith,
      c.requires,
      ap (λ (xs : List Cells). length xs) c.self.view_is,
      sets-length kept.shape kept.components.items kept.marks,
      c.self.invariant.0,
    )

pub index-component-requires : goal.index-component-requires
index-component-requires c =
    omega (
      arith,
      c.self.invariant.1 c.args.index c.in-Numbered.number (ap number_in (sym c.in-Numbered.ensures)),
    )

-- what is kept of the cell of an index
kept-at : (now : List Cells) (e : Extent) (sets : List Cells) (marks : List Mark) (k : ℕ) (d : Cells) (m : Mark)
    → sets_by e sets marks ≡ now → k < length now → mark_at marks k ≡ m → get_or now k d ≡ set_of e sets k m
kept-at now e sets marks k d m is below at =
    ap (λ (xs : List Cells). get_or xs k d) (sym is)
    ∙ sets-at e sets marks k d (omega (arith, below, ap (λ (xs : List Cells). length xs) is, sets-length e sets marks))
    ∙ ap (set_of e sets k) at

pub returns-in-Alone-clause-some : goal.returns-in-Alone-clause-some
returns-in-Alone-clause-some c d =
    let kept = c.self.inside in
    ap (λ (s : Cells). s.indexes)
    (kept-at c.args.self.now kept.shape kept.components.items kept.marks c.args.index d Alone c.self.view_is c.requires
    (sym c.in-Alone.ensures))

pub returns-in-Numbered-clause-some : goal.returns-in-Numbered-clause-some
returns-in-Numbered-clause-some c d =
    let kept = c.self.inside in
    let j = c.in-Numbered.number in
    let sets = kept.components.items in
    let inside : j < length sets = omega (
      arith,
      c.self.invariant.1 c.args.index j (ap number_in (sym c.in-Numbered.ensures)),
    ) in
    let is : get_or c.args.self.now c.args.index d ≡ c.index-component.result.now =
    kept-at c.args.self.now kept.shape sets kept.marks c.args.index d (Numbered j) c.self.view_is c.requires
    (sym c.in-Numbered.ensures)
    ∙ get_or_default sets j (no_cells kept.shape) c.index-component.result.now inside
    ∙ sym c.index-component.ensures in
    (sym is, subst (λ (s : Cells). 0 < length s.indexes) (sym is) c.cells.ensures.full)

pub returns-in_default-clause-none : goal.returns-in_default-clause-none
returns-in_default-clause-none c d =
    let kept = c.self.inside in
    let sets = kept.components.items in
    let m = mark_at kept.marks c.args.index in
    ap (λ (s : Cells). s.indexes)
    (kept-at c.args.self.now kept.shape sets kept.marks c.args.index d m c.self.view_is c.requires refl)
    ∙ other-set kept.shape sets c.args.index m (λ is. c.in_default.not-Alone (c.at.ensures ∙ is))
    (λ j is. c.in_default.not-Numbered j (c.at.ensures ∙ is))
