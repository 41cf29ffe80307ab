-- The told cell goes into the runs, and what it tells is told next.
use Rattle.std.proofs.Common.{◌≡◌, ◌∙◌, ℕ, ◌-◌, ◌<◌, suc, length, get_or, List, [], sym, subst, arith}
use Rattle.std.proofs.lemmas.List.{get_or_read, length-map, get_or-map}
use Rattle.sz_cells.specs.Rising.{AreRising}
use Rattle.sz_cells.specs.Runs.{runs_of}
use Rattle.sz_merge.specs.Links.{cells_told}
use Rattle.sz_merge.proofs.Grouped.{HaveWalked, walk-more, walk-all, cells-rise}
use Rattle.sz_merge.proofs.grouping.Grouping.put_runs.Goals as goal

pub loop-told-preserved : goal.loop-told-preserved
loop-told-preserved c =
    let first = c.self.inside.first.items in
    let next = c.self.inside.next.items in
    let all = cells_told (length next) next (get_or first c.args.number 0) in
    let told = c.loop-told.told in
    let new = c.add_cell.new.runs.items in
    let is : told ≡ suc (told - 1) = omega (arith, c.loop-told-test.true) in
    let inside : told - 1 < length next = omega (arith, is, c.loop-told.invariant.within) in
    subst (λ (t : ℕ). HaveWalked next all t new)
    (sym (get_or_read next (told - 1) c.index-told-in-loop-told.result.now inside c.index-told-in-loop-told.ensures 0))
    (walk-more first next all told (told - 1) c.loop-told.runs.items new c.self.invariant is c.loop-told.invariant
    c.in_ok-add_cell.ensures)

pub returns : goal.returns
returns c =
    let first = c.self.inside.first.items in
    let next = c.self.inside.next.items in
    let number = c.args.number in
    let runs = c.loop-told.runs.items in
    let made : ℕ → List _ = λ told. runs_of (cells_told (length next) next told) in
    let all = cells_told (length next) next (get_or first number 0) in
    let inside : number < length first =
    omega (arith, rw (← c.self.view_is, length-map first made) at c.requires) in
    let rises : AreRising 0 (length next) all =
    cells-rise (length next) first next (get_or first number 0) 0 c.self.invariant
    (c.self.invariant.firsts number 0 inside) (λ some. some) in
    let none : c.loop-told.told ≡ 0 = omega (arith, c.loop-told-test.false) in
    rw (← c.self.view_is)
    (walk-all next all runs (subst (λ (t : ℕ). HaveWalked next all t runs) none c.loop-told.invariant) rises
    ∙ sym (get_or-map made first number 0 [] inside))
