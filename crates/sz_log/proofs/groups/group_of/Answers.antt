-- The ten bytes are a gate, a kind, and eight bytes that spell the length.
use Rattle.std.proofs.Common.{◌≡◌, ◌≤◌, sym, ap, subst, ◌∙◌, arith, ℕ, List, length, drop, slice_index_or}
use Rattle.std.proofs.lemmas.List.{length-take}
use Rattle.sz_outside.specs.Disk.{bytes_at}
use Rattle.sz_log.specs.Places.{opened_with, SpellsLength}
use Rattle.sz_log.specs.declared.groups.Group.{Group}
use Rattle.sz_log.proofs.Places.{stands_on, gate_is, spells_on}
use Rattle.sz_log.proofs.groups.group_of.Goals as goal

-- no more than ten bytes were asked for
ten : (disk head : List ℕ) (at : ℕ) → 10 ≤ length head → head ≡ bytes_at disk at 10 → length head ≡ 10
ten disk head at some is = omega (arith, ap length is, length-take 10 (drop at disk))

pub returns-clause-group : goal.returns-clause-group
returns-clause-group c = λ disk is_size is.
    c.group_with.ensures
    ∙ ap (λ (n : ℕ). opened_with c.args.at (slice_index_or c.args.head.now 1 0) n c.saturating_sub.result)
    c.eight_at-length.ensures
    ∙ stands_on c.args.at c.args.size c.saturating_sub.result disk c.args.head.now is_size c.saturating_sub.ensures
    (ten disk c.args.head.now c.args.at c.if-head-lt10.false is) is
    (gate_is (slice_index_or c.args.head.now 0 0) (sym c.is_open.ensures ∙ c.if-not-is_open.false))

pub returns-clause-spelled : goal.returns-clause-spelled
returns-clause-spelled c = λ disk is.
    subst (λ (x : Group). SpellsLength disk c.args.at x) (sym c.group_with.ensures)
    (spells_on c.args.at (slice_index_or c.args.head.now 1 0) c.eight_at-length.result c.saturating_sub.result disk
    c.args.head.now (λ i. omega (arith, c.type_inv.head i))
    (ten disk c.args.head.now c.args.at c.if-head-lt10.false is) is c.eight_at-length.ensures)
