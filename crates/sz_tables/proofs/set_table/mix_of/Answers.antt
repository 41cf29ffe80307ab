-- What is read is the first and the last of the list, or all of it.
use Rattle.std.proofs.Common.{◌≡◌, ◌∙◌, ℕ, ◌+◌, ◌%◌, length, take, fold, subst, arith}
use Rattle.sz_tables.specs.Tables.{mixed, seed_of}
use Rattle.sz_tables.proofs.Slices.{mixed-ends}
use Rattle.sz_tables.proofs.set_table.mix_of.Goals as goal

pub returns : goal.returns
returns c =
    let runs = c.args.runs.now in
    let begun =
    subst (λ (k : ℕ). c.mix_more-first.result ≡ fold mixed ((length runs % 4294967296 + k) % 4294967296)
    (take c.min.result runs)) (c.from.ensures ∙ c.first_of.ensures) c.mix_more-first.ensures.mix in
    mixed-ends mixed 16 (seed_of runs) runs c.min.result c.max.result c.min-start.result c.mix_more-first.result
    c.mix_more.result c.min.ensures begun
    (omega (arith, c.max.ensures, c.saturating_sub.ensures)) c.min-start.ensures c.mix_more.ensures.mix
