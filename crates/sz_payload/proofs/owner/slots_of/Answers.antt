-- One entry more, whose cells get its number.
use Rattle.std.proofs.Common.{◌≡◌, ℕ, ◌+◌, ◌<◌, List, [], ◌∷◌, ◌++◌, length, take, drop, get_or, cond}
use Rattle.std.proofs.Common.{sym, ap, subst, ◌∙◌, arith}
use Rattle.std.proofs.lemmas.List.{take_at, take_more, length-take-le}
use Rattle.sz_cells.specs.declared.Run.{Run}
use Rattle.sz_cells.specs.Extent.{size_of}
use Rattle.sz_cells.specs.Runs.{AreRunsFrom, Spells, covers}
use Rattle.sz_frame.specs.Parts.{Entry}
use Rattle.sz_tables.specs.Entries.{entries, entry_at}
use Rattle.sz_tables.specs.Rows.{set_at}
use Rattle.sz_tables.proofs.MetRuns.{set-spelled}
use Rattle.sz_payload.proofs.Adding.{entry-get}
use Rattle.sz_payload.proofs.Owning.{runs-longest, slots-more}
use Rattle.sz_payload.proofs.owner.slots_of.Goals as goal

pub fill-requires-clause-runs : goal.fill-requires-clause-runs
fill-requires-clause-runs c =
    let out = c.args.table.now.out in
    let set = set_at c.args.table.now.sets c.set_number.result in
    let runs = c.out_runs.result.now in
    let long : size_of out ≡ length c.deref_mut.result.now =
    sym (ap length c.deref_mut.ensures.value ∙ c.loop-row.invariant.count) in
    subst (λ (n : ℕ). AreRunsFrom 0 n runs) long
    (runs-longest out set runs c.out_runs.ensures.set c.out_runs.ensures.runs)

pub loop-row-preserved : goal.loop-row-preserved
loop-row-preserved c =
    let out = c.args.table.now.out in
    let es = entries c.args.table.now in
    let row = c.loop-row.row in
    let e = entry_at es row in
    let set = set_at c.args.table.now.sets c.set_number.result in
    let runs = c.out_runs.result.now in
    let old = c.loop-row.slots.items in
    let new = c.fill.new.slots in
    let there : row < length es = omega (arith, c.loop-row-test.true, c.len-row-end.ensures.entries) in
    let long : length new ≡ length old = omega arith in
    let filled : (k : ℕ) → k < length old → get_or new k 0 ≡ cond (covers runs k) (row + 1) (get_or old k 0) =
    rw c.deref_mut.ensures.value at c.fill.ensures in
    let back = take_at new (drop (length new) old) c.loop-row.slots.len (omega arith) in
    let spells = subst (λ (rs : List Run). Spells rs set) (sym c.out_runs.ensures.runs)
    (set-spelled out set c.out_runs.ensures.set) in
    let more : take (row + 1) es ≡ take row es ++ e ∷ [] =
    take_more es row e there ∙ ap (λ (x : Entry). take row es ++ x ∷ []) (entry-get es row e there) in
    rw (back, more)
    (slots-more out (take row es) e set runs old new row spells c.out_runs.ensures.set.extent long filled
    c.set_number.ensures.set (length-take-le row es (omega (arith, there))) c.loop-row.invariant)
