-- The bytes are those of a set exactly where their runs are the longest ones of it.
use Rattle.std.proofs.Common.{sym, subst, ◌≤◌, arith, ℕ}
use Rattle.sz_cells.specs.Extent.{size_of}
use Rattle.sz_cells.specs.Runs.{AreRunsFrom}
use Rattle.sz_cells.specs.SetWords.{is_set_word, runs_spelled}
use Rattle.sz_cells.proofs.Sets.{same_truth}
use Rattle.sz_payload.proofs.SetWords.{word-body, body-word}
use Rattle.sz_payload.proofs.regions.is_word.Goals as goal

pub returns-in-Some : goal.returns-in-Some
returns-in-Some c =
    let e = c.args.shape in
    let bytes = c.args.bytes.now in
    let few : size_of e ≤ 1048576 = omega (arith, c.size-size.ensures.few, c.size-size.ensures.value) in
    same_truth c.are_longest.result (is_set_word e bytes)
    (λ t. body-word e bytes c.in-Some.body.now few (λ i. omega (arith, c.type_inv.bytes i)) c.in-Some.ensures.some
    (subst (λ (n : ℕ). AreRunsFrom 0 n (runs_spelled c.in-Some.body.now)) c.size-size.ensures.value
    (c.are_longest.ensures.0 t)))
    (λ word. c.are_longest.ensures.1
    (subst (λ (n : ℕ). AreRunsFrom 0 n (runs_spelled c.in-Some.body.now)) (sym c.size-size.ensures.value)
    (word-body e bytes c.in-Some.body.now few c.in-Some.ensures.some word)))

pub returns-in-None : goal.returns-in-None
returns-in-None c = sym (c.in-None.ensures.none c.args.shape
    (omega (arith, c.size-size.ensures.few, c.size-size.ensures.value)))
