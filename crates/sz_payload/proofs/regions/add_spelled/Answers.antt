-- The runs that the bytes spell add the set.
use Rattle.std.proofs.Common.{true≢false, sym, ap, ◌∙◌, ◌≤◌, arith}
use Rattle.sz_cells.specs.Extent.{size_of}
use Rattle.sz_cells.specs.Cells.{union_of}
use Rattle.sz_payload.proofs.SetWords.{word-body, word-added}
use Rattle.sz_payload.proofs.regions.add_spelled.Goals as goal

pub returns-in-Some-clause-added : goal.returns-in-Some-clause-added
returns-in-Some-clause-added c = λ word.
    let e = c.args.to.now.extent in
    let few : size_of e ≤ 1048576 =
    omega (arith, c.size.ensures.few, c.size.ensures.value, ap size_of c.shape-shape.ensures.value) in
    c.add_runs.ensures.added (word-body e c.args.bytes.now c.in-Some.body.now few c.in-Some.ensures.some word)
    ∙ ap (union_of c.args.to.now) (word-added e c.args.bytes.now c.in-Some.body.now few c.in-Some.ensures.some word)

pub returns-in_default-clause-added : goal.returns-in_default-clause-added
returns-in_default-clause-added c = λ word.
    let e = c.args.to.now.extent in
    let few : size_of e ≤ 1048576 =
    omega (arith, c.size.ensures.few, c.size.ensures.value, ap size_of c.shape-shape.ensures.value) in
    absurd (true≢false (sym word ∙ c.in_default.ensures.none e few))
