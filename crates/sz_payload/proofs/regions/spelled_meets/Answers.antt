-- The runs that the bytes spell have an asked cell where the set has one.
use Rattle.std.proofs.Common.{true≢false, sym, ap, ◌∙◌, ◌≤◌, arith}
use Rattle.sz_cells.specs.Extent.{size_of}
use Rattle.sz_payload.proofs.SetWords.{word-body, word-met}
use Rattle.sz_payload.proofs.regions.spelled_meets.Goals as goal

pub runs_meet-requires-clause-runs : goal.runs_meet-requires-clause-runs
runs_meet-requires-clause-runs c =
    let e = c.args.from.now.extent in
    let few : size_of c.args.from.now.extent ≤ 1048576 =
    omega (arith, c.size.ensures.few, c.size.ensures.value, ap size_of c.shape-shape.ensures.value) in
    word-body e c.args.bytes.now c.in-Some.body.now few c.in-Some.ensures.some c.requires

pub returns-in-Some : goal.returns-in-Some
returns-in-Some c =
    let from = c.args.from.now in
    let few : size_of c.args.from.now.extent ≤ 1048576 =
    omega (arith, c.size.ensures.few, c.size.ensures.value, ap size_of c.shape-shape.ensures.value) in
    c.runs_meet.ensures.met
    ∙ word-met from c.args.bytes.now c.in-Some.body.now few c.runs_meet.ensures.rising c.in-Some.ensures.some c.requires

pub returns-in-None : goal.returns-in-None
returns-in-None c =
    let few : size_of c.args.from.now.extent ≤ 1048576 =
    omega (arith, c.size.ensures.few, c.size.ensures.value, ap size_of c.shape-shape.ensures.value) in
    absurd (true≢false (sym c.requires ∙ c.in-None.ensures.none c.args.from.now.extent few))
