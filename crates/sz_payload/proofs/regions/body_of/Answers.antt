-- The bytes of a set are as many as its number of runs says.
use Rattle.std.proofs.Common.{◌≡◌, ℕ, List, length, take, ap, ◌∙◌, arith}
use Rattle.std.proofs.lemmas.Bool.{false_from_ne_true}
use Rattle.sz_cells.specs.SetWords.{is_set_word}
use Rattle.sz_region.specs.Taking.{number_at}
use Rattle.sz_payload.proofs.SetWords.{word-long}
use Rattle.sz_payload.proofs.regions.body_of.Goals as goal

pub returns-then-body-number_at-clause-none : goal.returns-then-body-number_at-clause-none
returns-then-body-number_at-clause-none c e few =
    false_from_ne_true (is_set_word e c.args.bytes.now) (λ word.
    let long = word-long e c.args.bytes.now few word in
    let number : c.number_at.result ≡ number_at (take 4 c.args.bytes.now) 0 =
    c.number_at.ensures ∙ ap (λ (xs : List ℕ). number_at xs 0) c.split_at.ensures.front in
    let body = ap length c.split_at.ensures.back in
    omega (arith, long.runs, number, body, c.if-body-number_at.true))
