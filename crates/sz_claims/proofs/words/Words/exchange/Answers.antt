-- Key idea: the piece is below the number of words, so a try, a win or a loss, keeps the rule.
use Rattle.std.proofs.Common.{rules, ap, ◌≡◌, ◌<◌, arith}
use Rattle.atomic_table.specs.Seated.{TableId}
use Rattle.sz_claims.proofs.Steps.{tries-keep}
use Rattle.sz_claims.proofs.words.Words.exchange.Goals as goal

pub compare_exchange-requires : goal.compare_exchange-requires
compare_exchange-requires c =
    let words : c.self.inside.table.shared.table_id.words ≡ c.args.self.now.words =
    ap (λ (t : TableId). t.words) c.self.view_is in
    let small : c.args.piece < c.self.inside.table.shared.key =
    omega (arith, c.requires.inside, words, c.self.inside.sized.0) in
    (search rules, omega (arith, c.requires.inside, words), tries-keep _ _ _ _ _ small)
