-- Where both words are there and differ, the cells to which they link are united; else all roots stay.
use Rattle.std.proofs.Common.{◌≡◌, ◌<◌, ◌⊎◌, ℕ, Bool, ap, subst, ◌∙◌}
use Rattle.std.specs.Prelude.{if◌then◌else◌}
use Rattle.sz_ops_region.proofs.Roots.{beside-united, beside-one}
use Rattle.sz_ops_region.proofs.links.word_for.Goals as goal

pub returns-then-are_two-clause-high : goal.returns-then-are_two-clause-high
returns-then-are_two-clause-high c high root roots =
    let united = c.unite.ensures.roots root roots in
    let left : c.kept_where.result ≡ c.args.left =
    c.kept_where.ensures ∙ ap (λ (b : Bool). if b then c.args.left else 0) high in
    let two = c.are_two.ensures.two c.if-are_two.true in
    beside-united c.unite.new.words root c.args.index c.args.left c.args.above c.unite.result
    (subst (λ (w : ℕ). 0 < w) left two.0) two.1 united.0 united.1 c.unite.ensures.top

pub returns-else-are_two-clause-high : goal.returns-else-are_two-clause-high
returns-else-are_two-clause-high c high root roots =
    let left : c.kept_where.result ≡ c.args.left =
    c.kept_where.ensures ∙ ap (λ (b : Bool). if b then c.args.left else 0) high in
    let one = subst (λ (w : ℕ). (w ≡ 0) ⊎ ((c.args.above ≡ 0) ⊎ (w ≡ c.args.above))) left
    (c.are_two.ensures.one c.if-are_two.false) in
    beside-one c.args.words.now root c.args.index c.args.left c.args.above c.kept_where-else-are_two.result roots
    c.requires.left c.requires.above one
    (c.kept_where-else-are_two.ensures ∙ ap (λ (b : Bool). if b then c.one_of.result else 0) high ∙ c.one_of.ensures)
