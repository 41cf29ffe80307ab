-- The greater root is linked to the other one: the second search leaves the root that was found first as it was.
use Rattle.std.proofs.Common.{ℕ, List, sym, subst, ◌∙◌, arith}
use Rattle.sz_ops_region.specs.Links.{AreLinks, AreRoots, merged}
use Rattle.sz_ops_region.proofs.Roots.{links-move, roots-above, roots-below}
use Rattle.sz_ops_region.proofs.links.unite.Goals as goal

pub link-requires-clause-to : goal.link-requires-clause-to
link-requires-clause-to c = c.root_of-second.ensures.tops c.root_of-first.result c.root_of-first.ensures.top

pub link-requires-else-first-second-clause-from : goal.link-requires-else-first-second-clause-from
link-requires-else-first-second-clause-from c =
    c.root_of-second.ensures.tops c.root_of-first.result c.root_of-first.ensures.top

pub returns-then-first-second-clause-links : goal.returns-then-first-second-clause-links
returns-then-first-second-clause-links c =
    let first = c.root_of-first.result in
    let second = c.root_of-second.result in
    let top = c.root_of-second.ensures.tops first c.root_of-first.ensures.top in
    subst AreLinks (sym c.link.ensures.words)
    (links-move c.root_of-second.new.words second first c.root_of-second.ensures.links
    c.root_of-second.ensures.top top (omega (arith, c.if-first-second.true)))

pub returns-then-first-second-clause-roots : goal.returns-then-first-second-clause-roots
returns-then-first-second-clause-roots c root roots =
    let first = c.root_of-first.result in
    let second = c.root_of-second.result in
    let one = c.root_of-first.ensures.roots root roots in
    let other = c.root_of-second.ensures.roots root one.0 in
    let top = c.root_of-second.ensures.tops first c.root_of-first.ensures.top in
    let both = roots-above c.root_of-second.new.words root c.args.a c.args.b first second other.0 one.1 other.1 top
    c.root_of-second.ensures.top c.if-first-second.true in (
      subst (λ (ws : List ℕ). AreRoots ws (merged root c.args.a c.args.b)) (sym c.link.ensures.words) both.0,
      c.link.ensures.word ∙ both.1,
    )

pub returns-else-first-second-clause-links : goal.returns-else-first-second-clause-links
returns-else-first-second-clause-links c =
    let first = c.root_of-first.result in
    let second = c.root_of-second.result in
    let top = c.root_of-second.ensures.tops first c.root_of-first.ensures.top in
    subst AreLinks (sym c.link-else-first-second.ensures.words)
    (links-move c.root_of-second.new.words first second c.root_of-second.ensures.links top
    c.root_of-second.ensures.top (omega (arith, c.if-first-second.false)))

pub returns-else-first-second-clause-roots : goal.returns-else-first-second-clause-roots
returns-else-first-second-clause-roots c root roots =
    let first = c.root_of-first.result in
    let second = c.root_of-second.result in
    let one = c.root_of-first.ensures.roots root roots in
    let other = c.root_of-second.ensures.roots root one.0 in
    let top = c.root_of-second.ensures.tops first c.root_of-first.ensures.top in
    let both = roots-below c.root_of-second.new.words root c.args.a c.args.b first second other.0 one.1 other.1 top
    c.root_of-second.ensures.top (omega (arith, c.if-first-second.false)) in (
      subst (λ (ws : List ℕ). AreRoots ws (merged root c.args.a c.args.b)) (sym c.link-else-first-second.ensures.words)
          both.0,
      c.link-else-first-second.ensures.word ∙ both.1,
    )
