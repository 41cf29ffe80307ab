-- The key idea: a number past the last entry would have every key, so it is that of an entry, whose link tells the one
-- before it.
use Rattle.std.proofs.Common.{◌≡◌, length, ap, subst, sym, arith}
use Rattle.std.specs.List.{HoldsAt}
use Rattle.std.proofs.lemmas.List.{length-map}
use Rattle.sz_tables.specs.Filed.{Files, IsLastBelow, entry_of, told}
use Rattle.sz_tables.proofs.Chained.{entry-within, chained-before}
use Rattle.sz_tables.proofs.chains.Chains.before.Goals as goal

pub index-requires : goal.index-requires
index-requires c =
    let seen = ap (λ (f : Files). length f.entries) c.self.view_is in
    omega (
      arith,
      entry-within c.args.self.now.entries c.args.number c.args.key c.requires,
      seen,
      length-map c.self.inside.links.items entry_of,
    )

pub returns : goal.returns
returns c =
    let seen = ap (λ (f : Files). f.entries) c.self.view_is in
    rw c.number_told.ensures
    (subst (λ es. IsLastBelow es c.args.key c.args.number (told c.index.result.now.before)) seen
    (chained-before c.self.inside.heads.items c.self.inside.links.items c.args.number c.args.key c.index.result.now
    c.self.invariant.0 (subst (λ es. HoldsAt (λ e. e.key ≡ c.args.key) es c.args.number) (sym seen) c.requires)
    c.index.ensures))
