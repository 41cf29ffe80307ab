-- The entry of the name is changed and no other: `text_keys` reads that off the call of `get_mut`.
use Rattle.std.proofs.Common.{◌≡◌, ℕ, List, cond, Some, arith}
use Rattle.std.specs.BTreeMap.{get_by_text}
use Rattle.std.specs.Str.{bytes_eq}
use Rattle.std.proofs.lemmas.Map.Text.{text_keys}
use Rattle.sz_catalogue.proofs.Names.{versions_in-cut}
use Rattle.sz_catalogue.proofs.arrays.delist.Goals as goal

pub returns-in-Some : goal.returns-in-Some
returns-in-Some c =
    let found : get_by_text c.args.index.now c.args.name.now ≡ Some c.in-Some.versions.now = grind (arith, text_keys) in
    let after : (q : List ℕ)
    → get_by_text (c.get_mut.follows.lender c.pop.new.self) q
    ≡ cond (bytes_eq c.args.name.now q) (Some c.pop.new.self) (get_by_text c.args.index.now q) =
    λ q. grind (arith, text_keys) in
    λ rest g is. versions_in-cut c.args.index.now (c.get_mut.follows.lender c.pop.new.self) c.args.name.now
    c.in-Some.versions.now c.pop.new.self rest g after found c.pop.ensures.rest is
