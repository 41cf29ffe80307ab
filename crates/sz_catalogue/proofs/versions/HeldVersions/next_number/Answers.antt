-- The last number is the greatest.
use Rattle.std.proofs.Common.{ap, sym, ◌∙◌, ◌+◌, ◌-◌, ℕ, List}
use Rattle.std.specs.Map.{keys_of}
use Rattle.std.specs.BTreeMap.{btree_map_len}
use Rattle.sz_catalogue.specs.Holdings.{Version, greatest}
use Rattle.sz_catalogue.proofs.Numbers.{greatest-is}
use Rattle.sz_catalogue.proofs.versions.HeldVersions.next_number.Goals as goal

pub returns-in-Some : goal.returns-in-Some
returns-in-Some c =
    let last = greatest-is c.self.inside.by_number.entries (btree_map_len c.self.inside.by_number - 1)
    c.in-Some.number.now c.in-Some.field-0-1.now c.in-Some.ensures.last c.in-Some.ensures.all_up_to in
    ap (λ (n : ℕ). n + 1)
    (c.from.ensures ∙ sym last ∙ ap (λ (es : List (ℕ × Version)). greatest (keys_of es)) c.self.view_is)
