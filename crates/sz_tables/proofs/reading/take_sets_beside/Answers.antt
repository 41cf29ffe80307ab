-- The two parts, one behind the other, are those that the number counts.
use Rattle.std.proofs.Common.{◌≡◌, ◌+◌, ◌-◌, ◌≤◌, ℕ, List, ◌∷◌, length, map, subst, sym, arith, rules, All}
use Rattle.sz_tables.specs.Tables.{SetsByNumber}
use Rattle.sz_tables.specs.Placing.{IsPart}
use Rattle.sz_tables.proofs.Parts.{two-parts, part-table}
use Rattle.sz_tables.proofs.reading.take_sets_beside.Goals as goal

pub returns-clause-ok : goal.returns-clause-ok
returns-clause-ok g c =
    let out = c.args.out in
    let ins = c.args.ins.now in
    let bytes = c.args.bytes.now in
    let sets = λ (t : SetsByNumber). t.sets in
    let first = c.in-Ok-Ok.first in
    let second = c.in-Ok-Ok.second in
    let front = c.find_front-front.result.0 in
    let middle = c.find_front-front.result.1 in
    let made = c.in_ok-put_together.ensures in
    let a : IsPart out ins bytes (c.args.at + 4) first.next front (first.outs.sets ∷ map sets first.tables.items)
    first.places.items = search rules in
    let b : IsPart out ins bytes middle second.next (c.in-Some.count - front)
    (second.outs.sets ∷ map sets second.tables.items) second.places.items = search rules in
    let next : first.next ≡ middle = search rules in
    let few : All (λ (t : SetsByNumber). length t.sets ≤ 0) first.tables.items = search rules in
    let none : length second.outs.sets ≡ 0 = search rules in
    let at : IsPart out ins bytes (c.args.at + 4) middle front (first.outs.sets ∷ map sets first.tables.items)
    first.places.items =
    subst (λ (n : ℕ). IsPart out ins bytes (c.args.at + 4) n front (first.outs.sets ∷ map sets first.tables.items)
    first.places.items) next a in
    let part = two-parts out ins bytes (c.args.at + 4) middle second.next front c.in-Some.count first.outs.sets
    second.outs.sets first.tables.items (map sets second.tables.items) first.places.items second.places.items
    c.find_front-front.ensures.few few none at b in
    let whole = part-table out ins bytes c.args.at second.next c.in-Some.count
    (first.outs.sets ∷ map sets second.tables.items) _ (omega arith) c.in-Some.ensures.some part in
    rw (made.0, made.1, made.2, made.3) whole
