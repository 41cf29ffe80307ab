-- The key idea: a turn appends the sum of the start and the number at the index.
use Rattle.std.proofs.Common.{◌+◌, ◌∙◌, ◌∷◌, [], ◌++◌, List, ℕ, get_or, take, ap, sym, arith}
use Rattle.std.proofs.lemmas.List.{append_assoc, take_all}
use Rattle.sz_tables.specs.Listing.{shifted}
use Rattle.sz_tables.proofs.Listing.{shifted-at, shifted-more, length-shifted}
use Rattle.sz_tables.proofs.region_table.shift.Goals as goal

pub overflow_add-starts : goal.overflow_add-starts
overflow_add-starts c =
    let long = length-shifted c.args.starts.now c.args.numbers.now c.requires.arrays in
    let is = shifted-at c.args.starts.now c.args.numbers.now c.loop-i.i c.requires.arrays (omega arith) in
    omega (arith, c.requires.fits c.loop-i.i 0 (omega arith))

pub loop-i-preserved : goal.loop-i-preserved
loop-i-preserved c =
    let old = c.args.to.now.items in
    let all = shifted c.args.starts.now c.args.numbers.now in
    let i = c.loop-i.i in
    rw c.in_ok-push.ensures.items
    (ap (λ (ns : List ℕ). ns ++ (get_or c.args.starts.now i 0 + get_or c.args.numbers.now i 0) ∷ []) c.loop-i.invariant
    ∙ (append_assoc old (take i all) _
    ∙ ap (λ (ns : List ℕ). old ++ ns)
    (sym (shifted-more c.args.starts.now c.args.numbers.now i c.requires.arrays (omega arith)))))

pub returns : goal.returns
returns c =
    let all = shifted c.args.starts.now c.args.numbers.now in
    let long = length-shifted c.args.starts.now c.args.numbers.now c.requires.arrays in
    c.loop-i.invariant ∙ ap (λ (ns : List ℕ). c.args.to.now.items ++ ns) (take_all c.loop-i.i all (omega arith))
