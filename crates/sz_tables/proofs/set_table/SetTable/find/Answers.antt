-- The key idea: a set that these runs spell is filed under their key, so the walk over the entries of the key meets it.
use Rattle.std.proofs.Common.{◌≡◌, ◌≢◌, ℕ, ◌%◌, ◌∙◌, ap, sym, arith}
use Rattle.std.specs.List.{slice_get}
use Rattle.std.proofs.lemmas.Bool.{false≢true}
use Rattle.sz_tables.specs.Tables.{spans_from}
use Rattle.sz_tables.proofs.Chained.{entry-within}
use Rattle.sz_tables.proofs.Numbered.{last-reach, last-filed, key-at, entries-count}
use Rattle.sz_tables.proofs.set_table.SetTable.find.Goals as goal

pub loop-next-init : goal.loop-next-init
loop-next-init c =
    let key_now = c.args.mix % c.keys.result in
    let index = c.self.inside.index in
    let spans = spans_from 0 c.self.inside.ends.items in
    let longest = rw (← c.self.view_is) at c.requires.longest in
    let own : key_now ≡ c.args.mix % index.keys = ap (λ (k : ℕ). c.args.mix % k) c.keys.ensures in
    let key_is = own ∙ ap (λ (m : ℕ). m % index.keys) c.requires.mix in
    record {
      ahead = λ n same.
          let key =
          key-at c.self.inside.shape c.self.inside.runs.items c.args.runs.now spans index key_now n
          c.self.invariant.0 longest key_is (rw (← c.self.view_is) at same) in
          last-reach index.entries key_now _ c.last-next.result n c.last-next.ensures key.0 key.1;
      key = own;
      filed = last-filed index.entries key_now _ c.last-next.result c.last-next.ensures;
    }

pub is_spelled-requires-clause-number : goal.is_spelled-requires-clause-number
is_spelled-requires-clause-number c =
    let key_now = c.args.mix % c.keys.result in
    let index = c.self.inside.index in
    let filed = rw c.in-Some.is at c.loop-next.invariant.filed in
    let many = entry-within index.entries c.in-Some.number key_now filed in
    let count = entries-count c.self.inside.shape c.self.inside.runs.items (spans_from 0 c.self.inside.ends.items)
    index c.self.invariant.0 in
    rw (← c.self.view_is) (omega (arith, many, count))

pub loop-next-preserved : goal.loop-next-preserved
loop-next-preserved c =
    let key_now = c.args.mix % c.keys.result in
    let index = c.self.inside.index in
    let spans = spans_from 0 c.self.inside.ends.items in
    let longest = rw (← c.self.view_is) at c.requires.longest in
    let key_is = c.loop-next.invariant.key ∙ ap (λ (m : ℕ). m % index.keys) c.requires.mix in
    record {
      ahead = λ n same.
          let key =
          key-at c.self.inside.shape c.self.inside.runs.items c.args.runs.now spans index key_now n
          c.self.invariant.0 longest key_is (rw (← c.self.view_is) at same) in
          let ahead = rw c.in-Some.is at c.loop-next.invariant.ahead n same in
          let other : n ≢ c.in-Some.number = λ here.
          false≢true (sym c.if-is_spelled.false ∙ c.is_spelled.ensures.1
          (ap (slice_get c.args.self.now.sets) (sym here) ∙ same)) in
          last-reach index.entries key_now c.in-Some.number c.before-next.result n c.before-next.ensures key.0
          (omega (arith, ahead));
      key = c.loop-next.invariant.key;
      filed = last-filed index.entries key_now c.in-Some.number c.before-next.result c.before-next.ensures;
    }
