-- A byte more was written, and the seven bits that it has are left no more.
use Rattle.std.proofs.Common.{◌+◌, ◌%◌, List, [], ◌∷◌, ◌++◌, ℕ, ap, sym, ◌∙◌, arith, append_assoc}
use Rattle.std.proofs.lemmas.List.{append-nil}
use Rattle.sz_short.proofs.ShortNumbers.{left-all, left-less, left-last}
use Rattle.sz_short.proofs.numbers.put_short.Goals as goal

pub loop-rest-init : goal.loop-rest-init
loop-rest-init c = record {
  done = [];
  items = sym (append-nil c.args.to.now.items);
  left = left-all c.args.number (omega arith);
}

pub loop-rest-preserved : goal.loop-rest-preserved
loop-rest-preserved c =
    let inv = c.loop-rest.invariant in
    let byte = c.loop-rest.rest % 128 + 128 in
    record {
      done = inv.done ++ byte ∷ [];
      items = c.in_ok-push.ensures.items ∙ ap (λ (w : List ℕ). w ++ byte ∷ []) inv.items
          ∙ append_assoc c.args.to.now.items inv.done (byte ∷ []);
      left = left-less c.args.number inv.done c.loop-rest.rest inv.left (omega arith);
    }

pub returns-clause-ok : goal.returns-clause-ok
returns-clause-ok c =
    let inv = c.loop-rest.invariant in
    let rest = c.loop-rest.rest in
    c.in_ok-push-2.ensures.items ∙ ap (λ (w : List ℕ). w ++ rest ∷ []) inv.items
    ∙ append_assoc c.args.to.now.items inv.done (rest ∷ [])
    ∙ ap (λ (w : List ℕ). c.args.to.now.items ++ w) (left-last c.args.number inv.done rest inv.left (omega arith))
