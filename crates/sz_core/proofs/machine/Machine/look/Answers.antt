-- The ask of the number takes its step, and can go on; the others are as before.
use Rattle.std.proofs.Common.{◌≡◌, ◌<◌, ◌≤◌, length, List, set, refl, sym, ap, ap₂}
use Rattle.std.proofs.Common.{◌∙◌, arith, Some, None}
use Rattle.std.proofs.lemmas.List.{set-get_or}
use Rattle.std.proofs.lemmas.Option.{slice_get-get_or, slice_get_past}
use Rattle.std.proofs.lemmas.Result.{on_ok_weaker, on_err_weaker}
use Rattle.std.specs.List.{slice_get}
use Rattle.sz_core.specs.Events.{after_look}
use Rattle.sz_core.specs.Invariants.{CanGoOn}
use Rattle.sz_core.specs.States.{State, Shelf, Ask}
use Rattle.sz_core.proofs.Going.{either-way, ready-looked, ready-set}
use Rattle.sz_core.proofs.machine.Machine.look.Goals as goal

pub invariant_of-self : goal.invariant_of-self
invariant_of-self c =
    let shelves = c.self.inside.shelves.items in
    let asks = c.self.inside.asks.items in
    let a = c.index_mut.result.now in
    let within : c.args.ask < length asks =
    omega (arith, c.len.ensures, c.if-number-len.true, c.self.inside.asks.ok) in
    let ready : CanGoOn shelves a = rw c.index_mut.ensures.value (c.self.invariant c.args.ask a within) in
    rw c.look_by.ensures.same
    (either-way c.look_by.result c.look_by.ensures.after c.look_by.ensures.err
    (λ looked. rw looked (ready-set shelves asks c.args.ask (after_look shelves a) (ready-looked shelves a ready)
    c.self.invariant))
    (λ same. rw same (ready-set shelves asks c.args.ask a ready c.self.invariant)))

pub returns-then-number-len : goal.returns-then-number-len
returns-then-number-len c =
    let shelves = c.self.inside.shelves.items in
    let asks = c.self.inside.asks.items in
    let a = c.index_mut.result.now in
    let within : c.args.ask < length asks =
    omega (arith, c.len.ensures, c.if-number-len.true, c.self.inside.asks.ok) in
    let here : slice_get asks c.args.ask ≡ Some a = slice_get-get_or asks c.args.ask a within
    ∙ ap (λ (x : Ask). Some x) (sym c.index_mut.ensures.value) in
    let make : List Shelf → Ask → State = λ ss x. record { shelves = ss; asks = set asks c.args.ask x } in
    rw (← c.self.view_is, here) (record {
      ok = c.look_by.ensures.ok;
      after = on_ok_weaker c.look_by.result (λ looked. ap₂ make c.look_by.ensures.same looked)
          c.look_by.ensures.after;
      err = on_err_weaker c.look_by.result
          (λ same. ap₂ make c.look_by.ensures.same (same ∙ c.index_mut.ensures.value)
          ∙ ap (λ (xs : List Ask). record { shelves = shelves; asks = xs }) (set-get_or asks c.args.ask a))
          c.look_by.ensures.err;
    })

pub returns-else-number-len : goal.returns-else-number-len
returns-else-number-len c =
    let asks = c.self.inside.asks.items in
    let past : length asks ≤ c.args.ask =
    omega (arith, c.len.ensures, c.if-number-len.false, c.self.inside.asks.ok) in
    let none : slice_get asks c.args.ask ≡ None = slice_get_past asks c.args.ask past in
    rw (← c.self.view_is, none) (record { ok = refl; after = refl; err = tt })
