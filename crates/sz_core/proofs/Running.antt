-- What follows of events that happen one after the other.
--
-- The key idea: events are taken from the front, and one more event behind them happens in the state that they led
-- to.
use Rattle.std.proofs.Common.{◌≡◌, ℕ, ◌+◌, ◌<◌, List, [], ◌∷◌, ◌++◌, length, take, get_or}
use Rattle.std.proofs.Common.{refl, sym, ap, ap₂, ◌∙◌}
use Rattle.std.proofs.lemmas.List.{take_more}
use Rattle.sz_core.specs.declared.events.Event.{Event}
use Rattle.sz_core.specs.declared.events.Told.{Told}
use Rattle.sz_core.specs.Events.{reply, next_state, last_state, replies}
use Rattle.sz_core.specs.States.{State}

-- one event more
pub last-push : (s : State) (events : List Event) (e : Event)
    → last_state s (events ++ e ∷ []) ≡ next_state (last_state s events) e
last-push s [] e = refl
last-push s (x ∷ events) e = last-push (next_state s x) events e

pub replies-push : (s : State) (events : List Event) (e : Event)
    → replies s (events ++ e ∷ []) ≡ replies s events ++ reply (last_state s events) e ∷ []
replies-push s [] e = refl
replies-push s (x ∷ events) e = ap (λ (ts : List Told). reply s x ∷ ts) (replies-push (next_state s x) events e)

-- the same of the first events of a list
pub last-next : (s now new : State) (events : List Event) (i : ℕ) (d : Event) → i < length events
    → now ≡ last_state s (take i events)
    → new ≡ next_state now (get_or events i d) → new ≡ last_state s (take (i + 1) events)
last-next s now new events i d within so_far here =
    here ∙ ap (λ (x : State). next_state x (get_or events i d)) so_far
    ∙ sym (ap (last_state s) (take_more events i d within) ∙ last-push s (take i events) (get_or events i d))

pub replies-next : (s now : State) (told new : List Told) (t : Told) (events : List Event) (i : ℕ) (d : Event)
    → i < length events
    → now ≡ last_state s (take i events) → told ≡ replies s (take i events)
    → t ≡ reply now (get_or events i d) → new ≡ told ++ t ∷ []
    → new ≡ replies s (take (i + 1) events)
replies-next s now told new t events i d within so_far before here pushed =
    let behind : List Told → Told → List Told = λ ts x. ts ++ x ∷ [] in
    pushed ∙ ap₂ behind before (here ∙ ap (λ (x : State). reply x (get_or events i d)) so_far)
    ∙ sym (ap (replies s) (take_more events i d within) ∙ replies-push s (take i events) (get_or events i d))
