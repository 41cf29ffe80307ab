-- What becomes of a view whose step was taken: by a shelf, its pass took a turn.
use Rattle.std.specs.Prelude.{◌≡◌, ◌⊎◌}
use Rattle.sz_shelf.specs.Passes.{Onlooker, TookTurn}
use Rattle.sz_query.specs.Views.{View, by_map, by_store, by_shelf, by_growth, by_trace}

-- A pass looked once: it took one turn, in which it placed nothing and did not seal, so it has seen
-- and saw what it found; and it keeps what it kept.
pub record LookedOnce (p q : Onlooker) : Type 0 where
  pub turn : TookTurn p q
  pub kept : q.kept ≡ p.kept
  pub seen : q.seen ≡ q.found
  pub saw : q.saw ≡ q.found_sealed

-- A view before its step and after it: one by a shelf has a pass that looked once, and all else of
-- it, and each other view, is the same.
abbrev pub IsAsked : View → View → Type 0
IsAsked (by_map s) w = w ≡ by_map s
IsAsked (by_store s kept t) w = w ≡ by_store s kept t
IsAsked (by_shelf s z p t) w = (q : Onlooker) × LookedOnce p q × (w ≡ by_shelf s z q t)
IsAsked (by_growth s inputs z p t) w =
    (q : Onlooker) × LookedOnce p q × (w ≡ by_growth s inputs z q t)
IsAsked (by_trace s inputs) w = w ≡ by_trace s inputs

-- a view before and after a path on which its step may not have been reached
abbrev pub MayBeAsked : View → View → Type 0
MayBeAsked v w = (w ≡ v) ⊎ IsAsked v w
