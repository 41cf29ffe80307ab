-- How a session on a log ends, on both sides of each part.
--
-- The key idea: a log that is told is opened or it is not, by its bytes; and what an ending says is taken part by part.
use Rattle.std.proofs.Common.{◌≡◌, ℕ, List, [], Option, Some, refl, sym, subst, true≢false, take, inl, inr}
use Rattle.sz_outside.specs.Disk.{Only}
use Rattle.sz_outside.specs.declared.stations.Station.{Ghosts}
use Rattle.sz_log.specs.Log.{empty_log}
use Rattle.sz_log.proofs.Rows.{log}
use Rattle.sz_catalogue.specs.Holdings.{no_holdings}
use Rattle.sz_recover.specs.Logs.{IsMade}
use Rattle.sz_recover.proofs.RowsLogs.{empty-made, gate-bad}
use Rattle.sz_recover.proofs.OneReading.{made-whole}
use Rattle.sz_feed.specs.Running.{FindsAll, StandsBehind, state_of_log}
use Rattle.sz_session.specs.Statuses.{EndsLines}
use Rattle.sz_session.specs.Continuing.{IsUnopened, EndsUnopened, EndsOpened, EndsOnLog}
use Rattle.sz_session.specs.declared.serving.Status.{Status}
use Rattle.sz_session.specs.declared.serving.Status.TheVariants as status

-- ---- why no log was opened

pub unopened-no_log : IsUnopened (Some []) status.NotALog × (IsUnopened (Some empty_log) status.NotALog → ⊥)
unopened-no_log = (refl, (λ is. true≢false is))

pub unopened-bad : IsUnopened (Some (take 17 log)) (status.BadLog 16)
unopened-bad = gate-bad

pub unopened-well_made : (at : ℕ) → IsUnopened (Some empty_log) (status.BadLog at) → ⊥
unopened-well_made at is = made-whole empty_log 16 at 1 no_holdings [] empty-made is

-- no other status tells of it
pub unopened-never : (disk : Option (List ℕ)) → (IsUnopened disk status.Done → ⊥)
    × (IsUnopened disk status.ReadFault → ⊥) × (IsUnopened disk status.SayFault → ⊥)
    × (IsUnopened disk status.InputLimit → ⊥) × (IsUnopened disk status.Usage → ⊥)
    × (IsUnopened disk status.AlreadyALog → ⊥)
unopened-never disk = ((λ is. is), (λ is. is), (λ is. is), (λ is. is), (λ is. is), (λ is. is))

module _ {X : Type 0} (T : Ghosts X) (old new : X) where
  -- ---- no log was opened

  pub unopened-said : (s : Status) → EndsUnopened T s old new → T.said new ≡ T.said old
  unopened-said s ends = ends.silent.said

  pub unopened-reads : (s : Status) → EndsUnopened T s old new → T.disk new ≡ T.disk old
  unopened-reads s ends = ends.reads

  pub unopened-why : (s : Status) → EndsUnopened T s old new → IsUnopened (T.disk old) s
  unopened-why s ends = ends.why

  -- ---- a log was

  module _ (s : Status) (limit : ℕ) (left rest : Option (List ℕ)) where
    -- it was a log
    pub opened-made : T.disk old ≡ Some [] → EndsOpened T s limit left rest old new → ⊥
    opened-made told ends =
        true≢false (sym (subst (λ (o : Option (List ℕ)). IsMade o ends.at.gate ends.at.format ends.c ends.kept) told
        ends.made).header)

    pub opened-ends : (ends : EndsOpened T s limit left rest old new)
        → EndsLines (state_of_log ends.c ends.kept) s limit left rest (T.said old) (T.said new)
    opened-ends ends = ends.ends

    pub opened-behind : (ends : EndsOpened T s limit left rest old new) → s ≡ status.Done
        → StandsBehind T (state_of_log ends.c ends.kept) (Some ends.at) left old new
    opened-behind ends = ends.behind

    pub opened-found : (ends : EndsOpened T s limit left rest old new) → Only (T.disk old) (T.may_leave old)
        → FindsAll T (state_of_log ends.c ends.kept) (Some ends.at) left old new
    opened-found ends = ends.found

  -- a session is not done on what is no log
  pub run-no_log : (limit : ℕ) (left rest : Option (List ℕ)) → T.disk old ≡ Some []
      → EndsOnLog T status.Done limit left rest old new → ⊥
  run-no_log limit left rest told ends =
      elim ends as (λ _. ⊥)
      [ inl none ↦ none.why | inr some ↦ opened-made status.Done limit left rest told some ]
