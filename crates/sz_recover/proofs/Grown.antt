-- How a log grows. The key idea: the groups that act are those of the log, and one more group acts behind them.
use Rattle.std.proofs.Common.{◌≡◌, inl, inr, ⊎_elim, ℕ, List, [], ◌∷◌, ◌++◌, refl, sym, ap, ◌∙◌, subst, true, Option}
use Rattle.std.proofs.Common.{None, Some}
use Rattle.sz_outside.specs.Disk.{Told, Only, Passes}
use Rattle.sz_log.specs.Log.{LogGroup, IsLog, begins_as_log, log_bytes}
use Rattle.sz_log.specs.Steps.{AddsOrKeeps, place_behind}
use Rattle.sz_log.proofs.Moments.{seen_as}
use Rattle.sz_log.proofs.Reading.{groups_read}
use Rattle.sz_catalogue.specs.Holdings.{Holdings, no_holdings}
use Rattle.sz_recover.specs.Logs.{Kept, Acts, ActEach, IsWellMade, IsMade}
use Rattle.sz_recover.specs.Growing.{Growth, GrowsOrKeeps, LogsGrow, MadeLogsGrow, LogsGrowOrStay}
use Rattle.sz_recover.proofs.Ending.{logs-spelled, well-made-log}
use Rattle.sz_recover.proofs.Opened.{act-more}

-- ---- a log is well made where its groups act

begins : (es : List LogGroup) (rest : List ℕ) → begins_as_log (log_bytes es ++ rest) ≡ true
begins es rest = refl

log-made : (image : List ℕ) (at format : ℕ) (es : List LogGroup) (c : Holdings) (kept : List Kept) → IsLog image es at
    → ActEach 1 no_holdings es format c kept → IsWellMade image at format c kept
log-made image at format es c kept held acts = record {
  header = ap begins_as_log held.bytes ∙ begins es (held.gate ∷ held.behind);
  entries = es;
  read = groups_read image es at held;
  spelled = logs-spelled image es at held;
  acts = acts;
}

grown-made : (image : List ℕ) (at : ℕ) (es : List LogGroup) (e : LogGroup) (g : Growth)
    → ActEach 1 no_holdings es g.format_before g.before g.kept
    → Acts g.format_before g.before e g.format_after g.after g.more → IsLog image (es ++ e ∷ []) at
    → IsWellMade image at g.format_after g.after (g.kept ++ g.more)
grown-made image at es e g each acts held =
    log-made image at g.format_after (es ++ e ∷ []) g.after (g.kept ++ g.more) held
    (act-more 1 g.format_before g.format_after no_holdings g.before g.after es e g.kept g.more each acts)

pub logs-grow : LogsGrow
logs-grow disk image at e g made acts adds =
    grown-made image (place_behind at e) made.entries e g made.acts acts
    (adds made.entries (well-made-log disk at g.format_before g.before g.kept made))

pub logs-grow-or-stay : LogsGrowOrStay
logs-grow-or-stay disk image at e g made acts adds =
    ⊎_elim (λ same. inl (log-made image at g.format_before made.entries g.before g.kept same made.acts))
    (λ more. inr (grown-made image (place_behind at e) made.entries e g made.acts acts more))
    (adds made.entries (well-made-log disk at g.format_before g.before g.kept made))

-- ---- where it is not said whether the disk is told

pub made-logs-grow : MadeLogsGrow
made-logs-grow None new at next e g made acts added place =
    subst (λ (p : Option (List ℕ)). IsMade p next g.format_after g.after (g.kept ++ g.more)) (sym added) tt
made-logs-grow (Some disk) new at next e g made acts (image, is, adds) place =
    subst (λ (p : Option (List ℕ)). IsMade p next g.format_after g.after (g.kept ++ g.more)) (sym is)
    (subst (λ (n : ℕ). IsWellMade image n g.format_after g.after (g.kept ++ g.more)) (sym place)
    (logs-grow disk image at e g made acts adds))

-- ---- what a stop leaves, for the proofs of whoever adds a group

images-grow : (disk old image : List ℕ) (at : ℕ) (e : LogGroup) (g : Growth)
    → IsWellMade disk at g.format_before g.before g.kept
    → Acts g.format_before g.before e g.format_after g.after g.more → old ≡ disk → AddsOrKeeps at e old image
    → GrowsOrKeeps at e g old image
images-grow disk old image at e g made acts same adds =
    logs-grow-or-stay disk image at e g made acts (subst (λ (d : List ℕ). AddsOrKeeps at e d image) same adds)

-- where no write is pending, each image that a stop in `append` leaves is a well-made log
pub passes-grow : (before now : ℕ) (past since : ℕ → List ℕ → List ℕ → Type 0) (A C : List ℕ → Type 0)
    (F : List ℕ → Type 0) (o : Option (List ℕ)) (at : ℕ) (e : LogGroup) (g : Growth)
    → IsMade o at g.format_before g.before g.kept
    → Acts g.format_before g.before e g.format_after g.after g.more → Only o A
    → Told o (Passes before now past since A C (AddsOrKeeps at e) F)
    → Told o (Passes before now past since A C (GrowsOrKeeps at e g) F)
passes-grow before now past since A C F None at e g made acts only stops = tt
passes-grow before now past since A C F (Some disk) at e g made acts only stops =
    seen_as stops (λ image (old, was, adds).
    (old, was, images-grow disk old image at e g made acts (only old was) adds))
