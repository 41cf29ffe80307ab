-- What a line does to what a session keeps of the nodes of its versions.
--
-- Of each version there is one entry, under its number: of each of its nodes nothing, the shelf on
-- which its stores grow, stores that were built, or stores that a log gave.
use Rattle.std.specs.Prelude.{◌≡◌, ◌==◌, ℕ, List, [], ◌∷◌, ◌++◌, Bool, true, false, All}
use Rattle.std.specs.Prelude.{Option, Some, None, Result, Ok, Err}
use Rattle.std.specs.List.{AllZip, list_all}
use Rattle.sz_script.specs.Reading.{reading}
use Rattle.sz_script.specs.declared.command.Command.{Command}
use Rattle.sz_script.specs.declared.command.Command.TheVariants as command
use Rattle.sz_script.specs.declared.refusal.Refusal.{Refusal}
use Rattle.sz_catalogue.specs.Holdings.{Holdings, next_number}
use Rattle.sz_catalogue.specs.Rules.{judged, version_of}
use Rattle.sz_versions.specs.Residents.{Stored, none, on_shelf, built, given}
use Rattle.sz_versions.specs.Merging.{IsMergedIn}
use Rattle.sz_commands.specs.Lines.{is_blank}
use Rattle.sz_commands.specs.States.{SessionState}

-- of each version, by its number, what stands of its nodes
abbrev pub Entries : Type 0
Entries = List (ℕ × List Stored)

-- ---- nodes

-- nothing is kept of the node, or its stores were built
abbrev pub is_finished : Stored → Bool
is_finished none = true
is_finished (on_shelf z) = false
is_finished (built kept) = true
is_finished (given kept) = false

-- nothing is kept of it, or its stores were read of a log
abbrev pub is_given : Stored → Bool
is_given none = true
is_given (on_shelf z) = false
is_given (built kept) = false
is_given (given kept) = true

-- each node of each version is such a one
abbrev pub AreGiven : Entries → Type 0
AreGiven es = All (λ (e : ℕ × List Stored). list_all is_given e.1 ≡ true) es

-- ---- a start, and an await

-- one entry more, under the next number, behind all others
abbrev pub AddsEntry : Holdings → Entries → Entries → Type 0
AddsEntry c old new = (nodes : List Stored) × (new ≡ old ++ (next_number c, nodes) ∷ [])

-- an entry before the version of a number is awaited and behind that: of another version it stays,
-- and of this one no node is left on a shelf
pub record IsFinishedIn (n : ℕ) (old new : ℕ × List Stored) : Type 0 where
  pub number : new.0 ≡ old.0
  pub other : (old.0 == n) ≡ false → new.1 ≡ old.1
  pub own : (old.0 == n) ≡ true → list_all is_finished new.1 ≡ true

-- so it is of each; an await of a version that was awaited before leaves all
abbrev pub FinishesEntry : Bool → ℕ → Entries → Entries → Type 0
FinishesEntry true n old new = new ≡ old
FinishesEntry false n old new = AllZip (IsFinishedIn n) old new

-- ---- commands

-- a command that no rule refuses: a start and a refresh add an entry, an await finishes one, one
-- that tells what a merge gave merges the stores of one, and any other leaves all
abbrev pub EntriesBy : Holdings → Command → Entries → Entries → Type 0
EntriesBy c (command.Start name base) old new = AddsEntry c old new
EntriesBy c (command.Refresh n i set) old new = AddsEntry c old new
EntriesBy c (command.Await n) old new = FinishesEntry (version_of c n).awaited n old new
EntriesBy c (command.Merged n) old new = AllZip (IsMergedIn n) old new
EntriesBy c _ old new = new ≡ old

-- one that a rule refuses leaves all
abbrev pub EntriesIf : Holdings → Command → Option Refusal → Entries → Entries → Type 0
EntriesIf c command None old new = EntriesBy c command old new
EntriesIf c command (Some rule) old new = new ≡ old

-- ---- lines

-- so does a line that is read as no command
abbrev pub EntriesRead : Holdings → Result Command Refusal → Entries → Entries → Type 0
EntriesRead c (Err rule) old new = new ≡ old
EntriesRead c (Ok command) old new = EntriesIf c command (judged c command) old new

-- and a blank one
abbrev pub EntriesOf : Bool → Holdings → Result Command Refusal → Entries → Entries → Type 0
EntriesOf true c said old new = new ≡ old
EntriesOf false c said old new = EntriesRead c said old new

-- ---- what a session keeps

-- behind a command that no rule refuses
abbrev pub StoredBy : SessionState → Command → SessionState → Type 0
StoredBy s command t = EntriesBy s.held command s.stored t.stored

-- behind any command
abbrev pub StoredAfter : SessionState → Command → SessionState → Type 0
StoredAfter s command t = EntriesIf s.held command (judged s.held command) s.stored t.stored

-- behind a line
abbrev pub StoredBehind : SessionState → List ℕ → SessionState → Type 0
StoredBehind s line t = EntriesOf (is_blank line) s.held (reading line) s.stored t.stored
