-- How a log grows beside what a session holds.
--
-- A session holds versions that were started and not awaited yet; its log holds the same but for
-- these. A group is added at the log's end, and the log is well made before it and behind it, and
-- at every moment between.
use Rattle.std.specs.Prelude.{◌≡◌, ◌⊎◌, ℕ, ◌≤◌, List, [], ◌∷◌, ◌++◌, length, map}
use Rattle.std.specs.Prelude.{filter, true, false, not, ◌==◌, if◌then◌else◌, nat_le, All}
use Rattle.std.specs.Prelude.{Option, Some, None}
use Rattle.std.specs.Prelude.{option_map, Ok}
use Rattle.std.specs.List.{list_all, list_any}
use Rattle.std.specs.List.Sorted.{IsStrictlySortedBy}
use Rattle.std.specs.Map.{keys_of}
use Rattle.std.specs.Ordering.{nat_cmp}
use Rattle.std.specs.Result.{result_err}
use Rattle.sz_outside.specs.Disk.{Told}
use Rattle.sz_log.specs.Log.{LogGroup, EndsAt, IsLog, begins_as_log}
use Rattle.sz_log.specs.Laws.{Reads}
use Rattle.sz_log.specs.Steps.{Adds, AddsOrKeeps, Added, place_behind}
use Rattle.sz_spec.specs.FlowShapes.{output_shapes}
use Rattle.sz_store.specs.Kept.{NodeLineage}
use Rattle.sz_script.specs.Names.{is_name}
use Rattle.sz_script.specs.Reading.{reading}
use Rattle.sz_script.specs.Right.{IsRight}
use Rattle.sz_script.specs.declared.command.Command.{Command}
use Rattle.sz_catalogue.specs.Holdings.{Workflow, Version, Holdings, no_holdings}
use Rattle.sz_catalogue.specs.Holdings.{array_version, flow_named}
use Rattle.sz_catalogue.specs.Holdings.{version_numbered, shapes_of, held_cells}
use Rattle.sz_catalogue.specs.Rules as rules
use Rattle.sz_catalogue.specs.Rules.{version_of, judged}
use Rattle.sz_catalogue.specs.Changes.{accepted, with_version, with_await}
use Rattle.sz_bodies.specs.Bodies.{IsBodyOf}
use Rattle.sz_bodies.specs.Fitting.{sites_of, Fit, body_of}
use Rattle.sz_bodies.specs.Lawful.{IsLawful, version_said}
use Rattle.sz_recover.specs.Logs.{Kept, Acts, AreSpelled, IsWellMade, IsMade}
use Rattle.sz_recover.specs.Logs.{is_of_kind, version_kind}

-- what is held, but for the versions that were not awaited, and for which merges were asked
abbrev pub durable : Holdings → Holdings
durable c = record c {
  versions = filter (λ (e : ℕ × Version). e.1.awaited) c.versions;
  merges = [];
}

-- ---- what a session holds

-- A version is one of what is held, under a number: each name is one; its flow and its base arrays
-- are those that are held under these names, as many as the flow takes, and their shapes fit; and
-- each node has a list for its operator.
pub record IsVersionIn (c : Holdings) (n : ℕ) (v : Version) : Type 0 where
  pub some : nat_le 1 n ≡ true
  pub names : list_all is_name (v.flow_name ∷ map (λ b. b.name) v.base) ≡ true
  pub flow : option_map (λ w. w.graph) (flow_named c v.flow_name) ≡ Some v.flow
  pub base : All (λ b. array_version c b.name b.version ≡ Some b.array) v.base
  pub count : length v.base ≡ v.flow.inputs
  pub fits : result_err (output_shapes v.flow (shapes_of v.base)) ≡ None
  pub lists : rules.are_lists_for v.flow.nodes v.lists ≡ true

-- What is held is in order: each flow has a list for each of its nodes; the versions stand in the
-- order of their numbers, and each is one of what is held; and they and the cells are within the
-- limits.
pub record IsInOrder (c : Holdings) : Type 0 where
  pub flows : (name : List ℕ) (w : Workflow) → flow_named c name ≡ Some w
      → rules.are_lists_for w.graph.nodes w.lists ≡ true
  pub rising : IsStrictlySortedBy nat_cmp (keys_of c.versions)
  pub each : (n : ℕ) (v : Version) → version_numbered c n ≡ Some v → IsVersionIn c n v
  pub few : length c.versions ≤ rules.most_versions
  pub few_cells : held_cells c ≤ rules.most_cells

-- Nothing held is in order, and commands that are taken keep it so.
abbrev pub NothingIsInOrder : Type 0
NothingIsInOrder = IsInOrder no_holdings

abbrev pub CommandsKeepOrder : Type 0
CommandsKeepOrder = (c : Holdings) (order : Command) → IsInOrder c → IsRight order
    → judged c order ≡ None → IsInOrder (accepted c order).0

-- What a well-made log holds is in order.
abbrev pub LogsAreInOrder : Type 0
LogsAreInOrder = (disk : List ℕ) (at format : ℕ) (c : Holdings) (kept : List Kept)
    → IsWellMade disk at format c kept → IsInOrder c

-- The format of a well-made log is 2 where it has a group of kind 5, and else 1.
abbrev pub FormatsAreByGroups : Type 0
FormatsAreByGroups = (disk : List ℕ) (at format : ℕ) (c : Holdings) (kept : List Kept)
    → (made : IsWellMade disk at format c kept)
    → format ≡ (if list_any (λ e. e.kind == 5) made.entries then 2 else 1)

-- ---- what a session's log is given

-- The line of a command that a session takes acts on what its log holds as on what it holds, in
-- either format, which stays.
abbrev pub LinesAct : Type 0
LinesAct = (format : ℕ) (c : Holdings) (kind : ℕ) (line : List ℕ) (order : Command)
    → reading line ≡ Ok order → is_of_kind kind order ≡ true → judged c order ≡ None
    → Acts format (durable c) (record { kind = kind; body = line }) format
    (durable (accepted c order).0) []

-- It changes no version.
abbrev pub LinesKeepVersions : Type 0
LinesKeepVersions = (c : Holdings) (kind : ℕ) (order : Command) → is_of_kind kind order ≡ true
    → (accepted c order).0.versions ≡ c.versions

-- The body of a version that was not awaited, in the log's format, acts as the await does, and its
-- stores are kept.
abbrev pub AwaitsAct : Type 0
AwaitsAct = (format : ℕ) (c : Holdings) (n : ℕ) (stores : List (Option NodeLineage))
    (body : List ℕ) → IsInOrder c → rules.has_no_version c n ≡ false
    → (version_of c n).awaited ≡ false → Fit (version_of c n) stores
    → IsBodyOf format (sites_of (version_of c n)) (body_of n (version_of c n) stores) body
    → Acts format (durable c) (record { kind = version_kind format; body = body }) format
    (durable (with_await c n)) (record { number = n; stores = stores } ∷ [])

-- The empty group of kind 5 raises a log of format 1 to format 2, and changes nothing else.
abbrev pub UpgradesAct : Type 0
UpgradesAct = (c : Holdings) → Acts 1 c (record { kind = 5; body = [] }) 2 c []

-- what is held, but for the version of a number
abbrev pub without : Holdings → ℕ → Holdings
without c n = record c { versions = filter (λ (e : ℕ × Version). not (e.0 == n)) c.versions }

-- The body of a version that is held, awaited or not, is lawful in its format over what is held
-- but for it, and says that version, awaited.
abbrev pub HeldBodiesAreLawful : Type 0
HeldBodiesAreLawful = (format : ℕ) (c : Holdings) (n : ℕ) (stores : List (Option NodeLineage))
    (body : List ℕ) → IsInOrder c → rules.has_no_version c n ≡ false → Fit (version_of c n) stores
    → IsBodyOf format (sites_of (version_of c n)) (body_of n (version_of c n) stores) body
    → IsLawful format (without c n) (body_of n (version_of c n) stores) body
    × (version_said (without c n) (body_of n (version_of c n) stores)
    ≡ record (version_of c n) { awaited = true })

-- To await a version again changes nothing.
abbrev pub AwaitsAreOnce : Type 0
AwaitsAreOnce = (c : Holdings) (n : ℕ) → rules.has_no_version c n ≡ false
    → (version_of c n).awaited ≡ true → with_await c n ≡ c

-- A log holds nothing of a version that is started.
abbrev pub StartsAreNotLogged : Type 0
StartsAreNotLogged = (c : Holdings) (n : ℕ) (v : Version) → rules.has_no_version c n ≡ true
    → v.awaited ≡ false → durable (with_version c n v) ≡ durable c

-- ---- where a well-made log ends

-- What begins as a log, and is read up to a place, is a log of the groups that are read, where
-- their lengths stand as they are written.
abbrev pub ReadGroupsAreLogs : Type 0
ReadGroupsAreLogs = (disk : List ℕ) (entries : List LogGroup) (at : ℕ) → begins_as_log disk ≡ true
    → Reads disk 16 entries at → AreSpelled disk 16 entries → IsLog disk entries at

-- And in a log the lengths of its groups stand as they are written.
abbrev pub LogsAreSpelled : Type 0
LogsAreSpelled = (disk : List ℕ) (entries : List LogGroup) (at : ℕ) → IsLog disk entries at
    → AreSpelled disk 16 entries

-- A well-made log up to a place is a log whose first closed gate stands there.
abbrev pub WellMadeLogsEnd : Type 0
WellMadeLogsEnd = (disk : List ℕ) (at format : ℕ) (c : Holdings) (kept : List Kept)
    → IsWellMade disk at format c kept → EndsAt (Some disk) at

-- The same where it is not said whether the disk is told.
abbrev pub MadeLogsEnd : Type 0
MadeLogsEnd = (disk : Option (List ℕ)) (at format : ℕ) (c : Holdings) (kept : List Kept)
    → IsMade disk at format c kept → EndsAt disk at

-- ---- growth

-- the format of a log and what it holds before a group and behind it: the stores that are kept
-- before, and those of the group
pub record Growth : Type 0 where
  pub format_before : ℕ
  pub before : Holdings
  pub kept : List Kept
  pub format_after : ℕ
  pub after : Holdings
  pub more : List Kept

-- A group that acts on what a well-made log holds makes of it a well-made log.
abbrev pub LogsGrow : Type 0
LogsGrow = (disk image : List ℕ) (at : ℕ) (e : LogGroup) (g : Growth)
    → IsWellMade disk at g.format_before g.before g.kept
    → Acts g.format_before g.before e g.format_after g.after g.more → Adds at e disk image
    → IsWellMade image (place_behind at e) g.format_after g.after (g.kept ++ g.more)

-- The same where it is not said whether the disk is told.
abbrev pub MadeLogsGrow : Type 0
MadeLogsGrow = (disk new : Option (List ℕ)) (at next : ℕ) (e : LogGroup) (g : Growth)
    → IsMade disk at g.format_before g.before g.kept
    → Acts g.format_before g.before e g.format_after g.after g.more
    → Added disk new at e → Told disk (next ≡ place_behind at e)
    → IsMade new next g.format_after g.after (g.kept ++ g.more)

-- The image is a well-made log that holds what was held before the group, or one that has the group
-- and holds what is held behind it.
abbrev pub GrowsOrKeeps : ℕ → LogGroup → Growth → List ℕ → List ℕ → Type 0
GrowsOrKeeps at e g old image = IsWellMade image at g.format_before g.before g.kept
    ⊎ IsWellMade image (place_behind at e) g.format_after g.after (g.kept ++ g.more)

-- Where a stop leaves a log without a group or with it whole, it leaves a well-made log.
abbrev pub LogsGrowOrStay : Type 0
LogsGrowOrStay = (disk image : List ℕ) (at : ℕ) (e : LogGroup) (g : Growth)
    → IsWellMade disk at g.format_before g.before g.kept
    → Acts g.format_before g.before e g.format_after g.after g.more
    → AddsOrKeeps at e disk image → GrowsOrKeeps at e g disk image
