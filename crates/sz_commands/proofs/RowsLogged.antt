-- What a line makes durable, and as which group, worked by hand on both sides; and what is said of a station's log.
--
-- The key idea: a group that stands for something else has another kind, another body or another place, and each of
-- these is a number.
use Rattle.std.proofs.Common.{◌≡◌, ℕ, ◌+◌, List, [], ◌∷◌, ◌++◌, Option, Some, None, Ok, Err, refl, sym, ap, subst}
use Rattle.std.proofs.Common.{arith, true, false, true≢false, length, get_or, unwrap_or, inl, inr, length-append}
use Rattle.std.specs.Prelude.{codes, pos, Result}
use Rattle.std.specs.Str.{is_utf8, chars}
use Rattle.serde_json.proofs.OnLiterals.{serde_json_on_literals}
use Rattle.sz_outside.specs.Disk.{Only}
use Rattle.sz_outside.specs.declared.stations.Station.{Ghosts}
use Rattle.sz_spec.specs.declared.modes.Dir.{Dir}
use Rattle.sz_spec.specs.declared.modes.Strategy.{Strategy}
use Rattle.sz_spec.specs.Flows.{Graph}
use Rattle.sz_spec.specs.Paths.{Step}
use Rattle.sz_spec.specs.Values.{Grid}
use Rattle.sz_log.specs.Log.{LogGroup, IsLog, empty_log, log_bytes}
use Rattle.sz_log.specs.Steps.{Added}
use Rattle.sz_script.specs.declared.command.BaseName.{BaseName}
use Rattle.sz_script.specs.declared.command.NamedCell.{NamedCell}
use Rattle.sz_script.specs.declared.command.NewCell.{NewCell}
use Rattle.sz_script.specs.declared.command.Command.{Command}
use Rattle.sz_script.specs.declared.command.Command.TheVariants as command
use Rattle.sz_script.specs.declared.refusal.Refusal.{Refusal}
use Rattle.sz_script.specs.declared.refusal.Refusal.TheVariants as refusal
use Rattle.sz_catalogue.specs.Holdings.{Holdings, no_holdings}
use Rattle.sz_recover.specs.Logs.{Kept, IsMade}
use Rattle.sz_recover.specs.Growing.{durable}
use Rattle.sz_recover.specs.Soundness.{AreSoundKept}
use Rattle.sz_bodies.proofs.Rows as body
use Rattle.sz_recover.proofs.RowsLogs.{empty-made}
use Rattle.sz_recover.proofs.RowsSound.{version, held, right-sound}
use Rattle.sz_commands.specs.Logged.{IsLogOf, HasLog, Grown, Grows, IsLeft, LeavesLog, GoesOn, KeepsLog}
use Rattle.sz_commands.specs.Logged.{StopsInLog, lasts, IsLasting, makes, makes_judged, makes_read, makes_durable}
use Rattle.sz_commands.specs.Logged.{IsLineGroup, IsVersionGroup, IsArrayGroup, IsGroupFor, IsGroupOf, Appends}
use Rattle.sz_commands.specs.States.{LogPlace}
use Rattle.sz_commands.specs.declared.logging.Lasting.TheVariants as lasting

-- ---- the group of a line: the line, in a group of its kind

abbrev line : List ℕ
line = 123 ∷ 125 ∷ []

abbrev group_of : ℕ → List ℕ → LogGroup
group_of kind bytes = record { kind = kind; body = bytes }

pub line-array : (name : List ℕ) (grid : Grid) → IsLineGroup (command.Array name grid) line (group_of 1 line)
line-array name grid = (refl, refl)

pub line-flow : (name : List ℕ) (flow : Graph) → IsLineGroup (command.Flow name flow) line (group_of 2 line)
line-flow name flow = (refl, refl)

pub line-strategy : (name : List ℕ) (node : ℕ) (list : List Strategy)
    → IsLineGroup (command.Strategy name node list) line (group_of 3 line)
line-strategy name node list = (refl, refl)

-- another kind
pub line-kind : (name : List ℕ) (grid : Grid) → IsLineGroup (command.Array name grid) line (group_of 2 line) → ⊥
line-kind name grid is = true≢false (sym is.0)

pub line-strategy_kind : (name : List ℕ) (node : ℕ) (list : List Strategy)
    → IsLineGroup (command.Strategy name node list) line (group_of 2 line) → ⊥
line-strategy_kind name node list is = true≢false (sym is.0)

-- another body
pub line-body : (name : List ℕ) (grid : Grid) → IsLineGroup (command.Array name grid) line (group_of 1 []) → ⊥
line-body name grid is = let size : 0 ≡ 2 = ap (λ (l : List ℕ). length l) is.1 in omega (arith, size)

pub line-longer : (name : List ℕ) (grid : Grid)
    → IsLineGroup (command.Array name grid) line (group_of 1 (line ++ 10 ∷ [])) → ⊥
line-longer name grid is = let size : 3 ≡ 2 = ap (λ (l : List ℕ). length l) is.1 in omega (arith, size)

-- ---- the group of a version: its body with sound stores, in one of kind 4, or of kind 6 in format 2

pub version-body : IsVersionGroup held 1 1 (group_of 4 body.bytes)
version-body = (
  refl,
  record { stores = Some body.whole ∷ []; fit = (body.fits-whole, tt); sound = right-sound; is = body.body-spelled },
)

pub version-short : IsVersionGroup held 1 2 (group_of 6 body.short-bytes)
version-short = (
  refl,
  record { stores = Some body.whole ∷ []; fit = (body.fits-whole, tt); sound = right-sound; is = body.short-body },
)

-- another kind, and that of the other format
pub version-kind : (c : Holdings) (n : ℕ) (bytes : List ℕ) → IsVersionGroup c n 1 (group_of 3 bytes) → ⊥
version-kind c n bytes is = omega (arith, is.0)

pub version-kind_6 : (c : Holdings) (n : ℕ) (bytes : List ℕ) → IsVersionGroup c n 1 (group_of 6 bytes) → ⊥
version-kind_6 c n bytes is = omega (arith, is.0)

pub version-kind_4 : (c : Holdings) (n : ℕ) (bytes : List ℕ) → IsVersionGroup c n 2 (group_of 4 bytes) → ⊥
version-kind_4 c n bytes is = omega (arith, is.0)

-- no body at all
pub version-empty : (c : Holdings) (n : ℕ) → IsVersionGroup c n 1 (group_of 4 []) → ⊥
version-empty c n is =
    let head = is.1.is.head in
    let size = ap (λ (l : List ℕ). length l) head.spelled in
    omega (arith, size)

-- a version that is not held has a body of none of these bytes
pub version-other : IsVersionGroup held 2 1 (group_of 4 body.bytes) → ⊥
version-other is =
    let number : 1 ≡ 2 = ap (λ (l : List ℕ). get_or l 3 0) is.1.is.head.spelled in omega (arith, number)

-- ---- the group of a refresh: a line that is read as its array, in one of kind 1

-- the one cell of the array `a` becomes 7
abbrev set : List NewCell
set = record { layer = 0; row = 0; col = 0; value = Some (pos 7) } ∷ []

pub array-line : IsArrayGroup held 1 0 set (group_of 1 (codes "{\"array\":\"a\",\"cells\":[[7]]}"))
unfolding serde_json_on_literals is_utf8 chars
array-line = record { kind = refl; reads = refl }

-- another kind
pub array-kind : (c : Holdings) (n i : ℕ) (some : List NewCell) (bytes : List ℕ)
    → IsArrayGroup c n i some (group_of 3 bytes) → ⊥
array-kind c n i some bytes is = omega (arith, is.kind)

-- no line at all, the array as it was, and the array under another name
pub array-empty : IsArrayGroup held 1 0 set (group_of 1 []) → ⊥
unfolding serde_json_on_literals is_utf8 chars
array-empty is = cc (is.reads)

pub array-before : IsArrayGroup held 1 0 set (group_of 1 (codes "{\"array\":\"a\",\"cells\":[[5]]}")) → ⊥
unfolding serde_json_on_literals is_utf8 chars
array-before is = let value = is.reads in cc

abbrev first_of_name : Result Command Refusal → ℕ
first_of_name (Ok (command.Array name grid)) = get_or name 0 0
first_of_name _ = 0

pub array-named : IsArrayGroup held 1 0 set (group_of 1 (codes "{\"array\":\"b\",\"cells\":[[7]]}")) → ⊥
unfolding serde_json_on_literals is_utf8 chars
array-named is = let name : 98 ≡ 97 = ap first_of_name is.reads in omega (arith, name)

-- ---- which of the three

pub for-refresh : IsGroupFor held line (command.Refresh 1 0 set) 1 (group_of 1 line) → ⊥
unfolding serde_json_on_literals is_utf8 chars
for-refresh is = let no_form = is.reads in cc

pub for-await : (c : Holdings) (n : ℕ) → IsGroupFor c line (command.Await n) 1 (group_of 1 line) → ⊥
for-await c n is = omega (arith, is.0)

pub for-array : (c : Holdings) (name : List ℕ) (grid : Grid)
    → IsGroupFor c line (command.Array name grid) 1 (group_of 4 line) → ⊥
for-array c name grid is = true≢false (sym is.0)

-- of a line that is read as no command there is no group
pub of-refused : (c : Holdings) (e : LogGroup) → IsGroupOf c line (Err refusal.NoJson) 1 e → ⊥
of-refused c e is = is

pub of-array : (c : Holdings) (name : List ℕ) (grid : Grid)
    → IsGroupOf c line (Ok (command.Array name grid)) 1 (group_of 1 line)
of-array c name grid = (refl, refl)

-- ---- what lasts, and what is written of it

pub lasts-array : (name : List ℕ) (grid : Grid) → lasts (command.Array name grid) ≡ true
lasts-array name grid = refl

pub lasts-csv : (name : List ℕ) (grid : Grid) → lasts (command.Csv name grid) ≡ true
lasts-csv name grid = refl

pub lasts-layers : (name : List ℕ) (grid : Grid) → lasts (command.Layers name grid) ≡ true
lasts-layers name grid = refl

pub lasts-flow : (name : List ℕ) (flow : Graph) → lasts (command.Flow name flow) ≡ true
lasts-flow name flow = refl

pub lasts-strategy : (name : List ℕ) (node : ℕ) (list : List Strategy) → lasts (command.Strategy name node list) ≡ true
lasts-strategy name node list = refl

pub lasts-await : (n : ℕ) → lasts (command.Await n) ≡ true
lasts-await n = refl

pub lasts-refresh : (n i : ℕ) (some : List NewCell) → lasts (command.Refresh n i some) ≡ true
lasts-refresh n i some = refl

pub lasts-merge : (n : ℕ) → lasts (command.Merge n) ≡ false
lasts-merge n = refl

pub lasts-merged : (n : ℕ) → lasts (command.Merged n) ≡ false
lasts-merged n = refl

pub lasts-start : (name : List ℕ) (base : List BaseName) → lasts (command.Start name base) ≡ false
lasts-start name base = refl

pub lasts-plan : (name : List ℕ) (base : List BaseName) (units back forward : ℕ)
    → lasts (command.Plan name base units back forward) ≡ false
lasts-plan name base units back forward = refl

pub lasts-ask : (n : ℕ) (dir : Dir) (path : List Step) (named : List NamedCell)
    → lasts (command.Ask n dir path named) ≡ false
lasts-ask n dir path named = refl

pub lasts-explain : (n : ℕ) (dir : Dir) (path : List Step) (named : List NamedCell)
    → lasts (command.Explain n dir path named) ≡ false
lasts-explain n dir path named = refl

pub lasts-show : (n node : ℕ) → lasts (command.Show n node) ≡ false
lasts-show n node = refl

pub lasting-line : (name : List ℕ) (grid : Grid) → IsLasting (command.Array name grid) (lasting.Line 1)
lasting-line name grid = refl

pub lasting-other_line : (name : List ℕ) (grid : Grid) → IsLasting (command.Array name grid) (lasting.Line 3) → ⊥
lasting-other_line name grid is = true≢false (sym is)

pub lasting-array : (n i : ℕ) (some : List NewCell) → IsLasting (command.Refresh n i some) lasting.Array
lasting-array n i some = refl

pub lasting-no_array : (name : List ℕ) (grid : Grid) → IsLasting (command.Array name grid) lasting.Array → ⊥
lasting-no_array name grid is = true≢false (sym is)

pub lasting-refresh_line : (n i kind : ℕ) (some : List NewCell)
    → IsLasting (command.Refresh n i some) (lasting.Line kind) → ⊥
lasting-refresh_line n i kind some is = true≢false (sym is)

pub lasting-version : (n : ℕ) → IsLasting (command.Await n) (lasting.Version n)
lasting-version n = refl

pub lasting-other_version : IsLasting (command.Await 1) (lasting.Version 2) → ⊥
lasting-other_version is = cc

pub lasting-nothing : (n node : ℕ) → IsLasting (command.Show n node) lasting.Nothing
lasting-nothing n node = refl

pub lasting-something : (n : ℕ) → IsLasting (command.Await n) lasting.Nothing → ⊥
lasting-something n is = true≢false is

-- ---- which lines are written

-- an await of a version that was not awaited, once
pub makes-await : makes (record held { versions = (1, record version { awaited = false }) ∷ [] }) (command.Await 1)
    ≡ true
makes-await = refl

pub makes-await_again : makes held (command.Await 1) ≡ false
makes-await_again = refl

pub makes-array : (c : Holdings) (name : List ℕ) (grid : Grid) → makes c (command.Array name grid) ≡ true
makes-array c name grid = refl

pub makes-refresh : (c : Holdings) (n i : ℕ) (some : List NewCell) → makes c (command.Refresh n i some) ≡ true
makes-refresh c n i some = refl

pub makes-start : (c : Holdings) (name : List ℕ) (base : List BaseName) → makes c (command.Start name base) ≡ false
makes-start c name base = refl

pub judged-refused : (c : Holdings) (name : List ℕ) (grid : Grid)
    → makes_judged c (command.Array name grid) (Some refusal.NoRoomForArray) ≡ false
judged-refused c name grid = refl

pub judged-taken : (c : Holdings) (name : List ℕ) (grid : Grid) → makes_judged c (command.Array name grid) None ≡ true
judged-taken c name grid = refl

pub read-refused : (c : Holdings) → makes_read c (Err refusal.NoJson) ≡ false
read-refused c = refl

-- an await of a version that is not held is refused
pub read-none : makes_read held (Ok (command.Await 3)) ≡ false
read-none = refl

pub durable-blank : (c : Holdings) → makes_durable c (32 ∷ 9 ∷ []) ≡ false
durable-blank c = refl

-- ---- one group is added, where the log ended

any-size : (e : LogGroup) → IsLog empty_log (e ∷ []) (26 + length e.body) → ⊥
any-size e is =
    let size : 17 ≡ length (log_bytes (e ∷ []) ++ is.gate ∷ is.behind) = ap (λ (l : List ℕ). length l) is.bytes in
    omega (arith, size, length-append (log_bytes (e ∷ [])) (is.gate ∷ is.behind))

empty : IsLog empty_log [] 16
empty = record { gate = 0; behind = []; closed = omega arith; bytes = refl; place = refl; each = tt }

none-added : (e : LogGroup) → Added (Some empty_log) (Some empty_log) 16 e → ⊥
none-added e (image, is, adds) =
    let same : image ≡ empty_log = ap (λ (o : Option (List ℕ)). unwrap_or o []) (sym is) in
    any-size e (subst (λ (l : List ℕ). IsLog l (e ∷ []) (26 + length e.body)) same (adds [] empty))

-- ---- how a log grows

-- where the empty log ends
abbrev pub begun : LogPlace
begun = record { gate = 16; format = 1 }

-- the empty log stays it where nothing is held
pub grown-empty : Grown no_holdings [] empty_log begun no_holdings
grown-empty = record { more = []; made = empty-made; sound = λ sound. sound }

-- nothing at all is no log
pub grown-cut : (c d : Holdings) (kept : List Kept) (at : LogPlace) → Grown c kept [] at d → ⊥
grown-cut c d kept at is = true≢false (sym is.made.header)

-- where the stores that were kept are sound, so are these
pub grown-sound : (c d : Holdings) (kept : List Kept) (disk : List ℕ) (at : LogPlace) (is : Grown c kept disk at d)
    → AreSoundKept (durable c) kept → AreSoundKept (durable d) (kept ++ is.more)
grown-sound c d kept disk at is = is.sound

pub grows-not_cut : (d : Holdings) (next : LogPlace) → Grows (Some empty_log) begun no_holdings (Some []) next d → ⊥
grows-not_cut d next (image, is, grows) =
    let same : image ≡ [] = ap (λ (o : Option (List ℕ)). unwrap_or o []) (sym is) in
    grown-cut no_holdings d [] next
    (subst (λ (l : List ℕ). Grown no_holdings [] l next d) same (grows [] empty-made))

pub grows-told : (c d : Holdings) (at next : LogPlace) (disk : List ℕ) → Grows None at c (Some disk) next d → ⊥
grows-told c d at next disk is = cc

pub left-empty : IsLeft no_holdings [] empty_log no_holdings
left-empty = (begun, grown-empty)

pub left-cut : (c d : Holdings) (kept : List Kept) → IsLeft c kept [] d → ⊥
left-cut c d kept (at, is) = grown-cut c d kept at is

pub leaves-cut : (d : Holdings) → LeavesLog begun no_holdings d empty_log [] → ⊥
leaves-cut d leaves =
    elim (leaves [] empty-made) as (λ _. ⊥)
    [ inl is ↦ left-cut no_holdings no_holdings [] is | inr is ↦ left-cut no_holdings d [] is ]

-- ---- the log of a station

module _ {X : Type 0} (T : Ghosts X) where
  -- a log that is as it was has no group more
  pub appends-none : (IsSuch : ℕ → LogGroup → Type 0) (next : Option LogPlace) (old new : X)
      → T.disk old ≡ Some empty_log → T.disk new ≡ Some empty_log → Appends T IsSuch (Some begun) next old new → ⊥
  appends-none IsSuch next old new told is (e, such, added, end) =
      none-added e (subst (λ (o : Option (List ℕ)). Added (Some empty_log) o 16 e) is
      (subst (λ (o : Option (List ℕ)). Added o (T.disk new) 16 e) told added))

  -- and the group that it has more is such a one
  pub appends-such : (next : Option LogPlace) (old new : X) → Appends T (λ format e. ⊥) (Some begun) next old new → ⊥
  appends-such next old new (e, such, added, end) = such

  pub appends-no_log : (IsSuch : ℕ → LogGroup → Type 0) (next : Option LogPlace) (old new : X)
      → Appends T IsSuch None next old new
  appends-no_log IsSuch next old new = tt

  -- no write is pending where a session's log stands
  pub log-synced : (c : Holdings) (at : LogPlace) (x : X) (disk image : List ℕ) → T.disk x ≡ Some disk
      → IsLogOf T c at x → T.may_leave x image → image ≡ disk
  log-synced c at x disk image told log left =
      subst (λ (o : Option (List ℕ)). Only o (T.may_leave x)) told log.synced image left

  -- a disk that begins as no log is none
  pub log-empty_disk : (c : Holdings) (at : LogPlace) (x : X) → T.disk x ≡ Some [] → IsLogOf T c at x → ⊥
  log-empty_disk c at x told log =
      true≢false (sym (subst (λ (o : Option (List ℕ)). IsMade o at.gate at.format (durable c) log.kept) told
      log.made).header)

  pub has-log : (c : Holdings) (at : LogPlace) (x : X) → T.disk x ≡ Some [] → HasLog T c (Some at) x → ⊥
  has-log c at x told log = log-empty_disk c at x told log

  -- ---- how it grows

  pub goes-synced : (c d : Holdings) (at next : LogPlace) (old new : X) (disk image : List ℕ) → T.disk new ≡ Some disk
      → GoesOn T c at d next old new → T.may_leave new image → image ≡ disk
  goes-synced c d at next old new disk image told goes left =
      subst (λ (o : Option (List ℕ)). Only o (T.may_leave new)) told goes.synced image left

  pub goes-not_cut : (d : Holdings) (next : LogPlace) (old new : X) → T.disk old ≡ Some empty_log → T.disk new ≡ Some []
      → GoesOn T no_holdings begun d next old new → ⊥
  goes-not_cut d next old new told is goes =
      grows-not_cut d next (subst (λ (o : Option (List ℕ)). Grows (Some empty_log) begun no_holdings o next d) is
      (subst (λ (o : Option (List ℕ)). Grows o begun no_holdings (T.disk new) next d) told goes.grows))

  -- a session of no log leaves the station
  pub keeps-no_log : (c d : Holdings) (old new : X) → KeepsLog T c None d None old new → new ≡ old
  keeps-no_log c d old new is = is

  pub keeps-made : (c d : Holdings) (next : LogPlace) (old new : X) → KeepsLog T c None d (Some next) old new → ⊥
  keeps-made c d next old new is = is

  pub keeps-lost : (c d : Holdings) (at : LogPlace) (old new : X) → KeepsLog T c (Some at) d None old new → ⊥
  keeps-lost c d at old new is = is

  pub stops-no_log : (c d : Holdings) (old new : X) → StopsInLog T c None d old new → new ≡ old
  stops-no_log c d old new is = is
