-- A session on a sound log says what its catalogue alone tells.
--
-- The key idea: what a well-made log holds is sound, so each version that it gave is answered by its stores as by the
-- relation. Such a version is held and awaited, and no command changes one that is; so it stays so line by line, and
-- each command does what it does to the catalogue.
use Rattle.std.proofs.Common.{◌≡◌, ℕ, ◌+◌, List, [], ◌∷◌, ◌++◌, Bool, true, false, not, refl, sym, ap, ◌∙◌, subst}
use Rattle.std.proofs.Common.{inl, inr, Option, Some, None, is_none, is_some, unwrap_or, cond, eqb-true, true≢false}
use Rattle.std.specs.Prelude.{All, Result, Ok, Err, ◌&&◌, ◌==◌, if◌then◌else◌, find, option_map, ⊤}
use Rattle.std.specs.Result.{result_err}
use Rattle.std.specs.Ordering.{nat_cmp}
use Rattle.std.proofs.lemmas.Bool.{cases_Bool}
use Rattle.std.proofs.lemmas.List.Elements.{All-nil, All-head, All-tail}
use Rattle.std.proofs.lemmas.Map.Views.{All-values-insert_entry}
use Rattle.sz_cells.specs.Cells.{Cells}
use Rattle.sz_cells.specs.Extent.{Extent}
use Rattle.sz_spec.specs.declared.modes.Dir.{Dir}
use Rattle.sz_spec.specs.FlowShapes.{output_shapes}
use Rattle.sz_spec.specs.Paths.{Step, is_joined}
use Rattle.sz_log.specs.Log.{LogGroup}
use Rattle.sz_store.specs.Kept.{NodeLineage}
use Rattle.sz_script.specs.Reading.{reading}
use Rattle.sz_script.proofs.LawsLines.{are_right}
use Rattle.sz_script.specs.declared.command.NamedCell.{NamedCell}
use Rattle.sz_script.specs.declared.command.Command.{Command}
use Rattle.sz_script.specs.declared.command.Command.TheVariants as order
use Rattle.sz_script.specs.declared.refusal.Refusal.{Refusal}
use Rattle.sz_script.specs.declared.refusal.Refusal.TheVariants as refusal
use Rattle.sz_catalogue.specs.Holdings.{Version, Holdings, no_holdings, no_version, shapes_of}
use Rattle.sz_catalogue.specs.Holdings.{next_number, version_numbered}
use Rattle.sz_catalogue.specs.Kept.{IsWorkflow}
use Rattle.sz_catalogue.specs.Starts.{workflow_of, bases_of, version_started}
use Rattle.sz_catalogue.specs.Rules as rules
use Rattle.sz_catalogue.specs.Rules.{judged, version_of, has_no_version}
use Rattle.sz_catalogue.specs.Changes as changes
use Rattle.sz_catalogue.specs.Changes.{with_version, with_await}
use Rattle.sz_catalogue.specs.Responses.{Response, cells, merged, reply_line}
use Rattle.sz_catalogue.specs.Refreshes.{version_refreshed}
use Rattle.sz_catalogue.specs.Merges.{is_merge_asked, kinds_told}
use Rattle.sz_catalogue.proofs.Bases.{bases-length}
use Rattle.sz_bodies.specs.Bodies.{VersionBody}
use Rattle.sz_bodies.specs.Fitting.{Fit, body_of}
use Rattle.sz_bodies.specs.Lawful.{IsLawful, version_said}
use Rattle.sz_recover.specs.Logs.{Kept, Acts, ActEach, IsWellMade, is_of_kind, held_by}
use Rattle.sz_recover.specs.Opened.{IsEntryOf}
use Rattle.sz_recover.specs.Soundness.{AreSoundNodes, IsSoundKept, AreSoundKept}
use Rattle.sz_recover.proofs.Entries.{well-made}
use Rattle.sz_commands.specs.Lines.{lines_of, is_blank}
use Rattle.sz_commands.specs.States.{SessionState, logged_of, cells_by, accepted, after_judging, after_reading}
use Rattle.sz_commands.specs.States.{after_line}
use Rattle.sz_commands.specs.Transcript.{replies_to}
use Rattle.sz_feed.specs.Plain.{plain_replies}
use Rattle.sz_versions.specs.Recalled.{HasEachStore}
use Rattle.sz_versions.specs.Merging.{kinds_by, HasEachHolding, SoundStoresTellTheKinds}
use Rattle.sz_feed.specs.Running.{state_of_log}
use Rattle.sz_versions.specs.Runs.{executions_of, IsSoundVersion, AreSound}
use Rattle.sz_feed.specs.Laws.{SoundLogsArePlain}
use Rattle.sz_commands.proofs.Lasting.{line-changes}
use Rattle.sz_versions.proofs.Keeps.{rule-fails, not_false, flow-sound, version-sound, keeps-accepted}
use Rattle.sz_versions.proofs.FromLogs.{recalled-sound}
use Rattle.sz_feed.proofs.LogStores.{HasHoldings, logs-hold}
use Rattle.sz_versions.proofs.Stays.{awaited-stay, await-other, insert-other, started-new}

-- ---- tests and lists

off : (b : Bool) → not b ≡ true → b ≡ false
off true is = cc
off false is = refl

all-turn : {X : Type 0} (P Q : X → Type 0) (xs : List X) → ((x : X) → P x → Q x) → All P xs → All Q xs
all-turn P Q xs turn all = λ i d lt. turn _ (all i d lt)

all-both : {X : Type 0} (P Q R : X → Type 0) (xs : List X) → ((x : X) → P x → Q x → R x) → All P xs → All Q xs
    → All R xs
all-both P Q R xs turn all each = λ i d lt. turn _ (all i d lt) (each i d lt)

-- ---- what a well-made log holds

-- behind a line that is taken all is sound
line-sound : (c d : Holdings) (kind : ℕ) (line : List ℕ) (r : Result Command Refusal) → reading line ≡ r → AreSound c
    → held_by c kind r ≡ Some d → AreSound d
line-sound c d kind line (Err rule) read sound held = cc
line-sound c d kind line (Ok command) read sound held =
    by (is_of_kind kind command) (judged c command) refl refl held where
      by : (b : Bool) (o : Option Refusal) → is_of_kind kind command ≡ b → judged c command ≡ o
          → (if b && is_none o then Some (changes.accepted c command).0 else None) ≡ Some d → AreSound d
      by false o own free here = cc
      by true (Some rule) own free here = cc
      by true None own free here =
          let same : (changes.accepted c command).0 ≡ d = cc in
          subst AreSound same
          (keeps-accepted c command sound (are_right line command read) free (line-changes kind command own))

-- shapes that are not broken are those of outputs
shapes-made : (r : Result (List Extent) ℕ) → is_some (result_err r) ≡ false → (es : List Extent) × (r ≡ Ok es)
shapes-made (Ok es) h = (es, refl)
shapes-made (Err n) h = cc

-- the version that a lawful body says is sound
body-sound : (format : ℕ) (c : Holdings) (b : VersionBody) (bytes : List ℕ) → AreSound c → IsLawful format c b bytes
    → IsSoundVersion (version_said c b)
body-sound format c b bytes sound is =
    let flow : IsWorkflow (workflow_of c b.flow_name) =
    flow-sound c b.flow_name sound.flows (off (rules.has_no_flow c b.flow_name) is.flow) in
    let shapes = shapes-made (output_shapes (workflow_of c b.flow_name).graph (shapes_of (bases_of c b.base)))
    (off (rules.has_broken_shapes c b.flow_name b.base) is.shapes) in
    record {
      run = (
        shapes.0,
        record {
          right = flow.right;
          count = bases-length c b.base (off (rules.has_no_array c b.base) is.bases)
              ∙ eqb-true _ _ (not_false _ (off (rules.has_wrong_base c b.flow_name b.base) is.each));
          fits = shapes.1;
          lists = is.lists;
        },
      );
    }

-- behind a group that acts all is sound
acts-sound : (format after : ℕ) (c d : Holdings) (e : LogGroup) (kept : List Kept) → AreSound c
    → Acts format c e after d kept → AreSound d
acts-sound format after c d e kept sound (to, inl line) = line-sound c d e.kind e.body (reading e.body) refl sound
    line.held
acts-sound format after c d e kept sound (to, inr (inr u)) = subst AreSound (sym u.held) sound
acts-sound format after c d e kept sound (to, inr (inl v)) =
    let b : VersionBody = body_of v.one.number v.version v.one.stores in
    let own : IsSoundVersion v.version = subst IsSoundVersion (sym v.said) (body-sound format c b e.body sound v.lawful)
    in
    let added : AreSound (with_version c v.one.number v.version) = record {
      flows = sound.flows;
      versions = All-values-insert_entry nat_cmp v.one.number v.version IsSoundVersion c.versions sound.versions own;
    } in
    subst AreSound (sym v.held) added

-- and behind groups one after another
each-sound : (format after : ℕ) (c d : Holdings) (es : List LogGroup) (kept : List Kept) → AreSound c
    → ActEach format c es after d kept → AreSound d
each-sound format after c d [] kept sound (to, same, none) = subst AreSound (sym same) sound
each-sound format after c d (e ∷ es) kept sound (between, mid, first, rest, acts, all, is) =
    each-sound between after mid d es rest (acts-sound format between c mid e first sound acts) all

nothing-sound : AreSound no_holdings
nothing-sound = record { flows = All-nil IsWorkflow; versions = All-nil IsSoundVersion }

-- what a well-made log holds is sound
pub log-sound : (disk : List ℕ) (at format : ℕ) (c : Holdings) (kept : List Kept) → IsWellMade disk at format c kept
    → AreSound c
log-sound disk at format c kept made = each-sound 1 format no_holdings c made.entries kept nothing-sound made.acts

-- ---- versions that are answered by their stores

-- The version is sound, and its stores are those of its lists and stand for the relation.
record IsAnswered (v : Version) (stores : List (Option NodeLineage)) : Type 0 where
  sound : IsSoundVersion v
  fit : Fit v stores
  each : All HasEachStore stores
  holding : All HasEachHolding stores
  exact : AreSoundNodes (executions_of v) stores

-- The version that is held under the number of an entry is awaited, and answered by the stores of the entry.
record IsAnswering (c : Holdings) (k : Kept) : Type 0 where
  held : has_no_version c k.number ≡ false
  awaited : (version_of c k.number).awaited ≡ true
  own : IsAnswered (version_of c k.number) k.stores

-- each entry of a sound log is one of these
log-answers : (disk : List ℕ) (at format : ℕ) (c : Holdings) (kept : List Kept) → IsWellMade disk at format c kept
    → AreSoundKept c kept → All (IsAnswering c) kept
log-answers disk at format c kept made sound =
    let both = all-both (IsSoundKept c) HasHoldings IsKeptSo kept (λ k exact holds. (exact, holds)) sound
    (logs-hold 1 format no_holdings c made.entries kept made.acts) in
    all-both (IsEntryOf c) IsKeptSo (IsAnswering c) kept one (well-made disk at format c kept made).each both where
      IsKeptSo : Kept → Type 0
      IsKeptSo k = IsSoundKept c k × HasHoldings k

      one : (k : Kept) → IsEntryOf c k → IsKeptSo k → IsAnswering c k
      one k is (exact, holds) = record {
        held = is.held;
        awaited = is.awaited;
        own = record {
          sound = version-sound c k.number (log-sound disk at format c kept made).versions is.held;
          fit = is.fit;
          each = is.stored;
          holding = holds;
          exact = exact;
        };
      }

-- each version that is held and awaited is held as it was
abbrev AwaitedStay : Holdings → Holdings → Type 0
AwaitedStay c d = (n : ℕ) → has_no_version c n ≡ false → (version_of c n).awaited ≡ true
    → version_numbered d n ≡ version_numbered c n

-- it stays one where versions that are awaited stay
answering-stays : (c d : Holdings) → AwaitedStay c d → (k : Kept) → IsAnswering c k → IsAnswering d k
answering-stays c d stay k h =
    let same = stay k.number h.held h.awaited in
    let version : version_of d k.number ≡ version_of c k.number =
    ap (λ (o : Option Version). unwrap_or o no_version) same in
    record {
      held = ap (λ (o : Option Version). is_none o) same ∙ h.held;
      awaited = ap (λ (v : Version). v.awaited) version ∙ h.awaited;
      own = subst (λ (v : Version). IsAnswered v k.stores) (sym version) h.own;
    }

-- a version that is started has a number of its own
start-stays : (c : Holdings) (v : Version) → AwaitedStay c (with_version c (next_number c) v)
start-stays c v n held awaited = insert-other c.versions (next_number c) n v (λ is. true≢false
    (sym (started-new c) ∙ ap (has_no_version c) (sym is) ∙ held))

-- an await changes none that is awaited
await-stays : (c : Holdings) (m : ℕ) → AwaitedStay c (with_await c m)
await-stays c m n held awaited = by (n == m) refl where
  by : (b : Bool) → (n == m) ≡ b → version_numbered (with_await c m) n ≡ version_numbered c n
  by true is =
      subst (λ (k : ℕ). version_numbered (with_await c k) n ≡ version_numbered c n) (eqb-true n m is)
      (awaited-stay c n held awaited n)
  by false is = await-other c m n is

-- and each command leaves them
command-stays : (c : Holdings) (command : Command) → AwaitedStay c (changes.accepted c command).0
command-stays c (order.Start name base) = start-stays c (version_started c name base)
command-stays c (order.Refresh n i set) = start-stays c (version_refreshed c (version_of c n) i set)
command-stays c (order.Await n) = await-stays c n
command-stays c (order.Merge n) = λ m held awaited. by m (is_merge_asked c n) where
  by : (m : ℕ) (b : Bool) → version_numbered (if b then c else record c { merges = c.merges ++ n ∷ [] }) m
      ≡ version_numbered c m
  by m true = refl
  by m false = refl
command-stays c _ = λ m held awaited. refl

-- ---- an ask

-- of stores that the log gave of a version, it is answered by them
abbrev IsAnsweredBy : Version → Option (List (Option NodeLineage)) → Type 0
IsAnsweredBy v None = ⊤
IsAnsweredBy v (Some stores) = IsAnswered v stores

-- so it is of those that are found under a number
found-answers : (c : Holdings) (n : ℕ) (kept : List Kept) → All (IsAnswering c) kept
    → IsAnsweredBy (version_of c n) (logged_of (state_of_log c kept) n)
found-answers c n [] all = tt
found-answers c n (k ∷ kept) all =
    by (k.number == n) refl (found-answers c n kept (All-tail (IsAnswering c) k kept all)) where
      by : (b : Bool) → (k.number == n) ≡ b → IsAnsweredBy (version_of c n) (logged_of (state_of_log c kept) n)
          → IsAnsweredBy (version_of c n)
          (option_map (λ (x : Kept). x.stores) (cond b (Some k) (find (λ (x : Kept). x.number == n) kept)))
      by true same rest =
          subst (λ (m : ℕ). IsAnswered (version_of c m) k.stores) (eqb-true k.number n same)
          (All-head (IsAnswering c) k kept all).own
      by false other rest = rest

-- the cells are those of the relation
cells-plain : (v : Version) (o : Option (List (Option NodeLineage))) (dir : Dir) (path : List Step)
    (named : List NamedCell) → IsAnsweredBy v o → is_joined dir v.flow path ≡ true
    → cells_by o v dir path named ≡ changes.cells_answered v dir path named
cells-plain v None dir path named h joined = refl
cells-plain v (Some stores) dir path named h joined =
    recalled-sound v stores dir path named h.sound h.fit h.each h.exact joined

-- and the kinds of lineage are those of the relation
kinds-plain : SoundStoresTellTheKinds → (v : Version) (o : Option (List (Option NodeLineage))) → IsAnsweredBy v o
    → kinds_by o v ≡ kinds_told v
kinds-plain tell v None h = refl
kinds-plain tell v (Some stores) h = tell v stores h.sound h.fit h.each h.holding h.exact

-- the path of an ask that no rule refuses is joined
ask-joined : (c : Holdings) (n : ℕ) (dir : Dir) (path : List Step) (named : List NamedCell)
    → judged c (order.Ask n dir path named) ≡ None → is_joined dir (version_of c n).flow path ≡ true
ask-joined c n dir path named free =
    let last = (rules.is_out_of_range c n dir path named, refusal.OutOfRange) ∷ [] in
    let second = (rules.is_not_joined c n dir path, refusal.NotJoined) ∷ last in
    let held = rule-fails (has_no_version c n) refusal.NoSuchVersion second free in
    not_false _ (rule-fails (rules.is_not_joined c n dir path) refusal.NotJoined last held.1).0

-- ---- lines

-- a catalogue and a reply, as a session of a log has them
abbrev beside : List Kept → Holdings × Response → SessionState × Response
beside kept p = (state_of_log p.0 kept, p.1)

accepted-plain : SoundStoresTellTheKinds → (c : Holdings) (kept : List Kept) (command : Command)
    → All (IsAnswering c) kept → judged c command ≡ None
    → accepted (state_of_log c kept) command ≡ beside kept (changes.accepted c command)
accepted-plain tell c kept (order.Ask n dir path named) all free =
    ap (λ (found : Cells). (state_of_log c kept, cells found))
    (cells-plain (version_of c n) (logged_of (state_of_log c kept) n) dir path named (found-answers c n kept all)
    (ask-joined c n dir path named free))
accepted-plain tell c kept (order.Merged n) all free =
    ap (λ (kinds : List ℕ). (state_of_log c kept, merged n kinds))
    (kinds-plain tell (version_of c n) (logged_of (state_of_log c kept) n) (found-answers c n kept all))
accepted-plain tell c kept _ all free = refl

-- What is so of what a line did, by the session and by the catalogue: it is the same, and each entry of the log is
-- still of a version that is answered by its stores.
record IsPlainly (kept : List Kept) (told : SessionState × Response) (plain : Holdings × Response) : Type 0 where
  same : told ≡ beside kept plain
  all : All (IsAnswering plain.0) kept

judging-plain : SoundStoresTellTheKinds → (c : Holdings) (kept : List Kept) (command : Command) (rule : Option Refusal)
    → All (IsAnswering c) kept → judged c command ≡ rule
    → IsPlainly kept (after_judging (state_of_log c kept) command rule) (changes.after_judging c command rule)
judging-plain tell c kept command None all is =
    let d : Holdings = (changes.accepted c command).0 in
    record {
      same = accepted-plain tell c kept command all is;
      all = all-turn (IsAnswering c) (IsAnswering d) kept (answering-stays c d (command-stays c command)) all;
    }
judging-plain tell c kept command (Some rule) all is = record { same = refl; all = all }

reading-plain : SoundStoresTellTheKinds → (c : Holdings) (kept : List Kept) (r : Result Command Refusal)
    → All (IsAnswering c) kept
    → IsPlainly kept (after_reading (state_of_log c kept) r) (changes.after_reading c r)
reading-plain tell c kept (Ok command) all = judging-plain tell c kept command (judged c command) all refl
reading-plain tell c kept (Err rule) all = record { same = refl; all = all }

line-plain : SoundStoresTellTheKinds → (c : Holdings) (kept : List Kept) (line : List ℕ) → All (IsAnswering c) kept
    → IsPlainly kept (after_line (state_of_log c kept) line) (changes.after_line c line)
line-plain tell c kept line all = reading-plain tell c kept (reading line) all

replies-plain : SoundStoresTellTheKinds → (c : Holdings) (kept : List Kept) (n : ℕ) (lines : List (List ℕ))
    → All (IsAnswering c) kept
    → replies_to (state_of_log c kept) n lines ≡ plain_replies c n lines
replies-plain tell c kept n [] all = refl
replies-plain tell c kept n (line ∷ lines) all = elim (cases_Bool (is_blank line)) [
  | inl blank ↦ rw blank (replies-plain tell c kept (n + 1) lines all)
  | inr other ↦
      let one = line-plain tell c kept line all in
      rw other (ap (λ (q : SessionState × Response). reply_line n q.1 ++ replies_to q.0 (n + 1) lines) one.same
      ∙ ap (λ (ys : List ℕ). reply_line n (changes.after_line c line).1 ++ ys)
      (replies-plain tell (changes.after_line c line).0 kept (n + 1) lines one.all))
]

pub sound-logs-plain : SoundStoresTellTheKinds → SoundLogsArePlain
sound-logs-plain tell disk at format c kept bytes made sound =
    replies-plain tell c kept 1 (lines_of bytes) (log-answers disk at format c kept made sound)
