-- A log beside a session.
--
-- The key idea: one group more acts on what the log holds as the command does on what the session holds, and leaves
-- each version that the log has. So the log is well made again, stores that stood for the relation still do, and those
-- of the group do. A command that appends nothing changes nothing that is durable.
use Rattle.std.proofs.Common.{◌≡◌, ℕ, ◌≤◌, List, [], ◌∷◌, ◌++◌, Bool, true, false, refl, sym, ap, ◌∙◌, subst}
use Rattle.std.proofs.Common.{Option, None, Some, unwrap_or, is_none, cond, inl, inr, ⊎_elim, append-nil}
use Rattle.std.proofs.lemmas.List.Elements.{All-append, All-cons, All-nil, All-head, All-tail}
use Rattle.std.proofs.lemmas.Cmp.{nat_cmp_total, eq_by_cmp_equiv}
use Rattle.std.proofs.lemmas.Map.Keys.{IsDistinct-from_sorted}
use Rattle.std.proofs.lemmas.Map.Views.{All-values_from_lookup}
use Rattle.std.specs.List.Sorted.{IsStrictlySortedBy}
use Rattle.std.specs.Prelude.{All, Ok, IfSome}
use Rattle.std.specs.Cmp.{nat_cmp_is, ranked}
use Rattle.std.specs.Ordering.{nat_cmp, match_ordering}
use Rattle.std.specs.declared.cmp.Ordering.{Ordering}
use Rattle.std.specs.declared.cmp.Ordering.TheVariants.{Less, Equal, Greater}
use Rattle.std.specs.Map.{lookup, keys_of, values_of}
use Rattle.std.specs.BTreeMap.{is_at, insert_entry}
use Rattle.sz_outside.specs.Disk.{Told, Only, Passes, Said, Same}
use Rattle.sz_outside.specs.declared.stations.Station.{Ghosts}
use Rattle.sz_log.specs.Log.{LogGroup, EndsAt}
use Rattle.sz_log.specs.Steps.{Adds, AddsOrKeeps, Added, place_behind}
use Rattle.sz_log.proofs.Moments.{seen_as}
use Rattle.sz_store.specs.Kept.{NodeLineage}
use Rattle.sz_script.specs.Reading.{reading}
use Rattle.sz_script.specs.declared.command.Command.{Command}
use Rattle.sz_catalogue.specs.Holdings.{Version, Holdings, version_numbered, no_version}
use Rattle.sz_catalogue.specs.Rules.{version_of, has_no_version, judged}
use Rattle.sz_catalogue.specs.Changes.{accepted, with_await}
use Rattle.sz_catalogue.proofs.Entries.{lookup-put}
use Rattle.sz_bodies.specs.Bodies.{IsBodyOf}
use Rattle.sz_bodies.specs.Fitting.{sites_of, Fit, body_of}
use Rattle.sz_recover.specs.Growing.{durable, IsInOrder, Growth}
use Rattle.sz_recover.specs.Logs.{Kept, Acts, IsWellMade, IsMade, is_of_kind, version_kind}
use Rattle.sz_recover.specs.Opened.{IsEntryOf, AreOfVersions}
use Rattle.sz_recover.specs.Soundness.{executions_of, AreSoundNodes, IsSoundKept, AreSoundKept}
use Rattle.sz_recover.proofs.Durable.{settled, await-settled, settled-new, version-found}
use Rattle.sz_recover.proofs.Ending.{made-logs-end}
use Rattle.sz_recover.proofs.Entries.{well-made, versions-awaited}
use Rattle.sz_recover.proofs.InLogs.{logs-in-order}
use Rattle.sz_recover.proofs.Grown.{logs-grow, logs-grow-or-stay}
use Rattle.sz_recover.proofs.Logged.{lines-act, lines-keep, awaits-act}
use Rattle.sz_commands.specs.Stops.{StopsFinding}
use Rattle.sz_commands.specs.Logged.{IsLogOf, HasLog, Grown, GrowsTo, Grows, LeavesLog, GoesOn, KeepsLog, StopsInLog}
use Rattle.sz_commands.specs.Logged.{OpenedLogsStand, end_behind}
use Rattle.sz_commands.specs.States.{LogPlace}
use Rattle.sz_commands.proofs.Stops.{told-more, pass-still}

-- ---- where nothing is appended

-- a log of what is durable is one of whatever is durable alike
pub grown-same : (c d : Holdings) (kept : List Kept) (image : List ℕ) (at : LogPlace) → durable d ≡ durable c
    → IsWellMade image at.gate at.format (durable c) kept → Grown c kept image at d
grown-same c d kept image at same made = record {
  more = [];
  made =
      subst (λ (ks : List Kept). IsWellMade image at.gate at.format (durable d) ks) (sym (append-nil kept))
      (subst (λ (h : Holdings). IsWellMade image at.gate at.format h kept) (sym same) made);
  sound = λ sound.
      subst (AreSoundKept (durable d)) (sym (append-nil kept))
      (subst (λ (h : Holdings). AreSoundKept h kept) (sym same) sound);
}

same-left : (c d : Holdings) (at : LogPlace) (old image : List ℕ) → image ≡ old → LeavesLog at c d old image
same-left c d at old image same kept made =
    inl (
      at,
      grown-same c c kept image at refl (subst (λ (i : List ℕ). IsWellMade i at.gate at.format (durable c) kept)
          (sym same) made),
    )

rest-grows : (disk : Option (List ℕ)) (c d : Holdings) (at : LogPlace) → durable d ≡ durable c
    → Grows disk at c disk at d
rest-grows None c d at same = refl
rest-grows (Some disk) c d at same = (disk, refl, λ kept made. grown-same c d kept disk at same made)

-- a command that changes nothing that is durable, and makes no call
pub rest-keeps : {X : Type 0} (T : Ghosts X) (c d : Holdings) (end : Option LogPlace) (a : X) → durable d ≡ durable c
    → HasLog T c end a → KeepsLog T c end d end a a
rest-keeps {X} T c d None a same log = refl
rest-keeps {X} T c d (Some at) a same log = record {
  grows = rest-grows (T.disk a) c d at same;
  synced = log.synced;
}

-- where no call is made, a stop leaves the log
pub still-stops : {X : Type 0} (T : Ghosts X) (c d : Holdings) (end : Option LogPlace) (a : X)
    → ((image found : List ℕ) → Told (T.disk a)
    (T.left_since a (T.moment a) image found → T.may_leave a image × Said (T.said a) found))
    → ((t : ℕ) (image found : List ℕ) → Told (T.disk a)
    (t ≤ T.moment a → T.may_leave a image → Said (T.said a) found → T.left_since a t image found))
    → StopsInLog T c end d a a
still-stops {X} T c d None a only counts = refl
still-stops {X} T c d (Some at) a only counts =
    told-more (T.disk a) _ _
    (λ passes. seen_as passes (λ image (old, was, same). (old, was, same-left c d at old image same)))
    (pass-still (T.disk a) (T.said a) (T.moment a) (T.left_since a) (T.may_leave a) only counts)

-- ---- one group more

-- A group acts on what the log of c holds, and leaves what the log of d holds, in a format that stays; with the stores
-- that it has, stores that stand for the relation go on to.
pub record IsStep (format : ℕ) (c d : Holdings) (e : LogGroup) : Type 0 where
  pub more : List Kept
  pub acts : Acts format (durable c) e format (durable d) more
  pub sound : (kept : List Kept) → AreOfVersions (durable c) kept → AreSoundKept (durable c) kept
      → AreSoundKept (durable d) (kept ++ more)

abbrev growth-of : (format : ℕ) (c d : Holdings) (e : LogGroup) (kept : List Kept) → IsStep format c d e → Growth
growth-of format c d e kept one = record {
  format_before = format;
  before = durable c;
  kept = kept;
  format_after = format;
  after = durable d;
  more = one.more;
}

step-grown : (c d : Holdings) (e : LogGroup) (disk image : List ℕ) (at : LogPlace) → IsStep at.format c d e
    → Adds at.gate e disk image → GrowsTo disk at c image (end_behind at e) d
step-grown c d e disk image at one adds kept made = record {
  more = one.more;
  made = logs-grow disk image at.gate e (growth-of at.format c d e kept one) made one.acts adds;
  sound = one.sound kept (well-made disk at.gate at.format (durable c) kept made);
}

-- a log that ends elsewhere, in the same format
abbrev pub ending : LogPlace → ℕ → LogPlace
ending at next = record at { gate = next }

step-grows : (old new : Option (List ℕ)) (c d : Holdings) (e : LogGroup) (at : LogPlace) (next : ℕ)
    → IsStep at.format c d e → Added old new at.gate e → Told old (next ≡ place_behind at.gate e)
    → Grows old at c new (ending at next) d
step-grows None new c d e at next one added place = added
step-grows (Some disk) new c d e at next one (image, is, adds) place = (
  image,
  is,
  subst (λ (n : ℕ). GrowsTo disk at c image (ending at n) d) (sym place) (step-grown c d e disk image at one adds),
)

step-left : (c d : Holdings) (e : LogGroup) (old image : List ℕ) (at : LogPlace) → IsStep at.format c d e
    → AddsOrKeeps at.gate e old image → LeavesLog at c d old image
step-left c d e old image at one adds kept made =
    ⊎_elim (λ same. inl (at, grown-same c c kept image at refl same))
    (λ more. inr (
      end_behind at e,
      record {
        more = one.more;
        made = more;
        sound = one.sound kept (well-made old at.gate at.format (durable c) kept made);
      },
    ))
    (logs-grow-or-stay old image at.gate e (growth-of at.format c d e kept one) made one.acts adds)

-- an append of it
pub step-keeps : {X : Type 0} (T : Ghosts X) (c d : Holdings) (e : LogGroup) (at : LogPlace) (next : ℕ) (a b : X)
    → IsStep at.format c d e → Added (T.disk a) (T.disk b) at.gate e
    → Told (T.disk a) (next ≡ place_behind at.gate e) → Only (T.disk b) (T.may_leave b)
    → GoesOn T c at d (ending at next) a b
step-keeps {X} T c d e at next a b one added place synced = record {
  grows = step-grows (T.disk a) (T.disk b) c d e at next one added place;
  synced = synced;
}

pub step-stops : {X : Type 0} (T : Ghosts X) (c d : Holdings) (e : LogGroup) (at : LogPlace) (a b : X)
    → IsStep at.format c d e
    → Told (T.disk a) (Passes (T.moment a) (T.moment b) (T.left_since a) (T.left_since b)
    (T.may_leave a) (T.may_leave b) (AddsOrKeeps at.gate e) (Said (T.said a)))
    → StopsFinding T (LeavesLog at c d) (Said (T.said a)) a b
step-stops {X} T c d e at a b one stops =
    told-more (T.disk a) _ _
    (λ passes. seen_as passes (λ image (old, was, adds). (old, was, step-left c d e old image at one adds))) stops

-- what it leaves is all that is durable of what is left
pub step-alike : (format : ℕ) (c d h : Holdings) (e : LogGroup) → durable h ≡ durable d → IsStep format c d e
    → IsStep format c h e
step-alike format c d h e same one = record {
  more = one.more;
  acts = subst (λ (x : Holdings). Acts format (durable c) e format x one.more) (sym same) one.acts;
  sound = λ kept all sound.
      subst (λ (x : Holdings). AreSoundKept x (kept ++ one.more)) (sym same) (one.sound kept all sound);
}

-- a log ends where a group is appended
pub log-ends : {X : Type 0} (T : Ghosts X) (c : Holdings) (at : LogPlace) (a : X) → IsLogOf T c at a
    → EndsAt (T.disk a) at.gate
log-ends {X} T c at a log = made-logs-end (T.disk a) at.gate at.format (durable c) log.kept log.made

-- ---- and again

again : (old new : Option (List ℕ)) (c d : Holdings) (at next : LogPlace) (kept : List Kept)
    → IsMade old at.gate at.format (durable c) kept
    → Grows old at c new next d → (all : List Kept) × IsMade new next.gate next.format (durable d) all
again None new c d at next kept made grows =
    ([], subst (λ (o : Option (List ℕ)). IsMade o next.gate next.format (durable d) []) (sym grows) tt)
again (Some disk) new c d at next kept made (image, is, grows) =
    let one = grows kept made in (
      kept ++ one.more,
      subst (λ (o : Option (List ℕ)). IsMade o next.gate next.format (durable d) (kept ++ one.more)) (sym is) one.made,
    )

-- behind a call the log stands beside the session again
pub log-again : {X : Type 0} (T : Ghosts X) (c d : Holdings) (end next : Option LogPlace) (a b : X) → HasLog T c end a
    → KeepsLog T c end d next a b → HasLog T d next b
log-again {X} T c d None None a b log keeps = tt
log-again {X} T c d None (Some n) a b log keeps = absurd keeps
log-again {X} T c d (Some at) None a b log keeps = absurd keeps
log-again {X} T c d (Some at) (Some n) a b log keeps =
    let all = again (T.disk a) (T.disk b) c d at n log.kept log.made keeps.grows in
    record { kept = all.0; made = all.1; synced = keeps.synced }

-- ---- a line

all-turn : {X : Type 0} (P Q : X → Type 0) (xs : List X) → ((x : X) → P x → Q x) → All P xs → All Q xs
all-turn P Q xs turn all = λ i d lt. turn _ (all i d lt)

all-both : {X : Type 0} (P Q R : X → Type 0) (xs : List X) → ((x : X) → P x → Q x → R x) → All P xs → All Q xs
    → All R xs
all-both P Q R xs turn all each = λ i d lt. turn _ (all i d lt) (each i d lt)

-- stores stand for the relation of a version by what is found under its number
kept-sound : (c d : Holdings) (k : Kept) → version_of d k.number ≡ version_of c k.number → IsSoundKept c k
    → IsSoundKept d k
kept-sound c d k same sound =
    subst (λ (v : Version). AreSoundNodes (executions_of v) k.stores) (sym same) sound

-- versions that stay are found as before
same-versions : (c d : Holdings) (n : ℕ) → d.versions ≡ c.versions → version_of (durable d) n ≡ version_of (durable c) n
same-versions c d n same =
    ap (λ (es : List (ℕ × Version)). unwrap_or (lookup (is_at (nat_cmp n)) (settled es)) no_version) same

-- the line of a command that a session takes
pub line-step : (format : ℕ) (c : Holdings) (kind : ℕ) (line : List ℕ) (command : Command) → reading line ≡ Ok command
    → is_of_kind kind command ≡ true → judged c command ≡ None
    → IsStep format c (accepted c command).0 (record { kind = kind; body = line })
line-step format c kind line command read own free =
    let d : Holdings = (accepted c command).0 in
    let same : d.versions ≡ c.versions = lines-keep c kind command own in
    record {
      more = [];
      acts = lines-act format c kind line command read own free;
      sound = λ kept all sound.
          subst (AreSoundKept (durable d)) (sym (append-nil kept))
          (all-turn (IsSoundKept (durable c)) (IsSoundKept (durable d)) kept
          (λ k h. kept-sound (durable c) (durable d) k (same-versions c d k.number same) h) sound);
    }

-- ---- a first await

-- what is put under a number is found there
put-found : (es : List (ℕ × Version)) (n : ℕ) (v : Version)
    → lookup (is_at (nat_cmp n)) (insert_entry nat_cmp es n v) ≡ Some v
put-found [] n v = rw (sym (nat_cmp_is n n Equal refl)) refl
put-found (e ∷ es) n v = by (nat_cmp n e.0) refl (put-found es n v) where
  own : nat_cmp n n ≡ Equal
  own = sym (nat_cmp_is n n Equal refl)

  by : (r : Ordering) → nat_cmp n e.0 ≡ r
      → lookup (is_at (nat_cmp n)) (insert_entry nat_cmp es n v) ≡ Some v
      → lookup (is_at (nat_cmp n)) (match_ordering r ((n, v) ∷ e ∷ es) ((e.0, v) ∷ es)
      (e ∷ insert_entry nat_cmp es n v)) ≡ Some v
  by Less is later = rw own refl
  by Equal is later = rw is refl
  by Greater is later = rw is later

exact-numbers : (x y : ℕ) → nat_cmp x y ≡ Equal → x ≡ y
exact-numbers x y is = ranked x y Equal (sym is)

found-of : (c : Holdings) (n : ℕ) (v : Version) → version_numbered c n ≡ Some v → version_of c n ≡ v
found-of c n v is = ap (λ (o : Option Version). unwrap_or o no_version) is

-- the body of a version that was not awaited, with stores that stand for the relation
pub await-step : (format : ℕ) (c : Holdings) (n : ℕ) (stores : List (Option NodeLineage)) (body : List ℕ) → IsInOrder c
    → has_no_version c n ≡ false → (version_of c n).awaited ≡ false → Fit (version_of c n) stores
    → AreSoundNodes (executions_of (version_of c n)) stores
    → IsBodyOf format (sites_of (version_of c n)) (body_of n (version_of c n) stores) body
    → IsStep format c (with_await c n) (record { kind = version_kind format; body = body })
await-step format c n stores body in-order held off fit sound spelled =
    let v : Version = version_of c n in
    let w : Version = record v { awaited = true } in
    let d : Holdings = with_await c n in
    let one : Kept = record { number = n; stores = stores } in
    let found = version-found c n held in
    let put : (durable d).versions ≡ insert_entry nat_cmp (settled c.versions) n w =
    await-settled c.versions n v w off refl in-order.rising found in
    let none = settled-new c.versions n v off in-order.rising found in
    let here : version_of (durable d) n ≡ w =
    found-of (durable d) n w
    (ap (λ (es : List (ℕ × Version)). lookup (is_at (nat_cmp n)) es) put ∙ put-found (settled c.versions) n w) in
    let there : (k : Kept) → IsEntryOf (durable c) k → version_of (durable d) k.number ≡ version_of
    (durable c) k.number =
    λ k h.
    let old = version-found (durable c) k.number h.held in
    found-of (durable d) k.number (version_of (durable c) k.number)
    (ap (λ (es : List (ℕ × Version)). lookup (is_at (nat_cmp k.number)) es) put
    ∙ lookup-put nat_cmp exact-numbers (settled c.versions) k.number n (version_of (durable c) k.number) w old none) in
    record {
      more = one ∷ [];
      acts = awaits-act format c n stores body in-order held off fit spelled;
      sound = λ kept all each.
          All-append (IsSoundKept (durable d)) kept (one ∷ [])
          (all-both (IsEntryOf (durable c)) (IsSoundKept (durable c)) (IsSoundKept (durable d)) kept
          (λ k h s. kept-sound (durable c) (durable d) k (there k h) s) all.each each)
          (All-cons (IsSoundKept (durable d)) one []
          (subst (λ (x : Version). AreSoundNodes (executions_of x) stores) (sym here) sound)
          (All-nil (IsSoundKept (durable d))));
    }

-- ---- a log that was opened

all-settled : (es : List (ℕ × Version)) → All (λ (v : Version). v.awaited ≡ true) (values_of es) → settled es ≡ es
all-settled [] all = refl
all-settled (e ∷ es) all =
    let P : Version → Type 0 = λ v. v.awaited ≡ true in
    ap (λ (b : Bool). cond b (e ∷ settled es) (settled es)) (All-head P e.1 (values_of es) all)
    ∙ ap (λ (xs : List (ℕ × Version)). e ∷ xs) (all-settled es (All-tail P e.1 (values_of es) all))

-- where each version was awaited, and no merge was asked, all that is held is durable
all-durable : (c : Holdings) → IsStrictlySortedBy nat_cmp (keys_of c.versions) → c.merges ≡ []
    → ((n : ℕ) → has_no_version c n ≡ false → (version_of c n).awaited ≡ true) → durable c ≡ c
all-durable c rising none all =
    ap (λ (ms : List ℕ). record (durable c) { merges = ms }) (sym none)
    ∙ ap (λ (es : List (ℕ × Version)). record c { versions = es })
    (all-settled c.versions
    (All-values_from_lookup (eq_by_cmp_equiv nat_cmp_total) (λ (v : Version). v.awaited ≡ true) c.versions
    (IsDistinct-from_sorted nat_cmp (keys_of c.versions) rising) each)) where
      at : (n : ℕ) (o : Option Version) → version_numbered c n ≡ o → IfSome o (λ (v : Version). v.awaited ≡ true)
      at n None is = tt
      at n (Some v) is =
          ap (λ (x : Version). x.awaited) (sym (found-of c n v is))
          ∙ all n (ap (λ (o : Option Version). is_none o) is)

      each : (n : ℕ) → IfSome (version_numbered c n) (λ (v : Version). v.awaited ≡ true)
      each n = at n (version_numbered c n) refl

pub opened-stands : OpenedLogsStand
opened-stands None at c kept made = tt
opened-stands (Some disk) at c kept made =
    let all = well-made disk at.gate at.format c kept made in
    let rising = (logs-in-order disk at.gate at.format c kept made).rising in
    subst (λ (h : Holdings). IsWellMade disk at.gate at.format h kept)
    (sym (all-durable c rising all.unasked (λ n held. versions-awaited c kept n all held))) made

-- ---- a group more, by where the log ends

pub append-stops : {X : Type 0} (T : Ghosts X) (c d : Holdings) (end : Option LogPlace) (at : LogPlace) (e : LogGroup)
    (a b : X) → end ≡ Some at → IsStep at.format c d e
    → Told (T.disk a) (Passes (T.moment a) (T.moment b) (T.left_since a) (T.left_since b)
    (T.may_leave a) (T.may_leave b) (AddsOrKeeps at.gate e) (Said (T.said a)))
    → StopsInLog T c end d a b
append-stops {X} T c d end at e a b is one stops =
    subst (λ (o : Option LogPlace). StopsInLog T c o d a b) (sym is) (step-stops T c d e at a b one stops)

pub append-keeps : {X : Type 0} (T : Ghosts X) (c d : Holdings) (end : Option LogPlace) (at : LogPlace) (next : ℕ)
    (e : LogGroup) (a b : X) → end ≡ Some at → IsStep at.format c d e → Added (T.disk a) (T.disk b) at.gate e
    → Told (T.disk a) (next ≡ place_behind at.gate e) → Only (T.disk b) (T.may_leave b)
    → KeepsLog T c end d (Some (ending at next)) a b
append-keeps {X} T c d end at next e a b is one added place synced =
    subst (λ (o : Option LogPlace). KeepsLog T c o d (Some (ending at next)) a b) (sym is)
    (step-keeps T c d e at next a b one added place synced)

-- ---- a station whose log was opened

-- no write is pending where none was and the disk stays
pub still-only : (o : Option (List ℕ)) (A B : List ℕ → Type 0) (before now : ℕ) (past since : ℕ → List ℕ
    → List ℕ → Type 0)
    (F : List ℕ → Type 0) → Told o (Passes before now past since A B Same F) → Only o A → Only o B
still-only None A B before now past since F stops only = tt
still-only (Some disk) A B before now past since F stops only = λ image left.
    let from = stops.images image left in from.2 ∙ only from.0 from.1

-- no write is pending where none was and the disk was only read
pub still-synced : {X : Type 0} (T : Ghosts X) (F : List ℕ → Type 0) (a b : X) → T.disk b ≡ T.disk a
    → Told (T.disk a) (Passes (T.moment a) (T.moment b) (T.left_since a) (T.left_since b)
    (T.may_leave a) (T.may_leave b) Same F)
    → Only (T.disk a) (T.may_leave a) → Only (T.disk b) (T.may_leave b)
still-synced {X} T F a b reads stops only =
    subst (λ (o : Option (List ℕ)). Only o (T.may_leave b)) (sym reads)
    (still-only (T.disk a) (T.may_leave a) (T.may_leave b) (T.moment a) (T.moment b) (T.left_since a) (T.left_since b) F
    stops only)

-- the log of a station that was opened
pub opened-log : {X : Type 0} (T : Ghosts X) (F : List ℕ → Type 0) (at : LogPlace) (c : Holdings) (kept : List Kept)
    (a b : X)
    → IsMade (T.disk a) at.gate at.format c kept → T.disk b ≡ T.disk a
    → Told (T.disk a) (Passes (T.moment a) (T.moment b) (T.left_since a) (T.left_since b)
    (T.may_leave a) (T.may_leave b) Same F)
    → Only (T.disk a) (T.may_leave a) → IsLogOf T c at b
opened-log {X} T F at c kept a b made reads stops only = record {
  kept = kept;
  made =
      subst (λ (o : Option (List ℕ)). IsMade o at.gate at.format (durable c) kept) (sym reads)
      (opened-stands (T.disk a) at c kept made);
  synced = still-synced T F a b reads stops only;
}
