-- The stores that are kept are those of the versions that are held.
--
-- The key idea: what is known of the entries speaks of nothing but which version is held under each number. A line
-- leaves that as it is; the group of a version adds one under a number that was new, and one entry with that number.
use Rattle.std.proofs.Common.{◌≡◌, ℕ, ◌+◌, ◌≤◌, ◌==◌, nat_le, List, [], ◌∷◌, ◌++◌, Bool, true, false, ◌&&◌, cond}
use Rattle.std.proofs.Common.{if◌then◌else◌, Option, Some, None, is_none, unwrap_or, Result, Ok, Err, refl, sym, ap}
use Rattle.std.proofs.Common.{map, length, ap₂, subst, ◌∙◌, arith, append-nil, append_assoc, inl, inr}
use Rattle.std.proofs.Common.{true≢false, eqb-true, eq-eqb}
use Rattle.std.specs.Prelude.{All}
use Rattle.std.specs.Cmp.{nat_cmp_is, ranked, unsigned_tied}
use Rattle.std.specs.List.{Contains}
use Rattle.std.specs.Map.{lookup}
use Rattle.std.specs.BTreeMap.{is_at, insert_entry}
use Rattle.std.specs.Ordering.{nat_cmp, match_ordering}
use Rattle.std.specs.declared.cmp.Ordering.{Ordering}
use Rattle.std.specs.declared.cmp.Ordering.TheVariants.{Less, Equal, Greater}
use Rattle.std.proofs.lemmas.Bool.{cases_Bool, and_parts, leb-true}
use Rattle.std.proofs.lemmas.List.Elements.{All-nil, All-cons, All-append, All-weaker, All-contains}
use Rattle.std.proofs.lemmas.List.Elements.{Contains-append_right}
use Rattle.std.proofs.lemmas.List.Sums.{sum_by-append}
use Rattle.sz_log.specs.Log.{LogGroup}
use Rattle.sz_spec.specs.declared.modes.Strategy.{Strategy}
use Rattle.sz_spec.specs.Shapes.{Site}
use Rattle.sz_store.specs.Kept.{Keep, NodeLineage, stored_in}
use Rattle.sz_formats.specs.Words.{BeginEachIn}
use Rattle.sz_script.specs.Reading.{reading}
use Rattle.sz_script.specs.declared.command.Command.{Command}
use Rattle.sz_script.specs.declared.refusal.Refusal.{Refusal}
use Rattle.sz_catalogue.specs.Holdings.{Version, Holdings, no_holdings, no_version, version_numbered}
use Rattle.sz_catalogue.specs.Rules.{has_no_version, version_of, judged}
use Rattle.sz_catalogue.specs.Changes.{accepted, with_version}
use Rattle.sz_bodies.specs.Bodies.{BeginNodes}
use Rattle.sz_bodies.specs.Fitting.{Fit, FitNodes, sites_of, parts_of, body_of}
use Rattle.sz_bodies.specs.Lawful.{version_said}
use Rattle.sz_recover.specs.Logs.{Kept, Acts, ActEach, held_by, is_of_kind}
use Rattle.sz_recover.specs.Opened.{HasItsStores, IsEntryOf, entries_under, versions_under, AreOfVersions}
use Rattle.sz_recover.proofs.Acting.{each-kind}
use Rattle.sz_recover.specs.Opened.{WellMadeLogsKeepTheirVersions, HeldVersionsHaveEntries, HeldVersionsAreAwaited}

-- ---- what is held under a number

cmp-same : (n : ℕ) → nat_cmp n n ≡ Equal
cmp-same n = sym (nat_cmp_is n n Equal refl)

flipped : (m n : ℕ) → (n == m) ≡ false → (m == n) ≡ false
flipped m n other =
    elim (cases_Bool (m == n)) [
      | inl same ↦ absurd (true≢false (sym (eq-eqb n m (sym (eqb-true m n same))) ∙ other))
      | inr is ↦ is
    ]

cmp-other : (m n : ℕ) → (n == m) ≡ false → is_at (nat_cmp m) n ≡ false
cmp-other m n other = unsigned_tied m n ∙ flipped m n other

-- a version that is put under a number is found there
pub held-new : (es : List (ℕ × Version)) (n : ℕ) (v : Version)
    → lookup (is_at (nat_cmp n)) (insert_entry nat_cmp es n v) ≡ Some v
held-new [] n v = rw (cmp-same n) refl
held-new (e ∷ es) n v = step (nat_cmp n e.0) refl (held-new es n v) where
  step : (o : Ordering) → nat_cmp n e.0 ≡ o
      → lookup (is_at (nat_cmp n)) (insert_entry nat_cmp es n v) ≡ Some v
      → lookup (is_at (nat_cmp n)) (match_ordering o ((n, v) ∷ e ∷ es) ((e.0, v) ∷ es)
      (e ∷ insert_entry nat_cmp es n v)) ≡ Some v
  step Less is rest = rw (cmp-same n) refl
  step Equal is rest = rw is refl
  step Greater is rest = rw is rest

-- and what is held under any other number stays
pub held-old : (es : List (ℕ × Version)) (n m : ℕ) (v : Version) → (n == m) ≡ false
    → lookup (is_at (nat_cmp m)) (insert_entry nat_cmp es n v) ≡ lookup (is_at (nat_cmp m)) es
held-old [] n m v other = rw (cmp-other m n other) refl
held-old (e ∷ es) n m v other = step (nat_cmp n e.0) refl (held-old es n m v other) where
  found : List (ℕ × Version) → Option Version
  found = lookup (is_at (nat_cmp m))

  step : (o : Ordering) → nat_cmp n e.0 ≡ o
      → lookup (is_at (nat_cmp m)) (insert_entry nat_cmp es n v) ≡ lookup (is_at (nat_cmp m)) es
      → lookup (is_at (nat_cmp m)) (match_ordering o ((n, v) ∷ e ∷ es) ((e.0, v) ∷ es)
      (e ∷ insert_entry nat_cmp es n v)) ≡ lookup (is_at (nat_cmp m)) (e ∷ es)
  step Less is rest = rw (cmp-other m n other) refl
  step Equal is rest =
      let same : n ≡ e.0 = ranked n e.0 Equal (sym is) in
      let apart : is_at (nat_cmp m) e.0 ≡ false =
      subst (λ (k : ℕ). is_at (nat_cmp m) k ≡ false) same (cmp-other m n other) in
      rw apart refl
  step Greater is rest = ap (λ (o : Option Version). cond (is_at (nat_cmp m) e.0) (Some e.1) o) rest

-- ---- the stores of a body

strategies-begun : (format : ℕ) (s : Site) (ts : List Strategy) (bytes : List ℕ) (at next : ℕ) (fs : List Keep)
    → BeginEachIn format s ts bytes at next fs → map (λ (f : Keep). f.strategy) fs ≡ ts
strategies-begun format s [] bytes at next [] begin = refl
strategies-begun format s [] bytes at next (f ∷ fs) begin = absurd begin
strategies-begun format s (t ∷ ts) bytes at next [] begin = absurd begin
strategies-begun format s (t ∷ ts) bytes at next (f ∷ fs) begin =
    ap₂ (λ (u : Strategy) (us : List Strategy). u ∷ us) begin.2
    (strategies-begun format s ts bytes begin.0 next fs begin.4)

-- the stores that a body says are those of their lists
begin-stored : (format : ℕ) (sites : List Site) (lists : List (List Strategy)) (stores : List (Option NodeLineage))
    (bytes : List ℕ) (at next : ℕ) → FitNodes sites lists stores
    → BeginNodes format sites bytes at next (parts_of lists stores) → All HasItsStores stores
begin-stored format [] [] [] bytes at next fit begin = All-nil HasItsStores
begin-stored format [] [] (k ∷ stores) bytes at next fit begin = absurd fit
begin-stored format [] (l ∷ lists) stores bytes at next fit begin = absurd fit
begin-stored format (s ∷ sites) [] stores bytes at next fit begin = absurd fit
begin-stored format (s ∷ sites) (l ∷ lists) [] bytes at next fit begin = absurd fit
begin-stored format (s ∷ sites) (l ∷ lists) (None ∷ stores) bytes at next fit begin =
    All-cons HasItsStores None stores tt (begin-stored format sites lists stores bytes begin.1 next fit.1 begin.5)
begin-stored format (s ∷ sites) (l ∷ lists) (Some kept ∷ stores) bytes at next fit begin =
    let own : kept.list ≡ l = fit.0.1.own in
    All-cons HasItsStores (Some kept) stores
    (strategies-begun format s (stored_in l) bytes begin.0 begin.1 kept.stores begin.4 ∙ ap stored_in (sym own))
    (begin-stored format sites lists stores bytes begin.1 next fit.1 begin.5)

-- ---- entries

-- an entry speaks of the version that is held under its number
entry-same : (c d : Holdings) (k : Kept) → version_numbered d k.number ≡ version_numbered c k.number
    → IsEntryOf c k → IsEntryOf d k
entry-same c d k same is = record {
  some = is.some;
  held = ap (λ (o : Option Version). is_none o) same ∙ is.held;
  awaited = ap (λ (o : Option Version). (unwrap_or o no_version).awaited) same ∙ is.awaited;
  fit = subst (λ (w : Version). Fit w k.stores) (sym (ap (λ (o : Option Version). unwrap_or o no_version) same))
      is.fit;
  stored = is.stored;
}

-- it stays one where a version is added under a new number
entry-stays : (c : Holdings) (n : ℕ) (v : Version) → has_no_version c n ≡ true → (k : Kept) → IsEntryOf c k
    → IsEntryOf (with_version c n v) k
entry-stays c n v new k is =
    let other : (n == k.number) ≡ false =
    elim (cases_Bool (n == k.number)) [
      | inl same ↦
          absurd (true≢false (sym new ∙ ap (has_no_version c) (eqb-true n k.number same) ∙ is.held))
      | inr is-other ↦ is-other
    ] in
    entry-same c (with_version c n v) k (held-old c.versions n k.number v other) is

entry-new : (c : Holdings) (v : Version) (one : Kept) → 1 ≤ one.number → v.awaited ≡ true → Fit v one.stores
    → All HasItsStores one.stores → IsEntryOf (with_version c one.number v) one
entry-new c v one some awaited fit stored =
    let found : version_numbered (with_version c one.number v) one.number ≡ Some v =
    held-new c.versions one.number v in
    record {
      some = some;
      held = ap (λ (o : Option Version). is_none o) found;
      awaited = ap (λ (o : Option Version). (unwrap_or o no_version).awaited) found ∙ awaited;
      fit = subst (λ (w : Version). Fit w one.stores)
          (sym (ap (λ (o : Option Version). unwrap_or o no_version) found)) fit;
      stored = stored;
    }

abbrev weight : Bool → ℕ
weight b = cond b 1 0

-- how many have a number
under-same : (c d : Holdings) (m : ℕ) → version_numbered d m ≡ version_numbered c m
    → versions_under d m ≡ versions_under c m
under-same c d m same = ap (λ (o : Option Version). if is_none o then 0 else 1) same

under-more : (m : ℕ) (kept : List Kept) (one : Kept)
    → entries_under m (kept ++ one ∷ []) ≡ entries_under m kept + weight (one.number == m)
under-more m kept one =
    sum_by-append (λ (k : Kept). weight (k.number == m)) kept (one ∷ [])
    ∙ omega arith

once-more : (c : Holdings) (v : Version) (kept : List Kept) (one : Kept) → has_no_version c one.number ≡ true
    → ((m : ℕ) → entries_under m kept ≡ versions_under c m) → (m : ℕ)
    → entries_under m (kept ++ one ∷ []) ≡ versions_under (with_version c one.number v) m
once-more c v kept one new once m =
    elim (cases_Bool (one.number == m)) [
      | inl same ↦
          let is : one.number ≡ m = eqb-true one.number m same in
          let none : entries_under m kept ≡ 0 =
          once m ∙ ap (λ (b : Bool). if b then 0 else 1) (ap (has_no_version c) (sym is) ∙ new) in
          let there : versions_under (with_version c one.number v) m ≡ 1 =
          subst (λ (k : ℕ). versions_under (with_version c one.number v) k ≡ 1) is
          (ap (λ (o : Option Version). if is_none o then 0 else 1) (held-new c.versions one.number v)) in
          let step : weight (one.number == m) ≡ 1 = ap weight same in
          omega (arith, under-more m kept one, none, there, step)
      | inr other ↦
          let stays = under-same c (with_version c one.number v) m (held-old c.versions one.number m v other) in
          let step : weight (one.number == m) ≡ 0 = ap weight other in
          omega (arith, under-more m kept one, once m, stays, step)
    ]

-- ---- groups

-- the versions stay, and so does of which a merge is asked
record HasItsVersions (c d : Holdings) : Type 0 where
  versions : d.versions ≡ c.versions
  merges : d.merges ≡ c.merges

-- where the same versions are held, the entries are those of the versions as before
versions-same : (c d : Holdings) (kept : List Kept) → HasItsVersions c d → AreOfVersions c kept
    → AreOfVersions d kept
versions-same c d kept same are =
    let found : (m : ℕ) → version_numbered d m ≡ version_numbered c m =
    λ m. ap (λ (es : List (ℕ × Version)). lookup (is_at (nat_cmp m)) es) same.versions in
    record {
      each = All-weaker (IsEntryOf c) (IsEntryOf d) (λ k is. entry-same c d k (found k.number) is) kept are.each;
      once = λ m. are.once m ∙ sym (under-same c d m (found m));
      unasked = same.merges ∙ are.unasked;
    }

chosen : (t : Bool) (c x d : Holdings) → HasItsVersions c x → (if t then Some x else None) ≡ Some d
    → HasItsVersions c d
chosen false c x d same is = cc
chosen true c x d same is = let one : x ≡ d = cc in subst (HasItsVersions c) one same

-- a line changes no version
line-same : (c : Holdings) (kind : ℕ) (order : Command) → is_of_kind kind order ≡ true
    → HasItsVersions c (accepted c order).0
line-same c =
    each-kind (λ order. HasItsVersions c (accepted c order).0) (λ name array. record { versions = refl; merges = refl })
    (λ name array. record { versions = refl; merges = refl }) (λ name array. record { versions = refl; merges = refl })
    (λ name flow. record { versions = refl; merges = refl })
    (λ name node list. record { versions = refl; merges = refl })

line-versions : (c d : Holdings) (kind : ℕ) (r : Result Command Refusal) → held_by c kind r ≡ Some d
    → HasItsVersions c d
line-versions c d kind (Err rule) is = cc
line-versions c d kind (Ok order) is = by (is_of_kind kind order) refl is where
  by : (own : Bool) → is_of_kind kind order ≡ own
      → (if own && is_none (judged c order) then Some (accepted c order).0 else None) ≡ Some d → HasItsVersions c d
  by true own is = chosen (is_none (judged c order)) c (accepted c order).0 d (line-same c kind order own) is
  by false own is = cc

-- a version that is added has one entry
version-more : (c : Holdings) (v : Version) (kept : List Kept) (one : Kept)
    → nat_le 1 one.number && has_no_version c one.number ≡ true → v.awaited ≡ true → Fit v one.stores
    → All HasItsStores one.stores → AreOfVersions c kept
    → AreOfVersions (with_version c one.number v) (kept ++ one ∷ [])
version-more c v kept one number awaited fit stored are =
    let both = and_parts (nat_le 1 one.number) (has_no_version c one.number) number in
    let d = with_version c one.number v in
    let new = entry-new c v one (leb-true 1 one.number both.0) awaited fit stored in
    record {
      each = All-append (IsEntryOf d) kept (one ∷ [])
          (All-weaker (IsEntryOf c) (IsEntryOf d) (entry-stays c one.number v both.1) kept are.each)
          (All-cons (IsEntryOf d) one [] new (All-nil (IsEntryOf d)));
      once = once-more c v kept one both.1 are.once;
      unasked = are.unasked;
    }

-- Behind a group that acts the entries are those of the versions, as they were before it.
pub acts-keep : (m n : ℕ) (c d : Holdings) (e : LogGroup) (kept more : List Kept) → AreOfVersions c kept
    → Acts m c e n d more → AreOfVersions d (kept ++ more)
acts-keep m n c d e kept more are (to, inl l) =
    subst (λ (ks : List Kept). AreOfVersions d (kept ++ ks)) (sym l.none)
    (subst (λ (ks : List Kept). AreOfVersions d ks) (sym (append-nil kept))
    (versions-same c d kept (line-versions c d e.kind (reading e.body) l.held) are))
acts-keep m n c d e kept more are (to, inr (inr u)) =
    subst (λ (ks : List Kept). AreOfVersions d (kept ++ ks)) (sym u.none)
    (subst (λ (ks : List Kept). AreOfVersions d ks) (sym (append-nil kept))
    (subst (λ (h : Holdings). AreOfVersions h kept) (sym u.held) are))
acts-keep m n c d e kept more are (to, inr (inl v)) =
    let awaited : v.version.awaited ≡ true = ap (λ (w : Version). w.awaited) v.said in
    let body = v.lawful.spelled in
    let said = version_said c (body_of v.one.number v.version v.one.stores) in
    let fit : FitNodes (sites_of said) v.version.lists v.one.stores =
    subst (λ (w : Version). FitNodes (sites_of w) v.version.lists v.one.stores) v.said v.fit in
    let stored = begin-stored m (sites_of said) v.version.lists v.one.stores e.body body.place (length e.body) fit
    body.nodes in
    subst (λ (ks : List Kept). AreOfVersions d (kept ++ ks)) (sym v.kept_is)
    (subst (λ (h : Holdings). AreOfVersions h (kept ++ v.one ∷ [])) (sym v.held)
    (version-more c v.version kept v.one v.lawful.number awaited v.fit stored are))

each-keep : (m n : ℕ) (c d : Holdings) (es : List LogGroup) (kept more : List Kept) → AreOfVersions c kept
    → ActEach m c es n d more → AreOfVersions d (kept ++ more)
each-keep m n c d [] kept more are all =
    subst (λ (ks : List Kept). AreOfVersions d (kept ++ ks)) (sym all.2)
    (subst (λ (ks : List Kept). AreOfVersions d ks) (sym (append-nil kept))
    (subst (λ (h : Holdings). AreOfVersions h kept) (sym all.1) are))
each-keep m n c d (e ∷ es) kept more are all =
    let mid = acts-keep m all.0 c all.1 e kept all.2 are all.4 in
    subst (λ (ks : List Kept). AreOfVersions d (kept ++ ks)) (sym all.6)
    (subst (λ (ks : List Kept). AreOfVersions d ks) (append_assoc kept all.2 all.3)
    (each-keep all.0 n all.1 d es (kept ++ all.2) all.3 mid all.5))

-- Of nothing that is held there is no entry.
none-kept : AreOfVersions no_holdings []
none-kept = record { each = All-nil (IsEntryOf no_holdings); once = λ m. refl; unasked = refl }

pub nothing_kept : (c : Holdings) (kept : List Kept) → c ≡ no_holdings → kept ≡ [] → AreOfVersions c kept
nothing_kept c kept nothing none =
    subst (λ (h : Holdings). AreOfVersions h kept) (sym nothing)
    (subst (λ (ks : List Kept). AreOfVersions no_holdings ks) (sym none) none-kept)

-- ---- laws

pub well-made : WellMadeLogsKeepTheirVersions
well-made disk at format c kept made =
    each-keep 1 format no_holdings c made.entries [] kept none-kept made.acts

under-first : (n : ℕ) (k : Kept) (kept : List Kept)
    → entries_under n (k ∷ kept) ≡ weight (k.number == n) + entries_under n kept
under-first n k kept = sum_by-append (λ (x : Kept). weight (x.number == n)) (k ∷ []) kept ∙ omega arith

found-under : (n : ℕ) (kept : List Kept) → entries_under n kept ≡ 1 → (k : Kept) × Contains kept k × (k.number ≡ n)
found-under n [] is = cc
found-under n (k ∷ kept) is =
    elim (cases_Bool (k.number == n)) [
      | inl same ↦ (k, (0, omega arith, refl), eqb-true k.number n same)
      | inr other ↦
          let step : weight (k.number == n) ≡ 0 = ap weight other in
          let rest : entries_under n kept ≡ 1 = omega (arith, is, under-first n k kept, step) in
          let there = found-under n kept rest in
          (there.0, Contains-append_right (k ∷ []) kept there.0 there.1, there.2)
    ]

pub entries-found : HeldVersionsHaveEntries
entries-found c kept n are held =
    let one : entries_under n kept ≡ 1 = are.once n ∙ ap (λ (b : Bool). if b then 0 else 1) held in
    let there = found-under n kept one in
    (there.0, there.1, there.2, All-contains (IsEntryOf c) kept there.0 are.each there.1)

pub versions-awaited : HeldVersionsAreAwaited
versions-awaited c kept n are held =
    let there = entries-found c kept n are held in
    subst (λ (k : ℕ). (version_of c k).awaited ≡ true) there.2 there.3.awaited
