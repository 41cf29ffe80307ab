-- A log is read in one way.
--
-- The key idea: a group at a place is a fact of the bytes, and over what is held it acts in one way at most, since a
-- body says one version at most. So two walks over a log go together, as far as the shorter one goes.
use Rattle.std.proofs.Common.{◌≡◌, ◌⊎◌, inl, inr, ℕ, ◌+◌, List, [], ◌∷◌, ◌++◌, length, drop, refl, sym, ap, ap₂}
use Rattle.std.proofs.Common.{subst, ◌∙◌, true, true≢false, Option, Some, None, option_map}
use Rattle.std.proofs.lemmas.List.{map-append}
use Rattle.sz_outside.specs.Disk.{bytes_at}
use Rattle.sz_spec.specs.declared.modes.Strategy.{Strategy}
use Rattle.sz_spec.specs.Shapes.{Site}
use Rattle.sz_store.specs.Kept.{Keep, NodeLineage}
use Rattle.sz_script.specs.Reading.{reading}
use Rattle.sz_script.specs.declared.command.BaseName.{BaseName}
use Rattle.sz_catalogue.specs.Holdings.{Version, Holdings, no_holdings}
use Rattle.sz_catalogue.specs.Starts.{workflow_of, bases_of}
use Rattle.sz_catalogue.specs.Changes.{with_version}
use Rattle.sz_log.specs.Log.{LogGroup}
use Rattle.sz_log.specs.Laws.{Reads}
use Rattle.sz_log.specs.Places.{group_on}
use Rattle.sz_log.specs.Steps.{place_behind}
use Rattle.sz_log.specs.declared.groups.Group.TheVariants as group
use Rattle.sz_bodies.specs.Bodies.{NodePart, VersionBody, IsBodyOf}
use Rattle.sz_bodies.specs.Fitting.{FitsNode, FitNodes, Fit, part_of, parts_of, body_of, sites_of}
use Rattle.sz_bodies.specs.Lawful.{version_said}
use Rattle.sz_recover.specs.Logs.{Kept, Acts, ActsAsLine, ActsAsVersion, ActsAsUpgrade, ActEach, held_by}
use Rattle.sz_recover.specs.Logs.{version_kind}
use Rattle.sz_recover.specs.Logs.{AreSpelled, Stands, StandEach, IsBadAt}
use Rattle.sz_recover.specs.OneReading.{unplaced, bare_stores, bare, all_bare, WellMadeLogsAreReadInOneWay}
use Rattle.sz_recover.specs.OneReading.{WellMadeLogsAreNotBad, LogsAreFirstBadAtOnePlace}
use Rattle.sz_bodies.proofs.OneWay.{head-same, bodies-one}
use Rattle.sz_recover.proofs.Acting.{none-some, version-no-line, upgrade-no-line, version-no-upgrade}
use Rattle.sz_recover.proofs.RightHeld.{IsRightHeld, nothing-right, acts-right, lawful-right}

-- ---- stores, but for which pieces are placed

-- stores that fit one node, and of which a body says the same, are the same
node-one : (s : Site) (list : List Strategy) (k m : Option NodeLineage) → FitsNode s list k → FitsNode s list m
    → part_of list k ≡ part_of list m → option_map unplaced m ≡ option_map unplaced k
node-one s list None None one other same = refl
node-one s list None (Some m) one other same = absurd (true≢false (sym other.0 ∙ one))
node-one s list (Some k) None one other same = absurd (true≢false (sym one.0 ∙ other))
node-one s list (Some k) (Some m) one other same =
    let make : Site → List Strategy → List Keep → Option NodeLineage =
    λ site own stores. Some (record { site = site; list = own; placed = []; stores = stores }) in
    let stores : m.stores ≡ k.stores = ap (λ (p : NodePart). p.stores) (sym same) in
    ap (λ (site : Site). make site m.list m.stores) (other.1.site ∙ sym one.1.site)
    ∙ ap₂ (λ (own : List Strategy) (keeps : List Keep). make k.site own keeps) (other.1.own ∙ sym one.1.own) stores

-- so are those that fit several nodes
nodes-one : (sites : List Site) (lists : List (List Strategy)) (xs ys : List (Option NodeLineage))
    → FitNodes sites lists xs → FitNodes sites lists ys → parts_of lists xs ≡ parts_of lists ys
    → bare_stores ys ≡ bare_stores xs
nodes-one [] [] [] [] one other same = refl
nodes-one [] [] [] (m ∷ ys) one other same = absurd other
nodes-one [] [] (k ∷ xs) ys one other same = absurd one
nodes-one [] (l ∷ lists) xs ys one other same = absurd one
nodes-one (s ∷ sites) [] xs ys one other same = absurd one
nodes-one (s ∷ sites) (l ∷ lists) [] ys one other same = absurd one
nodes-one (s ∷ sites) (l ∷ lists) (k ∷ xs) [] one other same = absurd other
nodes-one (s ∷ sites) (l ∷ lists) (k ∷ xs) (m ∷ ys) one other same =
    let first : part_of l k ≡ part_of l m = cc in
    let rest : parts_of lists xs ≡ parts_of lists ys = cc in
    ap₂ (λ (z : Option NodeLineage) (zs : List (Option NodeLineage)). z ∷ zs)
    (node-one s l k m one.0 other.0 first) (nodes-one sites lists xs ys one.1 other.1 rest)

-- ---- a group acts in one way

-- what is held behind a group, and its stores, are one
record IsOneAct (d other : Holdings) (kept more : List Kept) : Type 0 where
  held : other ≡ d
  stores : all_bare more ≡ all_bare kept

-- a version's group is no line, a group of kind 5 is none, and no version's group has kind 5
not-line-version : (format : ℕ) (c d other : Holdings) (e : LogGroup) (kept more : List Kept) → ActsAsLine c e d kept
    → ActsAsVersion format c e other more → ⊥
not-line-version format c d other e kept more line v =
    none-some (held_by c (version_kind format) (reading e.body)) d (version-no-line format c (reading e.body))
    (subst (λ (k : ℕ). held_by c k (reading e.body) ≡ Some d) v.kind line.held)

not-line-upgrade : (format : ℕ) (c d other : Holdings) (e : LogGroup) (kept more : List Kept) → ActsAsLine c e d kept
    → ActsAsUpgrade format c e other more → ⊥
not-line-upgrade format c d other e kept more line u =
    none-some (held_by c 5 (reading e.body)) d (upgrade-no-line c (reading e.body))
    (subst (λ (k : ℕ). held_by c k (reading e.body) ≡ Some d) u.kind line.held)

not-version-upgrade : (format : ℕ) (c d other : Holdings) (e : LogGroup) (kept more : List Kept)
    → ActsAsVersion format c e d kept → ActsAsUpgrade format c e other more → ⊥
not-version-upgrade format c d other e kept more v u = version-no-upgrade format (sym v.kind ∙ u.kind)

lines-one : (c d other : Holdings) (e : LogGroup) (kept more : List Kept) → ActsAsLine c e d kept
    → ActsAsLine c e other more → IsOneAct d other kept more
lines-one c d other e kept more a b =
    let both : Some other ≡ Some d = sym b.held ∙ a.held in
    record { held = cc; stores = ap all_bare (b.none ∙ sym a.none) }

-- the operators of a version by its flow's name and those of its base arrays
abbrev sites_at : Holdings → List ℕ → List BaseName → List Site
sites_at c name names = sites_of (record {
  flow_name = name;
  flow = (workflow_of c name).graph;
  base = bases_of c names;
  lists = [];
  awaited = true;
})

versions-one : (format : ℕ) (c d other : Holdings) (e : LogGroup) (kept more : List Kept) → IsRightHeld c
    → ActsAsVersion format c e d kept → ActsAsVersion format c e other more → IsOneAct d other kept more
versions-one format c d other e kept more right a b =
    let x : VersionBody = body_of a.one.number a.version a.one.stores in
    let y : VersionBody = body_of b.one.number b.version b.one.stores in
    let one = a.lawful.spelled in
    let two = b.lawful.spelled in
    let head = head-same x y (drop one.place e.body) (drop two.place e.body) one.short two.short
    (sym one.head.spelled ∙ two.head.spelled) in
    let sites : sites_of (version_said c y) ≡ sites_of (version_said c x) =
    ap₂ (sites_at c) (sym head.flow_name) (sym head.base) in
    let same : x ≡ y = bodies-one format (sites_of (version_said c x)) e.body x y
    (lawful-right format c x e.body right a.lawful) one
    (subst (λ (ss : List Site). IsBodyOf format ss y e.body) sites two) in
    let version : b.version ≡ a.version = b.said ∙ ap (version_said c) (sym same) ∙ sym a.said in
    let number : b.one.number ≡ a.one.number = ap (λ (z : VersionBody). z.number) (sym same) in
    let fit : Fit a.version b.one.stores = subst (λ (v : Version). Fit v b.one.stores) version b.fit in
    let parts : parts_of a.version.lists a.one.stores ≡ parts_of a.version.lists b.one.stores =
    ap (λ (z : VersionBody). z.nodes) same ∙ ap (λ (v : Version). parts_of v.lists b.one.stores) version in
    let stores = nodes-one (sites_of a.version) a.version.lists a.one.stores b.one.stores a.fit fit parts in
    record {
      held = b.held ∙ ap₂ (λ (n : ℕ) (v : Version). with_version c n v) number version ∙ sym a.held;
      stores =
          ap all_bare b.kept_is
          ∙ ap₂ (λ (n : ℕ) (ss : List (Option NodeLineage)).
          let k : Kept = record { number = n; stores = ss } in k ∷ []) number stores
          ∙ sym (ap all_bare a.kept_is);
    }

upgrades-one : (format : ℕ) (c d other : Holdings) (e : LogGroup) (kept more : List Kept)
    → ActsAsUpgrade format c e d kept → ActsAsUpgrade format c e other more → IsOneAct d other kept more
upgrades-one format c d other e kept more a b =
    record { held = b.held ∙ sym a.held; stores = ap all_bare (b.none ∙ sym a.none) }

acts-one : (format m n : ℕ) (c d other : Holdings) (e : LogGroup) (kept more : List Kept) → IsRightHeld c
    → Acts format c e m d kept → Acts format c e n other more → IsOneAct d other kept more
acts-one format m n c d other e kept more right (to, inl a) (too, inl b) = lines-one c d other e kept more a b
acts-one format m n c d other e kept more right (to, inl a) (too, inr (inl b)) =
    absurd (not-line-version format c d other e kept more a b)
acts-one format m n c d other e kept more right (to, inl a) (too, inr (inr b)) =
    absurd (not-line-upgrade format c d other e kept more a b)
acts-one format m n c d other e kept more right (to, inr (inl a)) (too, inl b) =
    absurd (not-line-version format c other d e more kept b a)
acts-one format m n c d other e kept more right (to, inr (inl a)) (too, inr (inl b)) =
    versions-one format c d other e kept more right a b
acts-one format m n c d other e kept more right (to, inr (inl a)) (too, inr (inr b)) =
    absurd (not-version-upgrade format c d other e kept more a b)
acts-one format m n c d other e kept more right (to, inr (inr a)) (too, inl b) =
    absurd (not-line-upgrade format c other d e more kept b a)
acts-one format m n c d other e kept more right (to, inr (inr a)) (too, inr (inl b)) =
    absurd (not-version-upgrade format c other d e more kept b a)
acts-one format m n c d other e kept more right (to, inr (inr a)) (too, inr (inr b)) =
    upgrades-one format c d other e kept more a b

-- and leaves one format
formats-one : (format m n : ℕ) (c d other : Holdings) (e : LogGroup) (kept more : List Kept)
    → Acts format c e m d kept → Acts format c e n other more → n ≡ m
formats-one format m n c d other e kept more a b = b.0 ∙ sym a.0

-- ---- one group stands at a place

stands-one : (disk : List ℕ) (at : ℕ) (e f : LogGroup) → Stands disk at e → Stands disk at f → e ≡ f
stands-one disk at e f one other =
    let both = sym one.0 ∙ other.0 in
    let kind : e.kind ≡ f.kind = cc in
    let long : length e.body ≡ length f.body = cc in
    let body : e.body ≡ f.body = sym one.1 ∙ ap (λ (n : ℕ). bytes_at disk (at + 10) n) long ∙ other.1 in
    ap₂ (λ (k : ℕ) (b : List ℕ). let z : LogGroup = record { kind = k; body = b } in z) kind body

-- ---- two walks go together

-- a group stands at a place and acts on what is held
abbrev GoesOn : List ℕ → ℕ → ℕ → Holdings → Type 0
GoesOn disk at format c = (e : LogGroup) × (after : ℕ) × (d : Holdings) × (kept : List Kept) × Stands disk at e
    × Acts format c e after d kept

-- both end at one place, with one format, one thing held and the same stores
record GoTogether (end next m n : ℕ) (d other : Holdings) (kept more : List Kept) : Type 0 where
  place : next ≡ end
  format : n ≡ m
  held : other ≡ d
  stores : all_bare more ≡ all_bare kept

-- or one goes on where the other ends
abbrev Compared : List ℕ → ℕ → ℕ → ℕ → ℕ → Holdings → Holdings → List Kept → List Kept → Type 0
Compared disk end next m n d other kept more =
    GoTogether end next m n d other kept more ⊎ (GoesOn disk end m d ⊎ GoesOn disk next n other)

goes-on : (disk : List ℕ) (at end f m after : ℕ) (c d mid : Holdings) (e : LogGroup) (first : List Kept) → at ≡ end
    → m ≡ f → d ≡ c → Stands disk at e → Acts f c e after mid first → GoesOn disk end m d
goes-on disk at end f m after c d mid e first place format held stands acts = (
  e,
  after,
  mid,
  first,
  subst (λ (n : ℕ). Stands disk n e) place stands,
  subst (λ (k : ℕ). Acts k d e after mid first) (sym format)
      (subst (λ (h : Holdings). Acts f h e after mid first) (sym held) acts),
)

-- more stores behind the same
compared-more : (disk : List ℕ) (end next m n : ℕ) (d other : Holdings) (a b first last kept more : List Kept)
    → all_bare b ≡ all_bare a → kept ≡ a ++ first → more ≡ b ++ last
    → Compared disk end next m n d other first last → Compared disk end next m n d other kept more
compared-more disk end next m n d other a b first last kept more same one two (inl both) =
    inl (record {
      place = both.place;
      format = both.format;
      held = both.held;
      stores =
          ap all_bare two ∙ map-append bare b last
          ∙ ap₂ (λ (xs ys : List Kept). xs ++ ys) same both.stores
          ∙ sym (map-append bare a first) ∙ sym (ap all_bare one);
    })
compared-more disk end next m n d other a b first last kept more same one two (inr apart) = inr apart

walk : (disk : List ℕ) (at end next f m n : ℕ) (es fs : List LogGroup) (c d other : Holdings) (kept more : List Kept)
    → IsRightHeld c → StandEach disk at es end → StandEach disk at fs next → ActEach f c es m d kept
    → ActEach f c fs n other more → Compared disk end next m n d other kept more
walk disk at end next f m n [] [] c d other kept more right one two first second =
    inl (record {
      place = sym two ∙ one;
      format = second.0 ∙ sym first.0;
      held = second.1 ∙ sym first.1;
      stores = ap all_bare (second.2 ∙ sym first.2);
    })
walk disk at end next f m n [] (x ∷ fs) c d other kept more right one two first second =
    inr (inl (goes-on disk at end f m second.0 c d second.1 x second.2 one first.0 first.1 two.0 second.4))
walk disk at end next f m n (e ∷ es) [] c d other kept more right one two first second =
    inr (inr (goes-on disk at next f n first.0 c other first.1 e first.2 two second.0 second.1 one.0 first.4))
walk disk at end next f m n (e ∷ es) (x ∷ fs) c d other kept more right one two first second =
    let same : x ≡ e = stands-one disk at x e two.0 one.0 in
    let acts : Acts f c e second.0 second.1 second.2 =
    subst (λ (y : LogGroup). Acts f c y second.0 second.1 second.2) same second.4 in
    let once = acts-one f first.0 second.0 c first.1 second.1 e first.2 second.2 right first.4 acts in
    let format = formats-one f first.0 second.0 c first.1 second.1 e first.2 second.2 first.4 acts in
    let each : ActEach first.0 first.1 fs n other second.3 =
    subst (λ (k : ℕ). ActEach k first.1 fs n other second.3) format
    (subst (λ (h : Holdings). ActEach second.0 h fs n other second.3) once.held second.5) in
    let there : StandEach disk (place_behind at e) fs next =
    subst (λ (y : LogGroup). StandEach disk (place_behind at y) fs next) same two.1 in
    compared-more disk end next m n d other first.2 second.2 first.3 second.3 kept more once.stores first.6 second.6
    (walk disk (place_behind at e) end next first.0 m n es fs first.1 d other first.3 second.3
    (acts-right f first.0 c first.1 e first.2 right first.4) one.1 there first.5 each)

-- ---- where a walk ends

-- behind a closed gate no group stands
closed-ends : (disk : List ℕ) (at format : ℕ) (c : Holdings) → group_on disk at ≡ group.Closed
    → GoesOn disk at format c → ⊥
closed-ends disk at format c closed more = let both = sym closed ∙ more.4.0 in cc

-- and none is bad
closed-good : (disk : List ℕ) (at format : ℕ) (c : Holdings) → group_on disk at ≡ group.Closed
    → IsBadAt disk at format c → ⊥
closed-good disk at format c closed (inl bad) = let both = sym closed ∙ bad in cc
closed-good disk at format c closed (inr bad) = let both = sym closed ∙ bad.1.0 in cc

-- a bad group does not act
bad-ends : (disk : List ℕ) (at format : ℕ) (c : Holdings) → IsBadAt disk at format c → GoesOn disk at format c → ⊥
bad-ends disk at format c (inl bad) more = let both = sym bad ∙ more.4.0 in cc
bad-ends disk at format c (inr bad) more =
    let same : more.0 ≡ bad.0 = stands-one disk at more.0 bad.0 more.4 bad.1 in
    bad.2 more.1 more.2 more.3 (subst (λ (x : LogGroup). Acts format c x more.1 more.2 more.3) same more.5)

-- what is read up to a closed gate stands up to there
reads-stand : (disk : List ℕ) (at end : ℕ) (es : List LogGroup) → Reads disk at es end → AreSpelled disk at es
    → StandEach disk at es end × (group_on disk end ≡ group.Closed)
reads-stand disk at end [] read spelled =
    (read.0, subst (λ (n : ℕ). group_on disk n ≡ group.Closed) read.0 read.1)
reads-stand disk at end (e ∷ es) read spelled =
    let rest = reads-stand disk (place_behind at e) end es read.2 spelled.1 in
    (((read.0, read.1, spelled.0), rest.0), rest.1)

-- ---- the laws

-- two readings of a well-made log agree, but for what the stores say of their pieces
pub made-one : WellMadeLogsAreReadInOneWay
made-one disk at next m n c d kept more one two =
    let first = reads-stand disk 16 at one.entries one.read one.spelled in
    let second = reads-stand disk 16 next two.entries two.read two.spelled in
    elim (walk disk 16 at next 1 m n one.entries two.entries no_holdings c d kept more nothing-right first.0 second.0
    one.acts two.acts) [
      | inl both ↦ (both.place, both.format, both.held, both.stores)
      | inr (inl on) ↦ absurd (closed-ends disk at m c first.1 on)
      | inr (inr on) ↦ absurd (closed-ends disk next n d second.1 on)
    ]

pub made-whole : WellMadeLogsAreNotBad
made-whole disk at place m c kept made bad =
    let first = reads-stand disk 16 at made.entries made.read made.spelled in
    elim (walk disk 16 at place 1 m bad.format made.entries bad.before.entries no_holdings c bad.c kept bad.kept
    nothing-right first.0 bad.before.stand made.acts bad.before.acts) [
      | inl both ↦ closed-good disk place bad.format bad.c
          (subst (λ (n : ℕ). group_on disk n ≡ group.Closed) (sym both.place) first.1) bad.bad
      | inr (inl on) ↦ closed-ends disk at m c first.1 on
      | inr (inr on) ↦ bad-ends disk place bad.format bad.c bad.bad on
    ]

pub bad-one : LogsAreFirstBadAtOnePlace
bad-one disk at place one two =
    elim (walk disk 16 at place 1 one.format two.format one.before.entries two.before.entries no_holdings one.c two.c
    one.kept two.kept nothing-right one.before.stand two.before.stand one.before.acts two.before.acts) [
      | inl both ↦ both.place
      | inr (inl on) ↦ absurd (bad-ends disk at one.format one.c one.bad on)
      | inr (inr on) ↦ absurd (bad-ends disk place two.format two.c two.bad on)
    ]
