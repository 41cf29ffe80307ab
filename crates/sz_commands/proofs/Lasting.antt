-- What commands make durable.
use Rattle.std.proofs.Common.{◌≡◌, ℕ, List, [], ◌∷◌, ◌++◌, Bool, true, false, refl, sym, ap, ◌∙◌, subst, arith}
use Rattle.std.proofs.Common.{Option, None, is_none, true≢false, if◌then◌else◌}
use Rattle.sz_outside.specs.declared.stations.Station.{Ghosts}
use Rattle.std.specs.Prelude.{Ok, ◌==◌}
use Rattle.sz_log.specs.Log.{LogGroup}
use Rattle.sz_spec.specs.Values.{Grid}
use Rattle.sz_script.specs.Reading.{reading}
use Rattle.sz_script.specs.declared.command.NewCell.{NewCell}
use Rattle.sz_writing.specs.Orders.{array_order}
use Rattle.sz_script.specs.declared.command.Command.{Command}
use Rattle.sz_script.specs.declared.command.Command.TheVariants as order
use Rattle.sz_catalogue.specs.Holdings.{Version, Holdings, next_number}
use Rattle.sz_catalogue.specs.Rules.{version_of, has_no_version, has_no_room_for_array, judged}
use Rattle.sz_catalogue.specs.Refreshes.{base_at, version_on, array_refreshed}
use Rattle.sz_catalogue.specs.Starts.{version_started}
use Rattle.sz_catalogue.specs.Merges.{is_merge_asked}
use Rattle.sz_catalogue.specs.Responses.{Response}
use Rattle.sz_catalogue.specs.Changes as changes
use Rattle.sz_catalogue.specs.Changes.{changes_no_version}
use Rattle.sz_catalogue.proofs.Numbers.{next-is_new}
use Rattle.sz_catalogue.proofs.Refreshed.{set-room, set-extent}
use Rattle.sz_recover.specs.Growing.{durable}
use Rattle.sz_recover.specs.Logs.{is_of_kind, version_kind}
use Rattle.sz_catalogue.specs.Order.{IsInOrder}
use Rattle.sz_recover.proofs.Durable.{starts-not-logged, awaits-once}
use Rattle.sz_commands.specs.States.{SessionState, LogPlace, apart, accepted}
use Rattle.sz_commands.specs.Logged.{lasts, HasLog, KeepsLog}
use Rattle.sz_versions.specs.Bodies.{IsSoundBody}
use Rattle.sz_commands.proofs.Logged.{rest-keeps, IsStep, await-step, line-step, step-alike}
use Rattle.sz_versions.proofs.Ordered.{catalogue-in-order}
use Rattle.sz_versions.proofs.Refreshes.{can-refresh}

-- a line that stands in groups of a kind changes no version
pub line-changes : (kind : ℕ) (command : Command) → is_of_kind kind command ≡ true → changes_no_version command ≡ true
line-changes kind (order.Array name array) own = refl
line-changes kind (order.Csv name array) own = refl
line-changes kind (order.Layers name array) own = refl
line-changes kind (order.Flow name flow) own = refl
line-changes kind (order.Strategy name node list) own = refl
line-changes kind _ own = absurd (true≢false (sym own))

-- a command that makes nothing durable changes nothing that is
pub rests-durable : (c : Holdings) (command : Command) → lasts command ≡ false
    → durable (changes.accepted c command).0 ≡ durable c
rests-durable c (order.Array name array) none = absurd (true≢false none)
rests-durable c (order.Csv name array) none = absurd (true≢false none)
rests-durable c (order.Layers name array) none = absurd (true≢false none)
rests-durable c (order.Flow name flow) none = absurd (true≢false none)
rests-durable c (order.Strategy name node list) none = absurd (true≢false none)
rests-durable c (order.Start name base) none =
    let new = next-is_new c.versions (next_number c) (omega arith) in
    starts-not-logged c (next_number c) (version_started c name base)
    (ap (λ (o : Option Version). is_none o) new) refl
rests-durable c (order.Refresh n i set) none = absurd (true≢false none)
rests-durable c (order.Await n) none = absurd (true≢false none)
rests-durable c (order.Merge n) none = by (is_merge_asked c n) where
  by : (b : Bool) → durable (if b then c else record c { merges = c.merges ++ n ∷ [] }) ≡ durable c
  by true = refl
  by false = refl
rests-durable c _ none = refl

-- what a session holds after a command is what its catalogue holds
pub accepted-held : (s : SessionState) (command : Command) → (accepted s command).0.held
    ≡ (changes.accepted s.held command).0
accepted-held s (order.Ask n dir path named) = refl
accepted-held s (order.Merged n) = refl
accepted-held s _ = refl

-- the first of what a command leaves, where that is known
pub left-held : (s d : SessionState) (command : Command) (r : Response) → accepted s command ≡ (d, r)
    → d.held ≡ (changes.accepted s.held command).0
left-held s d command r is = ap (λ (p : SessionState × Response). p.0.held) (sym is) ∙ accepted-held s command

-- so it is where that is known apart
pub left-apart : (s d : SessionState) (command : Command) (r : Response) → accepted (apart s) command ≡ (apart d, r)
    → d.held ≡ (changes.accepted s.held command).0
left-apart s d command r is = left-held (apart s) (apart d) command r is

-- ---- where the log ends

-- a session that makes nothing durable keeps its log
pub rests-keep : {X : Type 0} (T : Ghosts X) (s t : SessionState) (a : X) → HasLog T s.held s.end a → t.end ≡ s.end
    → durable t.held ≡ durable s.held → KeepsLog T s.held s.end t.held t.end a a
rests-keep {X} T s t a log place same =
    subst (λ (o : Option LogPlace). KeepsLog T s.held s.end t.held o a a) (sym place)
    (rest-keeps T s.held t.held s.end a same log)

-- so does a command that makes nothing durable
pub nothing-keeps : {X : Type 0} (T : Ghosts X) (s t : SessionState) (command : Command) (r : Response) (a : X)
    → HasLog T s.held s.end a → accepted (apart s) command ≡ (apart t, r) → t.end ≡ s.end → lasts command ≡ false
    → KeepsLog T s.held s.end t.held t.end a a
nothing-keeps {X} T s t command r a log is place none =
    rests-keep T s t a log place (ap durable (left-apart s t command r is) ∙ rests-durable s.held command none)

-- and a state that is left
pub same-keeps : {X : Type 0} (T : Ghosts X) (s t : SessionState) (a : X) → HasLog T s.held s.end a → t ≡ s
    → KeepsLog T s.held s.end t.held t.end a a
same-keeps {X} T s t a log is =
    rests-keep T s t a log (ap (λ (x : SessionState). x.end) is) (ap (λ (x : SessionState). durable x.held) is)

-- the body of a version that was not awaited, in a group of its kind
pub version-step : (format kind : ℕ) (c : Holdings) (n : ℕ) (body words : List ℕ) → kind ≡ version_kind format
    → words ≡ body → IsInOrder c → has_no_version c n ≡ false → (version_of c n).awaited ≡ false
    → IsSoundBody format n (version_of c n) body
    → IsStep format c (changes.with_await c n) (record { kind = kind; body = words })
version-step format kind c n body words own same in-order held off sound =
    let Step : ℕ → List ℕ → Type 0 = λ k bytes.
    IsStep format c (changes.with_await c n) (record { kind = k; body = bytes }) in
    subst (λ (k : ℕ). Step k words) (sym own)
    (subst (Step (version_kind format)) (sym same)
    (await-step format c n sound.stores body (catalogue-in-order c in-order) held off sound.fit sound.sound sound.is))

-- ---- a refresh

-- the line of an array holds it, in groups of kind 1
array-kind : (name : List ℕ) (g : Grid) → is_of_kind 1 (array_order name g) ≡ true
array-kind name g = by (g.extent.layers == 1) where
  by : (b : Bool) → is_of_kind 1 (if b then order.Array name g else order.Layers name g) ≡ true
  by true = refl
  by false = refl

array-held : (c : Holdings) (name : List ℕ) (g : Grid)
    → (changes.accepted c (array_order name g)).0 ≡ changes.with_array c name g
array-held c name g = by (g.extent.layers == 1) where
  by : (b : Bool) → (changes.accepted c (if b then order.Array name g else order.Layers name g)).0
      ≡ changes.with_array c name g
  by true = refl
  by false = refl

array-free : (c : Holdings) (name : List ℕ) (g : Grid) → has_no_room_for_array c g ≡ false
    → judged c (array_order name g) ≡ None
array-free c name g room = by (g.extent.layers == 1) where
  by : (b : Bool) → judged c (if b then order.Array name g else order.Layers name g) ≡ None
  by true = rw room refl
  by false = rw room refl

-- the version is not durable: it was not awaited
refresh-durable : (c : Holdings) (n i : ℕ) (g : Grid)
    → durable (changes.with_refreshed c n i g) ≡ durable (changes.with_array c (base_at (version_of c n) i).name g)
refresh-durable c n i g =
    let v = version_of c n in
    let new = next-is_new c.versions (next_number c) (omega arith) in
    starts-not-logged (changes.with_array c (base_at v i).name g) (next_number c) (version_on c v i g)
    (ap (λ (o : Option Version). is_none o) new) refl

-- the line of the array that a refresh makes
pub array-step : (format : ℕ) (c : Holdings) (n i : ℕ) (set : List NewCell) (line : List ℕ)
    → judged c (order.Refresh n i set) ≡ None
    → reading line ≡ Ok (array_order (base_at (version_of c n) i).name (array_refreshed (version_of c n) i set))
    → IsStep format c (changes.with_refreshed c n i (array_refreshed (version_of c n) i set))
    (record { kind = 1; body = line })
array-step format c n i set line free read =
    let v = version_of c n in
    let name = (base_at v i).name in
    let g = array_refreshed v i set in
    let e : LogGroup = record { kind = 1; body = line } in
    let can = can-refresh c n i set free in
    let room = set-room c n i g can.input (set-extent (base_at v i).array set) can.arrays in
    step-alike format c (changes.with_array c name g) (changes.with_refreshed c n i g) e (refresh-durable c n i g)
    (subst (λ (h : Holdings). IsStep format c h e) (array-held c name g)
    (line-step format c 1 line (array_order name g) read (array-kind name g) (array-free c name g room)))

-- ---- awaits

-- to await it again changes nothing that is durable
pub again-durable : (c : Holdings) (n : ℕ) → has_no_version c n ≡ false → (version_of c n).awaited ≡ true
    → durable (changes.with_await c n) ≡ durable c
again-durable c n held on = ap durable (awaits-once c n held on)
