-- What a group does to what is held.
--
-- The key idea: a version's group is no line, one of kind 5 is neither, and any other group is no version, so a group
-- acts in one way at most.
use Rattle.std.proofs.Common.{◌≡◌, ◌==◌, ℕ, List, [], refl, sym, ap, subst, ◌∙◌, inl, inr, Bool, true, false}
use Rattle.std.proofs.Common.{true≢false, Option, Some, None}
use Rattle.std.specs.Prelude.{if◌then◌else◌, Result, Ok, Err}
use Rattle.std.proofs.lemmas.Bool.{eqb-true}
use Rattle.sz_log.specs.Log.{LogGroup}
use Rattle.sz_spec.specs.declared.modes.Strategy.{Strategy}
use Rattle.sz_spec.specs.Values.{Grid}
use Rattle.sz_spec.specs.Flows.{Graph}
use Rattle.sz_script.specs.Reading.{reading}
use Rattle.sz_script.specs.declared.command.Command.{Command}
use Rattle.sz_script.specs.declared.command.Command.TheVariants as command
use Rattle.sz_script.specs.declared.refusal.Refusal.{Refusal}
use Rattle.sz_catalogue.specs.Holdings.{Holdings}
use Rattle.sz_catalogue.specs.Rules.{judged}
use Rattle.sz_catalogue.specs.Changes.{accepted}
use Rattle.sz_bodies.specs.Fitting.{body_of}
use Rattle.sz_recover.specs.Logs.{Kept, Acts, ActsAsVersion, IsBad, held_by, held_behind, is_of_kind, version_kind}
use Rattle.sz_recover.specs.Logs.{format_behind}
use Rattle.sz_bodies.specs.Taking.{NoneIsLawful}

abbrev pub entry_of : ℕ → List ℕ → LogGroup
entry_of kind body = record { kind = kind; body = body }

-- ---- lines

-- what holds of arrays, given in each way, of flows and of lists of strategies holds of each command of a group's kind
pub each-kind : (P : Command → Type 0) → ((name : List ℕ) (array : Grid) → P (command.Array name array))
    → ((name : List ℕ) (array : Grid) → P (command.Csv name array))
    → ((name : List ℕ) (array : Grid) → P (command.Layers name array))
    → ((name : List ℕ) (flow : Graph) → P (command.Flow name flow))
    → ((name : List ℕ) (node : ℕ) (list : List Strategy) → P (command.Strategy name node list)) → (kind : ℕ)
    (order : Command) → is_of_kind kind order ≡ true → P order
each-kind P array csv layers flow list kind (command.Array n a) is = array n a
each-kind P array csv layers flow list kind (command.Csv n a) is = csv n a
each-kind P array csv layers flow list kind (command.Layers n a) is = layers n a
each-kind P array csv layers flow list kind (command.Flow n f) is = flow n f
each-kind P array csv layers flow list kind (command.Strategy n k l) is = list n k l
each-kind P array csv layers flow list kind _ is = absurd (true≢false (sym is))

-- a line that is taken
pub line-held : (c d : Holdings) (kind : ℕ) (body : List ℕ) (order : Command) → reading body ≡ Ok order
    → is_of_kind kind order ≡ true → judged c order ≡ None → d ≡ (accepted c order).0
    → held_behind c (entry_of kind body) ≡ Some d
line-held c d kind body order read own free is =
    ap (held_by c kind) read ∙ rw (own, free) (ap (λ (h : Holdings). Some h) (sym is))

-- a line that is no command, one of another kind, and one that is refused
pub line-none : (c : Holdings) (kind : ℕ) (body : List ℕ) (rule : Refusal) → reading body ≡ Err rule
    → held_behind c (entry_of kind body) ≡ None
line-none c kind body rule read = ap (held_by c kind) read

pub line-other : (c : Holdings) (kind : ℕ) (body : List ℕ) (order : Command) → reading body ≡ Ok order
    → is_of_kind kind order ≡ false → held_behind c (entry_of kind body) ≡ None
line-other c kind body order read other = ap (held_by c kind) read ∙ rw other refl

pub line-refused : (c : Holdings) (kind : ℕ) (body : List ℕ) (order : Command) (rule : Refusal)
    → reading body ≡ Ok order → is_of_kind kind order ≡ true → judged c order ≡ Some rule
    → held_behind c (entry_of kind body) ≡ None
line-refused c kind body order rule read own refused = ap (held_by c kind) read ∙ rw (own, refused) refl

-- ---- groups

-- no line has the kind of a version's group, nor kind 5
no-line-of : (kind : ℕ) → ((order : Command) → is_of_kind kind order ≡ false) → (c : Holdings)
    (r : Result Command Refusal) → held_by c kind r ≡ None
no-line-of kind other c (Err rule) = refl
no-line-of kind other c (Ok order) = rw (other order) refl

-- so of any kind but 1, 2 and 3
of-kind : (kind : ℕ) → (kind == 1) ≡ false → (kind == 2) ≡ false → (kind == 3) ≡ false → (order : Command)
    → is_of_kind kind order ≡ false
of-kind kind one two three (command.Array name array) = one
of-kind kind one two three (command.Csv name array) = one
of-kind kind one two three (command.Layers name array) = one
of-kind kind one two three (command.Flow name flow) = two
of-kind kind one two three (command.Strategy name node list) = three
of-kind kind one two three _ = refl

of-version-kind : (format : ℕ) (order : Command) → is_of_kind (version_kind format) order ≡ false
of-version-kind format order = by (format == 2) where
  by : (b : Bool) → is_of_kind (if b then 6 else 4) order ≡ false
  by true = of-kind 6 refl refl refl order
  by false = of-kind 4 refl refl refl order

pub version-no-line : (format : ℕ) (c : Holdings) (r : Result Command Refusal)
    → held_by c (version_kind format) r ≡ None
version-no-line format c r = no-line-of (version_kind format) (of-version-kind format) c r

pub upgrade-no-line : (c : Holdings) (r : Result Command Refusal) → held_by c 5 r ≡ None
upgrade-no-line c r = no-line-of 5 (of-kind 5 refl refl refl) c r

-- the kind of a version's group is not 5
version-not-5 : (format : ℕ) → (version_kind format == 5) ≡ false
version-not-5 format = by (format == 2) where
  by : (b : Bool) → ((if b then 6 else 4) == 5) ≡ false
  by true = refl
  by false = refl

pub version-no-upgrade : (format : ℕ) → version_kind format ≡ 5 → ⊥
version-no-upgrade format is =
    true≢false (sym (ap (λ (k : ℕ). k == 5) is) ∙ version-not-5 format)

-- so the format stays behind it
pub version-stays : (format : ℕ) (body : List ℕ) → format ≡ format_behind format (entry_of (version_kind format) body)
version-stays format body = sym (ap (λ (b : Bool). if b then 2 else format) (version-not-5 format))

-- and behind a line
pub kind-stays : (format kind : ℕ) (order : Command) (body : List ℕ) → is_of_kind kind order ≡ true
    → format ≡ format_behind format (entry_of kind body)
kind-stays format kind order body is = by (kind == 5) refl where
  by : (b : Bool) → (kind == 5) ≡ b → format ≡ (if b then 2 else format)
  by false other = refl
  by true same =
      absurd (true≢false (sym is ∙ ap (λ (k : ℕ). is_of_kind k order) (eqb-true kind 5 same)
      ∙ of-kind 5 refl refl refl order))

-- and behind any other group than one of kind 5
pub other-stays : (format kind : ℕ) (body : List ℕ) → (kind ≡ 5 → ⊥)
    → format ≡ format_behind format (entry_of kind body)
other-stays format kind body other = by (kind == 5) refl where
  by : (b : Bool) → (kind == 5) ≡ b → format ≡ (if b then 2 else format)
  by false apart = refl
  by true same = absurd (other (eqb-true kind 5 same))

pub none-some : {X : Type 0} (o : Option X) (x : X) → o ≡ None → o ≡ Some x → ⊥
none-some o x none some = let clash = sym none ∙ some in cc

pub line-acts : (format : ℕ) (c d : Holdings) (e : LogGroup) → held_behind c e ≡ Some d
    → Acts format c e (format_behind format e) d []
line-acts format c d e is = (refl, inl (record { held = is; none = refl }))

pub line-bad : (format : ℕ) (c : Holdings) (e : LogGroup) → (e.kind ≡ version_kind format → ⊥) → (e.kind ≡ 5 → ⊥)
    → held_behind c e ≡ None → IsBad format c e
line-bad format c e other more none after d kept (to, inl l) = none-some (held_behind c e) d none l.held
line-bad format c e other more none after d kept (to, inr (inl v)) = other v.kind
line-bad format c e other more none after d kept (to, inr (inr u)) = more u.kind

pub version-bad : (format : ℕ) (c : Holdings) (body : List ℕ) → NoneIsLawful format c body
    → IsBad format c (entry_of (version_kind format) body)
version-bad format c body none after d kept (to, inl l) =
    none-some (held_behind c (entry_of (version_kind format) body)) d (version-no-line format c (reading body)) l.held
version-bad format c body none after d kept (to, inr (inl v)) =
    none (body_of v.one.number v.version v.one.stores) v.lawful
version-bad format c body none after d kept (to, inr (inr u)) = version-no-upgrade format u.kind

-- a version's group acts, and leaves the format
pub version-acts : (format kind : ℕ) (c d : Holdings) (body : List ℕ) (kept : List Kept)
    → kind ≡ version_kind format → ActsAsVersion format c (entry_of (version_kind format) body) d kept
    → Acts format c (entry_of kind body) format d kept
version-acts format kind c d body kept is acts =
    subst (λ (k : ℕ). Acts format c (entry_of k body) format d kept) (sym is)
    (version-stays format body, inr (inl acts))

-- a group of kind 5 that has bytes, or stands in a log of another format than 1
pub upgrade-bad : (format : ℕ) (c : Holdings) (body : List ℕ) → (format ≡ 1 → body ≡ [] → ⊥)
    → IsBad format c (entry_of 5 body)
upgrade-bad format c body other after d kept (to, inl l) =
    none-some (held_behind c (entry_of 5 body)) d (upgrade-no-line c (reading body)) l.held
upgrade-bad format c body other after d kept (to, inr (inl v)) = version-no-upgrade format (sym v.kind)
upgrade-bad format c body other after d kept (to, inr (inr u)) = other u.first u.bare

-- the first one acts where it is bare
pub upgraded : (format after kind : ℕ) (c : Holdings) (body : List ℕ) → kind ≡ 5
    → (format ≡ 1) × (after ≡ 2) × (body ≡ []) → Acts format c (entry_of kind body) after c []
upgraded format after kind c body is own =
    subst (λ (k : ℕ). Acts format c (entry_of k body) after c []) (sym is)
    (own.1, inr (inr (record { kind = refl; bare = own.2; first = own.0; held = refl; none = refl })))

pub upgrade-acts : (c : Holdings) → Acts 1 c (entry_of 5 []) 2 c []
upgrade-acts c = (refl, inr (inr (record { kind = refl; bare = refl; first = refl; held = refl; none = refl })))
