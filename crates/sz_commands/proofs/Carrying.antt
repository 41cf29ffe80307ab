-- What is kept of the nodes of versions, behind a command.
--
-- The key idea: what is seen of it is a list of entries, one for each that is carried, so that one more is one entry
-- more, and a trail in place of another changes the entry of its number alone.
use Rattle.std.proofs.Common.{◌≡◌, ◌==◌, ℕ, List, [], ◌∷◌, ◌++◌, map, Bool, true, false, refl, sym, ap, ◌∙◌, subst}
use Rattle.std.proofs.Common.{Option, Some, None, true≢false, eqb-true}
use Rattle.std.proofs.lemmas.List.{map-append}
use Rattle.std.proofs.lemmas.List.Elements.{All-cons, All-nil, All-head, All-tail}
use Rattle.std.specs.Prelude.{All, if◌then◌else◌, Result}
use Rattle.std.specs.List.{AllZip, list_all}
use Rattle.sz_spec.specs.declared.modes.Strategy.{Strategy}
use Rattle.sz_store.specs.Kept.{NodeLineage}
use Rattle.sz_flow.specs.Executions.{Execution}
use Rattle.sz_script.specs.Reading.{reading}
use Rattle.sz_script.specs.declared.command.Command.{Command}
use Rattle.sz_script.specs.declared.command.Command.TheVariants as order
use Rattle.sz_script.specs.declared.refusal.Refusal.{Refusal}
use Rattle.sz_catalogue.specs.Holdings.{Holdings, next_number}
use Rattle.sz_catalogue.specs.Responses.{Response}
use Rattle.sz_catalogue.specs.Rules.{judged, version_of}
use Rattle.sz_catalogue.specs.Changes.{changes_no_version}
use Rattle.sz_recover.specs.Logs.{is_of_kind}
use Rattle.sz_versions.specs.Stores.{Keeping, nothing, growing, whole, read, keeping_from, AreKeptOf, Trail}
use Rattle.sz_versions.specs.Residents.{Resident, IsResident, IsTrailBy, stores_read, replaced_in}
use Rattle.sz_versions.specs.Residents.{Stored, stored_of, stored_in}
use Rattle.sz_versions.proofs.Residents.{made_here}
use Rattle.sz_commands.specs.Lines.{is_blank}
use Rattle.sz_commands.specs.States.{SessionState, accepted}
use Rattle.sz_commands.specs.Carrying.{is_finished, is_given, AreGiven, IsFinishedIn, EntriesIf, EntriesRead}
use Rattle.sz_commands.specs.Carrying.{AddsEntry, EntriesOf, StoredBy, StoredAfter, StoredBehind}

-- ---- what a log gave

given-nodes : (stores : List (Option NodeLineage)) → list_all is_given (map stored_of (map keeping_from stores)) ≡ true
given-nodes [] = refl
given-nodes (None ∷ stores) = given-nodes stores
given-nodes (Some kept ∷ stores) = given-nodes stores

given-one : (c : Holdings) (r : Resident) → IsResident c r → r.logged ≡ true
    → list_all is_given (map stored_of r.trail.kept) ≡ true
given-one c r own is =
    let all = subst (λ (b : Bool). IsTrailBy b (version_of c r.number) r.trail) is own.own in
    ap (λ (ks : List Keeping). list_all is_given (map stored_of ks)) all.kept ∙ given-nodes (stores_read r.trail)

abbrev IsGivenEntry : ℕ × List Stored → Type 0
IsGivenEntry e = list_all is_given e.1 ≡ true

pub all-given : (c : Holdings) (rs : List Resident) → All (IsResident c) rs → All (λ (r : Resident). r.logged ≡ true) rs
    → AreGiven (stored_in rs)
all-given c [] own is = All-nil IsGivenEntry
all-given c (r ∷ rs) own is =
    let L : Resident → Type 0 = λ r. r.logged ≡ true in
    All-cons IsGivenEntry (r.number, map stored_of r.trail.kept) (stored_in rs)
    (given-one c r (All-head (IsResident c) r rs own) (All-head L r rs is))
    (all-given c rs (All-tail (IsResident c) r rs own) (All-tail L r rs is))

-- ---- one more

stored-more : (rs : List Resident) (r : Resident)
    → stored_in (rs ++ r ∷ []) ≡ stored_in rs ++ (r.number, map stored_of r.trail.kept) ∷ []
stored-more rs r = map-append _ rs (r ∷ [])

-- the one that is added under a number that is the next
pub next-added : {new : List Resident} {k m : ℕ} (rs : List Resident) (t : Trail) → new ≡ rs ++ made_here k t ∷ []
    → k ≡ m → new ≡ rs ++ made_here m t ∷ []
next-added rs t added is = added ∙ ap (λ (n : ℕ). rs ++ made_here n t ∷ []) is

-- so an entry is
pub entry-added : (c : Holdings) (rs new : List Resident) (t : Trail) → new ≡ rs ++ made_here (next_number c) t ∷ []
    → AddsEntry c (stored_in rs) (stored_in new)
entry-added c rs new t added =
    (map stored_of t.kept, ap stored_in added ∙ stored-more rs (made_here (next_number c) t))

-- ---- one that is awaited

-- what is kept of an awaited version is on no shelf
pub all-finished : (es : List Execution) (lists : List (List Strategy)) (ks : List Keeping) → AreKeptOf true es lists ks
    → list_all is_finished (map stored_of ks) ≡ true
all-finished [] [] [] own = refl
all-finished (e ∷ es) (list ∷ lists) (nothing ∷ ks) own = all-finished es lists ks own.1
all-finished (e ∷ es) (list ∷ lists) (whole kept ∷ ks) own = all-finished es lists ks own.1
all-finished (e ∷ es) (list ∷ lists) (growing z p ∷ ks) own = absurd (true≢false own.0.0)
all-finished (e ∷ es) (list ∷ lists) (read kept ∷ ks) own = absurd own.0
all-finished [] [] (k ∷ ks) own = absurd own
all-finished [] (list ∷ lists) ks own = absurd own
all-finished (e ∷ es) [] ks own = absurd own
all-finished (e ∷ es) (list ∷ lists) [] own = absurd own

finished-in : (n : ℕ) (t : Trail) (r : Resident) → list_all is_finished (map stored_of t.kept) ≡ true
    → (b : Bool) → (r.number == n) ≡ b
    → IsFinishedIn n (r.number, map stored_of r.trail.kept) (
      (if b then record { number = n; logged = false; trail = t } else r).number,
      map stored_of (if b then record { number = n; logged = false; trail = t } else r).trail.kept,
    )
finished-in n t r all true is = record {
  number = sym (eqb-true r.number n is);
  other = λ differs. absurd (true≢false (sym is ∙ differs));
  own = λ same. all;
}
finished-in n t r all false is = record {
  number = refl;
  other = λ differs. refl;
  own = λ same. absurd (true≢false (sym same ∙ is));
}

pub stored-finished : (n : ℕ) (t : Trail) (rs : List Resident) → list_all is_finished (map stored_of t.kept) ≡ true
    → AllZip (IsFinishedIn n) (stored_in rs) (stored_in (replaced_in n t rs))
stored-finished n t [] all = tt
stored-finished n t (r ∷ rs) all = (finished-in n t r all (r.number == n) refl, stored-finished n t rs all)

-- ---- commands that leave all

-- none that starts, refreshes or awaits, or tells what a merge gave
abbrev pub leaves_stored : Command → Bool
leaves_stored (order.Start name base) = false
leaves_stored (order.Refresh n i set) = false
leaves_stored (order.Await n) = false
leaves_stored (order.Merged n) = false
leaves_stored _ = true

pub stored-left : (s t : SessionState) (command : Command) (r : Response) → leaves_stored command ≡ true
    → accepted s command ≡ (t, r) → StoredBy s command t
stored-left s t (order.Start name base) r kind is = absurd (true≢false (sym kind))
stored-left s t (order.Refresh n i set) r kind is = absurd (true≢false (sym kind))
stored-left s t (order.Await n) r kind is = absurd (true≢false (sym kind))
stored-left s t (order.Merged n) r kind is = absurd (true≢false (sym kind))
stored-left s t _ r kind is = ap (λ (p : SessionState × Response). p.0.stored) (sym is)

-- nor is one that changes no version
pub no-version-leaves : (command : Command) → changes_no_version command ≡ true → leaves_stored command ≡ true
no-version-leaves (order.Start name base) kind = kind
no-version-leaves (order.Refresh n i set) kind = kind
no-version-leaves (order.Await n) kind = kind
no-version-leaves (order.Merged n) kind = kind
no-version-leaves _ kind = refl

-- a line of a group is of such a one
pub line-leaves : (kind : ℕ) (command : Command) → is_of_kind kind command ≡ true → leaves_stored command ≡ true
line-leaves kind (order.Start name base) own = own
line-leaves kind (order.Refresh n i set) own = own
line-leaves kind (order.Await n) own = own
line-leaves kind (order.Merged n) own = own
line-leaves kind _ own = refl

-- ---- lines

-- a command that no rule refuses, and one that a rule refuses
pub stored-taken : (s t : SessionState) (command : Command) → judged s.held command ≡ None → StoredBy s command t
    → StoredAfter s command t
stored-taken s t command free by =
    subst (λ (o : Option Refusal). EntriesIf s.held command o s.stored t.stored) (sym free) by

pub stored-refused : (s t : SessionState) (command : Command) (rule : Refusal) → judged s.held command ≡ Some rule
    → t.stored ≡ s.stored → StoredAfter s command t
stored-refused s t command rule is same =
    subst (λ (o : Option Refusal). EntriesIf s.held command o s.stored t.stored) (sym is) same

-- a blank line, and one that is read as something
pub stored-blank : (s t : SessionState) (line : List ℕ) → is_blank line ≡ true → t.stored ≡ s.stored
    → StoredBehind s line t
stored-blank s t line blank same =
    subst (λ (b : Bool). EntriesOf b s.held (reading line) s.stored t.stored) (sym blank) same

pub stored-read : (s t : SessionState) (line : List ℕ) (said : Result Command Refusal) → is_blank line ≡ false
    → reading line ≡ said → EntriesRead s.held said s.stored t.stored → StoredBehind s line t
stored-read s t line said full is by =
    subst (λ (b : Bool). EntriesOf b s.held (reading line) s.stored t.stored) (sym full)
    (subst (λ (r : Result Command Refusal). EntriesRead s.held r s.stored t.stored) (sym is) by)
