-- The state that is seen of a catalogue, of what is carried, and of where a log ends.
use Rattle.std.proofs.Common.{◌≡◌, ℕ, List, [], ◌∷◌, ◌++◌, false, sym, ap, ◌∙◌, Option, None}
use Rattle.sz_script.specs.declared.command.Command.{Command}
use Rattle.sz_script.specs.declared.command.Command.TheVariants as order
use Rattle.sz_script.specs.declared.refusal.Refusal.TheVariants as refusal
use Rattle.sz_catalogue.specs.Holdings.{Holdings}
use Rattle.sz_catalogue.specs.Responses.{Response, merged}
use Rattle.sz_catalogue.specs.Rules.{judged, version_of, has_no_version}
use Rattle.sz_catalogue.specs.Changes as changes
use Rattle.sz_recover.specs.Logs.{Kept}
use Rattle.sz_versions.specs.Stores.{Trail}
use Rattle.sz_versions.specs.Residents.{Resident, IsInService, logged_in, logged_under, stored_in, replaced_in}
use Rattle.sz_versions.specs.Merging.{kinds_by}
use Rattle.sz_versions.proofs.Keeps.{rule-fails}
use Rattle.sz_versions.proofs.Residents.{logged-more, logged-replaced}
use Rattle.sz_commands.specs.States.{SessionState, LogPlace, apart, accepted}

abbrev pub seen : Holdings → List Resident → Option LogPlace → SessionState
seen c rs end = record { held = c; logged = logged_in rs; stored = stored_in rs; end = end }

-- what is seen apart of a catalogue and of the stores that a log gave, with a reply
abbrev pub told : List Kept → Holdings × Response → SessionState × Response
told ks p = (record { held = p.0; logged = ks; stored = []; end = None }, p.1)

-- a command that no rule refuses by what is seen, none refuses by what is held
pub free-inside : {s t : SessionState} (command : Command) → s ≡ t → judged t.held command ≡ None
    → judged s.held command ≡ None
free-inside command is free = ap (λ (x : SessionState). judged x.held command) is ∙ free

-- a version whose await no rule refuses is held
pub is-held : (c : Holdings) (n : ℕ) → judged c (order.Await n) ≡ None → has_no_version c n ≡ false
is-held c n none = (rule-fails (has_no_version c n) refusal.NoSuchVersion [] none).0

-- an await, with a trail in place of the one that its version had
pub seen-awaited : (c d : Holdings) (rs new : List Resident) (n : ℕ) (t : Trail) (r : Response) (end : Option LogPlace)
    → IsInService c rs → (version_of c n).awaited ≡ false → new ≡ replaced_in n t rs
    → (d, r) ≡ changes.accepted c (order.Await n)
    → accepted (apart (seen c rs end)) (order.Await n) ≡ (apart (seen d new end), r)
seen-awaited c d rs new n t r end service first replaced is =
    ap (told (logged_in rs)) (sym is)
    ∙ ap (λ (ks : List Kept). told ks (d, r))
    (sym (ap logged_in replaced ∙ logged-replaced c rs n t service.residents first))

-- a command that changes the catalogue alone, as a start and a refresh do, with one more that no log gave
pub seen-more : (c d : Holdings) (rs new : List Resident) (one : Resident) (command : Command) (r : Response)
    (end : Option LogPlace)
    → accepted (apart (seen c rs end)) command ≡ told (logged_in rs) (changes.accepted c command)
    → one.logged ≡ false → new ≡ rs ++ one ∷ [] → (d, r) ≡ changes.accepted c command
    → accepted (apart (seen c rs end)) command ≡ (apart (seen d new end), r)
seen-more c d rs new one command r end alone plain added is =
    alone
    ∙ ap (told (logged_in rs)) (sym is)
    ∙ ap (λ (ks : List Kept). told ks (d, r)) (sym (ap logged_in added ∙ logged-more rs one plain))

-- what a merge gave, of stores that no log gave or did
pub seen-merged : (c : Holdings) (rs new : List Resident) (n : ℕ) (kinds : List ℕ) (end : Option LogPlace)
    → logged_in new ≡ logged_in rs → kinds ≡ kinds_by (logged_under n (logged_in rs)) (version_of c n)
    → accepted (apart (seen c rs end)) (order.Merged n) ≡ (apart (seen c new end), merged n kinds)
seen-merged c rs new n kinds end same is =
    ap (λ (ks : List ℕ). told (logged_in rs) (c, merged n ks)) (sym is)
    ∙ ap (λ (ks : List Kept). told ks (c, merged n kinds)) (sym same)
