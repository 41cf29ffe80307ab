-- A merge was asked of such versions alone as are held and were awaited, whatever a command does.
--
-- The key idea: no version is let go, none that was awaited is not awaited again, and the merge of one that was not is
-- refused.
use Rattle.std.proofs.Common.{◌≡◌, ℕ, List, [], ◌∷◌, ◌++◌, Bool, true, false, ◌==◌, if◌then◌else◌, refl, sym, ap, subst}
use Rattle.std.proofs.Common.{◌∙◌, Option, None, is_none, unwrap_or, inl, inr, eqb-true, true≢false}
use Rattle.std.specs.List.{list_any}
use Rattle.std.proofs.lemmas.Bool.{or_cases}
use Rattle.std.proofs.lemmas.List.Folds.{list_any-append}
use Rattle.sz_script.specs.declared.command.Command.{Command}
use Rattle.sz_script.specs.declared.command.Command.TheVariants as order
use Rattle.sz_script.specs.declared.refusal.Refusal.TheVariants as refusal
use Rattle.sz_catalogue.specs.Holdings.{Version, Holdings, version_numbered, no_version, next_number}
use Rattle.sz_catalogue.specs.Rules as rules
use Rattle.sz_catalogue.specs.Rules.{judged, has_no_version, version_of}
use Rattle.sz_catalogue.specs.Merges.{is_merge_asked, with_merge}
use Rattle.sz_catalogue.specs.Changes.{accepted, with_version, with_await, changes_no_version}
use Rattle.sz_versions.specs.Residents.{IsAwaited, AskedWereAwaited}
use Rattle.sz_versions.proofs.Keeps.{rule-fails, not_false}
use Rattle.sz_versions.proofs.Stays.{SameStay, insert-other, started-new, await-here, await-other}

-- one that is held as it was is awaited still
still-awaited : (c d : Holdings) (n : ℕ) → version_numbered d n ≡ version_numbered c n → IsAwaited c n → IsAwaited d n
still-awaited c d n same is = record {
  held = ap (λ (o : Option Version). is_none o) same ∙ is.held;
  awaited = ap (λ (o : Option Version). (unwrap_or o no_version).awaited) same ∙ is.awaited;
}

-- of none a merge was asked
pub asked-none : (c : Holdings) → c.merges ≡ [] → AskedWereAwaited c
asked-none c none n asked = absurd (true≢false (sym asked ∙ ap (λ (ms : List ℕ). list_any (λ m. m == n) ms) none))

-- no version changes, and of no more a merge is asked
pub asked-same : (c d : Holdings) → SameStay c d → d.merges ≡ c.merges → AskedWereAwaited c → AskedWereAwaited d
asked-same c d same merges all n asked =
    still-awaited c d n (same n) (all n (ap (λ (ms : List ℕ). list_any (λ m. m == n) ms) (sym merges) ∙ asked))

-- the merge of one is asked
asked-one : (c : Holdings) (m : ℕ) → IsAwaited c m → AskedWereAwaited c → AskedWereAwaited (with_merge c m)
asked-one c m own all = by (is_merge_asked c m) where
  by : (b : Bool) → AskedWereAwaited (if b then c else record c { merges = c.merges ++ m ∷ [] })
  by true = all
  by false = λ n asked.
      let d : Holdings = record c { merges = c.merges ++ m ∷ [] } in
      let both = sym (list_any-append (λ (k : ℕ). k == n) c.merges (m ∷ [])) ∙ asked in
      elim (or_cases (is_merge_asked c n) (list_any (λ (k : ℕ). k == n) (m ∷ [])) both) [
        | inl old ↦ still-awaited c d n refl (all n old)
        | inr new ↦
            let same : m ≡ n = one m n new in
            still-awaited c d n refl (subst (IsAwaited c) same own)
      ] where
        one : (m n : ℕ) → list_any (λ (k : ℕ). k == n) (m ∷ []) ≡ true → m ≡ n
        one m n is = elim (or_cases (m == n) (list_any (λ (k : ℕ). k == n) []) is) [
          | inl same ↦ eqb-true m n same
          | inr none ↦ absurd (true≢false (sym none))
        ]

-- a command that changes no version
pub asked-accepted : (c : Holdings) (command : Command) → changes_no_version command ≡ true
    → judged c command ≡ None → AskedWereAwaited c → AskedWereAwaited (accepted c command).0
asked-accepted c (order.Array name array) kind free all =
    asked-same c (accepted c (order.Array name array)).0 (λ n. refl) refl all
asked-accepted c (order.Csv name array) kind free all =
    asked-same c (accepted c (order.Csv name array)).0 (λ n. refl) refl all
asked-accepted c (order.Layers name array) kind free all =
    asked-same c (accepted c (order.Layers name array)).0 (λ n. refl) refl all
asked-accepted c (order.Flow name flow) kind free all =
    asked-same c (accepted c (order.Flow name flow)).0 (λ n. refl) refl all
asked-accepted c (order.Strategy name node list) kind free all =
    asked-same c (accepted c (order.Strategy name node list)).0 (λ n. refl) refl all
asked-accepted c (order.Plan name base units back forward) kind free all = all
asked-accepted c (order.Merge n) kind free all =
    let last = (rules.is_not_awaited c n, refusal.StillBuilt) ∷ [] in
    let held = rule-fails (has_no_version c n) refusal.NoSuchVersion last free in
    let built = rule-fails (rules.is_not_awaited c n) refusal.StillBuilt [] held.1 in
    asked-one c n (record { held = held.0; awaited = not_false _ built.0 }) all
asked-accepted c _ kind free all = absurd (true≢false (sym kind))

-- one version more
pub asked-more : (c : Holdings) (v : Version) → AskedWereAwaited c
    → AskedWereAwaited (with_version c (next_number c) v)
asked-more c v all n asked =
    let old = all n asked in
    still-awaited c (with_version c (next_number c) v) n (insert-other c.versions (next_number c) n v
    (λ is. true≢false (sym (started-new c) ∙ ap (has_no_version c) (sym is) ∙ old.held))) old

-- an await
pub asked-awaited : (c : Holdings) (m : ℕ) → has_no_version c m ≡ false → AskedWereAwaited c
    → AskedWereAwaited (with_await c m)
asked-awaited c m held all n asked = by (n == m) refl where
  by : (b : Bool) → (n == m) ≡ b → IsAwaited (with_await c m) n
  by true is =
      let found = await-here c m held in
      subst (IsAwaited (with_await c m)) (sym (eqb-true n m is)) (record {
        held = ap (λ (o : Option Version). is_none o) found;
        awaited = ap (λ (o : Option Version). (unwrap_or o no_version).awaited) found;
      })
  by false is = still-awaited c (with_await c m) n (await-other c m n is) (all n asked)
