-- One version more; at the end all.
use Rattle.std.proofs.Common.{◌≡◌, ◌<◌, ◌≤◌, ◌++◌, ◌∷◌, [], List, true, map, length, refl, sym, ap, ap₂, ◌∙◌, subst}
use Rattle.std.proofs.Common.{arith}
use Rattle.std.proofs.lemmas.List.{map-append, take_all}
use Rattle.std.proofs.lemmas.List.Elements.{All-nil, All-cons, All-append}
use Rattle.sz_recover.specs.Logs.{Kept}
use Rattle.sz_recover.specs.Opened.{IsEntryOf}
use Rattle.sz_versions.specs.Residents.{Resident, IsResident, kept_of}
use Rattle.sz_versions.proofs.Keeping.{one-taken}
use Rattle.sz_versions.proofs.recalled.recall_each.Goals as goal

-- a log gave it
abbrev IsLogged : Resident → Type 0
IsLogged r = r.logged ≡ true

pub loop-at-init : goal.loop-at-init
loop-at-init c = record {
  end = omega (arith, c.len-count.ensures, c.args.stores.ok.0);
  own = rw c.in_ok-recalled.ensures.items (All-nil (IsResident c.args.catalogue.now));
  logged = rw c.in_ok-recalled.ensures.items (All-nil IsLogged);
  kept = rw c.in_ok-recalled.ensures.items refl;
}

pub index-requires : goal.index-requires
index-requires c =
    omega (arith, c.loop-at-test.true, c.loop-at.invariant.end, c.args.stores.ok.0)

pub recall-requires : goal.recall-requires
recall-requires c =
    let few : c.loop-at.at < length c.args.stores.items =
    omega (arith, c.loop-at-test.true, c.loop-at.invariant.end) in
    subst (IsEntryOf c.args.catalogue.now) (sym c.index.ensures)
    (c.requires c.loop-at.at c.index.result.now few)

pub loop-at-preserved : goal.loop-at-preserved
loop-at-preserved c =
    let P = IsResident c.args.catalogue.now in
    let rs = c.loop-at.recalled.items in
    let x = c.in_ok-recall.field-0 in
    let ks = c.args.stores.items in
    let n = c.loop-at.at in
    let few : n < length ks = omega (arith, c.loop-at-test.true, c.loop-at.invariant.end) in
    let one = one-taken ks n c.index.result.now few c.index.ensures in
    record {
      end = c.loop-at.invariant.end;
      own = rw c.in_ok-push.ensures.items
          (All-append P rs (x ∷ []) c.loop-at.invariant.own (All-cons P x [] c.in_ok-recall.ensures.own (All-nil P)));
      logged = rw c.in_ok-push.ensures.items
          (All-append IsLogged rs (x ∷ []) c.loop-at.invariant.logged
          (All-cons IsLogged x [] c.in_ok-recall.ensures.logged (All-nil IsLogged)));
      kept = ap (λ (xs : List Resident). map kept_of xs) c.in_ok-push.ensures.items
          ∙ map-append kept_of rs (x ∷ [])
          ∙ ap₂ (λ (xs : List Kept) (k : Kept). xs ++ k ∷ []) c.loop-at.invariant.kept c.in_ok-recall.ensures.kept
          ∙ sym one;
    }

pub returns-clause-own : goal.returns-clause-own
returns-clause-own c = c.loop-at.invariant.own

pub returns-clause-logged : goal.returns-clause-logged
returns-clause-logged c = c.loop-at.invariant.logged

pub returns-clause-kept : goal.returns-clause-kept
returns-clause-kept c =
    let ks = c.args.stores.items in
    let all : length ks ≤ c.loop-at.at = omega (arith, c.loop-at-test.false, c.loop-at.invariant.end) in
    c.loop-at.invariant.kept ∙ take_all c.loop-at.at ks all
