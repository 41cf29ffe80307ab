-- What is held but for the versions that were not awaited. The key idea: the versions stand in the order of their
-- numbers, so a version that is awaited comes to stand where it is put in.
use Rattle.std.proofs.Common.{◌≡◌, ℕ, ◌+◌, ◌≤◌, ◌<◌, List, [], ◌∷◌, length, refl, sym, ap, subst, ◌∙◌, arith}
use Rattle.std.proofs.Common.{true, false, Bool, ◌&&◌, cond, nat_lt, nat_le, Option, Some, None, is_none, unwrap_or}
use Rattle.std.proofs.Common.{true≢false, filter}
use Rattle.std.specs.Cmp.{ranked}
use Rattle.std.specs.List.{sum_by, AllByRecursion}
use Rattle.std.specs.List.Sorted.{IsStrictlySortedBy}
use Rattle.std.specs.Map.{lookup, set_value, keys_of, values_of}
use Rattle.std.specs.BTreeMap.{is_at, insert_entry}
use Rattle.std.specs.Ordering.{nat_cmp, is_eq, match_ordering}
use Rattle.std.specs.declared.cmp.Ordering.{Ordering}
use Rattle.std.specs.declared.cmp.Ordering.TheVariants.{Less, Equal, Greater}
use Rattle.std.proofs.lemmas.Bool.Decides.{nat_tests}
use Rattle.std.proofs.lemmas.Cmp.{nat_cmp_total, eq_by_cmp_equiv}
use Rattle.std.proofs.lemmas.List.Sums.{sum_by-cons}
use Rattle.std.proofs.lemmas.Map.{lookup-none}
use Rattle.std.proofs.lemmas.Map.Entries.{none_below_head, lookup-filter-values, option_filter}
use Rattle.std.proofs.lemmas.Map.Keys.{IsDistinct-from_sorted, sorted_tail}
use Rattle.std.proofs.lemmas.Map.Steps.{set_value_same}
use Rattle.sz_catalogue.specs.Holdings.{Version, Holdings, output_cells, no_version, version_numbered, held_cells}
use Rattle.sz_catalogue.specs.Rules.{version_of, has_no_version, most_cells, most_versions}
use Rattle.sz_bodies.specs.Lawful.{CanBeAdded}
use Rattle.sz_recover.specs.Growing.{durable, IsInOrder, AwaitsAreOnce, StartsAreNotLogged}

abbrev pub settled : List (ℕ × Version) → List (ℕ × Version)
settled es = filter (λ (e : ℕ × Version). e.1.awaited) es

abbrev cells : List (ℕ × Version) → ℕ
cells es = sum_by output_cells (values_of es)

-- ---- an await

-- a number below all others is put in front
put-front : (es : List (ℕ × Version)) (n : ℕ) (w : Version)
    → AllByRecursion (λ (q : ℕ). nat_cmp n q ≡ Less) (keys_of es)
    → insert_entry nat_cmp (settled es) n w ≡ (n, w) ∷ settled es
put-front [] n w all = refl
put-front (e ∷ es) n w all = by e.1.awaited (put-front es n w all.1) where
  here : insert_entry nat_cmp (e ∷ settled es) n w ≡ (n, w) ∷ e ∷ settled es
  here = ap
      (λ (o : Ordering). match_ordering o ((n, w) ∷ e ∷ settled es) ((e.0, w) ∷ settled es)
      (e ∷ insert_entry nat_cmp (settled es) n w)) all.0

  by : (b : Bool) → insert_entry nat_cmp (settled es) n w ≡ (n, w) ∷ settled es
      → insert_entry nat_cmp (cond b (e ∷ settled es) (settled es)) n w ≡ (n, w) ∷ cond b (e ∷ settled es) (settled es)
  by true later = here
  by false later = later

pub await-settled : (es : List (ℕ × Version)) (n : ℕ) (v w : Version) → v.awaited ≡ false → w.awaited ≡ true
    → IsStrictlySortedBy nat_cmp (keys_of es) → lookup (is_at (nat_cmp n)) es ≡ Some v
    → settled (set_value (is_at (nat_cmp n)) es w) ≡ insert_entry nat_cmp (settled es) n w
unfolding IsStrictlySortedBy
await-settled [] n v w off on rising found = cc
await-settled (e ∷ es) n v w off on rising found =
    by (nat_cmp n e.0) refl found (await-settled es n v w off on (sorted_tail nat_cmp e.0 (keys_of es) rising)) where
      kept : nat_cmp n e.0 ≡ Greater → (b : Bool) (there : List (ℕ × Version))
          → there ≡ insert_entry nat_cmp (settled es) n w
          → cond b (e ∷ there) there ≡ insert_entry nat_cmp (cond b (e ∷ settled es) (settled es)) n w
      kept above true there same =
          ap (λ (xs : List (ℕ × Version)). e ∷ xs) same
          ∙ sym (ap
          (λ (o : Ordering). match_ordering o ((n, w) ∷ e ∷ settled es) ((e.0, w) ∷ settled es)
          (e ∷ insert_entry nat_cmp (settled es) n w)) above)
      kept above false there same = same

      by : (r : Ordering) → r ≡ nat_cmp n e.0 → cond (is_eq r) (Some e.1) (lookup (is_at (nat_cmp n)) es) ≡ Some v
          → (lookup (is_at (nat_cmp n)) es ≡ Some v
          → settled (set_value (is_at (nat_cmp n)) es w) ≡ insert_entry nat_cmp (settled es) n w)
          → settled (cond (is_eq r) ((e.0, w) ∷ es) (e ∷ set_value (is_at (nat_cmp n)) es w))
          ≡ insert_entry nat_cmp (settled (e ∷ es)) n w
      by Less is here later =
          let none = lookup-none (is_at (nat_cmp n)) (e ∷ es) (none_below_head nat_cmp_total n e es rising (sym is)) in
          let clash = sym none ∙ found in
          cc
      by Equal is here later =
          let same : n ≡ e.0 = ranked n e.0 Equal is in
          let own : e.1 ≡ v = cc in
          let out : settled (e ∷ es) ≡ settled es =
          ap (λ (b : Bool). cond b (e ∷ settled es) (settled es)) (ap (λ (x : Version). x.awaited) own ∙ off) in
          let first =
          subst (λ (k : ℕ). AllByRecursion (λ (q : ℕ). nat_cmp k q ≡ Less) (keys_of es)) (sym same) rising.0 in
          ap (λ (b : Bool). cond b ((e.0, w) ∷ settled es) (settled es)) on
          ∙ ap (λ (k : ℕ). (k, w) ∷ settled es) (sym same) ∙ sym (put-front es n w first)
          ∙ ap (λ (xs : List (ℕ × Version)). insert_entry nat_cmp xs n w) (sym out)
      by Greater is here later =
          kept (sym is) e.1.awaited (settled (set_value (is_at (nat_cmp n)) es w)) (later here)

-- the number is then a new one among those that were awaited
pub settled-new : (es : List (ℕ × Version)) (n : ℕ) (v : Version) → v.awaited ≡ false
    → IsStrictlySortedBy nat_cmp (keys_of es) → lookup (is_at (nat_cmp n)) es ≡ Some v
    → lookup (is_at (nat_cmp n)) (settled es) ≡ None
settled-new es n v off rising found =
    lookup-filter-values (eq_by_cmp_equiv nat_cmp_total) (λ (x : Version). x.awaited) n es
    (IsDistinct-from_sorted nat_cmp (keys_of es) rising)
    ∙ ap (option_filter (λ (x : Version). x.awaited)) found
    ∙ ap (λ (b : Bool). cond b (Some v) None) off

-- ---- counts

-- those of the one and so many more are no more than the other, and have so many cells less
pub record AreLess (many size : ℕ) (es fs : List (ℕ × Version)) : Type 0 where
  pub many_less : length es + many ≤ length fs
  pub size_less : cells es + size ≤ cells fs

-- one more, that passes a test or does not
one-less : (test : ℕ × Version → Bool) (e : ℕ × Version) (es : List (ℕ × Version)) (many size : ℕ)
    → AreLess many size (filter test es) es → (b : Bool)
    → AreLess many size (cond b (e ∷ filter test es) (filter test es)) (e ∷ es)
one-less test e es many size less true = record {
  many_less = omega (arith, less.many_less);
  size_less = omega (
    arith,
    less.size_less,
    sum_by-cons output_cells e.1 (values_of (filter test es)),
    sum_by-cons output_cells e.1 (values_of es),
  );
}
one-less test e es many size less false = record {
  many_less = omega (arith, less.many_less);
  size_less = omega (arith, less.size_less, sum_by-cons output_cells e.1 (values_of es));
}

passed-less : (test : ℕ × Version → Bool) (es : List (ℕ × Version)) → AreLess 0 0 (filter test es) es
passed-less test [] = record { many_less = omega arith; size_less = omega arith }
passed-less test (e ∷ es) = one-less test e es 0 0 (passed-less test es) (test e)

-- with a version that does not pass the test they are no more than before
pub passed-without : (test : ℕ × Version → Bool) (es : List (ℕ × Version)) (n : ℕ) (v : Version)
    → ((e : ℕ × Version) → is_at (nat_cmp n) e.0 ≡ true → e.1 ≡ v → test e ≡ false)
    → lookup (is_at (nat_cmp n)) es ≡ Some v → AreLess 1 (output_cells v) (filter test es) es
passed-without test [] n v out found = cc
passed-without test (e ∷ es) n v out found =
    by (is_at (nat_cmp n) e.0) refl found (passed-without test es n v out) where
      gone : AreLess 0 0 (filter test es) es → e.1 ≡ v → (b : Bool) → b ≡ false
          → AreLess 1 (output_cells v) (cond b (e ∷ filter test es) (filter test es)) (e ∷ es)
      gone rest own true off = absurd (true≢false off)
      gone rest own false off = record {
        many_less = omega (arith, rest.many_less);
        size_less = omega (arith, rest.size_less, sum_by-cons output_cells e.1 (values_of es), ap output_cells own);
      }

      by : (b : Bool) → is_at (nat_cmp n) e.0 ≡ b → cond b (Some e.1) (lookup (is_at (nat_cmp n)) es) ≡ Some v
          → (lookup (is_at (nat_cmp n)) es ≡ Some v → AreLess 1 (output_cells v) (filter test es) es)
          → AreLess 1 (output_cells v) (filter test (e ∷ es)) (e ∷ es)
      by true is here later =
          let own : e.1 ≡ v = cc in gone (passed-less test es) own (test e) (out e is own)
      by false is here later = one-less test e es 1 (output_cells v) (later here) (test e)

-- what a log holds has no more cells than what a session holds
pub durable-cells : (c : Holdings) → held_cells (durable c) ≤ held_cells c
durable-cells c = omega (arith, (passed-less (λ (e : ℕ × Version). e.1.awaited) c.versions).size_less)

pub durable-less : (c : Holdings) (n : ℕ) (v : Version) → v.awaited ≡ false → version_numbered c n ≡ Some v
    → AreLess 1 (output_cells v) (durable c).versions c.versions
durable-less c n v off found =
    passed-without (λ (e : ℕ × Version). e.1.awaited) c.versions n v
    (λ e at own. ap (λ (x : Version). x.awaited) own ∙ off) found

-- ---- the version of a number

pub version-found : (c : Holdings) (n : ℕ) → has_no_version c n ≡ false → version_numbered c n ≡ Some (version_of c n)
version-found c n some = by (version_numbered c n) some where
  by : (o : Option Version) → is_none o ≡ false → o ≡ Some (unwrap_or o no_version)
  by None some = absurd (true≢false some)
  by (Some v) some = refl

room-there : (many most size room : ℕ) → many < most → size ≤ room → (nat_lt many most && nat_le size room) ≡ true
room-there many most size room lt le = grind (arith, nat_tests)

-- A version of what is held can be added to all else that is, where its number is new among other versions, which are
-- less by it.
pub can-be-added : (c : Holdings) (es : List (ℕ × Version)) (merges : List ℕ) (n : ℕ) (v : Version) → IsInOrder c
    → version_numbered c n ≡ Some v → is_none (lookup (is_at (nat_cmp n)) es) ≡ true
    → AreLess 1 (output_cells v) es c.versions → CanBeAdded (record c { versions = es; merges = merges }) n v
can-be-added c es merges n v order found new less =
    let own = order.each n v found in
    let d : Holdings = record c { versions = es; merges = merges } in
    record {
      some = own.some;
      new = new;
      names = own.names;
      flow = own.flow;
      base = own.base;
      count = own.count;
      fits = own.fits;
      lists = own.lists;
      room =
          room-there (length es) most_versions (held_cells d + output_cells v) most_cells
          (omega (arith, less.many_less, order.few)) (omega (arith, less.size_less, order.few_cells));
    }

pub awaits-once : AwaitsAreOnce
awaits-once c n some on =
    let found = version-found c n some in
    let v : Version = version_of c n in
    let same : v ≡ record v { awaited = true } = ap (λ (b : Bool). record v { awaited = b }) on in
    ap (λ (es : List (ℕ × Version)). record c { versions = es })
    (set_value_same (is_at (nat_cmp n)) c.versions (record v { awaited = true })
    (found ∙ ap (λ (x : Version). Some x) same))

-- ---- a start

start-settled : (es : List (ℕ × Version)) (n : ℕ) (v : Version) → v.awaited ≡ false
    → lookup (is_at (nat_cmp n)) es ≡ None → settled (insert_entry nat_cmp es n v) ≡ settled es
start-settled [] n v off none = ap (λ (b : Bool). cond b ((n, v) ∷ []) []) off
start-settled (e ∷ es) n v off none = by (nat_cmp n e.0) none (start-settled es n v off) where
  by : (r : Ordering) → cond (is_eq r) (Some e.1) (lookup (is_at (nat_cmp n)) es) ≡ None
      → (lookup (is_at (nat_cmp n)) es ≡ None → settled (insert_entry nat_cmp es n v) ≡ settled es)
      → settled (match_ordering r ((n, v) ∷ e ∷ es) ((e.0, v) ∷ es) (e ∷ insert_entry nat_cmp es n v))
      ≡ settled (e ∷ es)
  by Less here later = ap (λ (b : Bool). cond b ((n, v) ∷ settled (e ∷ es)) (settled (e ∷ es))) off
  by Equal here later = cc
  by Greater here later =
      ap (λ (xs : List (ℕ × Version)). cond e.1.awaited (e ∷ xs) xs) (later here)

none-from : {X : Type 0} (o : Option X) → is_none o ≡ true → o ≡ None
none-from None is = refl
none-from (Some x) is = absurd (true≢false (sym is))

pub starts-not-logged : StartsAreNotLogged
starts-not-logged c n v new off =
    ap (λ (es : List (ℕ × Version)). record (durable c) { versions = es })
    (start-settled c.versions n v off (none-from (version_numbered c n) new))
