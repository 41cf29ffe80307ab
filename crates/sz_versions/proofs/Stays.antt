-- The versions that are held stay as they are.
--
-- The key idea: a start puts one in under a number that is new, an await changes one that is not awaited, and no other
-- command changes any.
use Rattle.std.proofs.Common.{take, length, get_or, zero, ◌≡◌, ℕ, suc, ◌<◌, List, [], ◌∷◌, Bool, true, false, refl}
use Rattle.std.proofs.Common.{sym, ap, ◌∙◌, ◌++◌}
use Rattle.std.proofs.lemmas.Bool.Decides.{nat_tests}
use Rattle.std.proofs.Common.{true≢false, subst, arith, Option, Some, None, cond, eqb-true}
use Rattle.std.specs.Prelude.{All, ◌==◌, is_none, find, nat_lt, if◌then◌else◌}
use Rattle.std.specs.Ordering.{nat_cmp, is_eq}
use Rattle.std.proofs.Common.{Ordering, Less, Equal, Greater}
use Rattle.std.specs.Cmp.{nat_cmp_is}
use Rattle.std.specs.Map.{lookup, set_value, values_of}
use Rattle.std.specs.BTreeMap.{is_at, insert_entry}
use Rattle.sz_script.specs.declared.command.Command.{Command}
use Rattle.sz_script.specs.declared.command.Command.TheVariants as order
use Rattle.sz_catalogue.specs.Holdings.{Version, Holdings, version_numbered, next_number}
use Rattle.sz_catalogue.specs.Rules.{version_of, has_no_version}
use Rattle.sz_catalogue.specs.Merges.{is_merge_asked}
use Rattle.sz_catalogue.specs.Changes as changes
use Rattle.sz_catalogue.specs.Changes.{with_await, changes_no_version}
use Rattle.sz_catalogue.proofs.Numbers.{next-is_new}
use Rattle.sz_catalogue.specs.Order.{IsInOrder, IsVersionIn}
use Rattle.sz_recover.proofs.Entries.{held-old}
use Rattle.sz_versions.specs.Runs.{AreSound, IsSoundVersion}
use Rattle.sz_versions.proofs.Keeps.{version-found}

-- ---- lists

-- what is so of each
all-turn : {X : Type 0} (P Q : X → Type 0) (xs : List X) → ((x : X) → P x → Q x) → All P xs → All Q xs
all-turn P Q xs turn all = λ i d lt. turn _ (all i d lt)

-- the first that passes
pub find-passes : {X : Type 0} (test : X → Bool) (xs : List X) (x : X) → find test xs ≡ Some x → test x ≡ true
find-passes test [] x h = cc
find-passes test (y ∷ xs) x h = at (test y) refl (find-passes test xs x) h where
  at : (b : Bool) → test y ≡ b → (find test xs ≡ Some x → test x ≡ true)
      → cond b (Some y) (find test xs) ≡ Some x → test x ≡ true
  at true is rest found = let same : y ≡ x = cc in ap test (sym same) ∙ is
  at false is rest found = rest found

-- and what is so of each is so of it
pub found-all : {X : Type 0} (P : X → Type 0) (test : X → Bool) (xs : List X) (x : X) → All P xs
    → find test xs ≡ Some x → P x
found-all P test [] x all h = cc
found-all P test (y ∷ xs) x all h =
    at (test y) (found-all P test xs x (λ i d lt. all (suc i) d (omega (arith, lt)))) h where
      at : (b : Bool) → (find test xs ≡ Some x → P x) → cond b (Some y) (find test xs) ≡ Some x → P x
      at true rest found = let same : y ≡ x = cc in subst P same (all 0 y (omega arith))
      at false rest found = rest found

-- numbers that are the same, and others
pub is-equal : (n m : ℕ) → n ≡ m → (n == m) ≡ true
is-equal n m h = grind (arith, nat_tests)

pub is-unequal : (n m : ℕ) → (n ≡ m → ⊥) → (n == m) ≡ false
is-unequal n m differ = at (n == m) refl where
  at : (b : Bool) → (n == m) ≡ b → (n == m) ≡ false
  at true is = absurd (differ (eqb-true n m is))
  at false is = is

-- one that fails behind others that do
pub none-more : {X : Type 0} (test : X → Bool) (xs : List X) (i : ℕ) (x : X) → find test (take i xs) ≡ None
    → i < length xs → x ≡ get_or xs i x → test x ≡ false → find test (take (suc i) xs) ≡ None
none-more test [] i x none lt is fails = absurd (omega (arith, lt))
none-more test (y ∷ xs) zero x none lt is fails = let here : test y ≡ false = ap test (sym is) ∙ fails in rw here refl
none-more {X} test (y ∷ xs) (suc i) x none lt is fails =
    at (test y) (λ h. none-more test xs i x h (omega (arith, lt)) is fails) none where
      at : (b : Bool) → (find test (take i xs) ≡ None → find test (take (suc i) xs) ≡ None)
          → cond b (Some y) (find test (take i xs)) ≡ None → cond b (Some y) (find test (take (suc i) xs)) ≡ None
      at true rest h = cc
      at false rest h = rest h

-- the first that passes behind others that fail
pub found-at : {X : Type 0} (test : X → Bool) (xs : List X) (i : ℕ) (x : X) → find test (take i xs) ≡ None
    → i < length xs → x ≡ get_or xs i x → test x ≡ true → find test xs ≡ Some x
found-at test [] i x none lt is passes = absurd (omega (arith, lt))
found-at test (y ∷ xs) zero x none lt is passes =
    let here : test y ≡ true = ap test (sym is) ∙ passes in rw here (ap (λ z. Some z) (sym is))
found-at {X} test (y ∷ xs) (suc i) x none lt is passes =
    at (test y) (λ h. found-at test xs i x h (omega (arith, lt)) is passes) none where
      at : (b : Bool) → (find test (take i xs) ≡ None → find test xs ≡ Some x)
          → cond b (Some y) (find test (take i xs)) ≡ None → cond b (Some y) (find test xs) ≡ Some x
      at true rest h = cc
      at false rest h = rest h

-- ---- what is in order

-- flows and versions that are in order are sound
pub order-sound : (c : Holdings) → IsInOrder c → AreSound c
order-sound c order = record {
  flows = order.workflows;
  versions = all-turn (IsVersionIn c) IsSoundVersion (values_of c.versions) (λ v h. record { run = h.run })
      order.versions;
}

-- ---- versions that stay

-- under each number the same version is held
abbrev pub SameStay : Holdings → Holdings → Type 0
SameStay c d = (n : ℕ) → version_numbered d n ≡ version_numbered c n

-- where no version changes
pub accepted-stay : (c : Holdings) (command : Command) → changes_no_version command ≡ true
    → SameStay c (changes.accepted c command).0
accepted-stay c (order.Array name array) kind n = refl
accepted-stay c (order.Csv name array) kind n = refl
accepted-stay c (order.Layers name array) kind n = refl
accepted-stay c (order.Flow name flow) kind n = refl
accepted-stay c (order.Strategy name node list) kind n = refl
accepted-stay c (order.Plan name base units back forward) kind n = refl
accepted-stay c (order.Merge m) kind n = at (is_merge_asked c m) where
  at : (b : Bool) → version_numbered (if b then c else record c { merges = c.merges ++ m ∷ [] }) n
      ≡ version_numbered c n
  at true = refl
  at false = refl
accepted-stay c _ kind n = cc

-- ---- one version more

is-self : (n : ℕ) → nat_cmp n n ≡ Equal
is-self n = sym (nat_cmp_is n n Equal refl)

-- two numbers that are not the same
tied : (q n : ℕ) → is_eq (nat_cmp q n) ≡ true → q ≡ n
tied q n h = at (nat_lt q n) (q == n) refl h where
  at : (l e : Bool) → (q == n) ≡ e → is_eq (if l then Less else if e then Equal else Greater) ≡ true → q ≡ n
  at true e is h = cc
  at false true is h = eqb-true q n is
  at false false is h = cc

is-other : (q n : ℕ) → (q ≡ n → ⊥) → is_eq (nat_cmp q n) ≡ false
is-other q n differ = at (is_eq (nat_cmp q n)) refl where
  at : (b : Bool) → is_eq (nat_cmp q n) ≡ b → is_eq (nat_cmp q n) ≡ false
  at true is = absurd (differ (tied q n is))
  at false is = is

-- under another number is found what was
pub insert-other : (es : List (ℕ × Version)) (n q : ℕ) (v : Version) → (q ≡ n → ⊥)
    → lookup (is_at (nat_cmp q)) (insert_entry nat_cmp es n v) ≡ lookup (is_at (nat_cmp q)) es
insert-other es n q v differ = held-old es n q v (at (n == q) refl) where
  at : (b : Bool) → (n == q) ≡ b → (n == q) ≡ false
  at true is = absurd (differ (sym (eqb-true n q is)))
  at false is = is

-- a version that is started has a number that is new
pub started-new : (c : Holdings) → has_no_version c (next_number c) ≡ true
started-new c =
    ap (λ (o : Option Version). is_none o) (next-is_new c.versions (next_number c) (omega arith))

-- ---- an await

-- what is written at a number leaves every other
set-other : (es : List (ℕ × Version)) (n q : ℕ) (v : Version) → (q ≡ n → ⊥)
    → lookup (is_at (nat_cmp q)) (set_value (is_at (nat_cmp n)) es v) ≡ lookup (is_at (nat_cmp q)) es
set-other [] n q v differ = refl
set-other (e ∷ es) n q v differ = at (is_eq (nat_cmp n e.0)) refl (set-other es n q v differ) where
  at : (b : Bool) → is_eq (nat_cmp n e.0) ≡ b
      → lookup (is_at (nat_cmp q)) (set_value (is_at (nat_cmp n)) es v) ≡ lookup (is_at (nat_cmp q)) es
      → lookup (is_at (nat_cmp q)) (cond b ((e.0, v) ∷ es) (e ∷ set_value (is_at (nat_cmp n)) es v))
      ≡ lookup (is_at (nat_cmp q)) (e ∷ es)
  at true is rest =
      let same : n ≡ e.0 = tied n e.0 is in
      let other : is_eq (nat_cmp q e.0) ≡ false = is-other q e.0 (λ h. differ (h ∙ sym same)) in rw other refl
  at false is rest = ap (λ (o : Option Version). cond (is_eq (nat_cmp q e.0)) (Some e.1) o) rest

unequal : (n m : ℕ) → (n == m) ≡ false → n ≡ m → ⊥
unequal n m is h = let same : (n == m) ≡ true = grind (arith, nat_tests) in true≢false (sym same ∙ is)

-- and changes what is there
set-here : (es : List (ℕ × Version)) (n : ℕ) (old v : Version) → lookup (is_at (nat_cmp n)) es ≡ Some old
    → lookup (is_at (nat_cmp n)) (set_value (is_at (nat_cmp n)) es v) ≡ Some v
set-here [] n old v h = cc
set-here (e ∷ es) n old v h = at (is_eq (nat_cmp n e.0)) refl (set-here es n old v) h where
  at : (b : Bool) → is_eq (nat_cmp n e.0) ≡ b
      → (lookup (is_at (nat_cmp n)) es ≡ Some old
      → lookup (is_at (nat_cmp n)) (set_value (is_at (nat_cmp n)) es v) ≡ Some v)
      → cond b (Some e.1) (lookup (is_at (nat_cmp n)) es) ≡ Some old
      → lookup (is_at (nat_cmp n)) (cond b ((e.0, v) ∷ es) (e ∷ set_value (is_at (nat_cmp n)) es v)) ≡ Some v
  at true is rest found = rw is refl
  at false is rest found = rw is (rest found)

-- the version of a number, once it was awaited
pub await-here : (c : Holdings) (n : ℕ) → has_no_version c n ≡ false
    → version_numbered (with_await c n) n ≡ Some (record (version_of c n) { awaited = true })
await-here c n held =
    let v = version_of c n in
    set-here c.versions n v (record v { awaited = true }) (version-found c n held)

-- and those of other numbers
pub await-other : (c : Holdings) (n q : ℕ) → (q == n) ≡ false
    → version_numbered (with_await c n) q ≡ version_numbered c q
await-other c n q other =
    set-other c.versions n q (record (version_of c n) { awaited = true }) (λ h. unequal q n other h)

-- an await of a version that is awaited leaves each as it is
pub awaited-stay : (c : Holdings) (n : ℕ) → has_no_version c n ≡ false → (version_of c n).awaited ≡ true
    → SameStay c (with_await c n)
awaited-stay c n held awaited q = at (q == n) refl where
  at : (b : Bool) → (q == n) ≡ b → version_numbered (with_await c n) q ≡ version_numbered c q
  at true is =
      let same : q ≡ n = eqb-true q n is in
      let v = version_of c n in
      let P : ℕ → Type 0 = λ k. version_numbered (with_await c n) k ≡ version_numbered c k in
      let kept : record v { awaited = true } ≡ v =
      ap (λ (b : Bool). record v { awaited = b }) (sym awaited) in
      subst P (sym same) (await-here c n held ∙ ap (λ (x : Version). Some x) kept ∙ sym (version-found c n held))
  at false is = await-other c n q is
