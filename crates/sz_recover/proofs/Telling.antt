-- What looking at stores tells is one thing, and what it tells where it finds none is that each is exact.
--
-- The key idea: of two places, before each of which all is sound and at each of which it is not, neither is before the
-- other.
use Rattle.std.proofs.Common.{◌≡◌, ℕ, suc, zero, List, [], ◌∷◌, ◌++◌, take, length, Option, Some, None, refl, sym}
use Rattle.std.proofs.Common.{ap, subst, ◌∙◌, arith, get_or}
use Rattle.std.specs.Prelude.{All}
use Rattle.std.specs.List.{AllZip, slice_get, Contains}
use Rattle.std.proofs.lemmas.List.Elements.{All-head, All-tail, Contains-get_or}
use Rattle.sz_spec.specs.declared.modes.Strategy.{Strategy}
use Rattle.sz_flow.specs.Executions.{Execution}
use Rattle.sz_store.specs.Kept.{Keep, NodeLineage}
use Rattle.sz_catalogue.specs.Holdings.{Holdings}
use Rattle.sz_catalogue.specs.Rules.{version_of}
use Rattle.sz_recover.specs.Logs.{Kept}
use Rattle.sz_recover.specs.Soundness.{IsExact, IsSoundNode, AreSoundNodes, IsSoundKept, executions_of}
use Rattle.sz_recover.specs.Soundness.{IsFirstWrongStore, IsFirstWrongNode, IsFirstWrong}
use Rattle.sz_recover.specs.Soundness.{NoneMeansEach, EachMeansNone, OneThingIsTold}
use Rattle.sz_recover.specs.declared.checking.WrongStore.{WrongStore}
use Rattle.sz_recover.proofs.Wrong.{all-at}
use Rattle.sz_recover.proofs.WrongNodes.{zip-at, first-unsound}

-- ---- two first ones are one

-- in a list
first-same : {X : Type 0} (P : X → Type 0) (bs ds : List X) (x y : X) (rest more : List X)
    → bs ++ x ∷ rest ≡ ds ++ y ∷ more → All P bs → All P ds → (P x → ⊥) → (P y → ⊥) → x ≡ y
first-same P [] [] x y rest more is sound other out off = let own : x ≡ y = cc in own
first-same P [] (d ∷ ds) x y rest more is sound other out off =
    let own : x ≡ d = cc in absurd (out (subst P (sym own) (All-head P d ds other)))
first-same P (b ∷ bs) [] x y rest more is sound other out off =
    let own : b ≡ y = cc in absurd (off (subst P own (All-head P b bs sound)))
first-same P (b ∷ bs) (d ∷ ds) x y rest more is sound other out off =
    let same : bs ++ x ∷ rest ≡ ds ++ y ∷ more = cc in
    first-same P bs ds x y rest more same (All-tail P b bs sound) (All-tail P d ds other) out off

-- at a place of two lists that go side by side
place-same : {X Y : Type 0} (R : X → Y → Type 0) (n m : ℕ) (xs : List X) (ys : List Y) (a b : X) (x y : Y)
    → slice_get xs n ≡ Some a → slice_get ys n ≡ Some x → AllZip R (take n xs) (take n ys) → (R a x → ⊥)
    → slice_get xs m ≡ Some b → slice_get ys m ≡ Some y → AllZip R (take m xs) (take m ys) → (R b y → ⊥) → n ≡ m
place-same R n m [] ys a b x y here there sound out hence thence other off = cc
place-same R n m (p ∷ xs) [] a b x y here there sound out hence thence other off = cc
place-same R zero zero (p ∷ xs) (q ∷ ys) a b x y here there sound out hence thence other off = refl
place-same R zero (suc m) (p ∷ xs) (q ∷ ys) a b x y here there sound out hence thence other off =
    let one : p ≡ a = cc in
    let two : q ≡ x = cc in
    absurd (out (subst (λ z. R z x) one (subst (λ z. R p z) two other.0)))
place-same R (suc n) zero (p ∷ xs) (q ∷ ys) a b x y here there sound out hence thence other off =
    let one : p ≡ b = cc in
    let two : q ≡ y = cc in
    absurd (off (subst (λ z. R z y) one (subst (λ z. R p z) two sound.0)))
place-same R (suc n) (suc m) (p ∷ xs) (q ∷ ys) a b x y here there sound out hence thence other off =
    ap (λ k. suc k) (place-same R n m xs ys a b x y here there sound.1 out hence thence other.1 off)

-- ---- stores, nodes and entries

stores-same : (e : Execution) (fs : List Keep) (s t : Strategy) → IsFirstWrongStore e fs s
    → IsFirstWrongStore e fs t → s ≡ t
stores-same e fs s t one two =
    let same : one.wrong ≡ two.wrong =
    first-same (λ (f : Keep). IsExact e f.holding) one.before two.before one.wrong two.wrong one.after two.after
    (sym one.all ∙ two.all) one.sound two.sound one.unsound two.unsound in
    sym one.strategy ∙ ap (λ (f : Keep). f.strategy) same ∙ two.strategy

-- a node with a wrong store is not sound, and so is an entry
node-unsound : (e : Execution) (kept : NodeLineage) (s : Strategy) → IsFirstWrongStore e kept.stores s
    → IsSoundNode e (Some kept) → ⊥
node-unsound e kept s first sound =
    let P : Keep → Type 0 = λ f. IsExact e f.holding in
    first.unsound (all-at P first.before first.after first.wrong (subst (λ (fs : List Keep). All P fs) first.all sound))

nodes-unsound : (es : List Execution) (stores : List (Option NodeLineage)) (n : ℕ) (s : Strategy)
    → IsFirstWrongNode es stores n s → AreSoundNodes es stores → ⊥
nodes-unsound es stores n s first sound =
    node-unsound first.e first.kept s first.wrong
    (zip-at IsSoundNode n es stores first.e (Some first.kept) sound first.executed first.there)

-- the node, and the strategy
nodes-same : (es : List Execution) (stores : List (Option NodeLineage)) (n m : ℕ) (s t : Strategy)
    → IsFirstWrongNode es stores n s → IsFirstWrongNode es stores m t → (n ≡ m) × (s ≡ t)
nodes-same es stores n m s t one two =
    let place : n ≡ m =
    place-same IsSoundNode n m es stores one.e two.e (Some one.kept) (Some two.kept) one.executed one.there one.sound
    (node-unsound one.e one.kept s one.wrong) two.executed two.there two.sound
    (node-unsound two.e two.kept t two.wrong) in
    let found : Some one.e ≡ Some two.e = sym one.executed ∙ ap (λ k. slice_get es k) place ∙ two.executed in
    let kept : Some (Some one.kept) ≡ Some (Some two.kept) =
    sym one.there ∙ ap (λ k. slice_get stores k) place ∙ two.there in
    let e : one.e ≡ two.e = cc in
    let x : one.kept ≡ two.kept = cc in (
      place,
      stores-same two.e two.kept.stores s t
          (subst (λ (k : NodeLineage). IsFirstWrongStore two.e k.stores s) x
          (subst (λ (d : Execution). IsFirstWrongStore d one.kept.stores s) e one.wrong))
          two.wrong,
    )

abbrev wrong : ℕ → ℕ → Strategy → WrongStore
wrong version node s = record { version = version; node = node; s = s }

entries-same : (c : Holdings) (kept : List Kept) (w v : WrongStore) → IsFirstWrong c kept w → IsFirstWrong c kept v
    → w ≡ v
entries-same c kept w v one two =
    let run : Kept → List Execution = λ k. executions_of (version_of c k.number) in
    let entry : one.one ≡ two.one =
    first-same (IsSoundKept c) one.before two.before one.one two.one one.after two.after (sym one.all ∙ two.all)
    one.sound two.sound (nodes-unsound (run one.one) one.one.stores w.node w.s one.wrong)
    (nodes-unsound (run two.one) two.one.stores v.node v.s two.wrong) in
    let number : w.version ≡ v.version = sym one.number ∙ ap (λ (k : Kept). k.number) entry ∙ two.number in
    let node = nodes-same (run two.one) two.one.stores w.node v.node w.s v.s
    (subst (λ (k : Kept). IsFirstWrongNode (run k) k.stores w.node w.s) entry one.wrong) two.wrong in
    ap (λ n. wrong n w.node w.s) number ∙ ap (λ n. wrong v.version n w.s) node.0
    ∙ ap (λ s. wrong v.version v.node s) node.1

pub one-told : OneThingIsTold
one-told c kept None None told other = refl
one-told c kept None (Some w) told other = absurd (first-unsound c kept w other told)
one-told c kept (Some w) None told other = absurd (first-unsound c kept w told other)
one-told c kept (Some w) (Some v) told other =
    ap (λ (x : WrongStore). Some x) (entries-same c kept w v told other)

-- ---- none

zip-long : {X Y : Type 0} (R : X → Y → Type 0) (xs : List X) (ys : List Y) → AllZip R xs ys → length ys ≡ length xs
zip-long R [] [] all = refl
zip-long R [] (y ∷ ys) all = absurd all
zip-long R (x ∷ xs) [] all = absurd all
zip-long R (x ∷ xs) (y ∷ ys) all = omega (arith, zip-long R xs ys all.1)

of-element : {X : Type 0} (P : X → Type 0) (xs : List X) (x : X) → All P xs → Contains xs x → P x
of-element P xs x all (k, inside, is) = subst P is (all k x inside)

pub none-means-each : NoneMeansEach
none-means-each c kept told = (
  λ i d inside. zip-long IsSoundNode (executions_of (version_of c (get_or kept i d).number)) (get_or kept i d).stores
      (told i d inside),
  λ k n e x f entry executed there store.
      let es = executions_of (version_of c k.number) in
      of-element (λ (g : Keep). IsExact e g.holding) x.stores f
      (zip-at IsSoundNode n es k.stores e (Some x) (of-element (IsSoundKept c) kept k told entry) executed there) store,
)

zip-from : {X Y : Type 0} (R : X → Y → Type 0) (xs : List X) (ys : List Y) → length ys ≡ length xs
    → ((n : ℕ) (x : X) (y : Y) → slice_get xs n ≡ Some x → slice_get ys n ≡ Some y → R x y) → AllZip R xs ys
zip-from R [] [] long each = tt
zip-from R [] (y ∷ ys) long each = omega (arith, long)
zip-from R (x ∷ xs) [] long each = omega (arith, long)
zip-from R (x ∷ xs) (y ∷ ys) long each =
    (each zero x y refl refl, zip-from R xs ys (omega (arith, long)) (λ n. each (suc n)))

sound-from : (e : Execution) (kept : Option NodeLineage)
    → ((x : NodeLineage) (f : Keep) → kept ≡ Some x → Contains x.stores f → IsExact e f.holding) → IsSoundNode e kept
sound-from e None each = tt
sound-from e (Some x) each =
    λ i d inside. each x (get_or x.stores i d) refl (Contains-get_or x.stores i d inside)

pub each-means-none : EachMeansNone
each-means-none c kept long each =
    λ i d inside.
    let k = get_or kept i d in
    zip-from IsSoundNode (executions_of (version_of c k.number)) k.stores (long i d inside)
    (λ n e y executed there. sound-from e y
    (λ x f is store. each k n e x f (Contains-get_or kept i d inside) executed
    (there ∙ ap (λ (o : Option NodeLineage). Some o) is) store))
