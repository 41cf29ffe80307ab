-- A body is read in one way only.
--
-- The key idea: no word of a part begins another one of the same part. So two readings of the same bytes agree part by
-- part, and each part ends at the same place in both.
use Rattle.std.proofs.Common.{◌≡◌, ℕ, ◌≤◌, List, [], ◌∷◌, ◌++◌, length, map, drop, get_or, refl, sym, ap, ap₂}
use Rattle.std.proofs.Common.{subst, ◌∙◌, arith, append_assoc, length-drop}
use Rattle.std.specs.Prelude.{All}
use Rattle.std.proofs.lemmas.List.Elements.{All-head, All-tail}
use Rattle.std.proofs.lemmas.List.{length-map}
use Rattle.sz_cells.specs.SetBytes.{four_bytes}
use Rattle.sz_cells.proofs.LawsOfSets.{split-same}
use Rattle.sz_spec.specs.declared.modes.Strategy.{Strategy}
use Rattle.sz_spec.specs.declared.modes.Strategy.TheVariants as strategy
use Rattle.sz_spec.specs.Shapes.{Site}
use Rattle.sz_spec.specs.Modes.{number_of}
use Rattle.sz_region.specs.Counted.{counted}
use Rattle.sz_region.proofs.Spans.{IsPrefixFree, number-free, counted-free}
use Rattle.sz_store.specs.Kept.{Keep, stored_in}
use Rattle.sz_formats.specs.Words.{BeginEachIn}
use Rattle.sz_formats.proofs.Each.{each-one}
use Rattle.sz_script.specs.declared.command.BaseName.{BaseName}
use Rattle.sz_bodies.specs.Bodies.{NodePart, VersionBody, name_bytes, base_bytes, head_bytes, list_bytes, BeginNodes}
use Rattle.sz_bodies.specs.Bodies.{IsShortName, IsShortBase, IsShort}
use Rattle.sz_bodies.specs.Laws.{IsRightSite, OneBodyAtMost}

-- ---- parts that do not begin one another

-- a byte for a length, and so many bytes
pub bytes-same : (xs ys a b : List ℕ) → (length xs ∷ xs) ++ a ≡ (length ys ∷ ys) ++ b → (xs ≡ ys) × (a ≡ b)
bytes-same xs ys a b same =
    let long : length xs ≡ length ys = ap (λ (zs : List ℕ). get_or zs 0 0) same in
    let rest : xs ++ a ≡ ys ++ b = ap (λ (zs : List ℕ). drop 1 zs) same in
    split-same xs ys a b long rest

pub name-free : IsPrefixFree IsShortName name_bytes
name-free x y a b short small same = bytes-same x y a b same

pub base-free : IsPrefixFree IsShortBase base_bytes
base-free x y a b short small same =
    let make : List ℕ → ℕ → BaseName = λ name n. record { name = name; version = n } in
    let name = bytes-same x.name y.name (four_bytes x.version ++ a) (four_bytes y.version ++ b)
    (sym (append_assoc (name_bytes x.name) (four_bytes x.version) a) ∙ same
    ∙ append_assoc (name_bytes y.name) (four_bytes y.version) b) in
    let number = number-free x.version y.version a b short.1 small.1 name.1 in
    (ap₂ make name.0 number.0, number.1)

-- the strategy of a number
abbrev strategy_of : ℕ → Strategy
strategy_of n = get_or
    (strategy.Map ∷ strategy.Map ∷ strategy.FullOneB ∷ strategy.FullOneF ∷ strategy.FullManyB ∷ strategy.FullManyF
    ∷ strategy.PayOne ∷ strategy.PayMany ∷ strategy.CompOne ∷ strategy.CompMany ∷ strategy.BlackBox ∷ [])
    n strategy.Map

pub of-number : (s : Strategy) → strategy_of (number_of s) ≡ s
of-number strategy.Map = refl
of-number strategy.FullOneB = refl
of-number strategy.FullOneF = refl
of-number strategy.FullManyB = refl
of-number strategy.FullManyF = refl
of-number strategy.PayOne = refl
of-number strategy.PayMany = refl
of-number strategy.CompOne = refl
of-number strategy.CompMany = refl
of-number strategy.BlackBox = refl

pub of-numbers : (xs : List Strategy) → map strategy_of (map number_of xs) ≡ xs
of-numbers [] = refl
of-numbers (x ∷ xs) = ap₂ (λ (s : Strategy) (ss : List Strategy). s ∷ ss) (of-number x) (of-numbers xs)

pub list-same : (xs ys : List Strategy) (a b : List ℕ) → list_bytes xs ++ a ≡ list_bytes ys ++ b → (xs ≡ ys) × (a ≡ b)
list-same xs ys a b same =
    let long : length xs ≡ length ys = ap (λ (zs : List ℕ). get_or zs 0 0) same in
    let rest : map number_of xs ++ a ≡ map number_of ys ++ b = ap (λ (zs : List ℕ). drop 1 zs) same in
    let both = split-same (map number_of xs) (map number_of ys) a b
    (length-map xs number_of ∙ long ∙ sym (length-map ys number_of)) rest in
    (sym (of-numbers xs) ∙ ap (map strategy_of) both.0 ∙ of-numbers ys, both.1)

-- ---- places

-- the same bytes are left at one place only
pub place-same : (bytes : List ℕ) (p q : ℕ) → p ≤ length bytes → q ≤ length bytes → drop p bytes ≡ drop q bytes → p ≡ q
place-same bytes p q low high same =
    omega (arith, low, high, ap length same, length-drop p bytes, length-drop q bytes)

-- ---- nodes

abbrev node-make : List Strategy → List Keep → NodePart
node-make list stores = record { list = list; stores = stores }

pub nodes-one : (format : ℕ) (sites : List Site) (bytes : List ℕ) (at next other : ℕ) (xs ys : List NodePart)
    → All IsRightSite sites → BeginNodes format sites bytes at next xs → BeginNodes format sites bytes at other ys
    → xs ≡ ys
nodes-one format [] bytes at next other [] [] right first second = refl
nodes-one format [] bytes at next other [] (y ∷ ys) right first second = absurd second
nodes-one format [] bytes at next other (x ∷ xs) ys right first second = absurd first
nodes-one format (s ∷ sites) bytes at next other [] ys right first second = absurd first
nodes-one format (s ∷ sites) bytes at next other (x ∷ xs) [] right first second = absurd second
nodes-one format (s ∷ sites) bytes at next other (x ∷ xs) (y ∷ ys) right first second =
    let list = list-same x.list y.list (drop first.0 bytes) (drop second.0 bytes)
    (sym first.3.spelled ∙ second.3.spelled) in
    let mid : second.0 ≡ first.0 =
    place-same bytes second.0 first.0 second.3.within first.3.within (sym list.1) in
    let again : BeginEachIn format s (stored_in x.list) bytes first.0 second.1 y.stores =
    subst (λ (n : ℕ). BeginEachIn format s (stored_in x.list) bytes n second.1 y.stores) mid
    (subst (λ (ts : List Strategy). BeginEachIn format s (stored_in ts) bytes second.0 second.1 y.stores) (sym list.0)
    second.4) in
    let stores = each-one format s (stored_in x.list) bytes first.0 first.1 second.1 x.stores y.stores
    (All-head IsRightSite s sites right) first.4 again in
    let rest = nodes-one format sites bytes first.1 next other xs ys (All-tail IsRightSite s sites right) first.5
    (subst (λ (n : ℕ). BeginNodes format sites bytes n other ys) (sym stores.1) second.5) in
    ap₂ (λ (z : NodePart) (zs : List NodePart). z ∷ zs) (ap₂ node-make list.0 stores.0) rest

-- ---- the whole

-- what stands before the nodes, but for their number, and where it ends
pub record IsSameHead (a b : VersionBody) (x y : List ℕ) : Type 0 where
  pub number : a.number ≡ b.number
  pub flow_name : a.flow_name ≡ b.flow_name
  pub base : a.base ≡ b.base
  pub rest : x ≡ y

pub head-same : (a b : VersionBody) (x y : List ℕ) → IsShort a → IsShort b → head_bytes a ++ x ≡ head_bytes b ++ y
    → IsSameHead a b x y
head-same a b x y short small same =
    let behind : VersionBody → List ℕ → List ℕ = λ v z. four_bytes (length v.nodes) ++ z in
    let from_base : VersionBody → List ℕ → List ℕ = λ v z. counted base_bytes v.base ++ behind v z in
    let from_name : VersionBody → List ℕ → List ℕ = λ v z. name_bytes v.flow_name ++ from_base v z in
    let split : (v : VersionBody) (z : List ℕ) → head_bytes v ++ z ≡ four_bytes v.number ++ from_name v z =
    λ v z.
    let n = four_bytes v.number in
    let m = name_bytes v.flow_name in
    let c = counted base_bytes v.base in
    let k = four_bytes (length v.nodes) in
    append_assoc n (m ++ (c ++ k)) z ∙ ap (λ (xs : List ℕ). n ++ xs) (append_assoc m (c ++ k) z
    ∙ ap (λ (xs : List ℕ). m ++ xs) (append_assoc c k z)) in
    let number = number-free a.number b.number (from_name a x) (from_name b y) short.number small.number
    (sym (split a x) ∙ same ∙ split b y) in
    let name = name-free a.flow_name b.flow_name (from_base a x) (from_base b y) short.flow_name small.flow_name
    number.1 in
    let base = counted-free IsShortBase base_bytes base-free a.base b.base (behind a x) (behind b y)
    (short.bases, short.few_bases) (small.bases, small.few_bases) name.1 in
    let count = number-free (length a.nodes) (length b.nodes) x y short.few_nodes small.few_nodes base.1 in
    record { number = number.0; flow_name = name.0; base = base.0; rest = count.1 }

pub bodies-one : OneBodyAtMost
bodies-one format sites bytes a b right one other =
    let head = head-same a b (drop one.place bytes) (drop other.place bytes) one.short other.short
    (sym one.head.spelled ∙ other.head.spelled) in
    let place : other.place ≡ one.place =
    place-same bytes other.place one.place other.head.within one.head.within (sym head.rest) in
    let nodes = nodes-one format sites bytes one.place (length bytes) (length bytes) a.nodes b.nodes right one.nodes
    (subst (λ (n : ℕ). BeginNodes format sites bytes n (length bytes) b.nodes) place other.nodes) in
    let make : List ℕ → List BaseName → List NodePart → VersionBody = λ name base ns.
    record { number = a.number; flow_name = name; base = base; nodes = ns } in
    ap (λ (n : ℕ). record a { number = n }) head.number
    ∙ ap (λ (name : List ℕ). record a { number = b.number; flow_name = name }) head.flow_name
    ∙ ap (λ (bs : List BaseName). record b { base = bs; nodes = a.nodes }) head.base
    ∙ ap (λ (ns : List NodePart). record b { nodes = ns }) nodes
