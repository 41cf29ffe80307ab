-- What stands before the nodes, read part by part.
--
-- The key idea: no word of a part begins another one of the same part, so what was read of a front is what every head
-- that stands there says in front. Where the next part is not there, no head goes on.
use Rattle.std.proofs.Common.{◌≡◌, ℕ, ◌+◌, ◌<◌, ◌≤◌, List, [], ◌∷◌, ◌++◌, length, map, drop, get_or, refl, sym, ap, ap₂}
use Rattle.std.proofs.Common.{subst, ◌∙◌, arith, append_assoc, length-append, length-drop, drop-cons}
use Rattle.std.proofs.Common.{true, false, true≢false}
use Rattle.std.proofs.Common.{All, Some, None, Option, is_none, nat_le, nat_lt, ◌&&◌, option_map, suc, ◌^◌}
use Rattle.std.specs.List.{list_all}
use Rattle.std.specs.Str.{IsAscii}
use Rattle.std.proofs.lemmas.Bool.{and_parts, leb-true}
use Rattle.std.proofs.lemmas.List.{length-map}
use Rattle.std.proofs.lemmas.List.Elements.{All-map, All-weaker, All-cons, All-nil}
use Rattle.std.proofs.lemmas.Str.Ascii.{IsAscii-from_all}
use Rattle.std.proofs.lemmas.Bool.Decides.{nat_tests}
use Rattle.std.proofs.Math.Seq.{drop-drop, drop-append_seam}
use Rattle.sz_cells.specs.SetBytes.{four_bytes}
use Rattle.sz_spec.specs.Flows.{Graph}
use Rattle.sz_region.specs.Counted.{counted, IsAt}
use Rattle.sz_region.specs.Stores.{NoneAt, AreFew}
use Rattle.sz_region.proofs.Spans.{IsPrefixFree, number-free, counted-free, no-number, number-read, at-both}
use Rattle.sz_script.specs.Names.{is_name, is_name_byte}
use Rattle.sz_script.specs.declared.command.BaseName.{BaseName}
use Rattle.sz_catalogue.specs.Holdings.{Base, Workflow, Holdings, array_version, flow_named}
use Rattle.sz_bodies.specs.Bodies.{name_bytes, base_bytes, IsShortName, IsShortBase}
use Rattle.sz_bodies.specs.Fitting.{named_base}
use Rattle.sz_bodies.specs.declared.reading.TakeFault.{TakeFault}
use Rattle.sz_bodies.specs.declared.reading.TakeFault.TheVariants.{Bad, NoMemory}
use Rattle.sz_bodies.specs.Taking.{IfBad, IsAnyText, IsName, IsNewNumber, IsHeldName, IsHeldBase}
use Rattle.sz_bodies.specs.Taking.{Said, said_bytes, IsHeldHead}
use Rattle.sz_bodies.specs.Taking.{Begun, said_in, IsFlowOf, IsArray, AreArrays, IsBegun}
use Rattle.sz_bodies.proofs.OneWay.{name-free, base-free, bytes-same}

-- what is said of one thing is said of another
pub if_bad-weaker : {P Q : Type 0} (e : TakeFault) → (P → Q) → IfBad e P → IfBad e Q
if_bad-weaker Bad so is = so is
if_bad-weaker NoMemory so is = tt

-- ---- names

-- a name's bytes, and how many they are
pub name-parts : (name : List ℕ) → IsName name → (length name ≤ 32) × (list_all is_name_byte name ≡ true)
name-parts name is =
    let outer = and_parts (nat_lt 0 (length name) && nat_le (length name) 32) (list_all is_name_byte name) is in
    let inner = and_parts (nat_lt 0 (length name)) (nat_le (length name) 32) outer.0 in
    (leb-true (length name) 32 inner.1, outer.1)

pub name-short : (name : List ℕ) → IsName name → IsShortName name
name-short name is = omega (arith, (name-parts name is).0)

-- a byte of a name is none of more than seven bits
byte-small : (b : ℕ) → is_name_byte b ≡ true → b < 128
byte-small b is = grind (arith, nat_tests)

small-all : (xs : List ℕ) → list_all is_name_byte xs ≡ true → All (λ b. b < 128) xs
small-all [] is = All-nil (λ b. b < 128)
small-all (x ∷ xs) is =
    let both = and_parts (is_name_byte x) (list_all is_name_byte xs) is in
    All-cons (λ b. b < 128) x xs (byte-small x both.0) (small-all xs both.1)

-- so a name is a text
pub name-ascii : (name : List ℕ) → IsName name → IsAscii name
name-ascii name is = IsAscii-from_all name (small-all name (name-parts name is).1)

-- where no bytes stand with their number, no name does
pub no-name : (bytes : List ℕ) (at : ℕ) → NoneAt IsAnyText name_bytes bytes at → NoneAt IsName name_bytes bytes at
no-name bytes at none name rest is spelled = none name rest tt spelled

-- nor where those that do are none
pub no-name-other : (bytes : List ℕ) (at next : ℕ) (text : List ℕ) → IsAt bytes at next (name_bytes text)
    → is_name text ≡ false → NoneAt IsName name_bytes bytes at
no-name-other bytes at next text here none name rest is spelled =
    let same : text ≡ name = (bytes-same text name (drop next bytes) rest (sym here.spelled ∙ spelled)).0 in
    true≢false (sym is ∙ ap is_name (sym same) ∙ none)

-- past the end no bytes stand with their number
pub no-text-past : (bytes : List ℕ) (at : ℕ) → length bytes ≤ at → NoneAt IsAnyText name_bytes bytes at
no-text-past bytes at past text rest any spelled = omega (arith, ap length spelled, length-drop at bytes)

-- nor where fewer are left than the number says
pub no-text-few : (bytes : List ℕ) (at : ℕ) → at < length bytes → length bytes < at + 1 + get_or bytes at 0
    → NoneAt IsAnyText name_bytes bytes at
no-text-few bytes at inside few text rest any spelled =
    let count : get_or bytes at 0 ≡ length text =
    ap (λ (xs : List ℕ). get_or xs 0 0) (sym (drop-cons bytes at 0 inside) ∙ spelled) in
    omega (arith, ap length spelled, length-drop at bytes, length-append text rest, count)

-- bytes that stand with their number
pub text-stands : (bytes behind text rest : List ℕ) (at count : ℕ) → at < length bytes → count ≡ get_or bytes at 0
    → behind ≡ drop (at + 1) bytes → length text ≡ count → behind ≡ text ++ rest
    → IsAt bytes at (at + 1 + length text) (name_bytes text)
text-stands bytes behind text rest at count inside is after long parts =
    let one : suc at ≡ at + 1 = omega arith in
    let there : drop (at + 1) bytes ≡ text ++ rest = sym after ∙ parts in
    let left : drop (at + 1 + length text) bytes ≡ rest =
    sym (drop-drop (length text) (at + 1) bytes) ∙ ap (drop (length text)) there ∙ drop-append_seam text rest in
    record {
      spelled =
          drop-cons bytes at 0 inside ∙ ap (λ (n : ℕ). get_or bytes at 0 ∷ drop n bytes) one
          ∙ ap₂ (λ (n : ℕ) (xs : List ℕ). n ∷ xs) (sym is ∙ sym long)
          (there ∙ ap (λ (xs : List ℕ). text ++ xs) (sym left));
      within = omega (arith, ap length there, length-drop (at + 1) bytes, length-append text rest);
    }

-- ---- base arrays

-- things of a narrower kind do not begin one another either
pub free-narrower : {X : Type 0} (P Q : X → Type 0) (word : X → List ℕ) → ((x : X) → P x → Q x)
    → IsPrefixFree Q word → IsPrefixFree P word
free-narrower P Q word so free x y a b one other same = free x y a b (so x one) (so y other) same

pub held-short : (c : Holdings) (b : BaseName) → IsHeldBase c b → IsShortBase b
held-short c b is = (name-short b.name is.name, is.version)

pub held-free : (c : Holdings) → IsPrefixFree (IsHeldBase c) base_bytes
held-free c = free-narrower (IsHeldBase c) IsShortBase base_bytes (held-short c) base-free

-- a base array as it is held is one that is held under its name
pub array-held : (c : Holdings) (b : Base) → IsArray c b → IsHeldBase c (named_base b)
array-held c b is = record { name = is.name; version = is.version; held = rw is.held refl }

pub arrays-held : (c : Holdings) (base : List Base) → AreArrays c base → All (IsHeldBase c) (map named_base base)
arrays-held c base are =
    All-map (IsHeldBase c) named_base base
    (All-weaker (IsArray c) (λ (b : Base). IsHeldBase c (named_base b)) (array-held c) base are)

-- where there is no name, there is no base array
pub no-base-name : (c : Holdings) (bytes : List ℕ) (at : ℕ) → NoneAt IsName name_bytes bytes at
    → NoneAt (IsHeldBase c) base_bytes bytes at
no-base-name c bytes at none b rest is spelled =
    none b.name (four_bytes b.version ++ rest) is.name
    (spelled ∙ append_assoc (name_bytes b.name) (four_bytes b.version) rest)

-- behind its name, which was read
base-behind : (c : Holdings) (bytes name : List ℕ) (at place : ℕ) (b : BaseName) (rest : List ℕ) → IsName name
    → IsAt bytes at place (name_bytes name) → IsHeldBase c b → drop at bytes ≡ base_bytes b ++ rest
    → (name ≡ b.name) × (drop place bytes ≡ four_bytes b.version ++ rest)
base-behind c bytes name at place b rest is here held spelled =
    name-free name b.name (drop place bytes) (four_bytes b.version ++ rest) (name-short name is)
    (name-short b.name held.name)
    (sym here.spelled ∙ spelled ∙ append_assoc (name_bytes b.name) (four_bytes b.version) rest)

pub no-base-number : (c : Holdings) (bytes name : List ℕ) (at place : ℕ) → IsName name
    → IsAt bytes at place (name_bytes name) → length bytes < place + 4 → NoneAt (IsHeldBase c) base_bytes bytes at
no-base-number c bytes name at place is here short b rest held spelled =
    no-number bytes place b.version rest short (base-behind c bytes name at place b rest is here held spelled).1

pub no-base-held : (c : Holdings) (bytes name : List ℕ) (at place version : ℕ) → IsName name
    → IsAt bytes at place (name_bytes name) → IsAt bytes place (place + 4) (four_bytes version) → version < 2 ^ 32
    → array_version c name version ≡ None → NoneAt (IsHeldBase c) base_bytes bytes at
no-base-held c bytes name at place version is here number small none b rest held spelled =
    let behind = base-behind c bytes name at place b rest is here held spelled in
    let same = number-read bytes place version b.version rest number small held.version behind.1 in
    let missing : array_version c b.name b.version ≡ None =
    ap₂ (λ (n : List ℕ) (v : ℕ). array_version c n v) (sym behind.0) (sym same.0) ∙ none in
    true≢false (sym (rw missing refl) ∙ held.held)

-- its name, and behind it its version
pub base-stands : (bytes name : List ℕ) (at place version : ℕ) → IsAt bytes at place (name_bytes name)
    → IsAt bytes place (place + 4) (four_bytes version)
    → IsAt bytes at (place + 4) (name_bytes name ++ four_bytes version)
base-stands bytes name at place version here number =
    at-both bytes at place (place + 4) (name_bytes name) (four_bytes version) here number

-- ---- heads

-- a head, and what follows it, part by part
pub said-parts : (h : Said) (rest : List ℕ) → said_bytes h ++ rest ≡ four_bytes h.number
    ++ (name_bytes h.flow_name ++ (counted base_bytes h.base ++ (four_bytes h.count ++ rest)))
said-parts h rest =
    let n = four_bytes h.number in
    let m = name_bytes h.flow_name in
    let b = counted base_bytes h.base in
    let k = four_bytes h.count in
    append_assoc n (m ++ (b ++ k)) rest ∙ ap (λ (xs : List ℕ). n ++ xs) (append_assoc m (b ++ k) rest
    ∙ ap (λ (xs : List ℕ). m ++ xs) (append_assoc b k rest))

-- a head that stands in front, with what follows it
pub record HeadStands (c : Holdings) (bytes : List ℕ) (h : Said) (rest : List ℕ) : Type 0 where
  pub held : IsHeldHead c h
  pub spelled : drop 0 bytes ≡ said_bytes h ++ rest

-- what was read in front: the number
pub record NumberIs (c : Holdings) (bytes : List ℕ) (n : ℕ) : Type 0 where
  pub new : IsNewNumber c n
  pub here : IsAt bytes 0 4 (four_bytes n)

-- and the flow's name
pub record FlowIs (c : Holdings) (bytes : List ℕ) (n : ℕ) (name : List ℕ) (place : ℕ) : Type 0 where
  pub number : NumberIs c bytes n
  pub right : IsName name
  pub here : IsAt bytes 4 place (name_bytes name)

-- and the base arrays
pub record BasesAre (c : Holdings) (bytes : List ℕ) (n : ℕ) (name : List ℕ) (base : List BaseName)
    (middle place : ℕ) : Type 0 where
  pub flow : FlowIs c bytes n name middle
  pub held : AreFew (IsHeldBase c) base
  pub here : IsAt bytes middle place (counted base_bytes base)

after-number : (c : Holdings) (bytes : List ℕ) (n : ℕ) (h : Said) (rest : List ℕ) → NumberIs c bytes n
    → HeadStands c bytes h rest
    → (n ≡ h.number)
    × (drop 4 bytes ≡ name_bytes h.flow_name ++ (counted base_bytes h.base ++ (four_bytes h.count ++ rest)))
after-number c bytes n h rest read stands =
    number-free n h.number (drop 4 bytes)
    (name_bytes h.flow_name ++ (counted base_bytes h.base ++ (four_bytes h.count ++ rest)))
    read.new.small stands.held.number.small (sym read.here.spelled ∙ stands.spelled ∙ said-parts h rest)

after-flow : (c : Holdings) (bytes : List ℕ) (n : ℕ) (name : List ℕ) (place : ℕ) (h : Said) (rest : List ℕ)
    → FlowIs c bytes n name place → HeadStands c bytes h rest
    → (name ≡ h.flow_name) × (drop place bytes ≡ counted base_bytes h.base ++ (four_bytes h.count ++ rest))
after-flow c bytes n name place h rest read stands =
    name-free name h.flow_name (drop place bytes) (counted base_bytes h.base ++ (four_bytes h.count ++ rest))
    (name-short name read.right) (name-short h.flow_name stands.held.flow.right)
    (sym read.here.spelled ∙ (after-number c bytes n h rest read.number stands).1)

after-bases : (c : Holdings) (bytes : List ℕ) (n : ℕ) (name : List ℕ) (base : List BaseName) (middle place : ℕ)
    (h : Said) (rest : List ℕ) → BasesAre c bytes n name base middle place → HeadStands c bytes h rest
    → (base ≡ h.base) × (drop place bytes ≡ four_bytes h.count ++ rest)
after-bases c bytes n name base middle place h rest read stands =
    counted-free (IsHeldBase c) base_bytes (held-free c) base h.base (drop place bytes) (four_bytes h.count ++ rest)
    read.held stands.held.bases
    (sym read.here.spelled ∙ (after-flow c bytes n name middle h rest read.flow stands).1)

-- where a part is not there, no head is
pub no-head-number : (c : Holdings) (bytes : List ℕ) → NoneAt (IsNewNumber c) four_bytes bytes 0
    → NoneAt (IsHeldHead c) said_bytes bytes 0
no-head-number c bytes none h rest held spelled =
    none h.number (name_bytes h.flow_name ++ (counted base_bytes h.base ++ (four_bytes h.count ++ rest)))
    held.number (spelled ∙ said-parts h rest)

pub no-head-flow : (c : Holdings) (bytes : List ℕ) (n : ℕ) → NumberIs c bytes n
    → NoneAt (IsHeldName c) name_bytes bytes 4 → NoneAt (IsHeldHead c) said_bytes bytes 0
no-head-flow c bytes n read none h rest held spelled =
    none h.flow_name (counted base_bytes h.base ++ (four_bytes h.count ++ rest)) held.flow
    (after-number c bytes n h rest read (record { held = held; spelled = spelled })).1

pub no-head-bases : (c : Holdings) (bytes : List ℕ) (n : ℕ) (name : List ℕ) (place : ℕ) → FlowIs c bytes n name place
    → NoneAt (AreFew (IsHeldBase c)) (counted base_bytes) bytes place → NoneAt (IsHeldHead c) said_bytes bytes 0
no-head-bases c bytes n name place read none h rest held spelled =
    none h.base (four_bytes h.count ++ rest) held.bases
    (after-flow c bytes n name place h rest read (record { held = held; spelled = spelled })).1

pub no-head-count : (c : Holdings) (bytes : List ℕ) (n : ℕ) (name : List ℕ) (base : List BaseName) (middle place : ℕ)
    → BasesAre c bytes n name base middle place → length bytes < place + 4
    → NoneAt (IsHeldHead c) said_bytes bytes 0
no-head-count c bytes n name base middle place read short h rest held spelled =
    no-number bytes place h.count rest short
    (after-bases c bytes n name base middle place h rest read (record { held = held; spelled = spelled })).1

-- the four parts of a head
pub head-stands : (bytes name : List ℕ) (n count : ℕ) (base : List BaseName) (middle place : ℕ)
    → IsAt bytes 0 4 (four_bytes n) → IsAt bytes 4 middle (name_bytes name)
    → IsAt bytes middle place (counted base_bytes base) → IsAt bytes place (place + 4) (four_bytes count)
    → IsAt bytes 0 (place + 4) (four_bytes n ++ (name_bytes name ++ (counted base_bytes base ++ four_bytes count)))
head-stands bytes name n count base middle place first second third fourth =
    at-both bytes 0 4 (place + 4) (four_bytes n) (name_bytes name ++ (counted base_bytes base ++ four_bytes count))
    first
    (at-both bytes 4 middle (place + 4) (name_bytes name) (counted base_bytes base ++ four_bytes count) second
    (at-both bytes middle place (place + 4) (counted base_bytes base) (four_bytes count) third fourth))

-- where no flow is held under the name that was read, none is under a name there
pub no-flow-held : (c : Holdings) (bytes name : List ℕ) (at next : ℕ) → IsAt bytes at next (name_bytes name)
    → option_map (λ w. w.graph) (flow_named c name) ≡ None → NoneAt (IsHeldName c) name_bytes bytes at
no-flow-held c bytes name at next here none other rest is spelled =
    let same : name ≡ other = (bytes-same name other (drop next bytes) rest (sym here.spelled ∙ spelled)).0 in
    let missing : (o : Option Workflow) → option_map (λ w. w.graph) o ≡ None → is_none o ≡ true = elim [
      | None ↦ λ h. refl
      | Some w ↦ λ h. cc
    ] in
    true≢false (sym (missing (flow_named c name) none)
    ∙ ap (λ (n : List ℕ). is_none (flow_named c n)) same ∙ is.held)

-- a flow that is held is found
pub flow-there : (c : Holdings) (name : List ℕ) (flow : Graph) → IsFlowOf c name flow → IsHeldName c name
flow-there c name flow is = record { right = is.right; held = there (flow_named c name) is.held } where
  there : (o : Option Workflow) → option_map (λ w. w.graph) o ≡ Some flow → is_none o ≡ false
  there None h = cc
  there (Some w) h = refl

-- what was read is a head that stands there
pub begun-held : (c : Holdings) (h : Begun) → IsBegun c h → IsHeldHead c (said_in h)
begun-held c h is = record {
  number = is.number;
  flow = flow-there c h.flow_name h.flow is.flow;
  bases = (
    arrays-held c h.base is.bases,
    subst (λ (k : ℕ). k < 2 ^ 32) (sym (length-map h.base named_base)) is.few,
  );
  count = is.count;
}

-- heads do not begin one another
pub heads-free : (c : Holdings) → IsPrefixFree (IsHeldHead c) said_bytes
heads-free c x y a b one other same =
    let number = number-free x.number y.number
    (name_bytes x.flow_name ++ (counted base_bytes x.base ++ (four_bytes x.count ++ a)))
    (name_bytes y.flow_name ++ (counted base_bytes y.base ++ (four_bytes y.count ++ b)))
    one.number.small other.number.small (sym (said-parts x a) ∙ same ∙ said-parts y b) in
    let name = name-free x.flow_name y.flow_name (counted base_bytes x.base ++ (four_bytes x.count ++ a))
    (counted base_bytes y.base ++ (four_bytes y.count ++ b)) (name-short x.flow_name one.flow.right)
    (name-short y.flow_name other.flow.right) number.1 in
    let base = counted-free (IsHeldBase c) base_bytes (held-free c) x.base y.base (four_bytes x.count ++ a)
    (four_bytes y.count ++ b) one.bases other.bases name.1 in
    let count = number-free x.count y.count a b one.count other.count base.1 in
    let make : ℕ → List ℕ → List BaseName → ℕ → Said = λ n m bs k.
    record { number = n; flow_name = m; base = bs; count = k } in (
      ap₂ (λ (n : ℕ) (m : List ℕ). make n m x.base x.count) number.0 name.0
          ∙ ap₂ (λ (bs : List BaseName) (k : ℕ). make y.number y.flow_name bs k) base.0 count.0,
      count.1,
    )
