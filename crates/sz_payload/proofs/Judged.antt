-- Going through the payloads of a table, one behind the other.
use Rattle.std.proofs.Common.{◌≡◌, ℕ, suc, ◌+◌, ◌-◌, ◌^◌, ◌<◌, ◌≤◌, true}
use Rattle.std.proofs.Common.{List, [], ◌∷◌, ◌++◌, length, take, drop, get_or, append_assoc}
use Rattle.std.proofs.Common.{refl, sym, ap, subst, ◌∙◌, arith, length-append, length-drop, drop-cons}
use Rattle.std.specs.Prelude.{All}
use Rattle.std.specs.List.{flat_map, slice_range}
use Rattle.std.specs.Int.{w32, from_be_bytes}
use Rattle.std.proofs.lemmas.List.{drop-drop, get_or-drop, take_more, take_all, take_at}
use Rattle.std.proofs.lemmas.List.Elements.{All-nil, All-weaker}
use Rattle.std.proofs.lemmas.Nat.{from_be_bytes-to_be_bytes_4}
use Rattle.std.proofs.lemmas.Option.{slice_get_within, get_or_from_slice_get}
use Rattle.std.proofs.Math.Seq.{drop-append_seam}
use Rattle.sz_cells.specs.SetBytes.{four_bytes, set_bytes}
use Rattle.sz_spec.specs.Payloads.{is_payload}
use Rattle.sz_spec.specs.Shapes.{Site}
use Rattle.sz_region.specs.declared.set_bytes.Take.{Take}
use Rattle.sz_region.specs.declared.set_bytes.Take.TheVariants.{Bad, NoMemory}
use Rattle.sz_region.specs.Counted.{counted, rows_bytes}
use Rattle.sz_frame.specs.Parts.{Entry}
use Rattle.sz_region.specs.PayBytes.{BeginsEntries, IsShort, payload_bytes}
use Rattle.sz_region.specs.Stores.{SaysNoEntries}
use Rattle.sz_region.specs.Taking.{number_at}
use Rattle.sz_payload.specs.Begins.{AreLawful, BeginsPayloads, IsTableAt, SaysNoPayloads}
use Rattle.sz_tables.specs.Listed.{IsOneOf}
use Rattle.sz_payload.proofs.Keeping.{all-end}

-- ---- one payload

-- the number at a place is that of what begins there
number-here : (bytes : List ℕ) (place n : ℕ) (more : List ℕ) → n < 2 ^ 32 → drop place bytes ≡ four_bytes n ++ more
    → number_at bytes place ≡ n
number-here bytes place n more small is =
    let make : ℕ → ℕ → ℕ → ℕ → ℕ = λ p q r s. from_be_bytes w32 (p ∷ q ∷ r ∷ s ∷ []) in
    let at : (k : ℕ) → get_or bytes (place + k) 0 ≡ get_or (four_bytes n ++ more) k 0 =
    λ k. sym (get_or-drop place bytes k 0) ∙ ap (λ (xs : List ℕ). get_or xs k 0) is in
    let none : place ≡ place + 0 = omega arith in
    ap (λ (z : ℕ). make z (get_or bytes (place + 1) 0) (get_or bytes (place + 2) 0) (get_or bytes (place + 3) 0))
    (ap (λ (k : ℕ). get_or bytes k 0) none ∙ at 0)
    ∙ ap (λ (z : ℕ). make (get_or (four_bytes n ++ more) 0 0) z (get_or bytes (place + 2) 0) (get_or bytes (place + 3)
    0)) (at 1)
    ∙ ap (λ (z : ℕ). make (get_or (four_bytes n ++ more) 0 0) (get_or (four_bytes n ++ more) 1 0) z (get_or bytes (place
    + 3) 0)) (at 2)
    ∙ ap (λ (z : ℕ). make (get_or (four_bytes n ++ more) 0 0) (get_or (four_bytes n ++ more) 1 0) (get_or (four_bytes n
    ++ more) 2 0) z) (at 3)
    ∙ from_be_bytes-to_be_bytes_4 n small

-- the length of a payload, its bytes, and what is behind it
pub record IsNextAt (bytes : List ℕ) (place : ℕ) (p more : List ℕ) : Type 0 where
  pub number : number_at bytes place ≡ length p
  pub within : place + 4 + length p ≤ length bytes
  pub own : slice_range bytes (place + 4) (place + 4 + length p) ≡ p
  pub behind : drop (place + 4 + length p) bytes ≡ more

pub next-payload : (bytes : List ℕ) (place : ℕ) (p more : List ℕ) → IsShort p
    → drop place bytes ≡ payload_bytes p ++ more → IsNextAt bytes place p more
next-payload bytes place p more short is =
    let parts : drop place bytes ≡ four_bytes (length p) ++ (p ++ more) =
    is ∙ append_assoc (four_bytes (length p)) p more in
    let long = ap length parts in
    let rest : drop (place + 4) bytes ≡ p ++ more =
    sym (drop-drop 4 place bytes) ∙ ap (drop 4) parts in
    let gap : place + 4 + length p - (place + 4) ≡ length p = omega arith in
    record {
      number = number-here bytes place (length p) (p ++ more) short parts;
      within = omega (
        arith,
        long,
        length-drop place bytes,
        length-append (four_bytes (length p)) (p ++ more),
        length-append p more,
      );
      own = ap (λ (n : ℕ). take n (drop (place + 4) bytes)) gap ∙ ap (take (length p)) rest
          ∙ take_at p more (length p) refl;
      behind = sym (drop-drop (length p) (place + 4) bytes) ∙ ap (drop (length p)) rest ∙ drop-append_seam p more;
    }

-- ---- a table

-- how far a table was judged: so many payloads, all lawful, and the others begin at a place
pub record IsJudged (s : Site) (bytes : List ℕ) (place n : ℕ) (payloads : List (List ℕ)) (rest : List ℕ) : Type 0
  where
    pub here : drop place bytes ≡ flat_map payload_bytes (drop n payloads) ++ rest
    pub lawful : AreLawful s (take n payloads)

pub judged-none : (s : Site) (bytes : List ℕ) (at : ℕ) (payloads : List (List ℕ)) (rest : List ℕ)
    → IsTableAt bytes at payloads rest → IsJudged s bytes (at + 4) 0 payloads rest
judged-none s bytes at payloads rest table = record {
  here = sym (drop-drop 4 at bytes) ∙ ap (drop 4) table.spelled;
  lawful = All-nil (λ (p : List ℕ). is_payload s.op s.ins p ≡ true);
}

pub table-count : (bytes : List ℕ) (at : ℕ) (payloads : List (List ℕ)) (rest : List ℕ)
    → IsTableAt bytes at payloads rest → number_at bytes at ≡ length payloads
table-count bytes at payloads rest table =
    number-here bytes at (length payloads) (flat_map payload_bytes payloads ++ rest) table.few
    (table.spelled ∙ append_assoc (four_bytes (length payloads)) (flat_map payload_bytes payloads) rest)

pub table-within : (bytes : List ℕ) (at : ℕ) (payloads : List (List ℕ)) (rest : List ℕ)
    → IsTableAt bytes at payloads rest → at + 4 ≤ length bytes
table-within bytes at payloads rest table =
    omega (
      arith,
      ap length table.spelled,
      length-drop at bytes,
      length-append (counted payload_bytes payloads) rest,
      length-append (four_bytes (length payloads)) (flat_map payload_bytes payloads),
    )

-- the next payload of it
pub judged-next : (s : Site) (bytes : List ℕ) (place n : ℕ) (payloads : List (List ℕ)) (rest : List ℕ)
    → n < length payloads → All IsShort payloads → IsJudged s bytes place n payloads rest
    → IsNextAt bytes place (get_or payloads n []) (flat_map payload_bytes (drop (n + 1) payloads) ++ rest)
judged-next s bytes place n payloads rest inside short judged =
    let p = get_or payloads n [] in
    let one : suc n ≡ n + 1 = omega arith in
    next-payload bytes place p (flat_map payload_bytes (drop (n + 1) payloads) ++ rest) (short n [] inside)
    (judged.here
    ∙ ap (λ (ps : List (List ℕ)). flat_map payload_bytes ps ++ rest) (drop-cons payloads n [] inside
    ∙ ap (λ (m : ℕ). p ∷ drop m payloads) one)
    ∙ append_assoc (payload_bytes p) (flat_map payload_bytes (drop (n + 1) payloads)) rest)

pub judged-more : (s : Site) (bytes : List ℕ) (place next n : ℕ) (payloads : List (List ℕ)) (rest : List ℕ)
    → n < length payloads → IsJudged s bytes place n payloads rest
    → drop next bytes ≡ flat_map payload_bytes (drop (n + 1) payloads) ++ rest
    → is_payload s.op s.ins (get_or payloads n []) ≡ true → IsJudged s bytes next (n + 1) payloads rest
judged-more s bytes place next n payloads rest inside judged here lawful = record {
  here = here;
  lawful = rw (take_more payloads n [] inside) (all-end (λ (p : List ℕ). is_payload s.op s.ins p ≡ true)
      (take n payloads)
      (get_or payloads n []) judged.lawful lawful);
}

pub judged-all : (s : Site) (bytes : List ℕ) (place n : ℕ) (payloads : List (List ℕ)) (rest : List ℕ)
    → n ≡ length payloads → IsJudged s bytes place n payloads rest → AreLawful s payloads
judged-all s bytes place n payloads rest all judged =
    subst (AreLawful s) (take_all n payloads (omega arith)) judged.lawful

-- ---- stores

-- the table that a store of entries begins with
pub table-of : (s : Site) (bytes : List ℕ) (at next : ℕ) (es : List Entry) → (b : BeginsEntries s.out bytes at next es)
    → IsTableAt bytes at b.payloads (counted set_bytes b.sets ++ (rows_bytes b.is_word.names ++ b.rest))
table-of s bytes at next es b = record {
  short = b.is_word.short;
  few = b.is_word.few_payloads;
  spelled = b.spelled ∙ ap (λ (xs : List ℕ). xs ++ b.rest) b.is_word.spelled
      ∙ append_assoc (counted payload_bytes b.payloads ++ counted set_bytes b.sets) (rows_bytes b.is_word.names) b.rest
      ∙ append_assoc (counted payload_bytes b.payloads) (counted set_bytes b.sets)
      (rows_bytes b.is_word.names ++ b.rest);
}

-- forgetting what is judged
abbrev pub forget : (s : Site) (bytes : List ℕ) (at next : ℕ) (es : List Entry) → BeginsPayloads s bytes at next es
    → BeginsEntries s.out bytes at next es
forget s bytes at next es b = record {
  payloads = b.payloads;
  sets = b.sets;
  word = b.word;
  rest = b.rest;
  is_word = b.is_word;
  spelled = b.spelled;
  ends = b.ends;
}

pub judge : (s : Site) (bytes : List ℕ) (at next : ℕ) (es : List Entry) → (b : BeginsEntries s.out bytes at next es)
    → AreLawful s b.payloads → BeginsPayloads s bytes at next es
judge s bytes at next es b lawful = record {
  payloads = b.payloads;
  sets = b.sets;
  word = b.word;
  rest = b.rest;
  is_word = b.is_word;
  lawful = lawful;
  spelled = b.spelled;
  ends = b.ends;
}

-- payloads that are of its table are the operator's
pub lawful-listed : (s : Site) (payloads own : List (List ℕ)) → AreLawful s payloads → All (IsOneOf payloads) own
    → AreLawful s own
lawful-listed s payloads own lawful listed =
    All-weaker (IsOneOf payloads) (λ (p : List ℕ). is_payload s.op s.ins p ≡ true)
    (λ p at. subst (λ (x : List ℕ). is_payload s.op s.ins x ≡ true) (get_or_from_slice_get payloads at.0 p p at.1)
    (lawful at.0 p (slice_get_within payloads at.0 p at.1))) own listed

-- where no entries begin, no store of the operator's does
pub says-none : (s : Site) (bytes : List ℕ) (at : ℕ) (e : Take) → SaysNoEntries s.out bytes at e
    → SaysNoPayloads s bytes at e
says-none s bytes at (Bad place) says = (says.0, λ next es b. says.1 next es (forget s bytes at next es b))
says-none s bytes at NoMemory says = tt
