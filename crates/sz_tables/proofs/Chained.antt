-- How a chain of entries stays right where a key or an entry is added.
--
-- The key idea: what holds of the entries below a number does not read those behind it, so one more entry leaves it as
-- it is; and the new entry is the last one of its key, and of no other.
use Rattle.std.proofs.Common.{◌≡◌, ◌≢◌, ℕ, ◌+◌, ◌<◌, ◌≤◌, List, [], ◌∷◌, ◌++◌, length, map, get_or, set}
use Rattle.std.proofs.Common.{sym, ap, subst, ◌∙◌, inl, inr, arith, add-one, length-append, length-set}
use Rattle.std.proofs.Common.{get_or-set_other, get_or-set_same, Option, Some, None}
use Rattle.std.specs.List.{HoldsAt, AllWithin}
use Rattle.std.proofs.Math.ListN.{get_or-append}
use Rattle.std.proofs.Math.Seq.{get_or-append_seam}
use Rattle.std.proofs.lemmas.List.{map-append, length-map, get_or-map, get_or_past}
use Rattle.std.proofs.lemmas.Bool.{cases_eq, cases_lt}
use Rattle.std.proofs.lemmas.Grind.{get_or_default_zero}
use Rattle.std.proofs.lemmas.List.Elements.{AllWithin-more, All-push}
use Rattle.sz_tables.specs.Filed.{Filed, IsLastBelow, entry_of, told, AreChained}
use Rattle.sz_tables.specs.declared.chains.Link.{Link}

-- ---- the last entry of a key, where one more entry stands behind

within-push : {X : Type 0} (P : X → Type 0) (xs : List X) (x : X) (low high : ℕ) → high ≤ length xs
    → AllWithin P xs low high → AllWithin P (xs ++ x ∷ []) low high
within-push P xs x low high inside all k d from below =
    let lt : k < length xs = omega arith in
    rw (get_or-append xs (x ∷ []) d k lt) (all k d from below)

-- an entry behind them leaves the last one below a number
pub last-push : (es : List Filed) (e : Filed) (key end : ℕ) (r : Option ℕ) → end ≤ length es
    → IsLastBelow es key end r → IsLastBelow (es ++ e ∷ []) key end r
last-push es e key end None inside h = within-push (λ x. x.key ≢ key) es e 0 end inside h
last-push es e key end (Some n) inside h =
    let lt : n < length es = omega arith in (
      h.0,
      λ d. rw (get_or-append es (e ∷ []) d n lt) (h.1 d),
      within-push (λ x. x.key ≢ key) es e (n + 1) end inside h.2,
    )

-- an entry of another key leaves the last one
pub last-other : (es : List Filed) (e : Filed) (key : ℕ) (r : Option ℕ) → e.key ≢ key
    → IsLastBelow es key (length es) r → IsLastBelow (es ++ e ∷ []) key (length es + 1) r
last-other es e key None other h =
    AllWithin-more (λ x. x.key ≢ key) (es ++ e ∷ []) 0 (length es)
    (within-push (λ x. x.key ≢ key) es e 0 (length es) (omega arith) h)
    (λ d. rw (get_or-append_seam es e [] d) other)
last-other es e key (Some n) other h =
    let lt : n < length es = h.0 in (
      omega arith,
      λ d. rw (get_or-append es (e ∷ []) d n lt) (h.1 d),
      AllWithin-more (λ x. x.key ≢ key) (es ++ e ∷ []) (n + 1) (length es)
          (within-push (λ x. x.key ≢ key) es e (n + 1) (length es) (omega arith) h.2)
          (λ d. rw (get_or-append_seam es e [] d) other),
    )

-- an entry is the last one of its key
pub last-here : (es : List Filed) (e : Filed) (key count : ℕ) (r : Option ℕ) → e.key ≡ key → length es ≡ count
    → r ≡ Some count → IsLastBelow (es ++ e ∷ []) key (count + 1) r
last-here es e key count r same long is =
    let here : HoldsAt (λ x. x.key ≡ key) (es ++ e ∷ []) count =
    subst (HoldsAt (λ x. x.key ≡ key) (es ++ e ∷ [])) long
    (λ d. ap (λ (x : Filed). x.key) (get_or-append_seam es e [] d) ∙ same) in
    subst (IsLastBelow (es ++ e ∷ []) key (count + 1)) (sym is)
    (omega arith, here, λ k d from below. absurd (omega arith))

-- ---- heads and links

-- a number past the last entry would have every key
pub entry-within : (es : List Filed) (n key : ℕ) → HoldsAt (λ e. e.key ≡ key) es n → n < length es
entry-within es n key has = elim (cases_lt n (length es)) [
  | inl within ↦ within
  | inr past ↦
      let d : Filed = record { key = key + 1; item = 0 } in
      let wrong : d.key ≡ key = rw (get_or_past es n d past) at (has d) in
      absurd (omega arith)
]

-- the key of an entry is that of its link
pub entry-key : (links : List Link) (k : ℕ) (e : Filed) (d : Link) → k < length links
    → (get_or (map entry_of links) k e).key ≡ (get_or links k d).key
entry-key links k e d inside = ap (λ (x : Filed). x.key) (get_or-map entry_of links k d e inside)

-- a key under which nothing is filed
pub chained-key : (heads : List ℕ) (links : List Link) → AreChained heads links
    → AreChained (heads ++ 0 ∷ []) links
chained-key heads links was = record {
  last = λ key inside. elim (cases_eq key (length heads)) [
    | inl new ↦
        subst (λ (r : ℕ). IsLastBelow (map entry_of links) key (length links) (told r))
        (sym (ap (λ k. get_or (heads ++ 0 ∷ []) k 0) new ∙ get_or-append_seam heads 0 [] 0))
        (λ k e from below.
        let d : Link = record { key = 0; item = 0; before = 0 } in
        let lower = was.keys k d below in
        omega (arith, entry-key links k e d below))
    | inr old ↦
        let lt : key < length heads = omega (arith, length-append heads (0 ∷ [])) in
        rw (get_or-append heads (0 ∷ []) 0 key lt) (was.last key lt)
  ];
  before = was.before;
  keys = λ k d inside. omega (arith, length-append heads (0 ∷ []), was.keys k d inside);
}

-- the heads and links where an entry is filed under a key
abbrev filed_heads : List ℕ → List Link → ℕ → List ℕ
filed_heads heads links key = set heads key (length links + 1)

abbrev filed_link : ℕ → ℕ → ℕ → Link
filed_link key item before = record { key = key; item = item; before = before }

-- each key's last entry, as its head tells it
last-entry : (heads : List ℕ) (links : List Link) (key item before k : ℕ) → key < length heads → k < length heads
    → AreChained heads links
    → IsLastBelow (map entry_of links ++ (record { key = key; item = item }) ∷ []) k (length links + 1)
    (told (get_or (filed_heads heads links key) k 0))
last-entry heads links key item before k inside below was =
    let es = map entry_of links in
    let e : Filed = record { key = key; item = item } in
    let count : length es ≡ length links = length-map links entry_of in
    elim (cases_eq k key) [
      | inl same ↦
          let head : get_or (filed_heads heads links key) k 0 ≡ length links + 1 =
          ap (λ j. get_or (filed_heads heads links key) j 0) same
          ∙ get_or-set_same heads key (length links + 1) 0 inside in
          last-here es e k (length links) (told (get_or (filed_heads heads links key) k 0)) (sym same) count
          (ap told (head ∙ add-one (length links)))
      | inr other ↦
          rw (get_or-set_other heads key k (length links + 1) 0 other)
          (subst (λ (n : ℕ). IsLastBelow (es ++ e ∷ []) k (n + 1) (told (get_or heads k 0))) count
          (last-other es e k (told (get_or heads k 0)) (λ same. other (sym same))
          (subst (λ (n : ℕ). IsLastBelow es k n (told (get_or heads k 0))) (sym count) (was.last k below))))
    ]

-- an entry that is filed under a key
pub chained-entry : (heads : List ℕ) (links : List Link) (key item before : ℕ) → key < length heads
    → before ≡ get_or heads key before → AreChained heads links
    → AreChained (set heads key (length links + 1)) (links ++ record { key = key; item = item; before = before } ∷ [])
chained-entry heads links key item before inside read was =
    let l : Link = record { key = key; item = item; before = before } in
    let es = map entry_of links in
    let grown : map entry_of (links ++ l ∷ []) ≡ es ++ entry_of l ∷ [] = map-append entry_of links (l ∷ []) in
    let longer : length (links ++ l ∷ []) ≡ length links + 1 = length-append links (l ∷ []) in
    let wide : length (set heads key (length links + 1)) ≡ length heads = length-set heads key (length links + 1) in
    let count : length es ≡ length links = length-map links entry_of in
    record {
      last = λ k below. rw (grown, longer) (last-entry heads links key item before k inside (rw wide at below) was);
      before = λ n d below. rw grown (elim (cases_eq n (length links)) [
        | inl new ↦
            let at : get_or (links ++ l ∷ []) n d ≡ l =
            ap (λ j. get_or (links ++ l ∷ []) j d) new ∙ get_or-append_seam links l [] d in
            let told_so : IsLastBelow es key n (told before) =
            subst (λ (b : ℕ). IsLastBelow es key n (told b)) (sym (read ∙ get_or_default_zero heads key before inside))
            (subst (λ (j : ℕ). IsLastBelow es key j (told (get_or heads key 0))) (sym new) (was.last key inside)) in
            rw at (last-push es (entry_of l) key n (told before) (omega arith) told_so)
        | inr old ↦
            let lt : n < length links = omega arith in
            rw (get_or-append links (l ∷ []) d n lt) (last-push es (entry_of l)
            (get_or links n d).key n (told (get_or links n d).before) (omega arith) (was.before n d lt))
      ]);
      keys = rw wide (All-push (λ x. x.key < length heads) links l was.keys inside);
    }

-- the link of an entry tells the one before it of its key
pub chained-before : (heads : List ℕ) (links : List Link) (n key : ℕ) (l : Link) → AreChained heads links
    → HoldsAt (λ e. e.key ≡ key) (map entry_of links) n → l ≡ get_or links n l
    → IsLastBelow (map entry_of links) key n (told l.before)
chained-before heads links n key l was has read =
    let within : n < length links =
    omega (arith, entry-within (map entry_of links) n key has, length-map links entry_of) in
    let same : (get_or links n l).key ≡ key = sym (entry-key links n (entry_of l) l within) ∙ has (entry_of l) in
    subst (λ (x : Link). IsLastBelow (map entry_of links) key n (told x.before)) (sym read)
    (subst (λ (k : ℕ). IsLastBelow (map entry_of links) k n (told (get_or links n l).before)) same
    (was.before n l within))
