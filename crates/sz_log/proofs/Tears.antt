-- What a torn write leaves of a log. The key idea: whatever stands behind the closed gate, a log is its bytes up to
-- that gate, the gate's byte, and a rest.
use Rattle.std.proofs.Common.{◌≡◌, ◌≢◌, ◌⊎◌, inl, inr, ℕ, zero, suc, ◌+◌, ◌≤◌, ◌<◌, List, [], ◌∷◌, ◌++◌}
use Rattle.std.proofs.Common.{refl, sym, ap, ◌∙◌, length, get_or, take, drop, arith}
use Rattle.std.proofs.Common.{append_assoc, length-append, take-append-drop}
use Rattle.std.proofs.Math.Seq.{drop-append-add}
use Rattle.std.proofs.lemmas.List.{take_at, drop_at, drop_more, drop_all, length-take-le, append-nil}
use Rattle.std.proofs.lemmas.Bool.{cases_eq}
use Rattle.std.specs.List.{flat_map, AllByRecursion}
use Rattle.sz_outside.specs.Disk.{Torn, written}
use Rattle.sz_log.specs.Log.{LogGroup, IsLogGroup, IsLog, bytes_behind_gate, group_bytes, log_bytes, header}
use Rattle.sz_log.specs.Steps.{KeepsFront, place_behind}

-- ---- lists

pub take_less : (k m : ℕ) (l : List ℕ) → k ≤ m → take k (take m l) ≡ take k l
take_less zero m l le = refl
take_less (suc k) zero l le = absurd (omega (arith, le))
take_less (suc k) (suc m) [] le = refl
take_less (suc k) (suc m) (x ∷ l) le = ap (λ (r : List ℕ). x ∷ r) (take_less k m l (omega (arith, le)))

pub drop_twice : (m n : ℕ) (l : List ℕ) → drop n (drop m l) ≡ drop (m + n) l
drop_twice zero n l = ap (λ (k : ℕ). drop k l) (omega arith)
drop_twice (suc m) n [] = drop_all n [] (omega arith) ∙ sym (drop_all (suc m + n) [] (omega arith))
drop_twice (suc m) n (x ∷ l) =
    let more : suc (m + n) ≡ suc m + n = omega arith in
    drop_twice m n l ∙ ap (λ (k : ℕ). drop k (x ∷ l)) more

-- ---- writes

-- a write that is behind the first bytes keeps them
pub torn_keeps : (k at n : ℕ) (old new : List ℕ) → k ≤ at → Torn at n old new → take k new ≡ take k old
torn_keeps k at n old new le torn =
    sym (take_less k at new le) ∙ ap (λ (l : List ℕ). take k l) torn.before ∙ take_less k at old le

front_size : (d : List ℕ) (at : ℕ) (x : List ℕ) → at ≤ length d → length (take at d ++ x) ≡ at + length x
front_size d at x le = length-append (take at d) x ∙ ap (λ (n : ℕ). n + length x) (length-take-le at d le)

pub length-written : (d : List ℕ) (at : ℕ) (x : List ℕ) → at ≤ length d → at + length x ≤ length (written d at x)
length-written d at x le =
    omega (arith, front_size d at x le, length-append (take at d ++ x) (drop (at + length x) d))

-- two writes, the second behind the first, are one of both
pub written-both : (d : List ℕ) (at : ℕ) (x y : List ℕ) → at ≤ length d
    → written (written d at x) (at + length x) y ≡ written d at (x ++ y)
written-both d at x y le =
    let front : take (at + length x) (written d at x) ≡ take at d ++ x =
    take_at (take at d ++ x) (drop (at + length x) d) (at + length x) (front_size d at x le) in
    let back : drop (at + length x + length y) (written d at x) ≡ drop (at + length x + length y) d =
    ap (λ (n : ℕ). drop (n + length y) (written d at x)) (sym (front_size d at x le))
    ∙ drop-append-add (take at d ++ x) (drop (at + length x) d) (length y)
    ∙ drop_twice (at + length x) (length y) d in
    let size : at + length x + length y ≡ at + length (x ++ y) = omega (arith, length-append x y) in
    ap (λ (l : List ℕ). l ++ y ++ drop (at + length x + length y) (written d at x)) front
    ∙ ap (λ (l : List ℕ). take at d ++ x ++ y ++ l) (back ∙ ap (λ (n : ℕ). drop n d) size)
    ∙ ap (λ (l : List ℕ). l ++ drop (at + length (x ++ y)) d) (append_assoc (take at d) x y)

-- a byte that is written in front of a write
pub written-before : (d : List ℕ) (at b : ℕ) (x : List ℕ) → at < length d
    → written (written d (at + 1) x) at (b ∷ []) ≡ written d at (b ∷ x)
written-before d at b x lt =
    let whole : List ℕ = written d (at + 1) x in
    let split : whole ≡ take (at + 1) d ++ (x ++ drop (at + 1 + length x) d) =
    append_assoc (take (at + 1) d) x (drop (at + 1 + length x) d) in
    let long : length (take (at + 1) d) ≡ at + 1 = length-take-le (at + 1) d (omega (arith, lt)) in
    let near : take (at + 1) whole ≡ take (at + 1) d =
    ap (λ (l : List ℕ). take (at + 1) l) split ∙ take_at (take (at + 1) d) _ (at + 1) long in
    let front : take at whole ≡ take at d =
    sym (take_less at (at + 1) whole (omega arith)) ∙ ap (λ (l : List ℕ). take at l) near
    ∙ take_less at (at + 1) d (omega arith) in
    let back : drop (at + 1) whole ≡ x ++ drop (at + 1 + length x) d =
    ap (λ (l : List ℕ). drop (at + 1) l) split ∙ drop_at (take (at + 1) d) _ (at + 1) long in
    let size : at + 1 + length x ≡ at + length (b ∷ x) = omega arith in
    ap (λ (l : List ℕ). l ++ (b ∷ []) ++ drop (at + 1) whole) front
    ∙ ap (λ (l : List ℕ). take at d ++ (b ∷ []) ++ l) back
    ∙ append_assoc (take at d) (b ∷ []) (x ++ drop (at + 1 + length x) d)
    ∙ ap (λ (n : ℕ). take at d ++ (b ∷ (x ++ drop n d))) size
    ∙ sym (append_assoc (take at d) (b ∷ x) (drop (at + length (b ∷ x)) d))

-- ---- logs

pub flat_map-last : (es : List LogGroup) (e : LogGroup)
    → flat_map group_bytes (es ++ e ∷ []) ≡ flat_map group_bytes es ++ group_bytes e
flat_map-last [] e = append-nil (group_bytes e)
flat_map-last (x ∷ es) e =
    ap (λ (l : List ℕ). group_bytes x ++ l) (flat_map-last es e)
    ∙ sym (append_assoc (group_bytes x) (flat_map group_bytes es) (group_bytes e))

pub each-last : (es : List LogGroup) (e : LogGroup) → AllByRecursion IsLogGroup es → IsLogGroup e
    → AllByRecursion IsLogGroup (es ++ e ∷ [])
each-last [] e all is = (is, tt)
each-last (x ∷ es) e all is = (all.0, each-last es e all.1 is)

pub log-last : (es : List LogGroup) (e : LogGroup) → log_bytes (es ++ e ∷ []) ≡ log_bytes es ++ group_bytes e
log-last es e = ap (λ (l : List ℕ). header ++ l) (flat_map-last es e)
    ∙ sym (append_assoc header (flat_map group_bytes es) (group_bytes e))

length-entry : (e : LogGroup) → length (bytes_behind_gate e) ≡ 9 + length e.body
length-entry e = omega arith

-- whatever closes the gate and stands behind it
pub is_log_with : (es : List LogGroup) (at gate : ℕ) (behind disk : List ℕ) → at ≡ length (log_bytes es)
    → AllByRecursion IsLogGroup es
    → gate ≢ 1 → disk ≡ log_bytes es ++ gate ∷ behind → IsLog disk es at
is_log_with es at gate behind disk place each closed bytes =
    record { gate = gate; behind = behind; closed = closed; bytes = bytes; place = place; each = each }

-- a group whole behind an open gate, and a closed gate behind it
pub is_log_more : (es : List LogGroup) (e : LogGroup) (at : ℕ) (rest disk : List ℕ) → at ≡ length (log_bytes es)
    → AllByRecursion IsLogGroup es → IsLogGroup e → disk ≡ log_bytes es ++ 1 ∷ (bytes_behind_gate e ++ 0 ∷ rest)
    → IsLog disk (es ++ e ∷ []) (place_behind at e)
is_log_more es e at rest disk place each is bytes = record {
  gate = 0;
  behind = rest;
  closed = omega arith;
  bytes = bytes ∙ sym (append_assoc (log_bytes es) (group_bytes e) (0 ∷ rest))
      ∙ ap (λ (l : List ℕ). l ++ 0 ∷ rest) (sym (log-last es e));
  place = omega (
    arith,
    place,
    ap length (log-last es e),
    length-append (log_bytes es) (group_bytes e),
    length-entry e,
  );
  each = each-last es e each is;
}

-- a disk with a group written behind the gate at a place, and a closed gate behind it
abbrev pub staged : List ℕ → ℕ → LogGroup → List ℕ
staged d at e = written d (at + 1) (bytes_behind_gate e ++ 0 ∷ [])

module _ (d : List ℕ) (es : List LogGroup) (at : ℕ) (held : IsLog d es at) where
  pub place-inside : at + 1 ≤ length d
  place-inside = omega (arith, held.place, ap length held.bytes, length-append (log_bytes es) (held.gate ∷ held.behind))

  long-front : length (log_bytes es ++ held.gate ∷ []) ≡ at + 1
  long-front = omega (arith, held.place, length-append (log_bytes es) (held.gate ∷ []))

  -- the bytes up to the gate, and the gate
  pub front : take (at + 1) d ≡ log_bytes es ++ held.gate ∷ []
  front = ap (λ (l : List ℕ). take (at + 1) l)
      (held.bytes ∙ sym (append_assoc (log_bytes es) (held.gate ∷ []) held.behind))
      ∙ take_at (log_bytes es ++ held.gate ∷ []) held.behind (at + 1) long-front

  pub before : take at d ≡ log_bytes es
  before = ap (λ (l : List ℕ). take at l) held.bytes ∙ take_at (log_bytes es) (held.gate ∷ held.behind) at
      (sym held.place)

  -- what keeps the gate and all before it keeps the log
  pub kept_log : (image : List ℕ) → KeepsFront (at + 1) d image → IsLog image es at
  kept_log image keeps =
      let whole : image ≡ log_bytes es ++ held.gate ∷ drop (at + 1) image =
      sym (take-append-drop (at + 1) image) ∙ ap (λ (l : List ℕ). l ++ drop (at + 1) image) (keeps ∙ front)
      ∙ append_assoc (log_bytes es) (held.gate ∷ []) (drop (at + 1) image) in
      is_log_with es at held.gate (drop (at + 1) image) image held.place held.each held.closed whole

  abbrev pub rest : (e : LogGroup) → List ℕ
  rest e = drop (at + 1 + length (bytes_behind_gate e ++ 0 ∷ [])) d

  staged-is : (e : LogGroup) → written d (at + 1) (bytes_behind_gate e ++ 0 ∷ [])
      ≡ log_bytes es ++ held.gate ∷ (bytes_behind_gate e ++ 0 ∷ rest e)
  staged-is e =
      append_assoc (take (at + 1) d) (bytes_behind_gate e ++ 0 ∷ []) (rest e)
      ∙ ap (λ (l : List ℕ). l ++ (bytes_behind_gate e ++ 0 ∷ [] ++ rest e)) front
      ∙ append_assoc (log_bytes es) (held.gate ∷ []) (bytes_behind_gate e ++ 0 ∷ [] ++ rest e)
      ∙ ap (λ (l : List ℕ). log_bytes es ++ held.gate ∷ l) (append_assoc (bytes_behind_gate e) (0 ∷ []) (rest e))

  -- when the gate is torn, the log is without the group or has it whole
  pub torn_gate : (e : LogGroup) → IsLogGroup e → (image : List ℕ) → Torn at 1 (staged d at e) image
      → IsLog image es at ⊎ IsLog image (es ++ e ∷ []) (place_behind at e)
  torn_gate e is image torn =
      let tail : List ℕ = bytes_behind_gate e ++ 0 ∷ rest e in
      let gate : ℕ = get_or image at 0 in
      let long : length (staged d at e) ≡ at + 1 + length tail =
      omega (arith, held.place, ap length (staged-is e), length-append (log_bytes es) (held.gate ∷ tail)) in
      let first : take at (staged d at e) ≡ log_bytes es =
      ap (λ (l : List ℕ). take at l) (staged-is e) ∙ take_at (log_bytes es) (held.gate ∷ tail) at (sym held.place) in
      let last : drop (at + 1) (staged d at e) ≡ tail =
      ap (λ (l : List ℕ). drop (at + 1) l) (staged-is e ∙ sym (append_assoc (log_bytes es) (held.gate ∷ []) tail))
      ∙ drop_at (log_bytes es ++ held.gate ∷ []) tail (at + 1) long-front in
      let behind : drop at image ≡ gate ∷ tail =
      drop_more image at 0 (omega (arith, torn.no_shorter, long)) ∙ ap (λ (l : List ℕ). gate ∷ l) (torn.after ∙ last) in
      let whole : image ≡ log_bytes es ++ gate ∷ tail =
      sym (take-append-drop at image) ∙ ap (λ (l : List ℕ). l ++ drop at image) (torn.before ∙ first)
      ∙ ap (λ (l : List ℕ). log_bytes es ++ l) behind in
      elim (cases_eq gate 1) [
        | inl one ↦ inr (is_log_more es e at (rest e) image held.place held.each is
            (whole ∙ ap (λ (n : ℕ). log_bytes es ++ n ∷ tail) one))
        | inr other ↦ inl (is_log_with es at gate tail image held.place held.each other whole)
      ]

  -- and when it is written it has it
  pub opened_gate : (e : LogGroup) → IsLogGroup e
      → IsLog (written d at (group_bytes e ++ 0 ∷ [])) (es ++ e ∷ []) (place_behind at e)
  opened_gate e is =
      let tail : List ℕ = drop (at + length (group_bytes e ++ 0 ∷ [])) d in
      is_log_more es e at tail (written d at (group_bytes e ++ 0 ∷ [])) held.place held.each is
      (append_assoc (take at d) (group_bytes e ++ 0 ∷ []) tail
      ∙ ap (λ (l : List ℕ). l ++ (group_bytes e ++ 0 ∷ [] ++ tail)) before
      ∙ ap (λ (l : List ℕ). log_bytes es ++ l) (append_assoc (group_bytes e) (0 ∷ []) tail))
