-- Where a well-made log ends. The key idea: its lengths stand as they are written, so what is read at a place are the
-- bytes of the group that stands there.
use Rattle.std.proofs.Common.{◌≡◌, ◌≢◌, ℕ, ◌+◌, ◌≤◌, ◌<◌, ◌^◌, List, [], ◌∷◌, ◌++◌, refl, sym, ap, ◌∙◌, subst}
use Rattle.std.proofs.Common.{length, take, drop, arith, true, false, true≢false, Bool, Some, None}
use Rattle.std.proofs.Common.{append_assoc, length-append, take-append-drop}
use Rattle.std.specs.Prelude.{◌==◌, ◌&&◌, nat_le, if◌then◌else◌}
use Rattle.std.specs.Cmp.Lexicographic.{same_text}
use Rattle.std.specs.Int.{w64, to_be_bytes, from_be_bytes}
use Rattle.std.specs.List.{flat_map, AllByRecursion}
use Rattle.std.proofs.lemmas.Bool.{and_parts, eqb-true, leb-true}
use Rattle.std.proofs.lemmas.List.{drop_at}
use Rattle.sz_outside.specs.Disk.{bytes_at}
use Rattle.sz_log.specs.Log.{LogGroup, IsLogGroup, IsLog, begins_as_log, group_bytes, header, is_kind}
use Rattle.sz_log.specs.Laws.{Reads}
use Rattle.sz_log.specs.Places.{group_in, opened}
use Rattle.sz_log.specs.Steps.{place_behind}
use Rattle.sz_log.specs.declared.groups.Group.TheVariants as group
use Rattle.sz_log.proofs.Tears.{drop_twice}
use Rattle.sz_catalogue.specs.Holdings.{Holdings}
use Rattle.sz_recover.specs.Logs.{Kept, AreSpelled, IsWellMade}
use Rattle.sz_recover.specs.Growing.{ReadGroupsAreLogs, LogsAreSpelled, WellMadeLogsEnd, MadeLogsEnd}

-- ---- what stands behind an open gate

record IsOpen (l : List ℕ) (kind long : ℕ) : Type 0 where
  bytes : List ℕ
  is : l ≡ 1 ∷ kind ∷ bytes
  known : is_kind kind ≡ true
  says : from_be_bytes w64 (take 8 bytes) ≡ long
  room : 8 + long ≤ length bytes

open-if : (t : Bool) (at k len : ℕ) (bytes : List ℕ) (kind place long next : ℕ)
    → t ≡ (is_kind k && nat_le (10 + len) (2 + length bytes)) → from_be_bytes w64 (take 8 bytes) ≡ len
    → (if t then group.Whole k (at + 10) len (at + 10 + len) else group.Bad) ≡ group.Whole kind place long next
    → IsOpen (1 ∷ k ∷ bytes) kind long
open-if false at k len bytes kind place long next test says is = cc
open-if true at k len bytes kind place long next test says is =
    let same : k ≡ kind = cc in
    let long_is : len ≡ long = cc in
    let both = and_parts (is_kind k) (nat_le (10 + len) (2 + length bytes)) (sym test) in
    record {
      bytes = bytes;
      is = ap (λ (n : ℕ). 1 ∷ n ∷ bytes) same;
      known = subst (λ (n : ℕ). is_kind n ≡ true) same both.0;
      says = says ∙ long_is;
      room = omega (arith, leb-true (10 + len) (2 + length bytes) both.1, long_is);
    }

open-gate : (at : ℕ) (bytes : List ℕ) (kind place long next : ℕ) → opened at bytes ≡ group.Whole kind place long next
    → IsOpen (1 ∷ bytes) kind long
open-gate at [] kind place long next is = cc
open-gate at (k ∷ bytes) kind place long next is =
    open-if (is_kind k && nat_le (10 + from_be_bytes w64 (take 8 bytes)) (2 + length bytes)) at k
    (from_be_bytes w64 (take 8 bytes)) bytes kind place long next refl refl is

open-at : (at : ℕ) (l : List ℕ) (kind place long next : ℕ) → group_in at l ≡ group.Whole kind place long next
    → IsOpen l kind long
open-at at [] kind place long next is = cc
open-at at (gate ∷ bytes) kind place long next is = choose (gate == 1) refl is where
  choose : (t : Bool) → t ≡ (gate == 1)
      → (if t then opened at bytes else group.Closed) ≡ group.Whole kind place long next
      → IsOpen (gate ∷ bytes) kind long
  choose false test clash = cc
  choose true test whole =
      subst (λ (n : ℕ). IsOpen (n ∷ bytes) kind long) (sym (eqb-true gate 1 (sym test)))
      (open-gate at bytes kind place long next whole)

-- ---- one group

behind-two : (disk : List ℕ) (at kind : ℕ) (bytes : List ℕ) → drop at disk ≡ 1 ∷ kind ∷ bytes
    → drop (at + 2) disk ≡ bytes
behind-two disk at kind bytes is = sym (drop_twice at 2 disk) ∙ ap (λ (l : List ℕ). drop 2 l) is

-- a length that is read back is one of eight bytes
short-length : (n : ℕ) → from_be_bytes w64 (to_be_bytes w64 n) ≡ n → n < 2 ^ 64
short-length n same = omega (arith, same)

-- the bytes of the group, and what stands behind them
group-there : (disk : List ℕ) (at : ℕ) (e : LogGroup) → IsOpen (drop at disk) e.kind (length e.body)
    → bytes_at disk (at + 10) (length e.body) ≡ e.body
    → bytes_at disk (at + 2) 8 ≡ to_be_bytes w64 (length e.body)
    → drop at disk ≡ group_bytes e ++ drop (place_behind at e) disk
group-there disk at e there body spelled =
    let long : ℕ = length e.body in
    let bytes : List ℕ = there.bytes in
    let behind : drop (at + 2) disk ≡ bytes = behind-two disk at e.kind bytes there.is in
    let word : take 8 bytes ≡ to_be_bytes w64 long = ap (λ (l : List ℕ). take 8 l) (sym behind) ∙ spelled in
    let ten : drop (at + 10) disk ≡ drop 8 bytes =
    ap (λ (n : ℕ). drop n disk) (omega arith) ∙ sym (drop_twice (at + 2) 8 disk)
    ∙ ap (λ (l : List ℕ). drop 8 l) behind in
    let inner : take long (drop 8 bytes) ≡ e.body = ap (λ (l : List ℕ). take long l) (sym ten) ∙ body in
    let rest : drop long (drop 8 bytes) ≡ drop (place_behind at e) disk =
    ap (λ (l : List ℕ). drop long l) (sym ten) ∙ drop_twice (at + 10) long disk in
    let tail : drop 8 bytes ≡ e.body ++ drop (place_behind at e) disk =
    sym (take-append-drop long (drop 8 bytes)) ∙ ap (λ (l : List ℕ). l ++ drop long (drop 8 bytes)) inner
    ∙ ap (λ (l : List ℕ). e.body ++ l) rest in
    let whole : bytes ≡ to_be_bytes w64 long ++ (e.body ++ drop (place_behind at e) disk) =
    sym (take-append-drop 8 bytes) ∙ ap (λ (l : List ℕ). l ++ drop 8 bytes) word
    ∙ ap (λ (l : List ℕ). to_be_bytes w64 long ++ l) tail in
    there.is ∙ ap (λ (l : List ℕ). 1 ∷ e.kind ∷ l) whole

-- ---- groups one after another

-- from a place on a disk has the bytes of groups, a closed gate and a rest
record HasGroups (disk : List ℕ) (at : ℕ) (es : List LogGroup) (end : ℕ) : Type 0 where
  gate : ℕ
  behind : List ℕ
  closed : gate ≢ 1
  bytes : drop at disk ≡ flat_map group_bytes es ++ gate ∷ behind
  place : end ≡ at + length (flat_map group_bytes es)
  each : AllByRecursion IsLogGroup es

-- a closed gate
closed-at : (at : ℕ) (l : List ℕ) → group_in at l ≡ group.Closed
    → (gate : ℕ) × (behind : List ℕ) × (gate ≢ 1) × (l ≡ gate ∷ behind)
closed-at at [] is = cc
closed-at at (gate ∷ bytes) is = (gate, bytes, choose (gate == 1) refl is, refl) where
  never : (bytes : List ℕ) → opened at bytes ≡ group.Closed → ⊥
  never [] is = cc
  never (k ∷ bytes) is = by (is_kind k && nat_le (10 + from_be_bytes w64 (take 8 bytes)) (2 + length bytes)) is where
    by : (t : Bool) → (if t then group.Whole k (at + 10) (from_be_bytes w64 (take 8 bytes))
        (at + 10 + from_be_bytes w64 (take 8 bytes)) else group.Bad) ≡ group.Closed → ⊥
    by true is = cc
    by false is = cc

  choose : (t : Bool) → t ≡ (gate == 1) → (if t then opened at bytes else group.Closed) ≡ group.Closed → gate ≢ 1
  choose true test is one = never bytes is
  choose false test is one = true≢false (sym (test ∙ ap (λ (n : ℕ). n == 1) one))

groups-there : (disk : List ℕ) (at : ℕ) (es : List LogGroup) (end : ℕ) → Reads disk at es end → AreSpelled disk at es
    → HasGroups disk at es end
groups-there disk at [] end read spelled =
    let shut = closed-at at (drop at disk) read.1 in
    record {
      gate = shut.0;
      behind = shut.1;
      closed = shut.2;
      bytes = shut.3;
      place = omega (arith, read.0);
      each = tt;
    }
groups-there disk at (e ∷ es) end read spelled =
    let there = open-at at (drop at disk) e.kind (at + 10) (length e.body) (place_behind at e) read.0 in
    let word : take 8 there.bytes ≡ to_be_bytes w64 (length e.body) =
    ap (λ (l : List ℕ). take 8 l) (sym (behind-two disk at e.kind there.bytes there.is)) ∙ spelled.0 in
    let short = short-length (length e.body) (sym (ap (from_be_bytes w64) word) ∙ there.says) in
    let more = groups-there disk (place_behind at e) es end read.2 spelled.1 in
    let size : length (group_bytes e) ≡ 10 + length e.body = omega arith in
    record {
      gate = more.gate;
      behind = more.behind;
      closed = more.closed;
      bytes = group-there disk at e there read.1 spelled.0 ∙ ap (λ (l : List ℕ). group_bytes e ++ l) more.bytes
          ∙ sym (append_assoc (group_bytes e) (flat_map group_bytes es) (more.gate ∷ more.behind));
      place = omega (arith, more.place, size, length-append (group_bytes e) (flat_map group_bytes es));
      each = ((there.known, short), more.each);
    }

-- ---- the whole

header-is : (l : List ℕ) → begins_as_log l ≡ true → take 16 l ≡ header
header-is l is = same_text (take 16 l) header (sym is)

pub read-logs : ReadGroupsAreLogs
read-logs disk es at begins read spelled =
    let groups = groups-there disk 16 es at read spelled in
    let front : take 16 disk ≡ header = header-is disk begins in
    record {
      gate = groups.gate;
      behind = groups.behind;
      closed = groups.closed;
      bytes = sym (take-append-drop 16 disk) ∙ ap (λ (l : List ℕ). l ++ drop 16 disk) front
          ∙ ap (λ (l : List ℕ). header ++ l) groups.bytes
          ∙ sym (append_assoc header (flat_map group_bytes es) (groups.gate ∷ groups.behind));
      place = omega (arith, groups.place, length-append header (flat_map group_bytes es));
      each = groups.each;
    }

-- ---- the other way round

spelled-behind : (disk front : List ℕ) (es : List LogGroup) (at gate : ℕ) (behind : List ℕ)
    → disk ≡ front ++ (flat_map group_bytes es ++ gate ∷ behind) → at ≡ length front → AreSpelled disk at es
spelled-behind disk front [] at gate behind is place = tt
spelled-behind disk front (e ∷ es) at gate behind is place =
    let rest : List ℕ = flat_map group_bytes es ++ gate ∷ behind in
    let two : List ℕ = 1 ∷ e.kind ∷ [] in
    let word : List ℕ = to_be_bytes w64 (length e.body) in
    let inner : disk ≡ front ++ (group_bytes e ++ rest) =
    is ∙ ap (λ (l : List ℕ). front ++ l) (append_assoc (group_bytes e) (flat_map group_bytes es) (gate ∷ behind)) in
    let next : disk ≡ (front ++ group_bytes e) ++ rest = inner ∙ sym (append_assoc front (group_bytes e) rest) in
    let split : disk ≡ (front ++ two) ++ (word ++ e.body ++ rest) =
    inner ∙ sym (append_assoc front two (word ++ e.body ++ rest)) in
    let long : length (front ++ two) ≡ at + 2 = omega (arith, place, length-append front two) in
    let size : length (group_bytes e) ≡ 10 + length e.body = omega arith in (
      ap (λ (l : List ℕ). take 8 (drop (at + 2) l)) split
          ∙ ap (λ (l : List ℕ). take 8 l) (drop_at (front ++ two) (word ++ e.body ++ rest) (at + 2) long),
      spelled-behind disk (front ++ group_bytes e) es (place_behind at e) gate behind next
          (omega (arith, place, size, length-append front (group_bytes e))),
    )

pub logs-spelled : LogsAreSpelled
logs-spelled disk es at held =
    spelled-behind disk header es 16 held.gate held.behind
    (held.bytes ∙ append_assoc header (flat_map group_bytes es) (held.gate ∷ held.behind)) refl

-- ---- well-made logs

-- a number that is no byte is read as a part of a length too, though no length is written so
no-byte-read : from_be_bytes w64 (0 ∷ 0 ∷ 0 ∷ 0 ∷ 0 ∷ 0 ∷ 0 ∷ 300 ∷ []) ≡ 300
no-byte-read = refl

-- its groups are those that act
pub well-made-log : (disk : List ℕ) (at format : ℕ) (c : Holdings) (kept : List Kept)
    (made : IsWellMade disk at format c kept) → IsLog disk made.entries at
well-made-log disk at format c kept made = read-logs disk made.entries at made.header made.read made.spelled

pub well-made-logs-end : WellMadeLogsEnd
well-made-logs-end disk at format c kept made = (made.entries, well-made-log disk at format c kept made)

pub made-logs-end : MadeLogsEnd
made-logs-end None at format c kept made = tt
made-logs-end (Some disk) at format c kept made = well-made-logs-end disk at format c kept made
