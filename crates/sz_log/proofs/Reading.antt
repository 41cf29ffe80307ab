-- What is read of a log place by place. The key idea: behind any front, the bytes of the next group say where the front
-- goes on.
use Rattle.std.proofs.Common.{◌≡◌, ◌≢◌, ℕ, ◌+◌, ◌≤◌, true, List, [], ◌∷◌, ◌++◌, refl, sym, ap, ◌∙◌, length, take, drop}
use Rattle.std.proofs.Common.{arith}
use Rattle.std.proofs.Common.{append_assoc, length-append}
use Rattle.std.proofs.lemmas.Bool.Decides.{nat_tests}
use Rattle.std.proofs.lemmas.Nat.{from_be_bytes-to_be_bytes_8}
use Rattle.std.proofs.lemmas.List.{take_at, drop_at}
use Rattle.std.specs.Prelude.{nat_le}
use Rattle.std.specs.Int.{w64, to_be_bytes}
use Rattle.std.specs.List.{flat_map, AllByRecursion}
use Rattle.sz_log.specs.Log.{LogGroup, IsLogGroup, group_bytes, header, is_kind}
use Rattle.sz_log.specs.Places.{group_in, opened_with}
use Rattle.sz_log.specs.Steps.{place_behind}
use Rattle.sz_log.specs.Laws.{Reads, GroupsAreRead}
use Rattle.sz_log.specs.declared.groups.Group.TheVariants.{Closed, Whole}

closed_gate : (at gate : ℕ) (l : List ℕ) → gate ≢ 1 → group_in at (gate ∷ l) ≡ Closed
closed_gate at gate l shut = grind (arith, nat_tests)

has_room : (n left : ℕ) → 10 + n ≤ left → nat_le (10 + n) left ≡ true
has_room n left le = grind (arith, nat_tests)

-- a kind that is one, and a length that is there
opened_whole : (at kind n left : ℕ) → is_kind kind ≡ true → 10 + n ≤ left
    → opened_with at kind n left ≡ Whole kind (at + 10) n (at + 10 + n)
opened_whole at kind n left is le = rw (is, has_room n left le) refl

whole_group : (at : ℕ) (e : LogGroup) (rest : List ℕ) → IsLogGroup e
    → group_in at (group_bytes e ++ rest) ≡ Whole e.kind (at + 10) (length e.body) (place_behind at e)
whole_group at e rest is =
    let spelled : List ℕ = to_be_bytes w64 (length e.body) in
    let room : 2 + length (spelled ++ e.body ++ rest) ≡ 10 + (length e.body + length rest) =
    omega (arith, length-append e.body rest) in
    ap (λ (n : ℕ). opened_with at e.kind n (2 + length (spelled ++ e.body ++ rest)))
    (from_be_bytes-to_be_bytes_8 (length e.body) is.1)
    ∙ opened_whole at e.kind (length e.body) (2 + length (spelled ++ e.body ++ rest)) is.0 (omega (arith, room))

-- the bytes of a group up to its body
abbrev head : LogGroup → List ℕ
head e = 1 ∷ e.kind ∷ to_be_bytes w64 (length e.body)

walk : (disk front : List ℕ) (es : List LogGroup) (at end gate : ℕ) (behind : List ℕ)
    → disk ≡ front ++ (flat_map group_bytes es ++ gate ∷ behind) → at ≡ length front
    → end ≡ at + length (flat_map group_bytes es) → AllByRecursion IsLogGroup es → gate ≢ 1 → Reads disk at es end
walk disk front [] at end gate behind is place last each shut = (
  omega (arith, last),
  ap (group_in at) (ap (λ (l : List ℕ). drop at l) is ∙ drop_at front (gate ∷ behind) at (sym place))
      ∙ closed_gate at gate behind shut,
)
walk disk front (e ∷ es) at end gate behind is place last each shut =
    let rest : List ℕ = flat_map group_bytes es ++ gate ∷ behind in
    let inner : disk ≡ front ++ (group_bytes e ++ rest) =
    is ∙ ap (λ (l : List ℕ). front ++ l) (append_assoc (group_bytes e) (flat_map group_bytes es) (gate ∷ behind)) in
    let next : disk ≡ front ++ group_bytes e ++ rest = inner ∙ sym (append_assoc front (group_bytes e) rest) in
    let body : disk ≡ front ++ head e ++ (e.body ++ rest) =
    inner ∙ ap (λ (l : List ℕ). front ++ l) (append_assoc (head e) e.body rest)
    ∙ sym (append_assoc front (head e) (e.body ++ rest)) in
    let long : length (front ++ head e) ≡ at + 10 = omega (arith, place, length-append front (head e)) in
    let size : length (group_bytes e) ≡ 10 + length e.body = omega arith in (
      ap (group_in at) (ap (λ (l : List ℕ). drop at l) inner ∙ drop_at front (group_bytes e ++ rest) at (sym place))
          ∙ whole_group at e rest each.0,
      ap (λ (l : List ℕ). take (length e.body) l)
          (ap (λ (l : List ℕ). drop (at + 10) l) body ∙ drop_at (front ++ head e) (e.body ++ rest) (at + 10) long)
          ∙ take_at e.body rest (length e.body) refl,
      walk disk (front ++ group_bytes e) es (place_behind at e) end gate behind next
          (omega (arith, place, size, length-append front (group_bytes e)))
          (omega (arith, last, size, length-append (group_bytes e) (flat_map group_bytes es))) each.1 shut,
    )

pub groups_read : GroupsAreRead
groups_read disk es end held =
    walk disk header es 16 end held.gate held.behind
    (held.bytes ∙ append_assoc header (flat_map group_bytes es) (held.gate ∷ held.behind))
    refl (omega (arith, held.place, length-append header (flat_map group_bytes es))) held.each held.closed
