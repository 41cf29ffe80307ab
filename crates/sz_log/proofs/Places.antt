-- What stands at a place, by the first ten bytes from there on.
use Rattle.std.proofs.Common.{◌≡◌, ℕ, ◌+◌, ◌-◌, ◌<◌, List, [], ◌∷◌, ◌++◌, refl, sym, ap, subst, ◌∙◌, length, arith}
use Rattle.std.proofs.Common.{Bool, true, false, get_or, take, drop, length-append, length-drop, take-append-drop}
use Rattle.std.proofs.Common.{slice_index_or, suc}
use Rattle.std.proofs.lemmas.Bool.Decides.{nat_tests}
use Rattle.std.proofs.lemmas.Nat.{be_bytes_8}
use Rattle.std.specs.Prelude.{◌==◌, ◌&&◌, nat_le, if◌then◌else◌}
use Rattle.std.specs.Int.{w64, from_be_bytes, to_be_bytes}
use Rattle.sz_outside.specs.Disk.{bytes_at}
use Rattle.sz_log.specs.Log.{is_kind}
use Rattle.sz_log.specs.Places.{group_in, group_on, opened_with, SpellsLength}
use Rattle.sz_log.specs.declared.groups.Group.TheVariants.{Whole, Bad}
use Rattle.sz_log.proofs.Tears.{drop_twice}

-- eight bytes of a list, from the third on
abbrev pub eight : List ℕ → List ℕ
eight l = slice_index_or l 2 0 ∷ slice_index_or l 3 0 ∷ slice_index_or l 4 0 ∷ slice_index_or l 5 0
    ∷ slice_index_or l 6 0 ∷ slice_index_or l 7 0 ∷ slice_index_or l 8 0 ∷ slice_index_or l 9 0 ∷ []

pub gate_is : (gate : ℕ) → (gate == 1) ≡ true → gate ≡ 1
gate_is gate is_one = grind (arith, nat_tests)

-- ten bytes, one by one
ten : (l : List ℕ) → length l ≡ 10 → l ≡ slice_index_or l 0 0 ∷ slice_index_or l 1 0 ∷ eight l
ten (g ∷ k ∷ a ∷ b ∷ c ∷ d ∷ e ∷ f ∷ h ∷ i ∷ []) is = refl
ten [] is = absurd (omega (arith, is))
ten (g ∷ []) is = absurd (omega (arith, is))
ten (g ∷ k ∷ []) is = absurd (omega (arith, is))
ten (g ∷ k ∷ a ∷ []) is = absurd (omega (arith, is))
ten (g ∷ k ∷ a ∷ b ∷ []) is = absurd (omega (arith, is))
ten (g ∷ k ∷ a ∷ b ∷ c ∷ []) is = absurd (omega (arith, is))
ten (g ∷ k ∷ a ∷ b ∷ c ∷ d ∷ []) is = absurd (omega (arith, is))
ten (g ∷ k ∷ a ∷ b ∷ c ∷ d ∷ e ∷ []) is = absurd (omega (arith, is))
ten (g ∷ k ∷ a ∷ b ∷ c ∷ d ∷ e ∷ f ∷ []) is = absurd (omega (arith, is))
ten (g ∷ k ∷ a ∷ b ∷ c ∷ d ∷ e ∷ f ∷ h ∷ []) is = absurd (omega (arith, is))
ten (g ∷ k ∷ a ∷ b ∷ c ∷ d ∷ e ∷ f ∷ h ∷ i ∷ j ∷ l) is = absurd (omega (arith, is))

module _ (at : ℕ) where
  -- ten bytes and a rest
  stands : (head rest : List ℕ) → length head ≡ 10 → slice_index_or head 0 0 ≡ 1
      → opened_with at (slice_index_or head 1 0) (from_be_bytes w64 (eight head)) (10 + length rest) ≡ group_in at
      (head ++ rest)
  stands head rest is one =
      let kind : ℕ = slice_index_or head 1 0 in
      let left : 10 + length rest ≡ 2 + length (eight head ++ rest) = omega arith in
      ap (λ (n : ℕ). opened_with at kind (from_be_bytes w64 (eight head)) n) left
      ∙ ap (λ (n : ℕ). group_in at (n ∷ kind ∷ (eight head ++ rest))) (sym one)
      ∙ ap (λ (l : List ℕ). group_in at (l ++ rest)) (sym (ten head is))

  pub stands_on : (size left : ℕ) (disk head : List ℕ) → size ≡ length disk → left ≡ size - at → length head ≡ 10
      → head ≡ bytes_at disk at 10 → slice_index_or head 0 0 ≡ 1
      → opened_with at (slice_index_or head 1 0) (from_be_bytes w64 (eight head)) left ≡ group_on disk at
  stands_on size left disk head is_size is_left is_ten is one =
      let rest : List ℕ = drop 10 (drop at disk) in
      let whole : head ++ rest ≡ drop at disk =
      ap (λ (l : List ℕ). l ++ rest) is ∙ take-append-drop 10 (drop at disk) in
      let all : left ≡ 10 + length rest =
      omega (arith, is_size, is_left, is_ten, length-append head rest, ap length whole, length-drop at disk) in
      ap (λ (n : ℕ). opened_with at (slice_index_or head 1 0) (from_be_bytes w64 (eight head)) n) all
      ∙ stands head rest is_ten one ∙ ap (group_in at) whole

  -- bytes spell the number that they say
  word : (head : List ℕ) (len : ℕ) → ((i : ℕ) → get_or head i 0 < 256) → length head ≡ 10
      → len ≡ from_be_bytes w64 (eight head) → to_be_bytes w64 len ≡ eight head
  word head len small is says =
      be_bytes_8 (eight head) len refl
      (λ i. subst (λ (l : List ℕ). get_or l (suc (suc i)) 0 < 256) (ten head is) (small (suc (suc i)))) says

  pub spells_on : (kind len left : ℕ) (disk head : List ℕ) → ((i : ℕ) → get_or head i 0 < 256) → length head ≡ 10
      → head ≡ bytes_at disk at 10 → len ≡ from_be_bytes w64 (eight head)
      → SpellsLength disk at (opened_with at kind len left)
  spells_on kind len left disk head small is_ten is says = by (is_kind kind && nat_le (10 + len) left) where
    rest : List ℕ
    rest = drop 10 (drop at disk)

    whole : drop at disk ≡ slice_index_or head 0 0 ∷ slice_index_or head 1 0 ∷ (eight head ++ rest)
    whole =
        sym (take-append-drop 10 (drop at disk)) ∙ ap (λ (l : List ℕ). l ++ rest) (sym is ∙ ten head is_ten)

    there : bytes_at disk (at + 2) 8 ≡ eight head
    there =
        ap (λ (l : List ℕ). take 8 l) (sym (drop_twice at 2 disk) ∙ ap (λ (l : List ℕ). drop 2 l) whole)

    by : (t : Bool) → SpellsLength disk at (if t then Whole kind (at + 10) len (at + 10 + len) else Bad)
    by true = there ∙ sym (word head len small is_ten says)
    by false = tt
