-- What follows of words that are made their cells' labels, one after the other.
--
-- The key idea: a cell is linked to itself, or to an earlier cell, which has its label by then; and both have one root.
use Rattle.std.proofs.Common.{◌≡◌, ℕ, ◌+◌, ◌-◌, ◌<◌, ◌≤◌, List, length, get_or, refl, sym, ap, subst, ◌∙◌}
use Rattle.std.proofs.Common.{arith, inl, inr}
use Rattle.std.proofs.Common.{get_or-set_other, get_or-set_same}
use Rattle.std.proofs.Math.ListN.{set, length-set}
use Rattle.std.proofs.lemmas.Bool.{eq-eqb, ne_eqb}
use Rattle.std.proofs.lemmas.Bool.Decides.{eqb_tells}
use Rattle.sz_ops_region.specs.Links.{HasLink, AreLinks, AreRoots, label_by, word_on}

-- the words of the cells below an index are their labels, and those of the others are as they were
pub record AreSettled (first words : List ℕ) (n : ℕ) : Type 0 where
  pub links : AreLinks first
  pub long : length words ≡ length first
  pub done : (root : ℕ → ℕ) → AreRoots first root → (k : ℕ) → k < n → get_or words k 0 ≡ label_by first root k
  pub rest : (k : ℕ) → n ≤ k → get_or words k 0 ≡ get_or first k 0

pub settled-first : (first : List ℕ) → AreLinks first → AreSettled first first 0
settled-first first links = record {
  links = links;
  long = refl;
  done = λ root roots k below. absurd (omega arith);
  rest = λ k from. refl;
}

pub label-none : (words : List ℕ) (root : ℕ → ℕ) (k : ℕ) → get_or words k 0 ≡ 0 → label_by words root k ≡ 0
label-none words root k is = rw (eq-eqb (get_or words k 0) 0 is) refl

pub label-some : (words : List ℕ) (root : ℕ → ℕ) (k : ℕ) → HasLink words k → label_by words root k ≡ 1 + root k
label-some words root k has = rw (ne_eqb (get_or words k 0) 0 (λ is. omega (arith, is, has))) refl

-- the word on which the next cell's leads is its label
pub settled-label : (first words : List ℕ) (root : ℕ → ℕ) (n : ℕ) → AreSettled first words n → AreRoots first root
    → word_on words n ≡ label_by first root n
settled-label first words root n f roots =
    let here = f.rest n (omega arith) in
    elim (eqb_tells (get_or words n 0) 0) [
      | inl none ↦ rw none.0 (sym (label-none first root n (sym here ∙ none.1)))
      | inr some ↦
          let p = get_or words n 0 - 1 in
          let is : get_or first n 0 ≡ 1 + p = omega (arith, here, some.1) in
          let label : label_by first root n ≡ 1 + root n = label-some first root n (omega (arith, is)) in
          rw some.0 (elim (eqb_tells p n) [
            | inl own ↦
                let at : get_or words p 0 ≡ 1 + n =
                ap (λ (i : ℕ). get_or words i 0) own.1 ∙ here ∙ is ∙ ap (λ (i : ℕ). 1 + i) own.1 in
                at ∙ ap (λ (i : ℕ). 1 + i) (sym (roots.own n (is ∙ ap (λ (i : ℕ). 1 + i) own.1))) ∙ sym label
            | inr other ↦
                let before : p < n = omega (arith, f.links.down n p is, other.1) in
                f.done root roots p before ∙ label-some first root p (f.links.linked n p is)
                ∙ ap (λ (i : ℕ). 1 + i) (roots.on n p is) ∙ sym label
          ])
    ]

-- and it is written
settled-set : (first words : List ℕ) (n label : ℕ) → AreSettled first words n → n < length words
    → label ≡ word_on words n → AreSettled first (set words n label) (n + 1)
settled-set first words n label f inside is = record {
  links = f.links;
  long = length-set words n label ∙ f.long;
  done = λ root roots k below.
      elim (eqb_tells k n) [
        | inl here ↦
            ap (λ (i : ℕ). get_or (set words n label) i 0) here.1 ∙ get_or-set_same words n label 0 inside ∙ is
            ∙ settled-label first words root n f roots ∙ ap (label_by first root) (sym here.1)
        | inr apart ↦ get_or-set_other words n k label 0 apart.1 ∙ f.done root roots k (omega (arith, apart.1))
      ];
  rest = λ k from. get_or-set_other words n k label 0 (λ at. omega (arith, at)) ∙ f.rest k (omega arith);
}

-- a word that is left leads to no later cell
pub settled-next : (first words next : List ℕ) (n label : ℕ) → AreSettled first words n → n < length words
    → label ≡ word_on words n → next ≡ set words n label → AreSettled first next (n + 1)
settled-next first words next n label f inside is at =
    subst (λ (ws : List ℕ). AreSettled first ws (n + 1)) (sym at) (settled-set first words n label f inside is)

pub settled-down : (first words : List ℕ) (n p : ℕ) → AreSettled first words n → get_or words n 0 ≡ 1 + p → p ≤ n
settled-down first words n p f is = f.links.down n p (sym (f.rest n (omega arith)) ∙ is)
