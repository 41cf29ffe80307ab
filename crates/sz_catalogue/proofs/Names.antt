-- The index of arrays by name, beside the list that it speaks of.
--
-- The key idea: what is found under a name is a filter of the list, so one more element at the list's end is one more
-- at the end of what its own name finds, and nothing at the other names.
use Rattle.std.proofs.Common.{◌≡◌, ℕ, ◌≤◌, Bool, true, false, cond, if◌then◌else◌, List}
use Rattle.std.proofs.Common.{[], ◌∷◌, ◌++◌, map, length, Option, Some, None, String, Vec}
use Rattle.std.proofs.Common.{refl, sym, ap, ap₂, inl, inr, unwrap_or, ◌∙◌, ◌-◌, take, arith}
use Rattle.std.specs.List.{filter}
use Rattle.std.specs.Str.{bytes_eq}
use Rattle.std.specs.declared.sync.Arc.{Arc}
use Rattle.std.specs.BTreeMap.{BTreeMap, get_by_text}
use Rattle.std.specs.Option.{option_map_or}
use Rattle.std.specs.Arc.{arc_value}
use Rattle.std.proofs.lemmas.Bool.{cases_Bool}
use Rattle.std.proofs.lemmas.Bool.Decides.{same_from_decides}
use Rattle.std.proofs.lemmas.List.{append-nil, map-append, length-map, length-append, take-map}
use Rattle.std.proofs.Math.Seq.{take-append_seam}
use Rattle.std.proofs.lemmas.List.Elements.{filter-append}
use Rattle.std.proofs.lemmas.List.Sums.{length-filter, count_by-le-length}
use Rattle.std.proofs.lemmas.Slice.Eq.{bytes_eq-Decides}
use Rattle.sz_catalogue.specs.Holdings.{Named, things_named}
use Rattle.sz_catalogue.specs.Kept.{versions_in, IsVersionIndex}

-- the order of the two texts is free
pub bytes_eq-flip : (a b : List ℕ) → bytes_eq a b ≡ bytes_eq b a
bytes_eq-flip a b =
    let there = bytes_eq-Decides a b in
    let back = bytes_eq-Decides b a in
    same_from_decides (bytes_eq a b) (bytes_eq b a) (bytes_eq-Decides a b) (λ t. sym (back.0 t), λ e. back.1 (sym e))

-- one more at the end
pub things_named-push : {X : Type 0} (q : List ℕ) (xs : List (Named X)) (y : Named X)
    → things_named q (xs ++ y ∷ []) ≡ things_named q xs ++ (if bytes_eq q y.name then y.thing ∷ [] else [])
things_named-push q xs y =
    ap (map (λ x. x.thing)) (filter-append (λ x. bytes_eq q x.name) xs (y ∷ []))
    ∙ map-append (λ x. x.thing) (filter (λ x. bytes_eq q x.name) xs) (filter (λ x. bytes_eq q x.name) (y ∷ []))
    ∙ ap (λ zs. things_named q xs ++ zs) (elim (cases_Bool (bytes_eq q y.name)) [
      | inl t ↦ rw t refl
      | inr f ↦
          rw f refl
    ])

-- a name has no more things than there are
pub length-things_named : {X : Type 0} (q : List ℕ) (xs : List (Named X)) → length (things_named q xs) ≤ length xs
length-things_named q xs =
    omega (
      arith,
      length-map (filter (λ x. bytes_eq q x.name) xs) (λ x. x.thing),
      length-filter (λ x. bytes_eq q x.name) xs,
      count_by-le-length (λ x. bytes_eq q x.name) xs,
    )

-- an index that got one more under its name
pub IsVersionIndex-push : {X Y Z W : Type 0} (m n : BTreeMap (String Y) (Vec (Arc X Z) W)) (xs : List (Named X))
    (y : Named X) → IsVersionIndex m xs
    → ((q : List ℕ) → versions_in n q ≡ versions_in m q ++ (if bytes_eq q y.name then y.thing ∷ [] else []))
    → IsVersionIndex n (xs ++ y ∷ [])
IsVersionIndex-push m n xs y was added =
    record {
      each = λ q. added q ∙ ap (λ zs. zs ++ (if bytes_eq q y.name then y.thing ∷ [] else [])) (was.each q)
          ∙ sym (things_named-push q xs y);
    }

-- ---- one name's list, changed

-- what an index has under a name, where what was read of it, or else a list of nothing, is `was`
pub versions_in-here : {X Y Z W : Type 0} (index : BTreeMap (String Y) (Vec (Arc X Z) W)) (name : List ℕ)
    (was none : Vec (Arc X Z) W) → was ≡ unwrap_or (get_by_text index name) none → none.items ≡ []
    → versions_in index name ≡ map (λ a. arc_value a) was.items
versions_in-here {X} {Y} {Z} {W} index name was none is empty =
    at (get_by_text index name) ∙ ap (λ (v : Vec (Arc X Z) W). map (λ a. arc_value a) v.items) (sym is) where
      at : (o : Option (Vec (Arc X Z) W))
          → map (λ a. arc_value a) (option_map_or (λ v. v.items) o [])
          ≡ map (λ a. arc_value a) (unwrap_or o none).items
      at None = ap (map (λ a. arc_value a)) (sym empty)
      at (Some v) = refl

-- one name's list got more at its end
pub versions_in-changed : {X Y Z W : Type 0} (old new : BTreeMap (String Y) (Vec (Arc X Z) W)) (name : List ℕ)
    (was now none : Vec (Arc X Z) W) (more : List X)
    → ((q : List ℕ) → get_by_text new q ≡ cond (bytes_eq name q) (Some now) (get_by_text old q))
    → was ≡ unwrap_or (get_by_text old name) none → none.items ≡ []
    → map (λ a. arc_value a) now.items ≡ map (λ a. arc_value a) was.items ++ more → (q : List ℕ)
    → versions_in new q ≡ versions_in old q ++ (if bytes_eq q name then more else [])
versions_in-changed {X} {Y} {Z} {W} old new name was now none more after is empty grown q =
    let seen : Option (Vec (Arc X Z) W)
    → List X = λ o. map (λ a. arc_value a) (option_map_or (λ v. v.items) o []) in
    let chosen : Bool → List X = λ b. versions_in old q ++ (if b then more else []) in
    let read : versions_in new q ≡ seen (cond (bytes_eq q name) (Some now) (get_by_text old q)) =
    ap seen (after q ∙ ap (λ (b : Bool). cond b (Some now) (get_by_text old q)) (bytes_eq-flip name q)) in
    elim (cases_Bool (bytes_eq q name)) [
      | inl t ↦
          let same : q ≡ name = (bytes_eq-Decides q name).0 t in
          read ∙ ap (λ (b : Bool). seen (cond b (Some now) (get_by_text old q))) t ∙ grown
          ∙ ap (λ (zs : List X). zs ++ more) (sym (versions_in-here old name was none is empty)
          ∙ ap (versions_in old) (sym same))
          ∙ ap chosen (sym t)
      | inr f ↦ read ∙ ap (λ (b : Bool). seen (cond b (Some now) (get_by_text old q))) f
          ∙ sym (append-nil (versions_in old q)) ∙ ap chosen (sym f)
    ]

-- one name's list stayed as it was
pub versions_in-kept : {X Y Z W : Type 0} (old new : BTreeMap (String Y) (Vec (Arc X Z) W)) (name : List ℕ)
    (was now none : Vec (Arc X Z) W)
    → ((q : List ℕ) → get_by_text new q ≡ cond (bytes_eq name q) (Some now) (get_by_text old q))
    → was ≡ unwrap_or (get_by_text old name) none → none.items ≡ []
    → map (λ a. arc_value a) now.items ≡ map (λ a. arc_value a) was.items → (q : List ℕ)
    → versions_in new q ≡ versions_in old q
versions_in-kept {X} old new name was now none after is empty same q =
    versions_in-changed old new name was now none [] after is empty (same
    ∙ sym (append-nil (map (λ a. arc_value a) was.items))) q
    ∙ nothing (bytes_eq q name) (versions_in old q) where
      nothing : (b : Bool) (xs : List X) → xs ++ (if b then [] else []) ≡ xs
      nothing true xs = append-nil xs
      nothing false xs = append-nil xs

-- ---- the last one taken away

-- what is in front of a list's last element
pub before-last : {X : Type 0} (xs rest : List X) (n : ℕ) (x : X) → n ≡ length xs → xs ≡ rest ++ x ∷ []
    → take (n - 1) xs ≡ rest
before-last {X} xs rest n x count is =
    let less : n - 1 ≡ length rest = omega (arith, count, ap length is, length-append rest (x ∷ [])) in
    ap₂ (λ (k : ℕ) (ys : List X). take k ys) less is ∙ take-append_seam rest (x ∷ [])

-- the last of what is held is the last of its name
pub named-last : {X : Type 0} (name : List ℕ) (rest : List (Named X)) (g : X)
    → things_named name (rest ++ record { name = name; thing = g } ∷ []) ≡ things_named name rest ++ g ∷ []
named-last name rest g =
    things_named-push name rest (record { name = name; thing = g })
    ∙ ap (λ (b : Bool). things_named name rest ++ (if b then g ∷ [] else [])) ((bytes_eq-Decides name name).1 refl)

-- one name's list lost its last
pub versions_in-cut : {X Y Z W : Type 0} (old new : BTreeMap (String Y) (Vec (Arc X Z) W)) (name : List ℕ)
    (was now : Vec (Arc X Z) W) (rest : List X) (g : X)
    → ((q : List ℕ) → get_by_text new q ≡ cond (bytes_eq name q) (Some now) (get_by_text old q))
    → get_by_text old name ≡ Some was → now.items ≡ take (was.len - 1) was.items
    → versions_in old name ≡ rest ++ g ∷ [] → (q : List ℕ)
    → versions_in new q ≡ (if bytes_eq q name then rest else versions_in old q)
versions_in-cut {X} {Y} {Z} {W} old new name was now rest g after found cut is q =
    let seen : Option (Vec (Arc X Z) W)
    → List X = λ o. map (λ a. arc_value a) (option_map_or (λ v. v.items) o []) in
    let held : map (λ a. arc_value a) was.items ≡ rest ++ g ∷ [] = sym (ap seen found) ∙ is in
    let count : was.len ≡ length (map (λ a. arc_value a) was.items) =
    was.ok.0 ∙ sym (length-map was.items (λ a. arc_value a)) in
    let left : map (λ a. arc_value a) now.items ≡ rest =
    ap (map (λ a. arc_value a)) cut ∙ sym (take-map (λ a. arc_value a) (was.len - 1) was.items)
    ∙ before-last (map (λ a. arc_value a) was.items) rest was.len g count held in
    ap seen (after q ∙ ap (λ (b : Bool). cond b (Some now) (get_by_text old q)) (bytes_eq-flip name q))
    ∙ at (bytes_eq q name) left where
      at : (b : Bool) → map (λ a. arc_value a) now.items ≡ rest
          → map (λ a. arc_value a) (option_map_or (λ v. v.items) (cond b (Some now) (get_by_text old q)) [])
          ≡ (if b then rest else versions_in old q)
      at true left = left
      at false left = refl

-- and so did the list of all
pub IsVersionIndex-cut : {X Y Z W : Type 0} (m n : BTreeMap (String Y) (Vec (Arc X Z) W)) (name : List ℕ)
    (rest : List (Named X)) (g : X) → IsVersionIndex m (rest ++ record { name = name; thing = g } ∷ [])
    → ((q : List ℕ) → versions_in n q ≡ (if bytes_eq q name then things_named name rest else versions_in m q))
    → IsVersionIndex n rest
IsVersionIndex-cut {X} {Y} {Z} {W} m n name rest g was cut = record {
  each = λ q. cut q ∙ at q (bytes_eq q name) refl
      (was.each q ∙ things_named-push q rest (record { name = name; thing = g }));
} where
  at : (q : List ℕ) (b : Bool) → bytes_eq q name ≡ b
      → versions_in m q ≡ things_named q rest ++ (if bytes_eq q name then g ∷ [] else [])
      → (if b then things_named name rest else versions_in m q) ≡ things_named q rest
  at q true is old = ap (λ (p : List ℕ). things_named p rest) (sym ((bytes_eq-Decides q name).0 is))
  at q false is old =
      old ∙ ap (λ (b : Bool). things_named q rest ++ (if b then g ∷ [] else [])) is ∙ append-nil (things_named q rest)
