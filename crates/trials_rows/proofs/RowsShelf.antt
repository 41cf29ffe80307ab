-- Rows of tags, and of what a seat has that took the store.
--
-- The key idea: on written-out tags each field is a computation, or two lengths that differ.
use Rattle.std.specs.Prelude.{◌≡◌, ℕ, List, [], ◌∷◌, Some, length, true, false, All}
use Rattle.std.proofs.Common.{refl, sym, ap, arith, true≢false, pos, zero, suc}
use Rattle.std.proofs.lemmas.List.Elements.{All-nil}
use Rattle.sz_cells.specs.Extent.{flat}
use Rattle.sz_spec.specs.declared.op.Op.TheVariants.{Neg}
use Rattle.sz_spec.specs.Modes.{supports}
use Rattle.sz_spec.specs.declared.modes.Strategy.{Strategy}
use Rattle.sz_spec.specs.declared.modes.Strategy.TheVariants.{FullOneB, FullOneF, Map, PayOne}
use Rattle.sz_shelf.specs.Tags.{Tag, IsTag}
use Rattle.sz_shelf.specs.Rule.{Own, contents, first_view}
use Rattle.sz_shelf.specs.Steps.{after_take}
use Rattle.sz_shelf.specs.Turns.{HasTaken}

-- the negation of one cell that holds 5, by a list of strategies
abbrev tag_of : List Strategy → Tag
tag_of list = record {
  site = record { op = Neg; out = flat 1 1; ins = flat 1 1 ∷ [] };
  inputs = record { extent = flat 1 1; values = Some (pos 5) ∷ [] } ∷ [];
  list = list;
}

tag-stored : IsTag (tag_of (FullOneB ∷ []))
tag-stored = record {
  shapes = refl;
  supported = each;
  stored = refl;
} where
  each : All (λ s. supports Neg s ≡ true) (FullOneB ∷ [])
  each zero d lt = refl
  each (suc k) d lt = absurd (omega (arith, lt))

-- a list without a stored strategy, one with a strategy that negation does not have, and arrays of other shapes
tag-unstored : IsTag (tag_of (Map ∷ [])) → ⊥
tag-unstored tag = true≢false (sym tag.stored)

tag-unsupported : IsTag (tag_of (FullOneB ∷ PayOne ∷ [])) → ⊥
tag-unsupported tag = true≢false (sym (tag.supported 1 Map (omega arith)))

tag-without-arrays : IsTag (record (tag_of (FullOneB ∷ [])) { inputs = [] }) → ⊥
tag-without-arrays tag = absurd (omega (arith, ap length tag.shapes))

-- how many strategies the tags of the stores have that a seat has in hand
abbrev listed_in : Own → ℕ
listed_in (v, []) = 0
listed_in (v, s ∷ stores) = length s.1.tag.list

abbrev one : Tag
one = tag_of (FullOneB ∷ [])

abbrev two : Tag
two = tag_of (FullOneB ∷ FullOneF ∷ [])

-- a seat took the store of its tag, of which no piece is placed
taken-own : HasTaken (first_view one) (
  after_take (contents one [] false) (first_view one),
  (0, contents one [] false) ∷ [],
)
taken-own = (
  contents one [] false,
  0,
  record {
    tag = refl;
    begins = ([], refl);
    pieces = (tt, All-nil _);
    last = refl;
    whole = λ sealed. absurd (true≢false (sym sealed));
    saw = λ saw. absurd (true≢false (sym saw));
  },
  refl,
)

-- no seat took the store of another tag, and none has a store that it did not take
taken-of-another-tag : HasTaken (first_view one)
    (after_take (contents two [] false) (first_view one), (0, contents two [] false) ∷ []) → ⊥
taken-of-another-tag taken =
    let (c, found, is, same) = taken in
    absurd (omega (arith, ap listed_in same, ap (λ (t : Tag). length t.list) is.tag))

taken-nothing : HasTaken (first_view one) (first_view one, []) → ⊥
taken-nothing taken =
    let (c, found, is, same) = taken in
    absurd (omega (arith, ap listed_in same, ap (λ (t : Tag). length t.list) is.tag))
