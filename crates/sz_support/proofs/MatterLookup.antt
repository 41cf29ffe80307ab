-- What follows of lookup: that the matched cell and the cell that matches matter.
--
-- The key idea: the match is read off the first input and the table's shape, so it is the same where the table's values
-- change; and of an empty cell there is no match.
use Rattle.std.proofs.Common.{◌≡◌, ℕ, ℤ, pos, true, false, ◌||◌, ◌==◌, List, length, Option, Some, None}
use Rattle.std.proofs.Common.{refl, sym, ap, ap₂, ◌∙◌, arith, inl, inr, eqb-true}
use Rattle.std.specs.Prelude.{option_and_then}
use Rattle.std.proofs.lemmas.Bool.{and_parts, or_cases}
use Rattle.sz_cells.specs.declared.Cell.{Cell}
use Rattle.sz_cells.specs.Extent.{Extent, holds}
use Rattle.sz_cells.specs.Cells.{is_same}
use Rattle.sz_cells.proofs.Sets.{is_same-true}
use Rattle.sz_spec.specs.declared.op.Op.{Op}
use Rattle.sz_spec.specs.declared.op.Op.TheVariants.{Lookup}
use Rattle.sz_spec.specs.Values.{Grid, value_at, input_at}
use Rattle.sz_spec.specs.Shapes.{arity}
use Rattle.sz_spec.specs.Evaluation.{value_of}
use Rattle.sz_spec.specs.Operators.Lookup.{column_of, match_of, entry_at, is_entry, looked_up}
use Rattle.sz_spec.specs.Supports.{supports}
use Rattle.sz_spec.proofs.PayloadLineage.{extent-of_site}
use Rattle.sz_support.specs.Changes.{with_value, changed_at}
use Rattle.sz_support.specs.LawsMatter.{MatchedCellsMatter, MatchingCellsMatter}
use Rattle.sz_support.proofs.ChangedInputs.{with-there, changed-there, changed-others, changed-value, inputs-many}
use Rattle.sz_support.proofs.Differing.{by-numbers}

-- an entry is that of a match
entry-of : (m : Option ℕ) (x : Cell) → is_entry m x ≡ true → (k : ℕ) × (m ≡ Some k) × (entry_at k ≡ x)
entry-of None x h = (cc)
entry-of (Some k) x h =
    let both = and_parts (x.row == 0) (x.col == k) h in
    let make : ℕ → ℕ → Cell = λ r c. record { row = r; col = c } in
    (k, refl, sym (ap₂ make (eqb-true x.row 0 both.0) (eqb-true x.col k both.1)))

pub matched-matter : MatchedCellsMatter
matched-matter s inputs o x is known =
    let a = input_at inputs 0 in
    let table = input_at inputs 1 in
    let told : supports Lookup inputs 1 o x ≡ true =
    sym (ap (λ (p : Op). supports p inputs 1 o x) is) ∙ known.supports in
    let entry = entry-of (match_of a table o) x told in
    let many : length s.ins ≡ 2 = ((known.work).site).arity ∙ ap arity is in
    let held : holds table.extent x ≡ true =
    ap (λ (e : Extent). holds e x) (extent-of_site s inputs 1 known.work) ∙ known.there in
    let value : (gs : List Grid) → value_of s.op gs o ≡ looked_up (input_at gs 0) (input_at gs 1) o =
    λ gs. ap (λ (p : Op). value_of p gs o) is in
    let found : (b : Grid) → b.extent ≡ table.extent → looked_up a b o ≡ value_at b x =
    λ b same.
    ap (λ (m : Option ℕ). option_and_then (λ k. value_at b (entry_at k)) m)
    (ap (λ (e : Extent). option_and_then (column_of e.cols) (value_at a o)) same ∙ entry.1)
    ∙ ap (value_at b) entry.2 in
    by-numbers s inputs 1 o x (λ v. v) (pos 0) (pos 1)
    (record {
      now = value inputs ∙ found table refl;
      changed = λ v.
          let there : input_at (changed_at inputs 1 x v) 1 ≡ with_value table x v =
          changed-there inputs 1 x v (omega (arith, many, inputs-many s inputs known.work)) in
          let first : input_at (changed_at inputs 1 x v) 0 ≡ a = changed-others inputs 1 0 x v (λ same. omega arith) in
          value (changed_at inputs 1 x v)
          ∙ ap₂ (λ (b d : Grid). looked_up b d o) first there
          ∙ found (with_value table x v) refl
          ∙ with-there table x v held;
    }) refl refl (λ h. cc)

pub matching-matter : MatchingCellsMatter
matching-matter s inputs o x r is known told h =
    let passes : (is_same x o || false) ≡ true =
    sym (ap (λ (p : Op). supports p inputs 0 o x) is) ∙ known.supports in
    let cell : x ≡ o =
    elim (or_cases (is_same x o) false passes) [ inl same ↦ is_same-true x o same | inr never ↦ (cc) ] in
    let many : length s.ins ≡ 2 = ((known.work).site).arity ∙ ap arity is in
    let gs = changed_at inputs 0 x None in
    let own : value_at (input_at gs 0) o ≡ None =
    ap (value_at (input_at gs 0)) (sym cell)
    ∙ changed-value s inputs 0 x None known.work (omega (arith, many)) known.there in
    let empty : value_of s.op gs o ≡ None =
    ap (λ (p : Op). value_of p gs o) is
    ∙ ap (λ (v : Option ℤ). option_and_then (λ k. value_at (input_at gs 1) (entry_at k))
    (option_and_then (column_of (input_at gs 1).extent.cols) v)) own in
    let both : Some r ≡ None = sym told ∙ h ∙ empty in
    (cc)
