-- A high cell is linked as the words to its left and above it say; any other is skipped.
use Rattle.std.proofs.Common.{◌≡◌, ◌+◌, ℕ, List, get_or, ap, subst, sym, ◌∙◌}
use Rattle.std.proofs.Common.{ap₂, Option, None, to_z, of_z, w64}
use Rattle.std.specs.Prelude.{ℤ}
use Rattle.std.proofs.Common.{inl, inr}
use Rattle.std.proofs.lemmas.Bool.{cases_Bool}
use Rattle.std.proofs.lemmas.Int.{to_z-of_z}
use Rattle.std.proofs.Math.ListN.{set}
use Rattle.sz_spec.specs.Operators.Clean.{is_at_least}
use Rattle.sz_ops_region.specs.Links.{IsWordBeside, merged_by}
use Rattle.sz_cells.specs.Extent.{Extent, index_of}
use Rattle.sz_ops_region.specs.declared.sides.Side.TheVariants.{Above}
use Rattle.sz_ops_region.specs.Numbers.{high_at}
use Rattle.sz_ops_region.specs.Linking.{AreLinked, IsWordOn}
use Rattle.sz_ops_region.proofs.Linked.{linked-high, linked-low, high-value}
use Rattle.sz_ops_region.proofs.linking.look.Goals as goal

pub returns-clause-linked : goal.returns-clause-linked
returns-clause-linked c =
    let g = c.args.array.now in
    let e = g.extent in
    let k = index_of e c.args.cell in
    let ws = c.args.words.now in
    let later = c.word_for-word.new.words in
    let word = c.word_for-word.result in
    let left = c.args.left in
    let over = c.word_at-above.result in
    let at : c.index-index.result ≡ k = c.index-index.ensures.value
    ∙ ap (λ (f : Extent). index_of f c.args.cell) c.requires.shape in
    let same : to_z w64 (of_z w64 c.args.t) ≡ c.args.t = to_z-of_z w64 c.args.t c.ranges.t in
    let value : get_or c.cells.result.now c.index-index.result None ≡ get_or g.values k None =
    ap₂ (λ (vs : List (Option ℤ)) (i : ℕ). get_or vs i None) c.cells.ensures.values at in
    let high : c.is_high-high.result ≡ high_at c.args.t g k =
    c.is_high-high.ensures ∙ ap₂ (λ (z : ℤ) (v : Option ℤ). is_at_least z v) same value
    ∙ high-value c.args.t g k in
    let above : IsWordOn ws e c.args.cell Above over =
    subst (λ (f : Extent). IsWordOn ws f c.args.cell Above over) c.requires.shape c.word_at-above.ensures in
    let beside = c.word_for-word.ensures in
    subst (λ (i : ℕ). AreLinked c.args.t g (set later i word) (k + 1)) (sym at)
    (elim (cases_Bool c.is_high-high.result) [
      | inl is ↦
          linked-high c.args.t g ws later c.args.cell left over word c.requires.linked c.requires.cell
          (sym high ∙ is) c.requires.left above (
            beside.links,
            beside.kept,
            c.word_for-word.auto.words,
            λ root roots.
                let both = beside.high is root roots in
                (both.0, subst (λ (i : ℕ). IsWordBeside later (merged_by root left over) i left over word) at both.1),
          )
      | inr is ↦
          let none = beside.low is in
          linked-low c.args.t g later k word
          (subst (λ (zs : List ℕ). AreLinked c.args.t g zs k) (sym none.0) c.requires.linked) (sym high ∙ is) none.1
    ])
