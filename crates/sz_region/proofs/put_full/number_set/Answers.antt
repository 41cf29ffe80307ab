-- The set is one that the table has, or the one behind it.
use Rattle.std.proofs.Common.{◌≡◌, ℕ, List, [], ◌∷◌, ◌++◌, length, Some, ap, ap₂, sym, subst, ◌∙◌, arith}
use Rattle.std.specs.List.{slice_get}
use Rattle.sz_cells.specs.Extent.{Extent}
use Rattle.sz_cells.specs.SetBytes.{IsSetOf}
use Rattle.sz_region.specs.FullBytes.{Listed}
use Rattle.sz_region.specs.Putting.{AreNumbered}
use Rattle.sz_region.proofs.Numbering.{numbered-known, numbered-new}
use Rattle.sz_region.proofs.put_full.number_set.Goals as goal

pub returns-in_ok-push-in-Some : goal.returns-in_ok-push-in-Some
returns-in_ok-push-in-Some c =
    let sets = c.args.sets.now.items in
    let names = c.args.names.now.items in
    let make : Extent → List ℕ → Listed =
    λ e xs. record { array = c.args.array; set = record { extent = e; indexes = xs } } in
    let seen = ap₂ make c.shape.ensures.value c.runs.ensures.spelled.spelled in
    let l = make c.args.set.now.extent c.args.set.now.indexes in
    let is : slice_get sets c.in-Some.name ≡ Some l =
    ap (λ (xs : List Listed). slice_get xs c.in-Some.name) (sym c.deref.ensures.value) ∙ c.in-Some.ensures
    ∙ ap (λ (x : Listed). Some x) seen in
    subst (λ (ns : List ℕ). AreNumbered sets sets names ns (l ∷ [])) (sym c.in_ok-push-in-Some.ensures.items)
    (numbered-known sets names c.in-Some.name l is)

pub returns-in_ok-push-in-None-2 : goal.returns-in_ok-push-in-None-2
returns-in_ok-push-in-None-2 c =
    let sets = c.args.sets.now.items in
    let names = c.args.names.now.items in
    let make : Extent → List ℕ → Listed =
    λ e xs. record { array = c.args.array; set = record { extent = e; indexes = xs } } in
    let seen = ap₂ make c.shape.ensures.value c.runs.ensures.spelled.spelled in
    let l = make c.args.set.now.extent c.args.set.now.indexes in
    let long : c.len.result ≡ length sets = omega (arith, c.len.ensures) in
    let named : c.push-in-None.new.self.items ≡ names ++ length sets ∷ [] =
    c.in_ok-push-in-None.ensures.items ∙ ap (λ (n : ℕ). names ++ n ∷ []) long in
    let listed : c.push-in-None-2.new.self.items ≡ sets ++ l ∷ [] =
    c.in_ok-push-in-None-2.ensures.items ∙ ap (λ (x : Listed). sets ++ x ∷ []) seen in
    subst (λ (ns : List ℕ). AreNumbered sets c.push-in-None-2.new.self.items names ns (l ∷ [])) (sym named)
    (subst (λ (ls : List Listed). AreNumbered sets ls names (names ++ length sets ∷ []) (l ∷ [])) (sym listed)
    (numbered-new sets names l c.a_set_is_its_cells.ensures.rising))
