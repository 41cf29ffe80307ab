-- The set is put behind the table, and its number and the payload's behind the names.
use Rattle.std.proofs.Common.{◌≡◌, ℕ, List, [], ◌∷◌, ◌++◌, length, ap, ap₂, sym, subst, ◌∙◌, arith, append_assoc}
use Rattle.std.specs.Arc.{arc_value}
use Rattle.sz_cells.specs.Extent.{Extent}
use Rattle.sz_cells.specs.Cells.{Cells}
use Rattle.sz_cells.specs.SetBytes.{IsSetOf}
use Rattle.sz_frame.specs.Parts.{Entry}
use Rattle.sz_region.specs.FullBytes.{Listed}
use Rattle.sz_region.specs.Putting.{IsPayloadNumbered}
use Rattle.sz_region.proofs.put_pay.number_entry.Goals as goal

pub returns : goal.returns
returns c =
    let entry : Entry = c.args.entry.now in
    let sets : List Listed = c.args.sets.now.items in
    let names = c.args.names.now.items in
    let payloads : List (List ℕ) = c.args.payloads.now.items in
    let n = c.in_ok-number.number in
    let out : arc_value c.entry.inside.out ≡ entry.out = ap (λ (e : Entry). e.out) c.entry.view_is in
    let payload : arc_value c.entry.inside.payload ≡ entry.payload = ap (λ (e : Entry). e.payload) c.entry.view_is in
    let make : Extent → List ℕ → Listed = λ e xs. record { array = 0; set = record { extent = e; indexes = xs } } in
    let shape : c.shape.result ≡ entry.out.extent =
    c.shape.ensures.value ∙ ap (λ (s : Cells). s.extent) (c.deref-2.ensures ∙ out) in
    let indexes = c.runs.ensures.spelled.spelled ∙ ap (λ (s : Cells). s.indexes) (c.deref-3.ensures ∙ out) in
    let long : c.len.result ≡ length sets = omega (arith, c.len.ensures) in
    let after : List (List ℕ) = c.number_payload.new.payloads.items in
    record {
      number = n;
      payload = subst (λ (p : List ℕ). IsPayloadNumbered payloads after p n)
          (c.bytes.ensures ∙ c.deref-4.ensures ∙ payload) c.in_ok-number.ensures;
      set = c.in_ok-push-2.ensures.items ∙ ap (λ (l : Listed). sets ++ l ∷ []) (ap₂ make shape indexes);
      is_set = subst (λ (s : Cells). IsSetOf s.extent s) (c.deref.ensures ∙ out) c.a_set_is_its_cells.ensures.rising;
      added = c.in_ok-push-3.ensures.items ∙ ap (λ (xs : List ℕ). xs ++ n ∷ []) c.in_ok-push.ensures.items
          ∙ append_assoc names (c.len.result ∷ []) (n ∷ [])
          ∙ ap (λ (k : ℕ). names ++ k ∷ n ∷ []) long;
    }
