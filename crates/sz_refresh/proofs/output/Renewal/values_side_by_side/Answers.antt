-- Each value is renewed where its cell is among the set's.
use Rattle.std.proofs.Common.{refl, ◌≡◌, ℕ, ◌++◌, drop, take, List, Option, map, length, None}
use Rattle.std.proofs.Common.{sym, ap, ◌∙◌}
use Rattle.std.specs.Prelude.{get_or, ℤ}
use Rattle.std.specs.Arc.{arc_value}
use Rattle.std.proofs.Math.Seq.{take-append_seam}
use Rattle.sz_cells.specs.Cells.{Cells, has, no_cells, with_those}
use Rattle.sz_cells.specs.Extent.{size_of}
use Rattle.sz_spec.specs.Values.{Grid}
use Rattle.sz_refresh.specs.Outputs.{renewed}
use Rattle.sz_refresh.proofs.Changes.{with-set}
use Rattle.sz_refresh.proofs.Outputs.{renewed-all}
use Rattle.sz_refresh.proofs.output.Renewal.values_side_by_side.Goals as goal

pub renew_all-requires-clause-long : goal.renew_all-requires-clause-long
renew_all-requires-clause-long g c κs within =
    ap (λ (vs : List (Option ℤ)). length vs) c.deref_mut.ensures.value ∙ c.in_ok-values.ensures.count
    ∙ ap size_of c.args.self.now.shape

pub returns : goal.returns
returns g c =
    let s = c.args.self.now.at.now in
    let inputs : List Grid = map (λ a. arc_value a) c.args.self.now.inputs.now in
    let set = c.args.self.now.cells.now in
    let values = c.in_ok-values.values in
    let new = c.renew_all.new.values in
    let taken : c.deref_mut.result.now ≡ c.args.self.now.old.now.values =
    c.deref_mut.ensures.value ∙ c.in_ok-values.ensures.values in
    let among : c.add_set.new.self ≡ set =
    c.add_set.ensures
    ∙ ap (λ (z : Cells). with_those z (has set)) (c.in_ok-among.ensures ∙ ap no_cells c.shape.ensures.value)
    ∙ with-set set.extent set refl c.shape.ensures.rising in
    let held : length c.deref_mut.result.now ≡ values.len = c.deref_mut.ensures.len in
    let same : length new ≡ length c.deref_mut.result.now = c.renew_all.auto.values in
    let whole : values.len ≡ length new = sym held ∙ sym same in
    let items : take values.len (new ++ drop (length new) values.items) ≡ new =
    ap (λ (m : ℕ). take m (new ++ drop (length new) values.items)) whole
    ∙ take-append_seam new (drop (length new) values.items) in
    let long : length new ≡ size_of s.out =
    same ∙ ap (λ (vs : List (Option ℤ)). length vs) c.deref_mut.ensures.value ∙ c.in_ok-values.ensures.count
    ∙ ap size_of c.args.self.now.shape in
    items
    ∙ renewed-all s inputs c.args.self.now.old.now new set long
    (λ k low.
    c.renew_all.ensures k low
    ∙ ap (λ (z : Cells). renewed s inputs z k (get_or c.deref_mut.result.now k None)) among
    ∙ ap (λ (vs : List (Option ℤ)). renewed s inputs set k (get_or vs k None)) taken) c.args.self.now.others
