-- The tables begin without a set.
use Rattle.std.proofs.Common.{◌≡◌, List, ◌∷◌, [], map, ap, ap₂, sym, subst, ◌∙◌}
use Rattle.std.specs.List.{All}
use Rattle.sz_tables.specs.Tables.{SetsByNumber}
use Rattle.sz_tables.specs.Rows.{empty_sets}
use Rattle.sz_tables.proofs.Placing.{none-there, shapes-there}
use Rattle.sz_tables.proofs.reading.take_part.Goals as goal

pub take_each-requires-clause-extents : goal.take_each-requires-clause-extents
take_each-requires-clause-extents c =
    let is : c.in_ok-outs.outs ∷ c.deref_mut.result.now ≡ map empty_sets (c.args.out ∷ c.args.ins.now) =
    ap₂ (λ (t : SetsByNumber) (ts : List SetsByNumber). t ∷ ts) c.in_ok-outs.ensures
    (c.deref_mut.ensures.value ∙ c.in_ok-tables.ensures.tables) in
    ap (map (λ (t : SetsByNumber). t.extent)) is ∙ shapes-there (c.args.out ∷ c.args.ins.now)

pub take_each-requires-clause-none : goal.take_each-requires-clause-none
take_each-requires-clause-none c =
    let is : c.in_ok-outs.outs ∷ c.deref_mut.result.now ≡ map empty_sets (c.args.out ∷ c.args.ins.now) =
    ap₂ (λ (t : SetsByNumber) (ts : List SetsByNumber). t ∷ ts) c.in_ok-outs.ensures
    (c.deref_mut.ensures.value ∙ c.in_ok-tables.ensures.tables) in
    subst (All (λ (t : SetsByNumber). t.sets ≡ [])) (sym is) (none-there c.args.out c.args.ins.now)
