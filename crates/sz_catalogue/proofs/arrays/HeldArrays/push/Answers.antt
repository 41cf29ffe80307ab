-- One more array in the list and in the index, under its name.
use Rattle.std.proofs.Common.{◌≡◌, ℕ, List, [], ◌∷◌, ◌++◌, ap₂, ◌∙◌}
use Rattle.std.specs.Arc.{arc_value}
use Rattle.sz_spec.specs.Values.{Grid}
use Rattle.sz_catalogue.specs.Holdings.{Named}
use Rattle.sz_catalogue.proofs.Names.{IsVersionIndex-push}
use Rattle.sz_catalogue.proofs.arrays.HeldArrays.push.Goals as goal

pub invariant_of-self-2 : goal.invariant_of-self-2
invariant_of-self-2 c =
    let under : Grid → Named Grid = λ g. record { name = c.args.name.now; thing = g } in
    let push : List (Named Grid) → Named Grid → List (Named Grid) = λ xs x. xs ++ x ∷ [] in
    let array : Grid = arc_value c.args.owner in
    let items : c.push_reserved.new.self.items ≡ push c.self.inside.list.items (under array) =
    c.push_reserved.ensures.items ∙ ap₂ push c.reserve.ensures.items c.in_ok-held.ensures in
    rw items (IsVersionIndex-push c.self.inside.by_name c.enlist.new.index c.self.inside.list.items
    (under array) c.self.invariant (λ q. c.in_ok-version.ensures.added q))
