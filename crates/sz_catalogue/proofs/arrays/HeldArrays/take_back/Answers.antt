-- The last array is the last of its name, so both lists lose their last.
use Rattle.std.proofs.Common.{◌≡◌, List, [], ◌∷◌, ◌++◌, ap, ◌∙◌}
use Rattle.sz_spec.specs.Values.{Grid}
use Rattle.sz_catalogue.specs.Holdings.{Named, things_named}
use Rattle.sz_catalogue.specs.Kept.{IsVersionIndex}
use Rattle.sz_catalogue.proofs.Names.{before-last, named-last, IsVersionIndex-cut}
use Rattle.sz_catalogue.proofs.arrays.HeldArrays.take_back.Goals as goal

pub delist-requires : goal.delist-requires
delist-requires c =
    let last = c.requires.last in (
      things_named c.args.name.now last.0,
      last.1,
      c.self.invariant.each c.args.name.now
          ∙ ap (things_named c.args.name.now) (c.self.view_is ∙ last.2) ∙ named-last c.args.name.now last.0 last.1,
    )

pub invariant_of-self : goal.invariant_of-self
invariant_of-self c =
    let last = c.requires.last in
    let name = c.args.name.now in
    let is : c.self.inside.list.items ≡ last.0 ++ record { name = name; thing = last.1 } ∷ [] =
    c.self.view_is ∙ last.2 in
    let left : c.pop.new.self.items ≡ last.0 =
    c.pop.ensures.rest
    ∙ before-last c.self.inside.list.items last.0 c.self.inside.list.len
    (record { name = name; thing = last.1 }) c.self.inside.list.ok.0 is in
    rw left (IsVersionIndex-cut c.self.inside.by_name c.delist.new.index name last.0 last.1
    (rw is at c.self.invariant)
    (c.delist.ensures (things_named name last.0) last.1
    (c.self.invariant.each name ∙ ap (things_named name) is ∙ named-last name last.0 last.1)))
