-- What is put there stands for the relation, and nothing is asked of its region pairs.
use Rattle.std.proofs.Common.{◌≡◌, true, subst, sym}
use Rattle.std.specs.Arc.{arc_value}
use Rattle.sz_shelf.specs.Tags.{StandsFor}
use Rattle.sz_shelf.specs.Contents.{Contents}
use Rattle.sz_shelf.proofs.shelved.Shelved.swap.Goals as goal

pub invariant_of-self : goal.invariant_of-self
invariant_of-self c =
    let t = c.self.inside.tag.value in
    let sealed : c.self.inside.sealed ≡ true =
    subst (λ (x : Contents). x.sealed ≡ true) (sym c.self.view_is) c.requires.sealed in
    let stands : StandsFor t (arc_value c.args.store) =
    subst (λ (x : Contents). StandsFor x.tag (arc_value c.args.store)) (sym c.self.view_is) c.requires.stands in (
      record {
        tag = c.self.invariant.0.tag;
        marks = c.self.invariant.0.marks;
        first = c.self.invariant.0.first;
        whole = c.self.invariant.0.whole;
        stores = (sealed, stands);
      },
      λ told. record { op = (c.self.invariant.1 told).op; images = tt },
    )
