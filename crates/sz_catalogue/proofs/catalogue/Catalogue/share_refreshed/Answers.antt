-- The array has the shape of the one in whose place it comes, and there is room for it and for the version.
use Rattle.std.proofs.Common.{◌≡◌, ℕ, List, ap, subst, ◌∙◌, arith}
use Rattle.std.specs.Arc.{arc_value}
use Rattle.sz_script.specs.Names.{is_name}
use Rattle.sz_catalogue.specs.Holdings.{next_number}
use Rattle.sz_catalogue.specs.Changes.{with_array}
use Rattle.sz_catalogue.specs.Order.{IsInOrder}
use Rattle.sz_catalogue.proofs.Refreshed.{IsFurther, refreshed-further, input-named}
use Rattle.sz_catalogue.proofs.catalogue.Catalogue.share_refreshed.Goals.{After-add-arg-1}
use Rattle.sz_catalogue.proofs.catalogue.Catalogue.share_refreshed.Goals as goal

pub hold-requires-clause-name : goal.hold-requires-clause-name
hold-requires-clause-name c =
    ap is_name (c.as_str.ensures ∙ c.in_ok-name.ensures ∙ c.input_name.ensures)
    ∙ input-named c.args.self.now c.args.version c.args.input (subst IsInOrder c.self.view_is c.self.invariant.order)
    c.requires.there c.requires.input

-- the version on the array is one that may be held behind it
is-further : (c : After-add-arg-1) → IsFurther c.hold.new.self c.next_number-number.result c.in_ok-further.further
is-further c =
    let held = c.in_ok-hold.ensures.held
    ∙ ap (λ (q : List ℕ). with_array c.args.self.now q (arc_value c.args.owner))
    (c.as_str.ensures ∙ c.in_ok-name.ensures ∙ c.input_name.ensures) in
    let number : c.next_number-number.result ≡ next_number c.args.self.now = c.next_number-number.ensures in
    rw (held, number, c.in_ok-further.ensures)
    (refreshed-further c.args.self.now c.args.version c.args.input (arc_value c.args.owner)
    (subst IsInOrder c.self.view_is c.self.invariant.order) c.requires.there c.requires.input c.requires.shape
    c.requires.versions)

pub add-requires : goal.add-requires
add-requires c =
    let further = is-further c in
    record {
      some = omega (arith, c.next_number-number.ensures);
      new = further.new;
      flow = further.flow;
      base = further.base;
      right = further.right;
      count = further.count;
      fits = further.fits;
      lists = further.lists;
      room = further.room;
    }
