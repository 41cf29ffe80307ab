-- The index is seen as its groups, and what is said of those is said of it.
use Rattle.std.proofs.Common.{refl, sym, ◌∙◌}
use Rattle.std.proofs.lemmas.List.{length-map}
use Rattle.sz_core.proofs.index.Index.add.Goals as goal

pub returns : goal.returns
returns c = rw (← c.self.view_is) (record {
  to = refl;
  count = length-map c.link.new.groups.items (λ g. g.items) ∙ c.link.ensures.count
      ∙ sym (length-map c.self.inside.groups.items (λ g. g.items));
  ok = c.link.ensures.ok;
})
