-- Nothing is marked, and the stores are made of no lineage.
use Rattle.std.proofs.Common.{rules, ◌≡◌, ◌<◌, ◌^◌, List, [], false, true≢false, subst, sym, ap, ap₂}
use Rattle.std.proofs.Common.{◌∙◌, arith}
use Rattle.std.specs.Prelude.{replicate}
use Rattle.sz_spec.specs.Shapes.{Site}
use Rattle.sz_spec.specs.Pieces.{pieces_of}
use Rattle.sz_spec.specs.declared.modes.Strategy.{Strategy}
use Rattle.sz_store.specs.Kept.{NodeLineage, no_lineage}
use Rattle.sz_shelf.specs.Tags.{Tag, tag_pieces}
use Rattle.sz_shelf.specs.Keeping.{IsMadeOf}
use Rattle.sz_shelf.proofs.Marks.{marks-none, first-none}
use Rattle.sz_shelf.proofs.Stores.{made-none}
use Rattle.sz_shelf.specs.Apart.{IsRegions, AreRegionImages}
use Rattle.sz_shelf.specs.declared.stored.Stored.TheVariants.{Open}
use Rattle.sz_shelf.proofs.Apart.{apart-none}
use Rattle.sz_shelf.proofs.shelved.Shelved.new.Goals as goal

pub invariant_of-result : goal.invariant_of-result
invariant_of-result c =
    let t : Tag = c.args.tag in
    let n = c.pieces_of-pieces.result in
    let filled : c.in_ok-marks.marks.items ≡ replicate n false = search rules in
    let none : c.in_ok-placed.placed.items ≡ [] = c.in_ok-placed.ensures.items in
    let shape : c.out.result ≡ t.site.out =
    c.out.ensures.value ∙ ap (λ (x : Site). x.out) c.deref.ensures ∙ ap (λ (x : Tag). x.site.out) c.tag.view_is in
    let pieces : n ≡ tag_pieces t = c.pieces_of-pieces.ensures ∙ ap pieces_of shape in
    let list : c.deref-3.result.now ≡ t.list =
    c.deref-3.ensures.value ∙ ap (λ (x : Tag). x.list) c.tag.view_is in
    let made : c.in_ok-store.store ≡ no_lineage t.site t.list =
    c.in_ok-store.ensures
    ∙ ap₂ (λ (a : Site) (us : List Strategy). no_lineage a us) (ap (λ (x : Tag). x.site) c.tag.view_is) list in
    let few : n < 2 ^ 32 = omega arith in
    let op : c.op.result.now ≡ t.site.op =
    c.op.ensures.value ∙ ap (λ (x : Site). x.op) c.deref-2.ensures ∙ ap (λ (x : Tag). x.site.op) c.tag.view_is in
    rw (c.of-seen.ensures, none, filled) (
      record {
        tag = c.requires;
        marks = marks-none t n pieces few;
        first = first-none n;
        whole = λ sealed. absurd (true≢false (sym sealed));
        stores = subst (λ (x : NodeLineage). IsMadeOf t [] x) (sym made) (made-none t);
      },
      λ told.
          subst (λ (x : NodeLineage). AreRegionImages t (Open x)) (sym made)
          (apart-none t (subst IsRegions op (c.is_regions-apart.ensures told))),
    )
