-- One piece more is marked, and the open stores are made of one lineage more.
use Rattle.std.proofs.Common.{◌≡◌, ◌<◌, ◌++◌, [], ◌∷◌, ℕ, List, Bool, length, set, true, false, true≢false, subst}
use Rattle.std.proofs.Common.{sym, ap, ◌∙◌, All}
use Rattle.sz_shelf.specs.Tags.{tag_pieces}
use Rattle.sz_shelf.specs.Contents.{Contents, is_in}
use Rattle.sz_frame.specs.Images.{measure_of}
use Rattle.sz_store.specs.Needed.{FitsAsNeeded}
use Rattle.sz_shelf.specs.Keeping.{IsFirst}
use Rattle.sz_shelf.proofs.Marks.{marks-more}
use Rattle.sz_shelf.specs.Apart.{HasImages}
use Rattle.sz_shelf.proofs.Stores.{can-take, stores-more}
use Rattle.sz_shelf.proofs.Apart.{stay-apart, apart-more}
use Rattle.sz_shelf.proofs.shelved.Shelved.place.Goals as goal

pub place-requires-clause-take : goal.place-requires-clause-take
place-requires-clause-take c =
    let p = c.args.lineage.now in
    can-take c.self.inside.tag.value c.self.inside.placed.items c.self.inside.sealed c.self.inside.stored p
    (subst (λ (x : Contents). x.sealed ≡ false) (sym c.self.view_is) c.requires.open) c.self.invariant.0.stores
    (subst (λ (x : Contents). p.piece < tag_pieces x.tag) (sym c.self.view_is) c.requires.piece)
    (subst (λ (x : Contents). FitsAsNeeded (measure_of x.tag.site x.tag.inputs) x.tag.list p.piece p)
    (sym c.self.view_is) c.requires.fits)

pub place-requires-clause-apart : goal.place-requires-clause-apart
place-requires-clause-apart c told =
    let t = c.self.inside.tag.value in
    let p = c.args.lineage.now in
    stay-apart t c.self.inside.stored p (c.self.invariant.1 (c.both-apart.ensures.one told))
    (subst (λ (x : Contents). All (HasImages x.tag.site x.tag.inputs) p.regions) (sym c.self.view_is)
    (c.requires.images (c.both-apart.ensures.other told)))

pub invariant_of-self-2 : goal.invariant_of-self-2
invariant_of-self-2 c =
    let t = c.self.inside.tag.value in
    let placed = c.self.inside.placed.items in
    let p = c.args.lineage.now in
    let free : c.self.inside.sealed ≡ false =
    subst (λ (x : Contents). x.sealed ≡ false) (sym c.self.view_is) c.requires.open in
    let below : p.piece < tag_pieces t = subst (λ (x : Contents). p.piece < tag_pieces x.tag) (sym c.self.view_is)
    c.requires.piece in
    let fits : FitsAsNeeded (measure_of t.site t.inputs) t.list p.piece p =
    subst (λ (x : Contents). FitsAsNeeded (measure_of x.tag.site x.tag.inputs) x.tag.list p.piece p)
    (sym c.self.view_is) c.requires.fits in
    let new : is_in placed p.piece ≡ false =
    subst (λ (x : Contents). is_in x.placed p.piece ≡ false) (sym c.self.view_is) c.requires.new in
    let inside : p.piece < length c.self.inside.marks.items =
    subst (λ (n : ℕ). p.piece < n) (sym c.self.invariant.0.marks.long) below in
    let items : c.push_reserved.new.self.items ≡ placed ++ p.piece ∷ [] =
    c.push_reserved.ensures.items ∙ ap (λ (ks : List ℕ). ks ++ c.piece-piece.result ∷ []) c.in_ok-reserve.ensures.items
    ∙ ap (λ (n : ℕ). placed ++ n ∷ []) c.piece-piece.ensures in
    rw (items, c.piece-piece.ensures, c.in_ok-place.ensures.ok) (
      record {
        tag = c.self.invariant.0.tag;
        marks = marks-more t placed c.self.inside.marks.items p.piece c.self.invariant.0.marks inside new;
        first = subst (λ (bs : List Bool). IsFirst bs c.first_unmarked-self-inside.result)
            (c.deref.ensures.value ∙ ap (λ (n : ℕ). set c.self.inside.marks.items n true) c.piece-piece.ensures)
            c.first_unmarked-self-inside.ensures;
        whole = λ sealed. absurd (true≢false (sym sealed ∙ free));
        stores = stores-more t placed c.self.inside.sealed c.self.inside.stored p free c.self.invariant.0.stores below
            fits;
      },
      λ told.
          apart-more t c.self.inside.stored p (c.self.invariant.1 (c.both-apart.ensures.one told))
          (subst (λ (x : Contents). All (HasImages x.tag.site x.tag.inputs) p.regions) (sym c.self.view_is)
          (c.requires.images (c.both-apart.ensures.other told))),
    )
