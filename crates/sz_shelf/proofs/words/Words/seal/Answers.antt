use Rattle.std.proofs.Common.{rules, Bool, None, sym, ap, ◌∙◌, ◌+◌, ◌≡◌, inr, subst, true}
use Rattle.std.proofs.Common.{if◌then◌else◌, ℕ, length}
use Rattle.sz_shelf.specs.Tags.{tag_pieces}
use Rattle.sz_shelf.specs.Contents.{Contents, missing_in}
use Rattle.sz_shelf.specs.Rule.{last_of}
use Rattle.sz_shelf.proofs.Slots.{table-is, out-here, out-is, out-now}
use Rattle.sz_shelf.proofs.words.Words.seal.Goals as goal

pub slot_mut-store-requires : goal.slot_mut-store-requires
slot_mut-store-requires c = (table-is c.requires.own c.self.view_is, out-here _ _ c.requires.out.1)

pub count-requires-clause-grown : goal.count-requires-clause-grown
count-requires-clause-grown c =
    let v = c.args.seat.now.me.0 in
    let is = out-is _ _ _ c.requires.out.1 c.slot_mut-store.ensures.value in
    let now : Contents = c.seal.new.self in
    let placed : now.placed ≡ v.seen = ap (λ (x : Contents). x.placed) c.seal.ensures
    ∙ sym (ap (λ (x : Contents). x.placed) is) in
    let sealed : now.sealed ≡ true = ap (λ (x : Contents). x.sealed) c.seal.ensures in
    let whole : missing_in (tag_pieces v.tag) v.seen ≡ None =
    subst (λ (x : Contents). missing_in (tag_pieces x.tag) x.placed ≡ None) (sym is)
    (c.missing-missing.ensures.none (search rules)) in (
      now,
      out-now _ _ now c.requires.out.1,
      inr record { placed = placed; sealed = sealed; whole = whole },
      ap (λ (n : ℕ). n + 1) (c.from.ensures ∙ c.pieces-pieces.ensures
          ∙ ap (λ (x : Contents). tag_pieces x.tag) (sym is))
          ∙ ap (λ (b : Bool). if b then last_of v.tag else length now.placed) (sym sealed),
    )
