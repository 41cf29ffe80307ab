-- One base array more.
use Rattle.std.proofs.Common.{◌≡◌, ◌+◌, List, ℕ, [], ◌∷◌, ◌++◌, map, take, length, ap, subst, sym, ◌∙◌}
use Rattle.std.proofs.Common.{append_assoc, All}
use Rattle.std.specs.List.{flat_map}
use Rattle.std.proofs.lemmas.List.{map-append, append-nil}
use Rattle.std.proofs.lemmas.List.Concat.{flat_map-append}
use Rattle.std.proofs.lemmas.List.Elements.{All-append, All-cons, All-nil}
use Rattle.sz_cells.specs.SetBytes.{four_bytes}
use Rattle.sz_script.specs.declared.command.BaseName.{BaseName}
use Rattle.sz_bodies.specs.Bodies.{base_bytes, IsShortBase}
use Rattle.sz_bodies.specs.Fitting.{named_base}
use Rattle.sz_bodies.proofs.NodesPut.{one-taken}
use Rattle.sz_bodies.proofs.writing.put_bases.Goals as goal

pub loop-only-preserved : goal.loop-only-preserved
loop-only-preserved c =
    let base = c.args.base.now in
    let i = c.loop-only.only-index in
    let only = c.only-item.result in
    let old = c.args.to.now.items in
    let before = map named_base (take i base) in
    let count = four_bytes (length base) in
    let names : map named_base (take (i + 1) base) ≡ before ++ named_base only ∷ [] =
    ap (λ xs. map named_base xs) (one-taken base i only c.loop-only-test.true c.only-item.is)
    ∙ map-append named_base (take i base) (only ∷ []) in
    let spelled : flat_map base_bytes (before ++ named_base only ∷ [])
    ≡ flat_map base_bytes before ++ base_bytes (named_base only) =
    flat_map-append base_bytes before (named_base only ∷ [])
    ∙ ap (λ (xs : List ℕ). flat_map base_bytes before ++ xs) (append-nil (base_bytes (named_base only))) in
    record {
      short =
          subst (λ (xs : List BaseName). All IsShortBase xs) (sym names)
          (All-append IsShortBase before (named_base only ∷ []) c.loop-only.invariant.short
          (All-cons IsShortBase (named_base only) [] c.in_ok-put_base.ensures.short (All-nil IsShortBase)));
      bytes =
          c.in_ok-put_base.ensures.bytes
          ∙ ap (λ (xs : List ℕ). xs ++ base_bytes (named_base only)) c.loop-only.invariant.bytes
          ∙ append_assoc old (count ++ flat_map base_bytes before) (base_bytes (named_base only))
          ∙ ap (λ (xs : List ℕ). old ++ (count ++ xs)) (sym spelled)
          ∙ ap (λ (xs : List BaseName). old ++ (count ++ flat_map base_bytes xs)) (sym names);
    }
