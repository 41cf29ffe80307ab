-- One more base array stands behind those before it.
use Rattle.std.proofs.Common.{◌≡◌, ◌+◌, List, [], ◌∷◌, ◌++◌, length, map, ap, sym, subst, ◌∙◌, arith}
use Rattle.std.specs.List.{flat_map}
use Rattle.std.proofs.lemmas.List.{length_push, length-map, map-append}
use Rattle.std.proofs.lemmas.List.Elements.{All-push}
use Rattle.std.proofs.lemmas.Result.{err_from_is_err_and}
use Rattle.sz_region.specs.Counted.{IsAt}
use Rattle.sz_region.proofs.Spans.{at-more, no-number, no-table}
use Rattle.sz_script.specs.declared.command.BaseName.{BaseName}
use Rattle.sz_catalogue.specs.Holdings.{Base}
use Rattle.sz_bodies.specs.Bodies.{base_bytes}
use Rattle.sz_bodies.specs.Fitting.{named_base}
use Rattle.sz_bodies.specs.Taking.{IsHeldBase, IsArray, AreArrays}
use Rattle.sz_bodies.proofs.HeadParts.{if_bad-weaker, held-free, arrays-held}
use Rattle.sz_bodies.proofs.heads.take_bases.Goals as goal

pub returns-in_default-clause-err : goal.returns-in_default-clause-err
returns-in_default-clause-err c base rest few is =
    no-number c.args.bytes.now c.args.at (length base) (flat_map base_bytes base ++ rest) c.in_default.ensures.none is

pub returns-in_err-only-clause-err : goal.returns-in_err-only-clause-err
returns-in_err-only-clause-err c =
    let held = c.args.catalogue.now in
    let inv = c.loop-index.invariant in
    let items = c.loop-index.base.items in
    let names = map named_base items in
    let none = if_bad-weaker c.in_err-only.field-0.0
    (λ missing. no-table (IsHeldBase held) base_bytes (held-free held) c.args.bytes.now c.args.at c.in-Some.count
    c.loop-index.place names c.in-Some.ensures.some (omega arith) (arrays-held held items inv.each) inv.bytes missing
    (omega (arith, inv.count, length-map items named_base)))
    c.in_err-only.ensures.err in
    let p = err_from_is_err_and c.from_residual.result c.from_residual.ensures.1 in
    rw (p.1, p.2) none

pub loop-index-preserved : goal.loop-index-preserved
loop-index-preserved c =
    let held = c.args.catalogue.now in
    let inv = c.loop-index.invariant in
    let items = c.loop-index.base.items in
    let only : Base = c.in_ok-only.only in
    let all : c.push.new.self.items ≡ items ++ only ∷ [] = c.in_ok-push.ensures.items in
    let names : map named_base c.push.new.self.items ≡ map named_base items ++ named_base only ∷ [] =
    ap (λ (xs : List Base). map named_base xs) all ∙ map-append named_base items (only ∷ []) in
    record {
      count = omega (arith, ap length all, length_push items only, inv.count);
      each =
          subst (AreArrays held) (sym all) (All-push (IsArray held) items only inv.each c.in_ok-only.ensures.held);
      bytes =
          subst (λ (xs : List BaseName). IsAt c.args.bytes.now (c.args.at + 4) c.in_ok-only.next
          (flat_map base_bytes xs))
          (sym names)
          (at-more base_bytes c.args.bytes.now (c.args.at + 4) c.loop-index.place c.in_ok-only.next
          (map named_base items) (named_base only) inv.bytes c.in_ok-only.ensures.bytes);
    }
