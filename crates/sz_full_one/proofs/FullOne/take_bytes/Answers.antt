-- What is read has the operator's shapes.
use Rattle.std.proofs.Common.{◌≡◌, List, map, ap, refl, ◌∙◌}
use Rattle.std.specs.Arc.{arc_value}
use Rattle.sz_spec.specs.Shapes.{Site}
use Rattle.sz_frame.specs.Parts.{Pairing}
use Rattle.sz_tables.proofs.ReadPairs.{word-pairs}
use Rattle.sz_full_one.proofs.FullOne.take_bytes.Goals as goal

pub of_regions-requires-clause-pairs : goal.of_regions-requires-clause-pairs
of_regions-requires-clause-pairs c =
    let rs : List Pairing = map (λ a. arc_value a) c.in_ok-regions.regions.items in
    rw c.deref-3.ensures.value
    (word-pairs (arc_value c.args.at) (arc_value c.args.at) c.out.result c.ins.result.now c.args.bytes.now c.args.from
    c.in_ok-regions.next rs refl
    (c.out.ensures.value ∙ ap (λ (s : Site). s.out) c.deref.ensures)
    (c.ins.ensures.value ∙ ap (λ (s : Site). s.ins) c.deref-2.ensures) c.in_ok-regions.ensures.ok)
