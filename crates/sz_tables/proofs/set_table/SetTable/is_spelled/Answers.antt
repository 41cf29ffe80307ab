-- The key idea: a set that these runs spell is filed with what they are mixed to; and where it is one with these or
-- apart from them, its first cell tells.
use Rattle.std.proofs.Common.{◌≡◌, ◌∙◌, length, ap, sym}
use Rattle.std.specs.List.{flat_map}
use Rattle.std.proofs.lemmas.Bool.{eq-eqb, eqb-true}
use Rattle.sz_cells.specs.Runs.{indexes_of}
use Rattle.sz_tables.specs.Filed.{Filed}
use Rattle.sz_tables.specs.Tables.{first_of, spans_from}
use Rattle.sz_tables.proofs.FirstCells.{begun-met}
use Rattle.sz_tables.proofs.Numbered.{item-at, set-met, runs-met}
use Rattle.sz_tables.proofs.set_table.SetTable.is_spelled.Goals as goal

pub returns-then-apart : goal.returns-then-apart
returns-then-apart c =
    let t = c.args.self.now in
    let runs = c.runs.ensures in
    let more = c.args.runs.now in (
      λ true. let alike = c.begin_alike.ensures.0 true in
          begun-met t.sets c.args.number t.extent c.runs.result.now more c.requires.number runs.longest
          c.requires.longest runs.spelled runs.extent (c.requires.apart c.if-apart.true) alike.0 alike.1,
      λ same. let is = runs.runs ∙ runs-met t.sets c.args.number t.extent more c.requires.longest same in
          c.begin_alike.ensures.1 (ap length is, ap first_of is),
    )

pub returns-then-item-mix : goal.returns-then-item-mix
returns-then-item-mix c =
    let t = c.args.self.now in (
      λ true. let same : c.runs-then-item-mix.result.now ≡ c.args.runs.now = c.are_same.ensures.0 true in
          set-met t.sets c.args.number t.extent c.args.runs.now c.requires.number c.runs-then-item-mix.ensures.extent
          (ap (flat_map indexes_of) (sym same) ∙ c.runs-then-item-mix.ensures.spelled.spelled),
      λ same. c.are_same.ensures.1 (c.runs-then-item-mix.ensures.runs
          ∙ runs-met t.sets c.args.number t.extent c.args.runs.now c.requires.longest same),
    )

pub returns-else-item-mix : goal.returns-else-item-mix
returns-else-item-mix c =
    let d : Filed = record { key = 0; item = 0 } in
    let s = c.self.inside in (
      λ true. absurd (c.if-item-mix.false (eqb-true c.item.result c.args.mix true)),
      λ same. eq-eqb c.item.result c.args.mix (sym (c.item.ensures d)
          ∙ item-at s.shape s.runs.items c.args.runs.now (spans_from 0 s.ends.items) s.index c.args.number
          c.self.invariant.0
          (rw (← c.self.view_is) at c.requires.longest) (rw (← c.self.view_is) at same) d
          ∙ sym c.requires.mix),
    )
