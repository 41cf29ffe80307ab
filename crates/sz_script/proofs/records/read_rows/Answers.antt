-- Each record is the next one; one that is none, or that is as long as no other, makes the text bad.
use Rattle.std.proofs.Common.{Bor, List, ℕ, ℤ, ◌≤◌, ◌∙◌, sym, subst, refl, inl, inr, Option, Some, ◌∷◌, [], ◌++◌}
use Rattle.std.proofs.Common.{length}
use Rattle.std.specs.List.{flat_map}
use Rattle.csv.specs.Reading.{Reached, default_config, strip_bom}
use Rattle.csv.specs.Records.{fields_of}
use Rattle.csv.specs.declared.parser.State.TheVariants as st
use Rattle.csv.proofs.ReadFacts.{rows-end, rows-more}
use Rattle.sz_script.proofs.Tables.{first_few, table_none, table_more, next_expected, value_is_bad, fault_told}
use Rattle.sz_script.specs.Records.{values_of_row, IsTable}
use Rattle.sz_script.proofs.RecordsRead.{ends}
use Rattle.sz_script.proofs.records.read_rows.Goals as goal

pub loop-record-init : goal.loop-record-init
unfolding Reached
loop-record-init c =
    let fr = c.from_reader-reader.ensures in
    let e = c.has_headers.ensures in
    let start = c.into_iter-record-iterator.ensures.into_iter_gives ∙ refl in
    let rdr = c.into_byte_records-record-items.ensures.rdr in
    let left = c.into_byte_records-record-items.ensures.left in
    rw (start, rdr) (
      rw e at fr.trim ∙ c.new.ensures.trim,
      inr (inr (rw e at fr.has_headers, fr.headers)),
      left,
      rw e at fr.config ∙ c.new.ensures.config,
      rw e at fr.flexible ∙ c.new.ensures.flexible,
      strip_bom c.args.text.now,
      fr.source,
      [],
      (sym fr.state, refl),
      fr.expected,
      table_none c.args.cells.now.items c.requires,
    )

pub push_fields-requires : goal.push_fields-requires
push_fields-requires c =
    let table = c.loop-record.invariant.10 in
    subst (λ (l : List (Option ℤ)). length l ≤ 1048577) (sym table.first)
    (first_few (flat_map values_of_row c.loop-record.invariant.7))

pub loop-record-preserved : goal.loop-record-preserved
loop-record-preserved c =
    let inv = c.loop-record.invariant in
    let steps = c.next.ensures.steps inv.2 inv.0 in
    let s = rw (c.in-Some.is, c.in-Ok.is) at (steps.0 inv.1) in
    let flexible = rw (c.in-Some.is, c.in-Ok.is) at steps.3 in
    let f = fields_of c.in-Ok.record in
    let m = rows-more (λ (b : Bor (List ℕ)). Some b.now) c.loop-record.record-iterator.rdr c.next.new.self.rdr f
    default_config st.StartRecord (strip_bom c.args.text.now) inv.5 inv.7 inv.3 inv.6 inv.8 s.0 in
    let here = s.0.5 refl inv.4 in
    let next = next_expected inv.7 f _ _ inv.9 here.0 here.1 in
    let good = sym c.in_ok-push_fields-in-Ok.ensures.tested ∙ c.if-not-branch.false in
    let gives = c.in_ok-push_fields-in-Ok.ensures.pushed c.if-not-branch.false in (
      s.0.3 ∙ inv.0,
      inl s.1,
      s.2,
      s.0.2 ∙ inv.3,
      flexible ∙ inv.4,
      m.0,
      m.1,
      inv.7 ++ f ∷ [],
      m.2,
      next,
      table_more inv.7 f _ _ _ _ _ next here.1 good gives c.len-width.ensures inv.10,
    )

pub returns-then-not-branch : goal.returns-then-not-branch
returns-then-not-branch c =
    let inv = c.loop-record.invariant in
    let s = rw (c.in-Some.is, c.in-Ok.is) at ((c.next.ensures.steps inv.2 inv.0).0 inv.1) in
    let f = fields_of c.in-Ok.record in
    let m = rows-more (λ (b : Bor (List ℕ)). Some b.now) c.loop-record.record-iterator.rdr c.next.new.self.rdr f
    default_config st.StartRecord (strip_bom c.args.text.now) inv.5 inv.7 inv.3 inv.6 inv.8 s.0 in
    value_is_bad c.args.text.now inv.7 f _ m.0 m.2
    (sym c.in_ok-push_fields-in-Ok.ensures.tested ∙ c.if-not-branch.true)

pub returns-in-Err : goal.returns-in-Err
returns-in-Err c =
    let inv = c.loop-record.invariant in
    let s = rw (c.in-Some.is, c.in-Err.is) at ((c.next.ensures.steps inv.2 inv.0).0 inv.1) in
    rw c.fault_of.ensures (fault_told (λ (b : Bor (List ℕ)). Some b.now) c.loop-record.record-iterator.rdr
    c.next.new.self.rdr c.args.text.now inv.5 inv.7 c.in-Err.error.kind inv.3 inv.6 inv.8 inv.9 s)

pub returns : goal.returns
returns c =
    let inv = c.loop-record.invariant in
    let s = rw c.in-None.is at ((c.next.ensures.steps inv.2 inv.0).0 inv.1) in
    let all = ends c.args.text.now inv.7 _ inv.5 inv.8 (rows-end (λ (b : Bor (List ℕ)). Some b.now)
    c.loop-record.record-iterator.rdr c.next.new.self.rdr [] default_config inv.5 inv.3 inv.6 s) in
    subst (λ (rows : List (List (List ℕ))). IsTable rows c.loop-record.width c.loop-record.cells.items) (sym all) inv.10
