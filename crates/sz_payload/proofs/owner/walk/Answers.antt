-- The number of an entry is filed under each of its cells, so the walk over the places of the key meets it.
use Rattle.std.proofs.Common.{◌≡◌, ◌≢◌, ℕ, ◌<◌, ◌%◌, ◌∙◌, true, false, true≢false, length, get_or}
use Rattle.std.proofs.Common.{ap, sym, subst, arith}
use Rattle.std.specs.List.{HoldsAt}
use Rattle.std.proofs.lemmas.Bool.{false_from_ne_true}
use Rattle.sz_cells.specs.Cells.{has}
use Rattle.sz_cells.specs.Extent.{cell_of}
use Rattle.sz_tables.specs.Entries.{entries, entry_at}
use Rattle.sz_tables.specs.Filed.{Filed}
use Rattle.sz_tables.proofs.Chained.{entry-within}
use Rattle.sz_tables.proofs.Numbered.{last-reach, last-filed}
use Rattle.sz_payload.proofs.Owning.{none-there}
use Rattle.sz_payload.proofs.owner.walk.Goals as goal

pub loop-next-init : goal.loop-next-init
loop-next-init c =
    let key = c.args.index % c.keys.result in
    let es = c.args.files.now.entries in
    record {
      ahead = λ place n at there.
          let here : HoldsAt (λ e. e.key ≡ key) es place = λ d. (at d).0 in
          last-reach es key (length es) c.last-next.result place c.last-next.ensures here
          (entry-within es place key here);
      key = ap (λ (k : ℕ). c.args.index % k) c.keys.ensures;
      filed = last-filed es key (length es) c.last-next.result c.last-next.ensures;
    }

pub item-row-requires : goal.item-row-requires
item-row-requires c =
    let key = c.args.index % c.keys.result in
    entry-within c.args.files.now.entries c.in-Some.place key (rw c.in-Some.is at c.loop-next.invariant.filed)

pub entry_has-requires-clause-row : goal.entry_has-requires-clause-row
entry_has-requires-clause-row c =
    let key = c.args.index % c.keys.result in
    let es = c.args.files.now.entries in
    let d : Filed = record { key = 0; item = 0 } in
    let within = entry-within es c.in-Some.place key (rw c.in-Some.is at c.loop-next.invariant.filed) in
    subst (λ (n : ℕ). n < length (entries c.args.table.now)) (c.item-row.ensures d)
    (c.requires.files.items c.in-Some.place d within)

pub returns-then-entry_has : goal.returns-then-entry_has
returns-then-entry_has c =
    let key = c.args.index % c.keys.result in
    let es = c.args.files.now.entries in
    let d : Filed = record { key = 0; item = 0 } in
    let within = entry-within es c.in-Some.place key (rw c.in-Some.is at c.loop-next.invariant.filed) in (
      subst (λ (n : ℕ). n < length (entries c.args.table.now)) (c.item-row.ensures d)
          (c.requires.files.items c.in-Some.place d within),
      sym c.entry_has.ensures ∙ c.if-entry_has.true,
    )

pub before-next-requires : goal.before-next-requires
before-next-requires c = rw c.in-Some.is at c.loop-next.invariant.filed

pub loop-next-preserved : goal.loop-next-preserved
loop-next-preserved c =
    let key = c.args.index % c.keys.result in
    let es = c.args.files.now.entries in
    let o = cell_of c.args.table.now.out c.args.index in
    record {
      ahead = λ place n at there.
          let here : HoldsAt (λ e. e.key ≡ key) es place = λ d. (at d).0 in
          let ahead = rw c.in-Some.is at c.loop-next.invariant.ahead place n at there in
          let other : place ≢ c.in-Some.place = λ same.
          let d : Filed = record { key = 0; item = 0 } in
          let row : c.item-row.result ≡ n =
          sym (c.item-row.ensures d) ∙ ap (λ (k : ℕ). (get_or es k d).item) (sym same) ∙ (at d).1 in
          true≢false (sym there ∙ ap (λ (k : ℕ). has (entry_at (entries c.args.table.now) k).out o) (sym row)
          ∙ sym c.entry_has.ensures ∙ c.if-entry_has.false) in
          last-reach es key c.in-Some.place c.before-next.result place c.before-next.ensures here
          (omega (arith, ahead));
      key = c.loop-next.invariant.key;
      filed = last-filed es key c.in-Some.place c.before-next.result c.before-next.ensures;
    }

pub returns : goal.returns
returns c =
    let key = c.args.index % c.keys.result in
    let es = entries c.args.table.now in
    let o = cell_of c.args.table.now.out c.args.index in
    none-there es o (λ n inside. false_from_ne_true (has (entry_at es n).out o) (λ there.
    let at = c.requires.files.each n c.args.index inside c.requires.cell there in
    let under : HoldsAt (λ e. (e.key ≡ key) × (e.item ≡ n)) c.args.files.now.entries at.0 =
    λ d. ((at.1 d).0 ∙ sym c.loop-next.invariant.key, (at.1 d).1) in
    absurd (omega (arith, rw c.in_default.is at c.loop-next.invariant.ahead at.0 n under there))))
