-- The tables and the names that were made are those of a word.
use Rattle.std.proofs.Common.{◌≡◌, ℕ, ◌≤◌, List, ◌++◌, length, map, ap, ap₂, sym, subst, ◌∙◌, arith}
use Rattle.std.specs.Arc.{arc_value}
use Rattle.std.proofs.lemmas.List.{length-map}
use Rattle.std.proofs.lemmas.Result.{on_ok_weaker}
use Rattle.sz_cells.specs.SetBytes.{set_bytes}
use Rattle.sz_region.specs.Counted.{counted, rows_bytes}
use Rattle.sz_region.specs.FullBytes.{Listed}
use Rattle.sz_region.specs.PayBytes.{payload_bytes, AreNamesOfEntry}
use Rattle.sz_region.specs.Putting.{AreRows}
use Rattle.sz_region.proofs.Numbering.{zip-length}
use Rattle.sz_region.proofs.NumberingPay.{entries-rows, entries-word}
use Rattle.sz_region.proofs.put_pay.put_entries.Goals as goal

pub put_numbered_entries-requires-clause-whole : goal.put_numbered_entries-requires-clause-whole
put_numbered_entries-requires-clause-whole c =
    let entries = map (λ e. arc_value e) c.args.entries.now in
    let done = c.in_ok-number_entries.ensures in
    let payloads = c.number_entries.new.payloads.items in
    let sets = c.number_entries.new.sets.items in
    let names = c.number_entries.new.names.items in
    let long = zip-length (AreNamesOfEntry (map (λ l. l.set) sets) payloads) done.rows entries done.named in (
      done.rows,
      subst (λ (ns : List ℕ). AreRows 2 ns done.rows) (sym c.deref-3.ensures.value)
          (entries-rows payloads sets names entries done),
      omega (arith, c.requires.1.few),
    )

pub returns-clause-ok : goal.returns-clause-ok
returns-clause-ok c =
    let entries = map (λ e. arc_value e) c.args.entries.now in
    let done = c.in_ok-number_entries.ensures in
    let payloads = c.number_entries.new.payloads.items in
    let sets = c.number_entries.new.sets.items in
    let names = c.number_entries.new.names.items in
    on_ok_weaker c.put_numbered_entries.result
    (λ put out shapes. (
      payloads,
      map (λ l. l.set) sets,
      counted payload_bytes payloads ++ counted set_bytes (map (λ l. l.set) sets) ++ rows_bytes done.rows,
      entries-word out payloads sets names entries done shapes c.requires.1.few c.requires.1.apart,
      put done.rows (subst (λ (ns : List ℕ). AreRows 2 ns done.rows) (sym c.deref-3.ensures.value)
          (entries-rows payloads sets names entries done))
          ∙ ap₂ (λ (ps : List (List ℕ)) (ls : List Listed). c.args.to.now.items
          ++ (counted payload_bytes ps ++ counted set_bytes (map (λ l. l.set) ls) ++ rows_bytes done.rows))
          c.deref.ensures.value c.deref-2.ensures.value,
    ))
    c.put_numbered_entries.ensures.ok
