-- One entry more is added behind those before it.
use Rattle.std.proofs.Common.{◌≡◌, ◌+◌, List, ◌∷◌, ◌++◌, [], ℕ, length, map, take, ap, sym, subst, ◌∙◌, refl}
use Rattle.std.proofs.Common.{◌<◌, get_or, arith}
use Rattle.std.specs.Arc.{arc_value}
use Rattle.std.specs.List.{All}
use Rattle.std.proofs.lemmas.List.{length-map, length-take, map-append, take_all, take_more}
use Rattle.sz_frame.specs.Parts.{Entry}
use Rattle.sz_tables.specs.Entries.{EntryRows, entry_named}
use Rattle.sz_tables.specs.Listed.{IsOneOf}
use Rattle.sz_tables.proofs.Counted.{item-made}
use Rattle.sz_tables.proofs.Listed.{listed-more}
use Rattle.sz_tables.proofs.entry_table.EntryTable.of_entries.Goals as goal
use Rattle.sz_tables.proofs.entry_table.EntryTable.of_entries.Goals.{After-entry-item}

-- the entry of a turn is the one at its index, and has the shape
record IsNext (c : After-entry-item) (e : Entry) : Type 0 where
  pub inside : c.loop-entry.entry-index < length (map (λ a. arc_value a) c.args.given.now)
  pub is : get_or (map (λ a. arc_value a) c.args.given.now) c.loop-entry.entry-index e ≡ e
  pub shape : e.out.extent ≡ c.args.out

next : (c : After-entry-item) (e : Entry) → e ≡ arc_value c.entry-item.result → IsNext c e
next c e lent =
    let es : List Entry = map (λ a. arc_value a) c.args.given.now in
    let i = c.loop-entry.entry-index in
    let there = item-made (λ a. arc_value a) c.args.given.now es i c.entry-item.result e refl c.loop-entry-test.true
    c.entry-item.is lent in
    record {
      inside = there.0;
      is = there.1;
      shape = subst (λ (x : Entry). x.out.extent ≡ c.args.out) there.1 (c.requires.shapes i e there.0);
    }

pub keep-requires-clause-few : goal.keep-requires-clause-few
keep-requires-clause-few c =
    let es : List Entry = map (λ a. arc_value a) c.args.given.now in
    let i = c.loop-entry.entry-index in
    let t = c.loop-entry.table in
    omega (
      arith,
      length-map t.rows (entry_named t.sets t.payloads),
      ap length c.loop-entry.invariant.entries,
      length-take i es,
      length-map c.args.given.now (λ a. arc_value a),
      c.requires.few,
      c.loop-entry-test.true,
    )

pub keep-requires-clause-shape : goal.keep-requires-clause-shape
keep-requires-clause-shape c =
    let on = next (goal.at.keep-requires-clause-shape c).After-entry-item _ c.deref.ensures in
    on.shape ∙ sym (c.loop-entry.invariant.out ∙ ap (λ (t : EntryRows). t.out) c.in_ok-table.ensures)

pub loop-entry-preserved : goal.loop-entry-preserved
loop-entry-preserved c =
    let es : List Entry = map (λ a. arc_value a) c.args.given.now in
    let i = c.loop-entry.entry-index in
    let e : Entry = c.deref.result.now in
    let f : Entry → List ℕ = λ x. x.payload in
    let inv = c.loop-entry.invariant in
    let on = next (goal.at.loop-entry-preserved c).After-entry-item e c.deref.ensures in
    let more : take (i + 1) es ≡ take i es ++ e ∷ [] =
    take_more es i e on.inside ∙ ap (λ (x : Entry). take i es ++ x ∷ []) on.is in
    let new = c.keep.new.self.payloads in
    let payloads : map f (take (i + 1) es) ≡ map f (take i es) ++ e.payload ∷ [] =
    ap (map f) more ∙ map-append f (take i es) (e ∷ []) in
    record {
      out = c.keep.ensures.out ∙ inv.out;
      entries = c.in_ok-keep.ensures.entries ∙ ap (λ (xs : List Entry). xs ++ e ∷ []) inv.entries ∙ sym more;
      payloads = subst (λ (ps : List (List ℕ)). All (IsOneOf ps) new) (sym payloads)
          (listed-more c.loop-entry.table.payloads new (map f (take i es)) e.payload c.in_ok-keep.ensures.payloads
          inv.payloads);
    }

pub returns-clause-payloads : goal.returns-clause-payloads
returns-clause-payloads c =
    let es : List Entry = map (λ a. arc_value a) c.args.given.now in
    let long = length-map c.args.given.now (λ a. arc_value a) in
    subst (λ (xs : List Entry). All (IsOneOf (map (λ (x : Entry). x.payload) xs)) c.loop-entry.table.payloads)
    (take_all c.loop-entry.entry-index es (omega (arith, long, c.loop-entry-test.false)))
    c.loop-entry.invariant.payloads
