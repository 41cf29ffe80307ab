-- The key idea: the numbers of a row are appended behind those of the rows that are there, and no set loses its
-- number. So the old rows spell the region pairs that they spelled, and the new one spells the one handed in.
use Rattle.std.proofs.Common.{◌≡◌, ℕ, suc, ◌+◌, ◌-◌, ◌*◌, ◌^◌, ◌<◌, ◌≤◌, List, [], ◌∷◌, ◌++◌, Some, map}
use Rattle.std.proofs.Common.{length, get_or, drop, refl, sym, ap, ◌∙◌, arith, length-append, All}
use Rattle.std.specs.List.{slice_get, zip}
use Rattle.std.proofs.lemmas.Option.{slice_get_within, slice_get-get_or, unwrap_or-slice_get}
use Rattle.std.proofs.lemmas.List.{get_or-map, same_lists, drop-append-le, drop_at, take-append-le}
use Rattle.std.proofs.lemmas.List.{take_all, length-drop, length-map, map-append, map-id, get_or-drop, get_or-take}
use Rattle.std.proofs.lemmas.Simd.{map-map}
use Rattle.std.proofs.lemmas.List.FromFn.{map-range_with_len_more, get_or-map-range_with_len}
use Rattle.std.proofs.lemmas.List.FromFn.{length-map-range_with_len}
use Rattle.std.proofs.lemmas.List.Elements.{All-push, All-weaker, All-nil, All-map, All-same}
use Rattle.std.proofs.Math.Nat.{mul-le-mul_right}
use Rattle.sz_spec.proofs.FlowOutputs.{slice_get-left, map-agree}
use Rattle.sz_spec.specs.Values.{no_extent}
use Rattle.sz_cells.specs.Extent.{Extent}
use Rattle.sz_cells.specs.Cells.{Cells, no_cells}
use Rattle.sz_frame.specs.Parts.{Pairing}
use Rattle.sz_tables.specs.Tables.{SetsByNumber}
use Rattle.sz_tables.specs.Rows.{Row, RowTable, row_from, row_at, empty_sets, empty_rows, rows_of, set_at, sets_of}
use Rattle.sz_tables.specs.Rows.{number_in, pairing_of, pairings}
use Rattle.sz_tables.specs.Rows.{IsRowOf, Keeps, weight_of, HasRoomFor, Takes, TakeEach, table_of, IsSound}
use Rattle.sz_tables.proofs.Taking.{more-keeps, more-length, each-keeps, each-named, each-longer, each-extent}
use Rattle.sz_tables.proofs.Taking.{room-after, each-room, each-few}

-- ---- the rows that a list of numbers spells

-- a row is spelled by the numbers at its place alone
row-front : (inputs : ℕ) (xs fresh : List ℕ) → inputs + 1 ≤ length xs
    → row_from inputs (xs ++ fresh) ≡ row_from inputs xs
row-front inputs [] fresh long = absurd (omega arith)
row-front inputs (x ∷ xs) fresh long =
    let row : List ℕ → Row = λ ns. record { out = x; ins = ns } in
    ap row (take-append-le inputs xs fresh (omega arith))

-- the rows before a place are spelled by the numbers before it
row-before : (inputs count n : ℕ) (names fresh : List ℕ) → length names ≡ count * (inputs + 1) → n < count
    → row_from inputs (drop (n * (inputs + 1)) (names ++ fresh)) ≡ row_from inputs (drop (n * (inputs + 1)) names)
row-before inputs count n names fresh whole before =
    let end : (n + 1) * (inputs + 1) ≤ count * (inputs + 1) = mul-le-mul_right (inputs + 1) (omega arith) in
    let start : n * (inputs + 1) ≤ length names = omega arith in
    rw (drop-append-le (n * (inputs + 1)) names fresh start)
    (row-front inputs (drop (n * (inputs + 1)) names) fresh
    (omega (arith, length-drop (n * (inputs + 1)) names)))

rows-before : (inputs count : ℕ) (names fresh : List ℕ) → length names ≡ count * (inputs + 1)
    → rows_of inputs count (names ++ fresh) ≡ rows_of inputs count names
rows-before inputs count names fresh whole =
    let f = λ (n : ℕ). row_from inputs (drop (n * (inputs + 1)) (names ++ fresh)) in
    let g = λ (n : ℕ). row_from inputs (drop (n * (inputs + 1)) names) in
    same_lists _ _ (length-map-range_with_len f 0 count ∙ sym (length-map-range_with_len g 0 count))
    (λ k d below.
    let inside : k < count = omega (arith, length-map-range_with_len f 0 count) in
    get_or-map-range_with_len f 0 count k k d inside (omega arith)
    ∙ (row-before inputs count k names fresh whole inside
    ∙ sym (get_or-map-range_with_len g 0 count k k d inside (omega arith))))

-- the numbers of one row more spell one row more
pub rows-more : (inputs count : ℕ) (names : List ℕ) (number : ℕ) (ns : List ℕ)
    → length names ≡ count * (inputs + 1) → length ns ≡ inputs
    → rows_of inputs (count + 1) (names ++ number ∷ ns)
    ≡ rows_of inputs count names ++ record { out = number; ins = ns } ∷ []
rows-more inputs count names number ns whole long =
    let f = λ (n : ℕ). row_from inputs (drop (n * (inputs + 1)) (names ++ number ∷ ns)) in
    let row : row_from inputs (drop (count * (inputs + 1)) (names ++ number ∷ ns))
    ≡ record { out = number; ins = ns } =
    rw (drop_at names (number ∷ ns) (count * (inputs + 1)) whole)
    (let spell : List ℕ → Row = λ xs. record { out = number; ins = xs } in
    ap spell (take_all inputs ns (omega arith))) in
    map-range_with_len_more f 0 count count (omega arith)
    ∙ (rw row (ap (λ (rows : List Row). rows ++ record { out = number; ins = ns } ∷ [])
    (rows-before inputs count names (number ∷ ns) whole)))

-- ---- the region pair of a row

-- a set that keeps its number
pub set-kept : (old new : List Cells) (n : ℕ) → n < length old
    → ((m : ℕ) (s : Cells) → slice_get old m ≡ Some s → slice_get new m ≡ Some s) → set_at new n ≡ set_at old n
set-kept old new n inside keeps =
    let here = slice_get-get_or old n (no_cells no_extent) inside in
    rw (keeps n _ here, here) refl

-- the sets of a row whose numbers are kept
ins-kept : (old new : List (List Cells)) (ns : List ℕ) → length new ≡ length old → length ns ≡ length old
    → ((i : ℕ) → i < length old → get_or ns i 0 < length (sets_of old i))
    → ((i n : ℕ) (s : Cells) → slice_get (sets_of old i) n ≡ Some s → slice_get (sets_of new i) n ≡ Some s)
    → map (λ (p : List Cells × ℕ). set_at p.0 p.1) (zip new ns)
    ≡ map (λ (p : List Cells × ℕ). set_at p.0 p.1) (zip old ns)
ins-kept [] [] ns as_many long inside keeps = refl
ins-kept [] (w ∷ new) ns as_many long inside keeps = absurd (omega arith)
ins-kept (o ∷ old) [] ns as_many long inside keeps = absurd (omega arith)
ins-kept (o ∷ old) (w ∷ new) [] as_many long inside keeps = absurd (omega arith)
ins-kept (o ∷ old) (w ∷ new) (n ∷ ns) as_many long inside keeps =
    rw (
      set-kept o w n (inside 0 (omega arith)) (λ m s. keeps 0 m s),
      ins-kept old new ns (omega arith) (omega arith) (λ i h. inside (suc i) (omega arith)) (λ i. keeps (suc i)),
    ) refl

-- the sets of a row whose numbers are those of given sets
ins-named : (new : List (List Cells)) (ns : List ℕ) (xs : List Cells) → length ns ≡ length new
    → length xs ≡ length new
    → ((i : ℕ) → i < length new → slice_get (sets_of new i) (get_or ns i 0) ≡ Some (set_at xs i))
    → map (λ (p : List Cells × ℕ). set_at p.0 p.1) (zip new ns) ≡ xs
ins-named [] ns [] long as_many named = refl
ins-named [] ns (x ∷ xs) long as_many named = absurd (omega arith)
ins-named (w ∷ new) ns [] long as_many named = absurd (omega arith)
ins-named (w ∷ new) [] (x ∷ xs) long as_many named = absurd (omega arith)
ins-named (w ∷ new) (n ∷ ns) (x ∷ xs) long as_many named =
    let first : slice_get w n ≡ Some x = named 0 (omega arith) in
    rw (first, ins-named new ns xs (omega arith) (omega arith) (λ i h. named (suc i) (omega arith))) refl

-- a row keeps its region pair where what has a number keeps it
pub pairing-kept : (old new : RowTable) (row : Row) → length new.sets ≡ length old.sets
    → length old.sets ≡ length old.ins → Keeps old new → IsRowOf old row
    → pairing_of new.outs new.sets row ≡ pairing_of old.outs old.sets row
pairing-kept old new row as_many arrays keeps is =
    rw (
      set-kept old.outs new.outs row.out is.out keeps.outs,
      ins-kept old.sets new.sets row.ins as_many (is.arity ∙ sym arrays)
          (λ i h. is.ins i (omega arith)) keeps.sets,
    ) refl

-- room for one row less
room-less : (names all rows inputs capacity : ℕ) → 0 < rows → all ≡ names + (inputs + 1)
    → names + rows * (inputs + 1) ≤ capacity → all + (rows - 1) * (inputs + 1) ≤ capacity
room-less names all rows inputs capacity some long room =
    let one : rows ≡ (rows - 1) + 1 = omega arith in
    let again : names + ((rows - 1) + 1) * (inputs + 1) ≤ capacity = rw one at room in
    omega arith

-- ---- one row more

-- the tables of sets take those of a region pair, and the numbers are appended
pub record Adds (outs outs' : SetsByNumber) (ins ins' : List SetsByNumber) (names all : List ℕ) (r : Pairing)
    : Type 0 where
  pub number : ℕ
  pub ns : List ℕ
  pub out : Takes outs outs' r.out number
  pub each : TakeEach ins ins' r.ins ns
  pub inputs : length r.ins ≡ length ins
  pub spelled : all ≡ names ++ number ∷ ns

module _ (outs outs' : SetsByNumber) (ins ins' : List SetsByNumber) (names all : List ℕ) (r : Pairing)
    (count rows runs capacity : ℕ) (adds : Adds outs outs' ins ins' names all r)
    (sound : IsSound outs ins names count rows runs capacity) where
  -- the rows are those before, and the new one
  pub rows-added : rows_of (length ins') (count + 1) all
      ≡ rows_of (length ins) count names ++ record { out = adds.number; ins = adds.ns } ∷ []
  rows-added =
      rw (adds.spelled, adds.each.as_many)
      (rows-more (length ins) count names adds.number adds.ns sound.whole adds.each.numbers)

  -- what has a number keeps it
  pub added-keeps : (rows' runs' : ℕ)
      → Keeps (table_of outs ins names count rows runs) (table_of outs' ins' all (count + 1) rows' runs')
  added-keeps rows' runs' = record {
    out = adds.out.extent;
    ins = each-extent ins ins' r.ins adds.ns adds.each;
    rows =
        λ n row here. rw rows-added
        (slice_get-left (rows_of (length ins) count names) _ n (slice_get_within _ n row here) ∙ here);
    outs = more-keeps outs.sets outs'.sets r.out adds.out.sets;
    sets = each-keeps ins ins' r.ins adds.ns adds.each;
  }

  -- the region pairs are those before, and the one handed in
  pub pairings-added : (rows' runs' : ℕ) → pairings (table_of outs' ins' all (count + 1) rows' runs')
      ≡ pairings (table_of outs ins names count rows runs) ++ r ∷ []
  pairings-added rows' runs' =
      let old = table_of outs ins names count rows runs in
      let new = table_of outs' ins' all (count + 1) rows' runs' in
      let sets = λ (t : SetsByNumber). t.sets in
      let long = length-map ins sets in
      let long' = length-map ins' sets in
      let arrays = length-map ins (λ (t : SetsByNumber). t.extent) in
      let before : map (pairing_of new.outs new.sets) old.rows ≡ map (pairing_of old.outs old.sets) old.rows =
      map-agree (pairing_of new.outs new.sets) (pairing_of old.outs old.sets) old.rows
      (All-weaker (IsRowOf old) _
      (λ row is. pairing-kept old new row (omega (arith, adds.each.as_many)) (omega arith)
      (added-keeps rows' runs') is) old.rows sound.named) in
      let here : map (λ (p : List Cells × ℕ). set_at p.0 p.1) (zip new.sets adds.ns) ≡ r.ins =
      ins-named new.sets adds.ns r.ins (omega (arith, adds.each.numbers, adds.each.as_many))
      (omega (arith, adds.inputs, adds.each.as_many))
      (λ i h. each-named ins ins' r.ins adds.ns adds.each i (omega (arith, adds.each.as_many))) in
      rw (rows-added, map-append (pairing_of new.outs new.sets) old.rows _, before, adds.out.number, here) refl

  -- the new row names sets that are there
  new-named : (rows' runs' : ℕ) → IsRowOf (table_of outs' ins' all (count + 1) rows' runs')
      (record { out = adds.number; ins = adds.ns })
  new-named rows' runs' =
      let arrays = length-map ins' (λ (t : SetsByNumber). t.extent) in
      record {
        out = slice_get_within outs'.sets adds.number r.out adds.out.number;
        arity = omega (arith, adds.each.numbers, adds.each.as_many);
        ins =
            λ i h. slice_get_within _ (get_or adds.ns i 0) (set_at r.ins i)
            (each-named ins ins' r.ins adds.ns adds.each i (omega (arith, adds.each.as_many)));
      }

  -- and so does each row before
  old-named : (rows' runs' : ℕ) (row : Row) → IsRowOf (table_of outs ins names count rows runs) row
      → IsRowOf (table_of outs' ins' all (count + 1) rows' runs') row
  old-named rows' runs' row is =
      let arrays = length-map ins (λ (t : SetsByNumber). t.extent) in
      let arrays' = length-map ins' (λ (t : SetsByNumber). t.extent) in
      let outs-longer = more-length outs.sets outs'.sets r.out adds.out.sets in
      record {
        out = omega (arith, is.out);
        arity = omega (arith, is.arity, adds.each.as_many);
        ins =
            λ i h. let inside : i < length ins = omega (arith, adds.each.as_many) in
            let named = is.ins i (omega arith) in
            let longer = each-longer ins ins' r.ins adds.ns adds.each i inside in
            omega arith;
      }

  -- the table stays sound, with room for one row less
  pub added-sound : 0 < rows → weight_of r ≤ runs
      → IsSound outs' ins' all (count + 1) (rows - 1) (runs - weight_of r) capacity
  added-sound some light =
      let long : length all ≡ length names + (length ins + 1) =
      rw (adds.spelled, length-append names (adds.number ∷ adds.ns)) (omega (arith, adds.each.numbers)) in
      let as_many = adds.each.as_many in
      let outs-longer = more-length outs.sets outs'.sets r.out adds.out.sets in
      record {
        whole = rw as_many (omega (arith, sound.whole));
        named =
            All-same (IsRowOf (table_of outs' ins' all (count + 1) (rows - 1) (runs - weight_of r))) _ _ rows-added
            (All-push (IsRowOf (table_of outs' ins' all (count + 1) (rows - 1) (runs - weight_of r)))
            (rows_of (length ins) count names) (record { out = adds.number; ins = adds.ns })
            (All-weaker (IsRowOf (table_of outs ins names count rows runs)) _
            (old-named (rows - 1) (runs - weight_of r)) _ sound.named)
            (new-named (rows - 1) (runs - weight_of r)));
        few = omega (arith, sound.few);
        inputs = λ h. rw as_many (sound.inputs (omega arith));
        few_outs = omega (arith, sound.few_outs);
        few_ins = each-few ins ins' r.ins adds.ns count adds.each sound.few_ins;
        room = rw as_many (room-less (length names) (length all) rows (length ins) capacity some long sound.room);
        out_room =
            room-after outs outs' r.out adds.number rows runs (weight_of r) adds.out sound.out_room (omega arith);
        in_room =
            each-room ins ins' r.ins adds.ns rows runs (weight_of r) adds.each adds.inputs sound.in_room (omega arith);
      }

-- ---- reading a row

-- a row's numbers lie within the list
pub row-inside : (inputs count row : ℕ) (names : List ℕ) → length names ≡ count * (inputs + 1) → row < count
    → row * (inputs + 1) + (inputs + 1) ≤ length names
row-inside inputs count row names whole below =
    let end : (row + 1) * (inputs + 1) ≤ count * (inputs + 1) = mul-le-mul_right (inputs + 1) (omega arith) in
    omega arith

pub row-at : (inputs count row : ℕ) (names : List ℕ) → row < count
    → row_at (rows_of inputs count names) row ≡ row_from inputs (drop (row * (inputs + 1)) names)
row-at inputs count row names below =
    let f = λ (n : ℕ). row_from inputs (drop (n * (inputs + 1)) names) in
    let none : Row = record { out = 0; ins = [] } in
    unwrap_or-slice_get (rows_of inputs count names) row none
    ∙ get_or-map-range_with_len f 0 count row row none below (omega arith)

pub out-at : (inputs count row : ℕ) (names : List ℕ) → row < count
    → (row_at (rows_of inputs count names) row).out ≡ get_or names (row * (inputs + 1)) 0
out-at inputs count row names below =
    rw (row-at inputs count row names below, get_or-drop (row * (inputs + 1)) names 0 0)
    (let same : row * (inputs + 1) + 0 ≡ row * (inputs + 1) = omega arith in rw same refl)

pub in-at : (inputs count row input : ℕ) (names : List ℕ) → row < count → input < inputs
    → number_in (row_at (rows_of inputs count names) row) input ≡ get_or names (row * (inputs + 1) + 1 + input) 0
in-at inputs count row input names below here =
    rw (row-at inputs count row names below)
    (get_or-take inputs (drop 1 (drop (row * (inputs + 1)) names)) input 0 here
    ∙ (get_or-drop 1 (drop (row * (inputs + 1)) names) input 0
    ∙ (get_or-drop (row * (inputs + 1)) names (1 + input) 0
    ∙ (let same : row * (inputs + 1) + (1 + input) ≡ row * (inputs + 1) + 1 + input = omega arith in
    rw same refl))))

pub rows-length : (inputs count : ℕ) (names : List ℕ) → length (rows_of inputs count names) ≡ count
rows-length inputs count names =
    length-map-range_with_len (λ (n : ℕ). row_from inputs (drop (n * (inputs + 1)) names)) 0 count

-- ---- tables that change but for their sets

-- a table without a row is sound
pub sound-none : (out : Extent) (shapes : List Extent) (capacity : ℕ)
    → IsSound (empty_sets out) (map empty_sets shapes) [] 0 0 0 capacity
sound-none out shapes capacity = record {
  whole = omega arith;
  named = All-nil (IsRowOf (table_of (empty_sets out) (map empty_sets shapes) [] 0 0 0));
  few = omega arith;
  inputs = λ none. absurd (omega arith);
  few_outs = omega arith;
  few_ins = All-map (λ (s : SetsByNumber). length s.sets ≤ 0) empty_sets shapes (λ k d h. omega arith);
  room = omega arith;
  out_room = record { for_sets = omega arith; for_runs = omega arith };
  in_room =
      All-map (HasRoomFor 0 0) empty_sets shapes
      (λ k d h. record { for_sets = omega arith; for_runs = omega arith });
}

-- and is seen as a table without a region pair, whatever memory it holds
pub none-seen : (out : Extent) (shapes : List Extent) (capacities : List ℕ)
    → record (table_of (empty_sets out) (map empty_sets shapes) [] 0 0 0) { capacities = capacities }
    ≡ record (empty_rows out shapes) { capacities = capacities }
none-seen out shapes capacities =
    let extents : map (λ (s : SetsByNumber). s.extent) (map empty_sets shapes) ≡ shapes =
    map-map (λ (s : SetsByNumber). s.extent) empty_sets shapes ∙ map-id shapes in
    let sets : map (λ (s : SetsByNumber). s.sets) (map empty_sets shapes) ≡ map (λ (e : Extent). []) shapes =
    map-map (λ (s : SetsByNumber). s.sets) empty_sets shapes in
    rw (extents, sets) refl

-- a table stays sound where its lists get other room
pub sound-reserved : (outs outs' : SetsByNumber) (ins ins' : List SetsByNumber) (names : List ℕ)
    (count rows runs capacity rows' runs' capacity' : ℕ) → IsSound outs ins names count rows runs capacity
    → outs'.sets ≡ outs.sets
    → map (λ (s : SetsByNumber). s.extent) ins' ≡ map (λ (s : SetsByNumber). s.extent) ins
    → map (λ (s : SetsByNumber). s.sets) ins' ≡ map (λ (s : SetsByNumber). s.sets) ins
    → count + rows' ≤ 2 ^ 30 → length ins ≤ 2 → length names + rows' * (length ins + 1) ≤ capacity'
    → HasRoomFor rows' runs' outs' → All (HasRoomFor rows' runs') ins'
    → IsSound outs' ins' names count rows' runs' capacity'
sound-reserved outs outs' ins ins' names count rows runs capacity rows' runs' capacity' sound same extents sets few two
    room out_room in_room =
    let extent = λ (s : SetsByNumber). s.extent in
    let long : length ins' ≡ length ins =
    sym (length-map ins' extent) ∙ (ap length extents ∙ length-map ins extent) in
    record {
      whole = rw long sound.whole;
      named =
          All-same (IsRowOf (table_of outs' ins' names count rows' runs')) _ _
          (ap (λ (n : ℕ). rows_of n count names) long)
          (All-weaker (IsRowOf (table_of outs ins names count rows runs))
          (IsRowOf (table_of outs' ins' names count rows' runs'))
          (λ row is. record {
            out = rw same is.out;
            arity = rw extents is.arity;
            ins = rw (extents, sets) is.ins;
          }) (rows_of (length ins) count names) sound.named);
      few = few;
      inputs = λ h. rw long two;
      few_outs = rw same sound.few_outs;
      few_ins =
          λ k d below. let here : (get_or ins' k d).sets ≡ (get_or ins k d).sets =
          sym (get_or-map (λ (s : SetsByNumber). s.sets) ins' k d d.sets below)
          ∙ (ap (λ (xs : List (List Cells)). get_or xs k d.sets) sets
          ∙ get_or-map (λ (s : SetsByNumber). s.sets) ins k d d.sets (omega arith)) in
          rw here (sound.few_ins k d (omega arith));
      room = rw long room;
      out_room = out_room;
      in_room = in_room;
    }
