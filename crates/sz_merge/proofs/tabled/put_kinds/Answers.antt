-- The key idea: each kind has two sets, and each set a name, so their number is known before they are put.
use Rattle.std.proofs.Common.{◌≡◌, ◌∙◌, ◌*◌, ◌++◌, ◌∷◌, [], ℕ, List, length, refl, sym, ap, subst}
use Rattle.std.proofs.Common.{arith, append_assoc}
use Rattle.std.specs.List.{filter, range_with_len, flat_map}
use Rattle.std.proofs.lemmas.List.{length-map}
use Rattle.sz_cells.specs.SetBytes.{four_bytes}
use Rattle.sz_frame.specs.Parts.{Pairing}
use Rattle.sz_region.specs.Counted.{counted, rows_bytes}
use Rattle.sz_region.specs.FullBytes.{listed_bytes}
use Rattle.sz_region.specs.Putting.{AreRows}
use Rattle.sz_merge.specs.Lineages.{lists_of}
use Rattle.sz_merge.specs.Marks.{is_kind, kinds_behind, region_at}
use Rattle.sz_merge.proofs.Numbered.{AreListedKinds, kinds-listed}
use Rattle.sz_merge.proofs.tabled.put_kinds.Goals as goal
use Rattle.sz_merge.proofs.tabled.put_kinds.Goals.{After-deref}

abbrev kinds : (c : After-deref) → List Pairing
kinds c = kinds_behind c.args.out c.args.groups.now c.args.behind.now

many : (c : After-deref) → length (kinds c) ≡ c.count_kinds-kinds.result
many c =
    let groups = c.args.groups.now in
    let behind = c.args.behind.now in
    length-map (filter (is_kind groups) (range_with_len 0 (length groups)))
    (region_at c.args.out groups (lists_of (behind.extent ∷ []) behind.sets))
    ∙ sym c.count_kinds-kinds.ensures.count

-- their sets, which were put
listed : (c : After-deref)
    → AreListedKinds c.args.out (c.args.behind.now.extent ∷ []) (kinds c) c.in_ok-put_sets.ensures.put.table
    c.put_sets.new.names.items
listed c =
    let put = c.in_ok-put_sets.ensures.put in
    kinds-listed c.args.out (c.args.behind.now.extent ∷ []) (kinds c) put.table c.put_sets.new.names.items refl
    c.requires.shapes c.in_ok-put_sets.ensures.few put.numbered

pub put_rows-requires-clause-whole : goal.put_rows-requires-clause-whole
put_rows-requires-clause-whole c =
    let all = listed (goal.at.put_rows-requires-clause-whole c).After-deref in
    (all.done.rows, subst (λ (ns : List ℕ). AreRows 2 ns all.done.rows) (sym c.deref.ensures.value) all.rows, all.few)

pub returns : goal.returns
returns c =
    let s = (goal.at.returns c).After-deref in
    let put = s.in_ok-put_sets.ensures.put in
    let all = listed s in
    let rows = all.done.rows in
    let old = c.args.to.now.items in
    let twice : 2 * c.count_kinds-kinds.result ≡ length put.table = omega (arith, put.each, all.many, many s) in
    record {
      many = many s;
      table = put.table;
      word = counted listed_bytes put.table ++ rows_bytes rows;
      is_word = all.is_word;
      added =
          c.in_ok-put_rows.ensures.ok rows
          (subst (λ (ns : List ℕ). AreRows 2 ns rows) (sym s.deref.ensures.value) all.rows)
          ∙ ap (λ (bs : List ℕ). bs ++ rows_bytes rows)
          (put.added ∙ ap (λ (bs : List ℕ). bs ++ flat_map listed_bytes put.table)
          (c.in_ok-put_number.ensures.ok ∙ ap (λ (n : ℕ). old ++ four_bytes n) twice)
          ∙ append_assoc old (four_bytes (length put.table)) (flat_map listed_bytes put.table))
          ∙ append_assoc old (counted listed_bytes put.table) (rows_bytes rows);
    }
