-- One row more.
use Rattle.std.proofs.Common.{◌≡◌, ◌≢◌, ℕ, ◌+◌, ◌<◌, ◌≤◌, ◌∙◌, List, [], ◌∷◌, ◌++◌}
use Rattle.std.proofs.Common.{Bool, true, length, map, take}
use Rattle.std.proofs.Common.{get_or, set, ap, sym, subst, refl, arith, inl, inr, true≢false, get_or-set_other}
use Rattle.std.proofs.lemmas.Bool.{cases_lt}
use Rattle.std.proofs.lemmas.List.{take_more, take_all, map_push, length-map, length-set, get_or-map, get_or-set_same}
use Rattle.std.proofs.lemmas.Option.{unwrap_or-slice_get}
use Rattle.sz_cells.specs.Cells.{Cells}
use Rattle.sz_frame.specs.Parts.{Pairing}
use Rattle.sz_frame.specs.Stands.{set_of}
use Rattle.sz_tables.specs.Rows.{Row, pairing_of, pairings, row_at, number_in}
use Rattle.sz_tables.specs.Scans.{pairing_at}
use Rattle.sz_tables.proofs.Scanned.{row-named}
use Rattle.sz_merge.specs.Apart.{AreSeen}
use Rattle.sz_merge.proofs.Further.{seen-more, seen-kinds, numbered-different}
use Rattle.sz_merge.proofs.apart.are_kinds_by.Goals as goal

pub loop-row-preserved : goal.loop-row-preserved
loop-row-preserved c =
    let t = c.args.table.now in
    let i = c.args.input in
    let k = c.loop-row.row in
    let inv = c.loop-row.invariant in
    let after = c.is_further.new.seen in
    let number : ℕ → ℕ = λ m. number_in (row_at t.rows m) i in
    let items = c.loop-row.known.items in
    let f : Pairing → Cells = λ r. set_of r i in
    let g = pairing_of t.outs t.sets in
    let rs = take k (pairings t) in
    let r = pairing_at t k in
    let none : Row = record { out = 0; ins = [] } in
    let inside : k < length t.rows = omega (arith, c.len-row-end.ensures.count, c.loop-row-test.true) in
    let long : k < length (pairings t) = omega (arith, inside, length-map t.rows g) in
    let one : get_or (pairings t) k r ≡ r =
    get_or-map g t.rows k none r inside ∙ ap g (sym (unwrap_or-slice_get t.rows k none)) in
    let grown : take (k + 1) (pairings t) ≡ rs ++ r ∷ [] =
    take_more (pairings t) k r long ∙ ap (λ (p : Pairing). rs ++ p ∷ []) one in
    let more = c.is_further.ensures.further c.if-not-is_further.false (map f rs) in
    let new = c.is_further.ensures.new c.if-not-is_further.false in
    let named = row-named t k c.len-row-end.ensures.named inside in
    let place : number k < length items = omega (arith, named.ins i c.requires.input, inv.many) in
    let old : (m : ℕ) → m < k → number m ≢ number k =
    λ m below same.
    true≢false
    (sym (inv.noted m below) ∙ ap (λ (n : ℕ). get_or items n true) same ∙ new.0) in
    record {
      shape = more.shape ∙ inv.shape;
      many = ap length new.1 ∙ length-set items (number k) true ∙ inv.many;
      seen =
          subst (λ (xs : List Pairing). AreSeen i xs after (map f xs)) (sym grown)
          (subst (λ (ks : List Cells). AreSeen i (rs ++ r ∷ []) after ks) (sym (map_push f rs r))
          (seen-more i rs r r.out (f r) c.loop-row.seen after (map f rs)
          (map f rs ++ f r ∷ []) refl refl inv.seen more));
      noted =
          λ m below.
          ap (λ (xs : List Bool). get_or xs (number m) true) new.1 ∙ elim (cases_lt m k) [
            | inl less ↦
                get_or-set_other items (number k) (number m) true true (old m less) ∙ inv.noted m less
            | inr high ↦
                let last : m ≡ k = omega (arith, below, high) in
                ap (λ (n : ℕ). get_or (set items (number k) true) (number n) true) last
                ∙ get_or-set_same items (number k) true true place
          ];
      fresh =
          λ m n below under same.
          elim (cases_lt m k) [
            | inl less ↦
                elim (cases_lt n k) [
                  | inl lower ↦ inv.fresh m n less lower same
                  | inr high ↦
                      let last : n ≡ k = omega (arith, under, high) in absurd (old m less (same ∙ ap number last))
                ]
            | inr high ↦
                let last : m ≡ k = omega (arith, below, high) in
                elim (cases_lt n k) [
                  | inl lower ↦ absurd (old n lower (sym same ∙ ap number last))
                  | inr other ↦ omega (arith, last, under, other)
                ]
          ];
    }

pub returns : goal.returns
returns c is =
    let t = c.args.table.now in
    let i = c.args.input in
    let inv = c.loop-row.invariant in
    let f : Pairing → Cells = λ r. set_of r i in
    let long = length-map t.rows (pairing_of t.outs t.sets) in
    let enough : length (pairings t) ≤ c.loop-row.row =
    omega (arith, long, c.len-row-end.ensures.count, c.loop-row-test.false) in
    let all = take_all c.loop-row.row (pairings t) enough in
    seen-kinds i (pairings t) c.loop-row.seen (map f (pairings t))
    (subst (λ (xs : List Pairing). AreSeen i xs c.loop-row.seen (map f xs)) all inv.seen)
    (numbered-different t i c.len-row-end.ensures.named c.requires.input c.sets_of.ensures.different
    (λ m n below under same.
    inv.fresh m n (omega (arith, below, long, enough)) (omega (arith, under, long, enough)) same))
