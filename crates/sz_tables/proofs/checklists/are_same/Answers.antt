-- Two names are one where their numbers are.
use Rattle.std.proofs.Common.{◌≡◌, ◌==◌, ◌&&◌, ℕ, ap, ap₂}
use Rattle.std.specs.Bool.{Decides}
use Rattle.std.proofs.lemmas.Bool.Decides.{Decides-eqb, Decides-and}
use Rattle.std.proofs.lemmas.Slice.Eq.{slice_eq-Decides}
use Rattle.sz_tables.specs.declared.checklists.PairName.{PairName}
use Rattle.sz_tables.proofs.checklists.are_same.Goals as goal

same_name : (a b : PairName)
    → Decides ((a.out == b.out) && ((a.first == b.first) && (a.second == b.second))) (a ≡ b)
same_name a b =
    let ins = Decides-and (a.first == b.first) (a.second == b.second) (Decides-eqb a.first b.first)
    (Decides-eqb a.second b.second) in
    let all = Decides-and (a.out == b.out) ((a.first == b.first) && (a.second == b.second)) (Decides-eqb a.out b.out)
    ins in (
      λ t. let same = all.0 t in
          let out : a.out ≡ b.out = same.0 in
          let first : a.first ≡ b.first = same.1.0 in
          let second : a.second ≡ b.second = same.1.1 in
          ap₂ (λ (x : ℕ) (y : ℕ × ℕ). record { out = x; first = y.0; second = y.1 }) out
          (ap₂ (λ (x y : ℕ). (x, y)) first second),
      λ e.
          all.1 (
            ap (λ (n : PairName). n.out) e,
            (ap (λ (n : PairName). n.first) e, ap (λ (n : PairName). n.second) e),
          ),
    )

pub returns : goal.returns
returns c = slice_eq-Decides same_name c.args.a.now c.args.b.now c.eq.result c.eq.ensures
