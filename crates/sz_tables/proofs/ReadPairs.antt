-- Region pairs that some bytes spell have the shapes of the operator.
use Rattle.std.proofs.Common.{◌≡◌, ℕ, List, All, subst, sym}
use Rattle.sz_cells.specs.Extent.{Extent}
use Rattle.sz_spec.specs.Shapes.{Site}
use Rattle.sz_frame.specs.Parts.{Pairing}
use Rattle.sz_region.specs.FullBytes.{BeginsRegions}
use Rattle.sz_region.specs.Putting.{HasShapes}
use Rattle.sz_region.proofs.ReadShapes.{read-shapes}
use Rattle.sz_tables.specs.Stores.{IsPairOf}

pair-of : (s : Site) (r : Pairing) → HasShapes s.out s.ins r → IsPairOf s r
pair-of s r has = record { out = has.out; ins = has.ins }

pub word-pairs : (s store : Site) (out : Extent) (ins : List Extent) (bytes : List ℕ) (at next : ℕ) (rs : List Pairing)
    → store ≡ s → out ≡ s.out → ins ≡ s.ins → BeginsRegions out ins bytes at next rs → All (IsPairOf store) rs
word-pairs s store out ins bytes at next rs same at_out at_ins begins =
    let own : BeginsRegions s.out s.ins bytes at next rs =
    subst (λ (e : Extent). BeginsRegions e s.ins bytes at next rs) at_out
    (subst (λ (es : List Extent). BeginsRegions out es bytes at next rs) at_ins begins) in
    subst (λ (t : Site). All (IsPairOf t) rs) (sym same)
    (λ n d below. pair-of s _ (read-shapes s.out s.ins bytes at next rs own n d below))
