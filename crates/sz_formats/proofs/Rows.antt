-- Rows: formats, and the stores of `neg` on one cell in the bytes of both, as they are by hand.
use Rattle.std.proofs.Common.{◌≡◌, ℕ, List, [], ◌∷◌, ◌++◌, drop, refl, true, false, arith}
use Rattle.std.proofs.lemmas.List.Elements.{All-cons, All-nil}
use Rattle.sz_cells.specs.Extent.{Extent, flat}
use Rattle.sz_cells.specs.Cells.{Cells}
use Rattle.sz_spec.specs.declared.op.Op.TheVariants.{Neg}
use Rattle.sz_spec.specs.declared.modes.Mode.TheVariants as mode
use Rattle.sz_spec.specs.declared.modes.Strategy.TheVariants as strategy
use Rattle.sz_spec.specs.Shapes.{Site}
use Rattle.sz_frame.specs.Parts.{Pairing, Entry}
use Rattle.sz_region.specs.FullBytes.{Listed, IsListed}
use Rattle.sz_short.specs.ShortNumber.{short_number, short_within}
use Rattle.sz_short.specs.ShortStores.{AreFullParts, full_word, BeginsFull}
use Rattle.sz_store.specs.Kept.{Keep, regions, entries}
use Rattle.sz_formats.specs.Formats.{is_format, other_than, spelling}
use Rattle.sz_formats.specs.Twice.{AreTwice, from_format, span}
use Rattle.sz_formats.specs.Words.{BeginsBy, BeginEachIn}

are-formats : (is_format 1 ≡ true) × (is_format 2 ≡ true) × (is_format 0 ≡ false) × (is_format 3 ≡ false)
are-formats = (refl, refl, refl, refl)

others : (other_than 1 ≡ 2) × (other_than 2 ≡ 1)
others = (refl, refl)

abbrev cell : Extent
cell = flat 1 1

abbrev site : Site
site = record { op = Neg; ins = cell ∷ []; out = cell }

abbrev set : Cells
set = record { extent = cell; indexes = 0 ∷ [] }

abbrev pair : Pairing
pair = record { out = set; ins = set ∷ [] }

abbrev keep : Keep
keep = record { strategy = strategy.FullOneB; holding = regions (pair ∷ []) }

abbrev one : Listed
one = record { array = 0; set = set }

abbrev other : Listed
other = record { array = 1; set = set }

listed : (array : ℕ) → array ≡ 0 → IsListed cell (cell ∷ []) (record { array = array; set = set })
listed array is =
    rw is
    (record { array = omega arith; set = record { extent = refl; rising = (omega arith, omega arith, tt) } })

listed-one : IsListed cell (cell ∷ []) other
listed-one = record { array = omega arith; set = record { extent = refl; rising = (omega arith, omega arith, tt) } }

parts : AreFullParts cell (cell ∷ []) (one ∷ other ∷ []) ((0 ∷ 1 ∷ []) ∷ []) (pair ∷ [])
parts = record {
  each =
      All-cons (IsListed cell (cell ∷ [])) one (other ∷ []) (listed 0 refl)
      (All-cons (IsListed cell (cell ∷ [])) other [] listed-one (All-nil (IsListed cell (cell ∷ []))));
  few_sets = omega arith;
  few = omega arith;
  named = (record { whole = refl; named = (refl, (refl, tt)) }, tt);
}

-- 00000002  00 00000001 00000000 00000000  01 00000001 00000000 00000000  00000001  00000000 00000001
abbrev long : List ℕ
long =
    0 ∷ 0 ∷ 0 ∷ 2 ∷ 0 ∷ 0 ∷ 0 ∷ 0 ∷ 1 ∷ 0 ∷ 0 ∷ 0 ∷ 0 ∷ 0 ∷ 0 ∷ 0 ∷ 0 ∷ 1 ∷ 0 ∷ 0 ∷ 0 ∷ 1 ∷ 0 ∷ 0 ∷ 0 ∷ 0 ∷ 0 ∷ 0 ∷ 0
    ∷ 0 ∷ 0 ∷ 0 ∷ 0 ∷ 1 ∷ 0 ∷ 0 ∷ 0 ∷ 0 ∷ 0 ∷ 0 ∷ 0 ∷ 1 ∷ []

-- 00000002  00 01 00 00  01 01 00 00  00000001  00000000 00000001
abbrev short : List ℕ
short = 0 ∷ 0 ∷ 0 ∷ 2 ∷ 0 ∷ 1 ∷ 0 ∷ 0 ∷ 1 ∷ 1 ∷ 0 ∷ 0 ∷ 0 ∷ 0 ∷ 0 ∷ 1 ∷ 0 ∷ 0 ∷ 0 ∷ 0 ∷ 0 ∷ 0 ∷ 0 ∷ 1 ∷ []

-- behind another byte, and before one more
begins : (spell : Cells → List ℕ) (bytes : List ℕ) (next : ℕ)
    → drop 1 bytes ≡ full_word spell (one ∷ other ∷ []) ((0 ∷ 1 ∷ []) ∷ []) ++ 7 ∷ [] → drop next bytes ≡ 7 ∷ []
    → BeginsFull spell cell (cell ∷ []) bytes 1 next (pair ∷ [])
begins spell bytes next spelled ends = record {
  table = one ∷ other ∷ [];
  names = (0 ∷ 1 ∷ []) ∷ [];
  rest = 7 ∷ [];
  are = parts;
  spelled = spelled;
  ends = ends;
}

in-format-1 : BeginEachIn 1 site (strategy.FullOneB ∷ []) (9 ∷ (long ++ 7 ∷ [])) 1 43 (keep ∷ [])
in-format-1 = (43, omega arith, refl, begins (spelling 1) (9 ∷ (long ++ 7 ∷ [])) 43 refl refl, refl)

in-format-2 : BeginEachIn 2 site (strategy.FullOneB ∷ []) (9 ∷ (short ++ 7 ∷ [])) 1 25 (keep ∷ [])
unfolding short_number short_within
in-format-2 = (25, omega arith, refl, begins (spelling 2) (9 ∷ (short ++ 7 ∷ [])) 25 refl refl, refl)

-- the same store in both
both : AreTwice (from_format 2) site (strategy.FullOneB ∷ []) (span short 0 24) (span long 0 42)
unfolding short_number short_within
both = (
  24,
  42,
  record {
    table = one ∷ other ∷ [];
    names = (0 ∷ 1 ∷ []) ∷ [];
    regions = pair ∷ [];
    are = parts;
    here = record { spelled = refl; within = omega arith };
    there = record { spelled = refl; within = omega arith };
  },
  (refl, refl),
)

-- a store of payloads is none of composite lineage
not-composite : (es : List Entry) → BeginsBy (spelling 2) site mode.Comp short 0 24 (entries false es) → ⊥
not-composite es is = is

-- a list with a store for each strategy, and no more
no-more : BeginEachIn 2 site [] short 0 0 (keep ∷ []) → ⊥
no-more is = is
