-- A body worked by hand, the same as what the definitions compute, and cases that they must refuse.
--
-- The key idea: on written-out bytes every definition is a computation, so a row that holds is its own proof, and a row
-- that does not holds two different values equal.
use Rattle.std.proofs.Common.{◌≡◌, ℕ, List, [], ◌∷◌, ◌++◌, drop, refl, sym, length, arith}
use Rattle.std.proofs.Common.{true, false, true≢false, Some, None, ◌<◌}
use Rattle.std.proofs.lemmas.List.Elements.{All-cons, All-nil}
use Rattle.sz_cells.specs.Extent.{Extent, flat}
use Rattle.sz_cells.specs.Cells.{Cells}
use Rattle.sz_spec.specs.declared.op.Op.TheVariants.{Neg}
use Rattle.sz_spec.specs.declared.modes.Strategy.TheVariants as strategy
use Rattle.sz_spec.specs.Shapes.{Site}
use Rattle.sz_frame.specs.Parts.{Pairing}
use Rattle.sz_region.specs.Counted.{IsAt}
use Rattle.sz_region.specs.FullBytes.{Listed, IsListed}
use Rattle.sz_short.specs.ShortStores.{AreFullParts, full_word, BeginsFull}
use Rattle.sz_short.specs.ShortNumber.{short_number, short_within}
use Rattle.sz_formats.specs.Formats.{spelling}
use Rattle.sz_store.specs.Kept.{Keep, regions, NodeLineage, no_lineage}
use Rattle.sz_script.specs.declared.command.BaseName.{BaseName}
use Rattle.sz_bodies.specs.Bodies.{NodePart, VersionBody, head_bytes, list_bytes, IsShortBase, IsShort, IsBodyOf}
use Rattle.sz_bodies.specs.Fitting.{FitsNode, FitNodes}
use Rattle.sz_bodies.specs.Lawful.{has_names}

-- ---- version 1 of the flow `f` on version 1 of the array `a`, of one cell: one node `neg` with the list of
-- `full_one_b`, whose store has one region pair, the output's cell with the input's

abbrev pub cell : Extent
cell = flat 1 1

abbrev pub site : Site
site = record { op = Neg; ins = cell ∷ []; out = cell }

abbrev pub set : Cells
set = record { extent = cell; indexes = 0 ∷ [] }

abbrev pub pair : Pairing
pair = record { out = set; ins = set ∷ [] }

abbrev pub keep : Keep
keep = record { strategy = strategy.FullOneB; holding = regions (pair ∷ []) }

abbrev pub base : BaseName
base = record { name = 97 ∷ []; version = 1 }

abbrev pub part : NodePart
part = record { list = strategy.FullOneB ∷ []; stores = keep ∷ [] }

abbrev pub body : VersionBody
body = record { number = 1; flow_name = 102 ∷ []; base = base ∷ []; nodes = part ∷ [] }

-- 00000001  01 66  00000001  01 61 00000001  00000001
abbrev pub head : List ℕ
head = 0 ∷ 0 ∷ 0 ∷ 1 ∷ 1 ∷ 102 ∷ 0 ∷ 0 ∷ 0 ∷ 1 ∷ 1 ∷ 97 ∷ 0 ∷ 0 ∷ 0 ∷ 1 ∷ 0 ∷ 0 ∷ 0 ∷ 1 ∷ []

-- 00000002  00 00000001 00000000 00000000  01 00000001 00000000 00000000  00000001  00000000 00000001
abbrev pub store : List ℕ
store =
    0 ∷ 0 ∷ 0 ∷ 2 ∷ 0 ∷ 0 ∷ 0 ∷ 0 ∷ 1 ∷ 0 ∷ 0 ∷ 0 ∷ 0 ∷ 0 ∷ 0 ∷ 0 ∷ 0 ∷ 1 ∷ 0 ∷ 0 ∷ 0 ∷ 1 ∷ 0 ∷ 0 ∷ 0 ∷ 0 ∷ 0 ∷ 0 ∷ 0
    ∷ 0 ∷ 0 ∷ 0 ∷ 0 ∷ 1 ∷ 0 ∷ 0 ∷ 0 ∷ 0 ∷ 0 ∷ 0 ∷ 0 ∷ 1 ∷ []

-- behind the head 01 02, the list
abbrev pub bytes : List ℕ
bytes = head ++ 1 ∷ 2 ∷ store

pub size : length bytes ≡ 64
size = refl

pub head-spelled : head_bytes body ≡ head
head-spelled = refl

pub list-spelled : list_bytes (strategy.FullOneB ∷ strategy.BlackBox ∷ strategy.Map ∷ []) ≡ 3 ∷ 2 ∷ 10 ∷ 1 ∷ []
list-spelled = refl

abbrev pub table : List Listed
table = record { array = 0; set = set } ∷ record { array = 1; set = set } ∷ []

listed : (array : ℕ) → array ≡ 0 → IsListed cell (cell ∷ []) (record { array = array; set = set })
listed array is =
    rw is
    (record { array = omega arith; set = record { extent = refl; rising = ((omega arith), (omega arith), tt) } })

listed-one : IsListed cell (cell ∷ []) (record { array = 1; set = set })
listed-one = record { array = omega arith; set = record { extent = refl; rising = ((omega arith), (omega arith), tt) } }

parts : AreFullParts cell (cell ∷ []) table ((0 ∷ 1 ∷ []) ∷ []) (pair ∷ [])
parts = record {
  each =
      All-cons (IsListed cell (cell ∷ [])) (record { array = 0; set = set })
      (record { array = 1; set = set } ∷ [])
      (listed 0 refl)
      (All-cons (IsListed cell (cell ∷ [])) (record { array = 1; set = set }) [] listed-one
      (All-nil (IsListed cell (cell ∷ []))));
  few_sets = omega arith;
  few = omega arith;
  named = (record { whole = refl; named = (refl, (refl, tt)) }, tt);
}

-- the store at byte 22, up to the end of the bytes
begins : (spell : Cells → List ℕ) (bytes : List ℕ) (next : ℕ)
    → drop 22 bytes ≡ full_word spell table ((0 ∷ 1 ∷ []) ∷ []) ++ [] → drop next bytes ≡ []
    → BeginsFull spell cell (cell ∷ []) bytes 22 next (pair ∷ [])
begins spell bytes next spelled ends = record {
  table = table;
  names = (0 ∷ 1 ∷ []) ∷ [];
  rest = [];
  are = parts;
  spelled = spelled;
  ends = ends;
}

pub store-begins : BeginsFull (spelling 1) cell (cell ∷ []) bytes 22 64 (pair ∷ [])
store-begins = begins (spelling 1) bytes 64 refl refl

short : IsShort body
short = record {
  number = omega arith;
  flow_name = omega arith;
  few_bases = omega arith;
  bases = All-cons IsShortBase base [] (omega arith, omega arith) (All-nil IsShortBase);
  few_nodes = omega arith;
  lists =
      All-cons (λ (x : NodePart). length x.list < 256) part [] (omega arith)
      (All-nil (λ (x : NodePart). length x.list < 256));
}

-- the body in these bytes: the list of its node from byte 20 on, and the store from byte 22 to their end
spelled-by : (format : ℕ) (bytes : List ℕ) → IsAt bytes 0 20 (head_bytes body) → IsAt bytes 20 22 (list_bytes part.list)
    → BeginsFull (spelling format) cell (cell ∷ []) bytes 22 (length bytes) (pair ∷ [])
    → IsBodyOf format (site ∷ []) body bytes
spelled-by format bytes front list begin = record {
  short = short;
  place = 20;
  head = front;
  nodes = (22, length bytes, omega arith, list, (length bytes, omega arith, refl, begin, refl), refl);
}

pub body-spelled : IsBodyOf 1 (site ∷ []) body bytes
body-spelled =
    spelled-by 1 bytes (record { spelled = refl; within = omega arith })
    (record { spelled = refl; within = omega arith }) store-begins

-- without the node's operator at its shapes they are none
pub no-sites : IsBodyOf 1 [] body bytes → ⊥
no-sites is = is.nodes

-- ---- the same in format 2

-- 00000002  00 01 00 00  01 01 00 00  00000001  00000000 00000001
abbrev pub short-store : List ℕ
short-store =
    0 ∷ 0 ∷ 0 ∷ 2 ∷ 0 ∷ 1 ∷ 0 ∷ 0 ∷ 1 ∷ 1 ∷ 0 ∷ 0 ∷ 0 ∷ 0 ∷ 0 ∷ 1 ∷ 0 ∷ 0 ∷ 0 ∷ 0 ∷ 0 ∷ 0 ∷ 0 ∷ 1 ∷ []

abbrev pub short-bytes : List ℕ
short-bytes = head ++ 1 ∷ 2 ∷ short-store

pub short-size : length short-bytes ≡ 46
short-size = refl

short-begins : BeginsFull (spelling 2) cell (cell ∷ []) short-bytes 22 46 (pair ∷ [])
unfolding short_number short_within
short-begins = begins (spelling 2) short-bytes 46 refl refl

pub short-body : IsBodyOf 2 (site ∷ []) body short-bytes
short-body =
    spelled-by 2 short-bytes (record { spelled = refl; within = omega arith })
    (record { spelled = refl; within = omega arith }) short-begins

-- ---- names

pub names-held : has_names body ≡ true
names-held = refl

-- an upper-case letter, a byte that is no text, no byte at all, and a base array's name
pub flow-no_name : has_names (record body { flow_name = 70 ∷ [] }) ≡ false
flow-no_name = refl

pub flow-no_text : has_names (record body { flow_name = 102 ∷ 128 ∷ [] }) ≡ false
flow-no_text = refl

pub flow-empty : has_names (record body { flow_name = [] }) ≡ false
flow-empty = refl

pub base-no_name : has_names (record body { base = base ∷ record { name = 45 ∷ []; version = 1 } ∷ [] }) ≡ false
base-no_name = refl

-- ---- which stores fit

-- a list that keeps no store has none, and any other has some
pub fits-none : FitsNode site (strategy.Map ∷ strategy.BlackBox ∷ []) None
fits-none = refl

pub misses : FitsNode site (strategy.Map ∷ strategy.FullOneB ∷ []) None → ⊥
misses fits = true≢false fits

abbrev pub whole : NodeLineage
whole = record { site = site; list = strategy.FullOneB ∷ []; placed = true ∷ []; stores = keep ∷ [] }

pub fits-whole : FitsNode site (strategy.FullOneB ∷ []) (Some whole)
fits-whole = (refl, record { site = refl; own = refl; whole = refl })

-- those of which a piece is missing do not fit
pub fits-not-growing : FitsNode site (strategy.FullOneB ∷ []) (Some (no_lineage site (strategy.FullOneB ∷ []))) → ⊥
fits-not-growing fits = true≢false (sym fits.1.whole)

-- nor do those of a node with no list, or a list with no place for stores
pub fits-each : FitNodes (site ∷ []) ((strategy.FullOneB ∷ []) ∷ []) [] → ⊥
fits-each fits = fits
