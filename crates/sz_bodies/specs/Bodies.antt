-- The body of a group of a version: which version it is, and its stores.
--
-- 4 bytes for the version's number; the flow's name; 4 for how many base arrays there are, and for
-- each its name and 4 for its version; 4 for how many nodes there are; and for each node 1 byte for
-- how many strategies its list has, 1 for each of these, and the bytes of the store of each stored
-- one, in the list's order. A name is 1 byte for its length, and its bytes. Numbers are big-endian.
-- In format 2 the cell sets of stores are short, but for those in payloads.
use Rattle.std.specs.Prelude.{◌≡◌, ℕ, ◌^◌, ◌<◌, ◌≤◌, List, [], ◌∷◌, ◌++◌, length, map, All}
use Rattle.sz_cells.specs.SetBytes.{four_bytes}
use Rattle.sz_spec.specs.declared.modes.Strategy.{Strategy}
use Rattle.sz_spec.specs.Shapes.{Site}
use Rattle.sz_spec.specs.Modes.{number_of}
use Rattle.sz_region.specs.Counted.{counted, IsAt}
use Rattle.sz_store.specs.Kept.{Keep, stored_in}
use Rattle.sz_formats.specs.Words.{BeginEachIn}
use Rattle.sz_script.specs.declared.command.BaseName.{BaseName}

-- what a body says of a node: the list of its strategies, and what the store of each stored one
-- keeps
pub record NodePart : Type 0 where
  pub list : List Strategy
  pub stores : List Keep

-- what a body says of a version: its number, its flow's name, the names and versions of its base
-- arrays, and its nodes
pub record VersionBody : Type 0 where
  pub number : ℕ
  pub flow_name : List ℕ
  pub base : List BaseName
  pub nodes : List NodePart

-- ---- what stands before the nodes

abbrev pub name_bytes : List ℕ → List ℕ
name_bytes name = length name ∷ name

abbrev pub base_bytes : BaseName → List ℕ
base_bytes b = name_bytes b.name ++ four_bytes b.version

abbrev pub head_bytes : VersionBody → List ℕ
head_bytes b = four_bytes b.number ++ (name_bytes b.flow_name ++ (counted base_bytes b.base
    ++ four_bytes (length b.nodes)))

-- ---- the nodes

-- a list of strategies, each by its number
abbrev pub list_bytes : List Strategy → List ℕ
list_bytes list = length list ∷ map number_of list

-- Nodes of operators at these shapes begin one where the one before it ends, the first one at a
-- place, and the last one ends before another place. Their stores are in the bytes of a format.
abbrev pub BeginNodes : ℕ → List Site → List ℕ → ℕ → ℕ → List NodePart → Type 0
BeginNodes format [] bytes at next [] = next ≡ at
BeginNodes format (s ∷ sites) bytes at next (x ∷ nodes) = (mid : ℕ) × (place : ℕ)
    × (place ≤ length bytes) × IsAt bytes at mid (list_bytes x.list)
    × BeginEachIn format s (stored_in x.list) bytes mid place x.stores
    × BeginNodes format sites bytes place next nodes
BeginNodes format _ _ _ _ _ = ⊥

-- ---- the whole

-- a name's length is a number of one byte
abbrev pub IsShortName : List ℕ → Type 0
IsShortName name = length name < 256

-- a base array's name is short, and its version a number of four bytes
abbrev pub IsShortBase : BaseName → Type 0
IsShortBase b = IsShortName b.name × (b.version < 2 ^ 32)

-- each number is one of as many bytes as it is written in
pub record IsShort (b : VersionBody) : Type 0 where
  pub number : b.number < 2 ^ 32
  pub flow_name : IsShortName b.flow_name
  pub few_bases : length b.base < 2 ^ 32
  pub bases : All IsShortBase b.base
  pub few_nodes : length b.nodes < 2 ^ 32
  pub lists : All (λ x. length x.list < 256) b.nodes

-- The bytes are, in a format, the body that says this of a version whose nodes are operators at
-- these shapes, and nothing stands behind it.
pub record IsBodyOf (format : ℕ) (sites : List Site) (b : VersionBody) (bytes : List ℕ)
    : Type 0 where
  pub short : IsShort b
  pub place : ℕ
  pub head : IsAt bytes 0 place (head_bytes b)
  pub nodes : BeginNodes format sites bytes place (length bytes) b.nodes
