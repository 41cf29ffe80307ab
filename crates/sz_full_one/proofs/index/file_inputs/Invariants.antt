-- The files of the inputs before this one are those of the longer table, and the others are as they were.
use Rattle.std.proofs.Common.{◌≡◌, ◌<◌, ◌≤◌, ◌+◌, ℕ, length, map, get_or}
use Rattle.sz_full_one.specs.declared.index.SetFiles.{SetFiles}
use Rattle.sz_full_one.specs.ByCells.{AreFiledByIns, HasFileRoom, pair_cells, file_capacities}
use Rattle.sz_full_one.proofs.index.file_inputs.Given as goal

abbrev pub invariant-loop-input : goal.invariant-loop-input
invariant-loop-input l = record {
  filed : (i : ℕ) (d : SetFiles) → i < l.input → AreFiledByIns l.table i (get_or l.inputs i d);
  room : (i : ℕ) (d : SetFiles) → i < l.input → (e : SetFiles) (cells count : ℕ)
      → HasFileRoom (pair_cells l.region + cells) (count + 1) (get_or l.fn.inputs i e)
      → HasFileRoom cells count (get_or l.inputs i d);
  left : (i : ℕ) (d : SetFiles) → l.input ≤ i → get_or l.inputs i d ≡ get_or l.fn.inputs i d;
  length : length l.inputs ≡ length l.fn.inputs;
  capacities : map file_capacities l.inputs ≡ map file_capacities l.fn.inputs;
}
