-- One input more, of its shape, without a set.
use Rattle.std.proofs.Common.{◌≡◌, ◌<◌, ◌+◌, ℕ, List, [], ◌∷◌, length, get_or, sym, ap, subst, ◌∙◌, arith}
use Rattle.std.proofs.Common.{length-append}
use Rattle.std.proofs.lemmas.List.{get_or_default}
use Rattle.std.proofs.lemmas.Option.{unwrap_or-slice_get}
use Rattle.sz_cells.specs.Extent.{Extent, size_of}
use Rattle.sz_spec.specs.Values.{extent_at, no_extent}
use Rattle.sz_full_one.specs.declared.index.SetFiles.{SetFiles}
use Rattle.sz_tables.specs.Filed.{Files}
use Rattle.sz_tables.specs.Rows.{empty_rows}
use Rattle.sz_full_one.specs.ByCells.{AreFiledByIns}
use Rattle.sz_full_one.proofs.Growing.{push-each, files-none}
use Rattle.sz_full_one.proofs.index.new_files.Goals as goal

pub loop-shape-preserved : goal.loop-shape-preserved
loop-shape-preserved c =
    let ins = c.args.ins.now in
    let n = c.loop-shape.shape-index in
    let inv = c.loop-shape.invariant in
    let one : SetFiles = record { cells = c.in_ok-cells.cells; rows = c.in_ok-rows.rows } in
    let cells = c.in_ok-cells.ensures in
    let rows = c.in_ok-rows.ensures in
    let shape : c.shape-item.result ≡ extent_at ins n =
    c.shape-item.is
    ∙ get_or_default ins n c.shape-item.result no_extent c.loop-shape-test.true
    ∙ sym (unwrap_or-slice_get ins n no_extent) in
    record {
      length = ap (λ (fs : List SetFiles). length fs) c.in_ok-push.ensures.items
          ∙ length-append c.loop-shape.files.items (one ∷ [])
          ∙ ap (λ (m : ℕ). m + 1) inv.length;
      filed = λ out i d below.
          subst (λ (fs : List SetFiles). AreFiledByIns (empty_rows out ins) i (get_or fs i d))
          (sym c.in_ok-push.ensures.items)
          (push-each (λ (k : ℕ) (f : SetFiles). AreFiledByIns (empty_rows out ins) k f) c.loop-shape.files.items n one
          inv.length (inv.filed out)
          (files-none out ins n one
          (ap (λ (f : Files). f.keys) cells ∙ c.size.ensures.value ∙ ap size_of shape)
          (ap (λ (f : Files). f.entries) cells)
          (ap (λ (f : Files). f.keys) rows)
          (ap (λ (f : Files). f.entries) rows)) i d below);
    }
