-- What is said of a set that is not read is said of its spelling.
use Rattle.std.proofs.Common.{◌≡◌, ℕ, List, sym, subst}
use Rattle.sz_cells.specs.Extent.{Extent}
use Rattle.sz_cells.specs.SetBytes.{IsSetOf}
use Rattle.sz_region.specs.Stores.{OnBad, NoneAt}
use Rattle.sz_region.specs.declared.set_bytes.Take.{Take}
use Rattle.sz_short.specs.declared.ways.Way.{Way}
use Rattle.sz_short.specs.declared.ways.Way.TheVariants.{Shorten, Widen}
use Rattle.sz_short.specs.Ways.{read_bytes}
use Rattle.sz_short.proofs.Respelling.{passed, on_bad-long, on_bad-short}
use Rattle.sz_short.proofs.ways.respell_set.Goals as goal

-- what is said of one spelling is said of the way that reads it
said : (shape : Extent) (bytes : List ℕ) (at : ℕ) (way other : Way) (e : Take) → way ≡ other
    → OnBad e (NoneAt (IsSetOf shape) (read_bytes other) bytes at)
    → OnBad e (NoneAt (IsSetOf shape) (read_bytes way) bytes at)
said shape bytes at way other e is =
    subst (λ (w : Way). OnBad e (NoneAt (IsSetOf shape) (read_bytes w) bytes at)) (sym is)

pub returns-in_err-set-in-Shorten-clause-err : goal.returns-in_err-set-in-Shorten-clause-err
returns-in_err-set-in-Shorten-clause-err c =
    let fault = c.in_err-set-in-Shorten.field-0.0 in
    passed c.from_residual.result fault c.from_residual.ensures.1 (λ x. x)
    (said c.args.shape c.args.bytes.now c.args.at c.args.way Shorten fault c.in-Shorten.is
    (on_bad-long c.args.shape c.args.bytes.now c.args.at fault c.in_err-set-in-Shorten.ensures.err))

pub returns-in_err-set-in-Widen-clause-err : goal.returns-in_err-set-in-Widen-clause-err
returns-in_err-set-in-Widen-clause-err c =
    let fault = c.in_err-set-in-Widen.field-0.0 in
    passed c.from_residual-in_err-set-in-Widen.result fault c.from_residual-in_err-set-in-Widen.ensures.1 (λ x. x)
    (said c.args.shape c.args.bytes.now c.args.at c.args.way Widen fault c.in-Widen.is
    (on_bad-short c.args.shape c.args.bytes.now c.args.at fault c.in_err-set-in-Widen.ensures.err))
