-- The array's byte is the same in either spelling.
use Rattle.std.proofs.Common.{◌≡◌, ℕ, ◌+◌, List, [], ◌∷◌, ◌++◌, get_or, ap, subst, ◌∙◌, arith, append_assoc}
use Rattle.std.proofs.lemmas.Result.{IfOk-weaker}
use Rattle.sz_cells.specs.Extent.{Extent}
use Rattle.sz_cells.specs.Cells.{Cells}
use Rattle.sz_cells.specs.SetBytes.{IsSetOf}
use Rattle.sz_region.specs.Counted.{IsAt}
use Rattle.sz_region.specs.FullBytes.{Listed, IsListed}
use Rattle.sz_short.specs.ShortStores.{listed_by}
use Rattle.sz_short.specs.Ways.{read_bytes, written_bytes}
use Rattle.sz_short.proofs.Respelling.{at-listed}
use Rattle.sz_short.proofs.full.respell_listed.Goals as goal

pub returns-clause-ok : goal.returns-clause-ok
returns-clause-ok c =
    let bytes = c.args.bytes.now in
    let byte = get_or bytes c.args.at 0 in
    let old = c.args.to.now.items in
    IfOk-weaker c.respell_set.result
    (λ n. (set : Cells) × IsSetOf c.in-Some.shape set × IsAt bytes (c.args.at + 1) n (read_bytes c.args.way set)
    × (c.respell_set.new.to.items ≡ c.push.new.self.items ++ written_bytes c.args.way set))
    (λ n. (l : Listed) × IsListed c.args.out c.args.ins.now l
    × IsAt bytes c.args.at n (listed_by (read_bytes c.args.way) l)
    × (c.respell_set.new.to.items ≡ old ++ listed_by (written_bytes c.args.way) l))
    (λ n has. (
      record { array = byte; set = has.0 },
      record {
        array = c.in-Some.ensures.there;
        set = subst (λ (e : Extent). IsSetOf e has.0) c.in-Some.ensures.some has.1;
      },
      at-listed (read_bytes c.args.way) bytes c.args.at n has.0 (omega arith) has.2,
      has.3 ∙ ap (λ (w : List ℕ). w ++ written_bytes c.args.way has.0) c.in_ok-push.ensures.items
          ∙ append_assoc old (byte ∷ []) (written_bytes c.args.way has.0),
    ))
    c.respell_set.ensures.ok
