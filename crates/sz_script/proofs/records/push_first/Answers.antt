-- A value more is kept where there are not too many, and else none is.
use Rattle.std.proofs.Common.{◌≤◌, ◌++◌, [], ◌∷◌, length, length-append, sym, ◌∙◌, arith}
use Rattle.std.proofs.lemmas.List.{take-append-le}
use Rattle.sz_script.proofs.Tables.{first_all}
use Rattle.sz_script.proofs.records.push_first.Goals as goal

pub returns-in_ok-push : goal.returns-in_ok-push
returns-in_ok-push c =
    let long : length (c.args.cells.now.items ++ c.args.value ∷ []) ≤ 1048577 =
    omega (arith, length-append c.args.cells.now.items (c.args.value ∷ [])) in
    c.in_ok-push.ensures.items ∙ sym (first_all _ long)

pub returns-else-len-le-CELL_LIMIT : goal.returns-else-len-le-CELL_LIMIT
returns-else-len-le-CELL_LIMIT c =
    sym (take-append-le 1048577 c.args.cells.now.items (c.args.value ∷ []) (omega arith)
    ∙ first_all c.args.cells.now.items (omega arith))
