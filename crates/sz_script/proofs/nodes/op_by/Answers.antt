-- A word of no line of the table is no operator's.
use Rattle.std.proofs.Common.{sym}
use Rattle.serde_json.specs.View.{view}
use Rattle.sz_script.specs.Nodes.{operators}
use Rattle.sz_script.proofs.TableRead.{none_named}
use Rattle.sz_script.proofs.nodes.op_by.Goals as goal

pub returns-in_default : goal.returns-in_default
returns-in_default c =
    let n = c.in_default in
    sym (none_named operators c.args.word.now (view c.args.value.now) (
      n.not-neg,
      (
        n.not-abs,
        (
          n.not-add,
          (
            n.not-sub,
            (
              n.not-mul,
              (
                n.not-min,
                (
                  n.not-max,
                  (
                    n.not-transpose,
                    (
                      n.not-lookup,
                      (
                        n.not-add_k,
                        (
                          n.not-mul_k,
                          (
                            n.not-regions,
                            (
                              n.not-clean,
                              (
                                n.not-clip,
                                (
                                  n.not-slice,
                                  (n.not-block, (n.not-fold_layers, (n.not-convolve, tt))),
                                ),
                              ),
                            ),
                          ),
                        ),
                      ),
                    ),
                  ),
                ),
              ),
            ),
          ),
        ),
      ),
    ))
