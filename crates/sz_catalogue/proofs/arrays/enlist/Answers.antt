-- The entry of the name is changed and no other: `text_keys` reads that off the call of `entry`.
use Rattle.std.proofs.Common.{◌≡◌, ℕ, ◌+◌, List, [], ◌∷◌, cond, Some, unwrap_or, length, sym, ap}
use Rattle.std.proofs.Common.{◌∙◌, arith}
use Rattle.std.specs.Arc.{arc_value}
use Rattle.std.specs.BTreeMap.{get_by_text}
use Rattle.std.specs.Str.{bytes_eq}
use Rattle.std.proofs.lemmas.Map.Text.{text_keys}
use Rattle.std.proofs.lemmas.Result.{IfOk-weaker, on_err_weaker}
use Rattle.sz_catalogue.proofs.Names.{versions_in-here, versions_in-changed, versions_in-kept}
use Rattle.sz_catalogue.proofs.arrays.enlist.Goals.{After-index-3-1}
use Rattle.sz_catalogue.proofs.arrays.enlist.Goals as goal

-- what the entry of the name was
was : (c : After-index-3-1)
    → c.or_insert.result.now ≡ unwrap_or (get_by_text c.args.index.now c.args.name.now) c.new.result
was c = grind (arith, text_keys)

-- and what each entry is
after : (c : After-index-3-1) (q : List ℕ)
    → get_by_text c.index-3-1.given.0 q
    ≡ cond (bytes_eq c.args.name.now q) (Some c.add.new.versions) (get_by_text c.args.index.now q)
after c q = grind (arith, text_keys)

pub returns-clause-added : goal.returns-clause-added
returns-clause-added c =
    IfOk-weaker c.add.result _ _
    (λ n p. versions_in-changed c.args.index.now c.index-3-1.given.0 c.args.name.now c.or_insert.result.now
    c.add.new.versions c.new.result (arc_value c.args.array ∷ []) (after c) (was c) c.new.ensures.items p)
    c.add.ensures.added

pub returns-clause-count : goal.returns-clause-count
returns-clause-count c =
    IfOk-weaker c.add.result _ _
    (λ n p. p
    ∙ ap (λ (xs : List _). length xs + 1)
    (sym (versions_in-here c.args.index.now c.args.name.now c.or_insert.result.now c.new.result (was c)
    c.new.ensures.items)))
    c.add.ensures.count

pub returns-clause-err : goal.returns-clause-err
returns-clause-err c =
    on_err_weaker c.add.result
    (λ p. versions_in-kept c.args.index.now c.index-3-1.given.0 c.args.name.now c.or_insert.result.now
    c.add.new.versions c.new.result (after c) (was c) c.new.ensures.items p)
    c.add.ensures.err
