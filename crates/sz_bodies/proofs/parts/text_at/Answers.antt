-- Bytes with their number that are no name stand where no name does; and a name is a text.
use Rattle.std.proofs.Common.{◌+◌, length, sym, ap, ◌∙◌, inl, inr}
use Rattle.std.proofs.lemmas.Bool.{cases_Bool}
use Rattle.std.proofs.lemmas.Str.{IsUtf8-from_ascii}
use Rattle.sz_script.specs.Names.{is_name}
use Rattle.sz_bodies.proofs.HeadParts.{no-name-other, name-ascii}
use Rattle.sz_bodies.proofs.parts.text_at.Goals as goal

pub returns-in_default-clause-none : goal.returns-in_default-clause-none
returns-in_default-clause-none c =
    let text = c.in_ok-name.name.now in
    no-name-other c.args.bytes.now c.args.at (c.args.at + 1 + length text) text c.in_ok-name.ensures.some
    (elim (cases_Bool (is_name text)) [
      | inl is ↦ absurd (c.in_default.ensures.cases.0 (IsUtf8-from_ascii text (name-ascii text is)))
      | inr is ↦ is
    ])

pub returns-else-is_name-clause-none : goal.returns-else-is_name-clause-none
returns-else-is_name-clause-none c =
    let text = c.in_ok-name.name.now in
    no-name-other c.args.bytes.now c.args.at (c.args.at + 1 + length text) text c.in_ok-name.ensures.some
    (ap is_name (sym c.in-Ok.ensures.cases.0) ∙ sym c.is_name.ensures ∙ c.if-is_name.false)
