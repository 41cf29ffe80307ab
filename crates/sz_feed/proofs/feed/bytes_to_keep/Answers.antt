-- A line whose end is not blank is not blank, so nothing has to stand behind it.
use Rattle.std.proofs.Common.{◌-◌, length, sym, ap, ◌∙◌}
use Rattle.std.proofs.lemmas.List.{take_rest}
use Rattle.sz_commands.specs.Lines.{is_blank}
use Rattle.sz_feed.proofs.Blanks.{not_blank-end, alike-filled}
use Rattle.sz_feed.proofs.feed.bytes_to_keep.Goals as goal

pub returns-else-is_blank-2-clause-alike : goal.returns-else-is_blank-2-clause-alike
returns-else-is_blank-2-clause-alike c =
    alike-filled c.args.line.now c.args.bytes.now c.if-line-le-LINE_LIMIT.false
    (not_blank-end c.args.line.now (length c.args.line.now - 1)
    (ap is_blank (sym (take_rest c.args.line.now (length c.args.line.now - 1))) ∙ sym c.is_blank-2.ensures
    ∙ c.if-is_blank-2.false))
