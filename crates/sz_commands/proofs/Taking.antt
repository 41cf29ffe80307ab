-- What a session does with what a line gives is what it does with the line.
use Rattle.std.proofs.Common.{ℕ, List, Option, Some, None, ap, ◌∙◌}
use Rattle.sz_catalogue.specs.declared.reply.Reply.{Reply}
use Rattle.sz_commands.specs.States.{SessionState, after_reading}
use Rattle.sz_commands.specs.Commands.{Responds}
use Rattle.sz_commands.specs.Given.{LineGives, Takes}
use Rattle.sz_commands.specs.declared.session.Given.{Given}
use Rattle.sz_commands.specs.declared.session.Given.TheVariants as given

pub takes-responds : (c new : SessionState) (line : List ℕ) (g : Given) (r : Option Reply) → LineGives line g
    → Takes c g new r
    → Responds c line new r
takes-responds c new line given.Nothing None h t = (h, t)
takes-responds c new line given.Nothing (Some r) h t = absurd t
takes-responds c new line (given.Refused rule) None h t = absurd t
takes-responds c new line (given.Refused rule) (Some r) h t = (h.0, ap (after_reading c) h.1 ∙ t)
takes-responds c new line (given.Ask ask) None h t = absurd t
takes-responds c new line (given.Ask ask) (Some r) h t = (h.0, ap (after_reading c) h.1 ∙ t)
takes-responds c new line (given.Other order) None h t = absurd t
takes-responds c new line (given.Other order) (Some r) h t = (h.0, ap (after_reading c) h.1 ∙ t)
