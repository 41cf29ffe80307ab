-- {"ask":U,"dir":DIR,"path":[[U,U],..],"cells":[CELL,..]}: ask where a path leads from cells.
use Rattle.std.specs.Prelude.{codes}
use Rattle.sz_script.specs.Questions.{question_form}
use Rattle.sz_script.specs.declared.forms.question.Question.{Question}
use Rattle.sz_script.specs.Drafts.{Draft, plain}
use Rattle.sz_script.specs.Form.{Form}
use Rattle.sz_script.specs.declared.command.Command.TheVariants as command

abbrev pub as_ask : Question → Draft
as_ask q = plain (command.Ask q.version q.dir q.path q.cells)

abbrev pub ask_form : Form
ask_form = question_form as_ask (codes "ask")
