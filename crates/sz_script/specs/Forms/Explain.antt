-- {"explain":U,"dir":DIR,"path":[[U,U],..],"cells":[CELL,..]}: by which ways an ask goes.
use Rattle.std.specs.Prelude.{codes}
use Rattle.sz_script.specs.Questions.{question_form}
use Rattle.sz_script.specs.declared.forms.question.Question.{Question}
use Rattle.sz_script.specs.Drafts.{Draft, plain}
use Rattle.sz_script.specs.Form.{Form}
use Rattle.sz_script.specs.declared.command.Command.TheVariants as command

abbrev pub as_explain : Question → Draft
as_explain q = plain (command.Explain q.version q.dir q.path q.cells)

abbrev pub explain_form : Form
explain_form = question_form as_explain (codes "explain")
