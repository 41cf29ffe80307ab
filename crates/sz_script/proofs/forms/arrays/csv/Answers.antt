-- What refuses the text refuses the line, since its name is right.
use Rattle.std.proofs.Common.{◌&&◌, Bool, true, List, ℕ, Err, subst, ap, ◌∙◌, sym}
use Rattle.sz_script.specs.Reading.{Reads}
use Rattle.sz_script.specs.Records.{grid_of_text, records_in, table_in}
use Rattle.sz_script.specs.Forms.Csv.{with_text}
use Rattle.sz_script.specs.declared.command.Command.TheVariants as command
use Rattle.sz_script.proofs.LayersRead.{reads_fault, drafted, found, text_refused}
use Rattle.sz_script.proofs.forms.arrays.csv.Goals as goal

pub returns-in-Err : goal.returns-in-Err
returns-in-Err c =
    let name = c.in_ok-name.name.now in
    let text = c.in_ok-text.text.now in
    let P : List ℕ → Type 0 = λ t. Reads (table_in (records_in t)) (Err c.in-Err.fault) in
    reads_fault (table_in (records_in text)) _ c.in-Err.fault (subst P c.as_bytes.ensures.value c.in-Err.ensures)
    (λ r e. drafted with_text name text _ _
    (found (λ s. s.now) _ _ _ c.in_ok-name.ensures.ok_part c.text_at.ensures)
    (found (λ s. s.now) _ _ _ c.in_ok-text.ensures.ok_part c.text_at-2.ensures)
    ∙ text_refused text (command.Csv name (grid_of_text text)) r
    (ap (λ (b : Bool). b && true) (sym c.is_name.ensures ∙ c.if-not-is_name.false)) e)
