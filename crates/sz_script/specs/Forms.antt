-- The table of forms, with a file for each.
pub mod Array
pub mod Csv
pub mod Layers
pub mod Flow
pub mod Strategy
pub mod Start
pub mod Plan
pub mod Refresh
pub mod Merge
pub mod Merged
pub mod Await
pub mod Ask
pub mod Explain
pub mod Show
use Rattle.std.specs.Prelude.{List, [], ◌∷◌, if◌then◌else◌, Option, None}
use Rattle.serde_json.specs.Data.{Data}
use Rattle.sz_script.specs.Fields.{has_fields}
use Rattle.sz_script.specs.Drafts.{Draft}
use Rattle.sz_script.specs.Form.{Form}
use Rattle.sz_script.specs.Forms.Array.{array_form}
use Rattle.sz_script.specs.Forms.Csv.{csv_form}
use Rattle.sz_script.specs.Forms.Layers.{layers_form}
use Rattle.sz_script.specs.Forms.Flow.{flow_form}
use Rattle.sz_script.specs.Forms.Strategy.{strategy_form}
use Rattle.sz_script.specs.Forms.Start.{start_form}
use Rattle.sz_script.specs.Forms.Plan.{plan_form}
use Rattle.sz_script.specs.Forms.Refresh.{refresh_form}
use Rattle.sz_script.specs.Forms.Merge.{merge_form}
use Rattle.sz_script.specs.Forms.Merged.{merged_form}
use Rattle.sz_script.specs.Forms.Await.{await_form}
use Rattle.sz_script.specs.Forms.Ask.{ask_form}
use Rattle.sz_script.specs.Forms.Explain.{explain_form}
use Rattle.sz_script.specs.Forms.Show.{show_form}

abbrev pub forms : List Form
forms = array_form ∷ csv_form ∷ layers_form ∷ flow_form ∷ strategy_form ∷ start_form
    ∷ plan_form ∷ refresh_form ∷ merge_form ∷ merged_form
    ∷ await_form ∷ ask_form ∷ explain_form ∷ show_form ∷ []

-- what a value says by the first of these forms whose fields it has
abbrev pub draft_by : List Form → Data → Option Draft
draft_by [] d = None
draft_by (f ∷ fs) d = if has_fields f.fields d then f.draft d else draft_by fs d

abbrev pub draft_of : Data → Option Draft
draft_of d = draft_by forms d
