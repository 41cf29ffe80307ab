-- Which command a line is, or the rule that refuses it.
use Rattle.std.specs.Prelude.{◌≡◌, ℕ, List, length, nat_lt, if◌then◌else◌, Option, Some, None}
use Rattle.std.specs.Prelude.{Result, Ok, Err}
use Rattle.std.specs.Str.{is_utf8}
use Rattle.serde_json.specs.Data.{Data}
use Rattle.serde_json.specs.Read.{read}
use Rattle.sz_script.specs.Drafts.{reading_of_form}
use Rattle.sz_script.specs.Forms.{draft_of}
use Rattle.sz_script.specs.declared.command.Command.{Command}
use Rattle.sz_script.specs.declared.command.LineFault.{LineFault}
use Rattle.sz_script.specs.declared.command.LineFault.TheVariants as line_fault
use Rattle.sz_script.specs.declared.refusal.Refusal.{Refusal}
use Rattle.sz_script.specs.declared.refusal.Refusal.TheVariants as refusal

-- the most bytes that a line may have
abbrev pub line_limit : ℕ
line_limit = 33554432

-- what a line is as JSON, as `serde_json` reads it: nothing where it is none
abbrev pub json_of : List ℕ → Option Data
json_of line = if is_utf8 line then read line else None

abbrev pub reading_of_json : Option Data → Result Command Refusal
reading_of_json None = Err refusal.NoJson
reading_of_json (Some d) = reading_of_form (draft_of d)

-- a line as a command, or the first rule that refuses it: too long, then no JSON, then no form,
-- then the rules that a form's draft is read by
abbrev pub reading : List ℕ → Result Command Refusal
reading line = if nat_lt line_limit (length line) then Err refusal.TooLong
    else reading_of_json (json_of line)

-- what reading gave: what was to be read, or the rule that refuses it, unless memory ran out
abbrev pub Reads : {X : Type 0} → Result X Refusal → Result X LineFault → Type 0
Reads read (Ok x) = read ≡ Ok x
Reads read (Err (line_fault.Refused r)) = read ≡ Err r
Reads read (Err line_fault.NoMemory) = Unit {0}
