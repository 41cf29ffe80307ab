-- A line is JSON where it is UTF-8 and reads as a value.
use Rattle.std.proofs.Common.{◌≡◌, ℕ, List, Bool, true, false, if◌then◌else◌, Some, None, ap, ◌∙◌}
use Rattle.std.proofs.Common.{refl}
use Rattle.std.specs.Str.{is_utf8, IsUtf8}
use Rattle.std.proofs.lemmas.Str.{IsUtf8-from_is_utf8, is_utf8-from_IsUtf8}
use Rattle.serde_json.specs.Data.{Data}
use Rattle.serde_json.specs.Read.{read}
use Rattle.sz_script.specs.Reading.{json_of}

pub is_json : (line : List ℕ) (d : Data) → IsUtf8 line → read line ≡ Some d → json_of line ≡ Some d
is_json line d utf8 reads = ap (λ (b : Bool). if b then read line else None) (is_utf8-from_IsUtf8 line utf8) ∙ reads

json_where : (line : List ℕ) (b : Bool) → is_utf8 line ≡ b → (IsUtf8 line → read line ≡ None)
    → (if b then read line else None) ≡ None
json_where line true e none = none (IsUtf8-from_is_utf8 line e)
json_where line false e none = refl

pub no_json : (line : List ℕ) → (IsUtf8 line → read line ≡ None) → json_of line ≡ None
no_json line none = json_where line (is_utf8 line) refl none
