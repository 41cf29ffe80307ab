-- The base arrays that a start names.
--
-- The key idea: name by name, those that are held are kept; where none is missing, there are as many as are named.
use Rattle.std.proofs.Common.{◌≡◌, ℕ, ◌+◌, ◌<◌, suc, Bool, true, false, List, [], ◌∷◌, ◌++◌, length, take, get_or}
use Rattle.std.proofs.Common.{Option, Some, None, is_none, refl, sym, ap, ◌∙◌, add-one, ◌||◌}
use Rattle.std.specs.Prelude.{option_map}
use Rattle.std.specs.List.{cons_option}
use Rattle.std.proofs.lemmas.List.Elements.{filter_map-append}
use Rattle.std.proofs.Math.Seq.{take-suc}
use Rattle.std.proofs.lemmas.List.{map-append, append-nil}
use Rattle.sz_spec.specs.Values.{Grid}
use Rattle.sz_script.specs.declared.command.BaseName.{BaseName}
use Rattle.sz_catalogue.specs.Holdings.{Base, Holdings, array_version, shapes_of}
use Rattle.sz_catalogue.specs.Starts.{base_of, bases_of}
use Rattle.sz_catalogue.specs.Rules.{has_no_array}

-- a base array under its name and version
abbrev pub named_base : BaseName → Grid → Base
named_base b g = record { name = b.name; version = b.version; array = g }

-- one name more
one-more : (c : Holdings) (names : List BaseName) (i : ℕ) (x : BaseName) (o : Option Grid) → i < length names
    → x ≡ get_or names i x → o ≡ array_version c x.name x.version
    → bases_of c (take (i + 1) names)
    ≡ bases_of c (take i names) ++ cons_option (option_map (named_base x) o) []
one-more c names i x o below is found =
    let taken : take (i + 1) names ≡ take i names ++ x ∷ [] =
    ap (λ (k : ℕ). take k names) (add-one i) ∙ take-suc names i x below
    ∙ ap (λ (y : BaseName). take i names ++ y ∷ []) (sym is) in
    ap (bases_of c) taken ∙ filter_map-append (base_of c) (take i names) (x ∷ [])
    ∙ ap (λ (o : Option Grid). bases_of c (take i names) ++ cons_option (option_map (named_base x) o) []) (sym found)

-- in one form for both
pub named-more : (c : Holdings) (names : List BaseName) (i : ℕ) (x : BaseName) → i < length names
    → x ≡ get_or names i x
    → bases_of c (take (i + 1) names) ≡ bases_of c (take i names) ++ cons_option (base_of c x) []
named-more c names i x below is = one-more c names i x (array_version c x.name x.version) below is refl

pub held-more : (c : Holdings) (names : List BaseName) (i : ℕ) (x : BaseName) (g : Grid) → i < length names
    → x ≡ get_or names i x → Some g ≡ array_version c x.name x.version
    → bases_of c (take (i + 1) names) ≡ bases_of c (take i names) ++ named_base x g ∷ []
held-more c names i x g below is found = one-more c names i x (Some g) below is found

pub missing-more : (c : Holdings) (names : List BaseName) (i : ℕ) (x : BaseName) → i < length names
    → x ≡ get_or names i x → None ≡ array_version c x.name x.version
    → bases_of c (take (i + 1) names) ≡ bases_of c (take i names)
missing-more c names i x below is found = one-more c names i x None below is found ∙ append-nil _

-- their shapes
pub shapes-more : (base : List Base) (b : Base) → shapes_of (base ++ b ∷ []) ≡ shapes_of base ++ b.array.extent ∷ []
shapes-more base b = map-append (λ (b : Base). b.array.extent) base (b ∷ [])

-- where each is held, there are as many as are named
first-held : (c : Holdings) (b : BaseName) (names : List BaseName) (o : Option Grid)
    → array_version c b.name b.version ≡ o → has_no_array c (b ∷ names) ≡ false
    → length (bases_of c names) ≡ length names → length (bases_of c (b ∷ names)) ≡ length (b ∷ names)
first-held c b names None found h same =
    let told : true ≡ false =
    sym (ap (λ (o : Option Grid). is_none o || has_no_array c names) found) ∙ h in
    (cc)
first-held c b names (Some g) found h same =
    ap (λ (o : Option Grid). length (cons_option (option_map (named_base b) o) (bases_of c names))) found ∙ ap suc same

rest-held : (a b : Bool) → (a || b) ≡ false → b ≡ false
rest-held true b h = (cc)
rest-held false b h = h

pub bases-length : (c : Holdings) (names : List BaseName) → has_no_array c names ≡ false
    → length (bases_of c names) ≡ length names
bases-length c [] h = refl
bases-length c (b ∷ names) h =
    first-held c b names (array_version c b.name b.version) refl h (bases-length c names (rest-held _ _ h))
