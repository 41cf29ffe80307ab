-- The fields of an object: their number, and that each is there. The items of a list, and those of a list of two.
use Rattle.std.proofs.Common.{◌≡◌, ◌≢◌, ◌+◌, ◌<◌, ℕ, suc, List, [], ◌∷◌, ◌&&◌, ◌==◌}
use Rattle.std.proofs.Common.{length, get_or, take, Bool, true, false, Bor, eq-eqb, Option, Some, None, option_map, map}
use Rattle.std.proofs.Common.{is_some, ap, ◌∙◌, refl, sym, arith}
use Rattle.std.specs.List.{list_all}
use Rattle.std.specs.declared.alloc.Global.{Global}
use Rattle.std.specs.Prelude.{String}
use Rattle.std.proofs.lemmas.Bool.{ne_eqb}
use Rattle.std.proofs.Math.Bool.{and-false}
use Rattle.std.proofs.Math.Seq.{take-length}
use Rattle.std.proofs.lemmas.List.{length-map}
use Rattle.std.proofs.lemmas.List.Folds.{list_all-map, list_all_at}
use Rattle.serde_json.specs.Data.{Data, null, boolean, number, string, array, object, Members}
use Rattle.serde_json.specs.Find.{get, as_object, as_array}
use Rattle.serde_json.specs.View.{view, items_of, items_view, members_view}
use Rattle.serde_json.specs.declared.value.Value.{Value}
use Rattle.sz_script.specs.Fields.{member_count, has_fields, list_of_items, list_in, pair_among}

pub member_count-members_view : (es : List (String Global × Value)) → member_count (members_view es) ≡ length es
member_count-members_view [] = refl
member_count-members_view (e ∷ es) = let same : member_count (members_view es) ≡ length es =
    member_count-members_view es in
    let more : member_count (members_view es) + 1 ≡ suc (length es) = omega arith in more

pub has_fields-object : (names : List (List ℕ)) (d : Data) (ms : Members) → as_object d ≡ Some ms
    → has_fields names d ≡ ((member_count ms == length names) && list_all (λ k. is_some (get k d)) names)
has_fields-object names null ms e = cc
has_fields-object names (boolean b) ms e = cc
has_fields-object names (number n) ms e = cc
has_fields-object names (string s) ms e = cc
has_fields-object names (array ds) ms e = cc
has_fields-object names (object m) ms e = let same : m ≡ ms = cc in
    ap (λ (x : Members). (member_count x == length names) && list_all (λ k. is_some (get k (object m))) names) same

pub not_two : (xs : List Data) → length xs ≢ 2 → pair_among xs ≡ None
not_two [] ne = refl
not_two (x ∷ []) ne = refl
not_two (x ∷ y ∷ []) ne = absurd (ne refl)
not_two (x ∷ y ∷ z ∷ xs) ne = refl

-- the same of texts behind references
pub has_fields-texts : (names : List (Bor (List ℕ))) (d : Data) (ms : Members) → as_object d ≡ Some ms
    → has_fields (map (λ n. n.now) names) d
    ≡ ((member_count ms == length names) && list_all (λ n. is_some (get n.now d)) names)
has_fields-texts names d ms e = has_fields-object (map (λ n. n.now) names) d ms e
    ∙ ap (λ (n : ℕ). (member_count ms == n)
    && list_all (λ k. is_some (get k d)) (map (λ n. n.now) names)) (length-map names (λ (n : Bor (List ℕ)). n.now))
    ∙ ap (λ (b : Bool). (member_count ms == length names)
    && b) (list_all-map (λ k. is_some (get k d)) (λ n. n.now) names)

pub fewer_fields : (names : List (Bor (List ℕ))) (d : Data) (es : List (String Global × Value))
    → as_object d ≡ Some (members_view es) → length es ≢ length names
    → has_fields (map (λ n. n.now) names) d ≡ false
fewer_fields names d es e ne = has_fields-texts names d (members_view es) e
    ∙ ap (λ (n : ℕ). (n == length names)
    && list_all (λ n. is_some (get n.now d)) names) (member_count-members_view es)
    ∙ ap (λ (b : Bool). b && list_all (λ n. is_some (get n.now d)) names) (ne_eqb _ _ ne)

-- where a look-up finds nothing, nothing is there
gone : (r : Option (Bor Value)) (o : Option Data) → option_map {T = Bor Value} {U = Data} (λ v. view v.now) r ≡ o
    → is_some r ≡ false → is_some o ≡ false
gone None o e none = ap is_some (sym e)
gone (Some v) o e none = cc

pub no_field : (names : List (Bor (List ℕ))) (d : Data) (ms : Members) (i : ℕ) (name : Bor (List ℕ))
    (r : Option (Bor Value)) → as_object d ≡ Some ms → i < length names
    → option_map {T = Bor Value} {U = Data} (λ v. view v.now) r ≡ get (get_or names i name).now d
    → is_some r ≡ false → has_fields (map (λ n. n.now) names) d ≡ false
no_field names d ms i name r e lt found none = has_fields-texts names d ms e
    ∙ ap (λ (b : Bool). (member_count ms == length names)
    && b) (list_all_at (λ n. is_some (get n.now d)) names i name lt (gone r _ found none))
    ∙ and-false (member_count ms == length names)

pub all_fields : (names : List (Bor (List ℕ))) (d : Data) (es : List (String Global × Value)) (i : ℕ)
    → as_object d ≡ Some (members_view es) → length es ≡ length names
    → i ≡ length names → list_all (λ n. is_some (get n.now d)) (take i names) ≡ true
    → has_fields (map (λ n. n.now) names) d ≡ true
all_fields names d es i e long end each =
    let whole : take i names ≡ names = ap (λ (n : ℕ). take n names) end ∙ take-length names in
    has_fields-texts names d (members_view es) e
    ∙ ap (λ (n : ℕ). (n == length names)
    && list_all (λ n. is_some (get n.now d)) names) (member_count-members_view es ∙ long)
    ∙ ap (λ (b : Bool). b
    && list_all (λ n. is_some (get n.now d)) names) (eq-eqb (length names) (length names) refl)
    ∙ ap (list_all (λ n. is_some (get n.now d))) (sym whole) ∙ each

-- the items of a list are its values, seen
items_listed : (ds : List Data) → list_of_items (items_of ds) ≡ ds
items_listed [] = refl
items_listed (d ∷ ds) = ap (λ (l : List Data). d ∷ l) (items_listed ds)

pub list_seen : (d : Data) (vs : List Value) → as_array d ≡ Some (items_view vs) → list_in d ≡ Some (map view vs)
list_seen d vs e = ap (option_map list_of_items) e ∙ ap Some (items_listed (map view vs))
