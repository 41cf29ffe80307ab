-- What a parse of the command found has a number in range for each option.
-- The key idea: building keeps each argument in its place, and adds only `help` and `version`. So an
-- entry with the id of an option is that option's, whose values passed its parser and are read as
-- its parser says; and the option has a default, so that there is an entry.
use Rattle.std.proofs.Common.{zero, suc, ◌≡◌, ◌∙◌, ◌&&◌, ◌||◌, ◌<◌, ◌≤◌, ◌+◌}
use Rattle.std.proofs.Common.{◌==◌, ℕ, Bool, cond, true, false, not, List, [], ◌∷◌, length, map, Some}
use Rattle.std.proofs.Common.{None, refl, sym, ap, subst, inl, inr, arith, codes, get_or, eqb-true, true≢false}
use Rattle.std.specs.Prelude.{find, option_map, slice_get, pos}
use Rattle.std.specs.List.{All, list_all, slice_index_or}
use Rattle.std.specs.Str.{bytes_eq}
use Rattle.std.specs.Borrow.{Bor}
use Rattle.std.proofs.Math.ListN.{get_or-map}
use Rattle.std.proofs.lemmas.List.{length-map}
use Rattle.std.proofs.lemmas.List.Elements.{All-get_or}
use Rattle.std.proofs.lemmas.Slice.Eq.{bytes_eq-Decides}
use Rattle.clap.specs.Texts.{items_of}
use Rattle.clap.specs.Facts.{Entry, EntryPasses, PassesArg, args_of, groups_of, least_values, parser_of_value}
use Rattle.clap.specs.Facts.{unwrap_or_range}
use Rattle.clap.specs.Built.{IsAuto, IsParsedFrom}
use Rattle.clap.specs.Matches.{found_of, matched_of, one_text}
use Rattle.clap.specs.Simple.{App, IsSimple, app_of, is_ready, is_ready_leaf}
use Rattle.clap.specs.Values.{Accepts, IsSignedIn, read_as, reading_of}
use Rattle.clap.specs.Walk.{Rule, Text, one_of, rows_of, rule_of, texts}
use Rattle.clap.specs.Lexer.{without_minus}
use Rattle.clap.specs.declared.builder.action.ArgAction.TheVariants.{Count, Set}
use Rattle.clap.specs.declared.builder.arg.Arg.{Arg}
use Rattle.clap.specs.declared.builder.command.Command.{Command}
use Rattle.clap.specs.declared.builder.value_parser.Reading.{Reading}
use Rattle.clap.specs.declared.builder.value_parser.Reading.TheVariants as reading
use Rattle.clap.specs.declared.builder.value_parser.ValueParser.TheVariants as vp
use Rattle.clap.specs.declared.parser.matches.ArgMatches.{ArgMatches}
use Rattle.clap.specs.declared.parser.matches.Found.{Found}
use Rattle.clap.specs.declared.parser.matches.MatchedArg.{MatchedArg}
use Rattle.clap.proofs.CallerLemmas.{default_present, entry_by_id, same_rules_by_id}
use Rattle.clap.proofs.SimpleLemmas.{all_simple, ready_simple, simple_groups}
use Rattle.clap.proofs.WalkLemmas.{both, one_text-rows}
use Rattle.sz_words.specs.Command.{number_option, rules as all_rules, subzero}
use Rattle.sz_words.specs.Numbers.{HasNumbers, IsNumberIn}
use Rattle.sz_words.proofs.Numerals.{number_without_minus}

-- ---- lists

first_of_list : {X : Type 0} (xs : List X) → 0 < length xs → X
first_of_list [] lt = absurd (omega arith)
first_of_list (x ∷ xs) lt = x

-- the rule at place k is the only one with this id
abbrev only_at : ℕ → ℕ → Text → List Rule → Bool
only_at i k id [] = true
only_at i k id (r ∷ rs) = (i == k || not (bytes_eq r.id id)) && only_at (suc i) k id rs

-- a name that no option has: the empty one, and those of the flags that building adds
abbrev is_taken : Text → Bool
is_taken name = length name == 0 || (bytes_eq name (codes "help") || bytes_eq name (codes "version"))

differs : (name other : Text) → is_taken name ≡ false → is_taken other ≡ true → name ≡ other → ⊥
differs name other free taken same = true≢false (sym taken ∙ (ap is_taken (sym same) ∙ free))

-- ---- an entry

-- an id with an entry has the first such entry
entry_found : (xs : List Entry) (id : Text) (i : ℕ) → i < length xs
    → ((d : Entry) → bytes_eq (slice_index_or xs i d).0.now id ≡ true)
    → (x : MatchedArg) × (option_map (λ e. e.1) (find (λ e. bytes_eq e.0.now id) xs) ≡ Some x)
entry_found [] id i lt h = absurd (omega arith)
entry_found (x ∷ xs) id zero lt h = (x.1, rw (h x) refl)
entry_found (x ∷ xs) id (suc i) lt h = go (bytes_eq x.0.now id) (entry_found xs id i (omega arith) h)
  where
    go : (b : Bool) → ((y : MatchedArg) × (option_map (λ e. e.1) (find (λ e. bytes_eq e.0.now id) xs) ≡ Some y))
        → (y : MatchedArg)
        × (option_map (λ e. e.1) (cond b (Some x) (find (λ e. bytes_eq e.0.now id) xs)) ≡ Some y)
    go true rest = (x.1, refl)
    go false rest = rest

first_value_passes : (P : Bor Text → Type 0) (how : Reading) (vs : List (Bor Text)) → All P vs → 0 < length vs
    → (v : Bor Text) × (option_map (λ s. read_as how s.now) (slice_get vs 0) ≡ Some (read_as how v.now)) × P v
first_value_passes P how [] all lt = absurd (omega arith)
first_value_passes P how (v ∷ vs) all lt = (v, refl, All-get_or P (v ∷ vs) 0 v (omega arith) all)

-- ---- an option of a command

-- an argument that takes one number from `low` to `high`
record IsNumberArg (low high : ℕ) (y : Arg) : Type 0 where
  parser : y.value_parser ≡ Some (vp.Signed (pos low) (pos high))
  action : y.action ≡ Some Set
  least : 1 ≤ least_values y
  delimiter : y.val_delim ≡ None

number_accepted : (low high : ℕ) (y : Arg) (t : Text) → IsNumberArg low high y
    → Accepts y.ignore_case (parser_of_value y.value_parser) t
    → IsSignedIn (pos low) (pos high) t
number_accepted low high y t is passed = subst (λ o. Accepts y.ignore_case (parser_of_value o) t) is.parser passed

number_reading : (low high : ℕ) (y : Arg) (how : Reading) → IsNumberArg low high y
    → reading_of (parser_of_value y.value_parser) ≡ how
    → how ≡ reading.WithoutMinus
number_reading low high y how is same = sym same ∙ ap (λ o. reading_of (parser_of_value o)) is.parser

-- what the entry of such an argument gives
entry_reads : (c : Command) (f : Found) (e : Entry) (id : Text) (low high : ℕ) → groups_of c ≡ []
    → (id ≡ [] → ⊥) → e.0.now ≡ id → EntryPasses c e
    → ((j : ℕ) (y : Arg) → j < length (args_of c) → slice_index_or (args_of c) j y ≡ y
    → bytes_eq y.id.now id ≡ true → IsNumberArg low high y)
    → matched_of f id ≡ Some e.1
    → (t : Text) × (one_text f id ≡ Some (without_minus t)) × IsSignedIn (pos low) (pos high) t
entry_reads c f e id low high no_groups named key pass number matched =
    let no_group : e.1.is_group ≡ true → ⊥ = λ g. elim (pass.3 g) [
      | inl empty ↦ named (sym key ∙ empty)
      | inr lots ↦
          let bad : 0 < 0 = rw no_groups at lots in
          absurd (omega arith)
    ] in
    let values : All (λ v. PassesArg c id v.now) e.1.vals.items = elim pass.0 [
      | inl g ↦ absurd (no_group g)
      | inr vals ↦ subst (λ (w : Text). All (λ v. PassesArg c w v.now) e.1.vals.items) key vals
    ] in
    let filled : 0 < length e.1.vals.items = elim pass.1 [
      | inl g ↦ absurd (no_group g.0)
      | inr (inl some) ↦ some
      | inr (inr (inl count)) ↦
          let any = count.1 in
          let is = number any.0 any.1 any.2 any.3 (rw key at any.4.0) in
          let set : any.1.action ≡ Some Set = is.action in
          let bad : Set ≡ Count = rw set at any.4.1 in
          cc
      | inr (inr (inr none)) ↦
          let is = number none.0 none.1 none.2 none.3 (rw key at none.4.0) in
          elim none.4.1 [
            | inl zero_values ↦
                let least : 1 ≤ least_values none.1 = is.least in
                absurd (omega arith)
            | inr delimited ↦
                let bad : false ≡ true = rw is.delimiter at delimited in
                cc
          ]
    ] in
    let reads : e.1.reading ≡ reading.WithoutMinus = elim pass.4 [
      | inl g ↦ absurd (no_group g)
      | inr any ↦ number_reading low high any.1 e.1.reading (number any.0 any.1 any.2 any.3 (rw key at any.4.0))
          any.4.1
    ] in
    let first = first_value_passes (λ v. PassesArg c id v.now) reading.WithoutMinus e.1.vals.items values filled in
    let any = first.2 in (
      first.0.now,
      rw (matched, reads) first.1,
      number_accepted low high any.1 first.0.now (number any.0 any.1 any.2 any.3 any.4.0) any.4.1,
    )

-- and so the row of its name has a number in range
row_number : (f : Found) (id name : Text) (low high : ℕ) → id ≡ name
    → ((t : Text) × (one_text f id ≡ Some (without_minus t)) × IsSignedIn (pos low) (pos high) t)
    → IsNumberIn low high (one_of name (rows_of f))
row_number f id name low high same read =
    let row : one_of name (rows_of f) ≡ Some (without_minus read.0) = ap (λ n. one_of n (rows_of f)) (sym same)
    ∙ (sym (one_text-rows f id) ∙ read.1) in
    subst (IsNumberIn low high) (sym row) (number_without_minus low high read.0 read.2)

-- where only the rule at place k has this id, an argument with it stands at k
only_place : (i k : ℕ) (id : Text) (rs : List Rule) → only_at i k id rs ≡ true
    → (j : ℕ) (r : Rule) → j < length rs → bytes_eq (get_or rs j r).id id ≡ true → i + j ≡ k
only_place i k id [] only j r lt hit = absurd (omega arith)
only_place i k id (x ∷ xs) only zero r lt hit =
    let here = (both (i == k || not (bytes_eq x.id id)) (only_at (suc i) k id xs) only).0 in
    let same : (i == k) ≡ true = go (i == k) (rw hit at here) in
    omega (arith, eqb-true i k same)
  where
    go : (b : Bool) → (b || false) ≡ true → b ≡ true
    go true e = refl
    go false e = e
only_place i k id (x ∷ xs) only (suc j) r lt hit =
    omega (
      arith,
      only_place (suc i) k id xs (both (i == k || not (bytes_eq x.id id)) (only_at (suc i) k id xs) only).1
          j r (omega arith) hit,
    )

-- ---- the options of the command

module _ (old : Command) (m : ArgMatches) (p : IsParsedFrom old m) (is : app_of old ≡ subzero) where
  simple : IsSimple old
  simple =
      ready_simple old (ap (λ (a : App). is_ready a.top) is) (ap (λ (a : App). list_all is_ready_leaf a.subs) is)

  rules_are : map rule_of (args_of old) ≡ all_rules
  rules_are = ap (λ (a : App). a.top.rules) is

  count : length (args_of old) ≡ 6
  count = sym (length-map (args_of old) rule_of) ∙ ap length rules_are

  no_groups : groups_of p.built ≡ []
  no_groups = (p.from.same_groups (simple_groups old (ap (λ (a : App). all_simple a.top.rules) is))).1
      ∙ simple.groups

  option_number : (k low high : ℕ) (name default : Text) → k < 6
      → ((r : Rule) → get_or all_rules k r ≡ number_option name (pos low) (pos high) default)
      → only_at 0 k name all_rules ≡ true → is_taken name ≡ false
      → IsNumberIn low high (one_of name (rows_of (found_of m)))
  option_number k low high name default lt place only free =
      let f = found_of m in
      let inside : k < length (args_of old) = omega (arith, count) in
      let d = first_of_list (args_of old) (omega (arith, count)) in
      let a : Arg = slice_index_or (args_of old) k d in
      let a_is : rule_of a ≡ number_option name (pos low) (pos high) default =
      sym (get_or-map rule_of (args_of old) k d)
      ∙ (ap (λ rs. get_or rs k (rule_of d)) rules_are ∙ place (rule_of d)) in
      let id_is : a.id.now ≡ name = ap (λ (r : Rule). r.id) a_is in
      let parser_is : a.value_parser ≡ Some (vp.Signed (pos low) (pos high)) = ap (λ (r : Rule). r.parser) a_is in
      let action_is : a.action ≡ Some Set = ap (λ (r : Rule). r.action) a_is in
      let range_is : a.num_vals ≡ None = ap (λ (r : Rule). r.range) a_is in
      let least_is : 1 ≤ least_values a =
      subst (λ o. 1 ≤ (unwrap_or_range o).start_inclusive) (sym range_is) (omega arith) in
      let defaults_are : texts (items_of a.default_vals) ≡ default ∷ [] = ap (λ (r : Rule). r.defaults) a_is in
      let some_default : 0 < length (items_of a.default_vals) =
      omega (arith, length-map (items_of a.default_vals) (λ (s : Bor Text). s.now), ap length defaults_are) in
      let simple_arg = simple.args k d inside in
      let own_arg : IsAuto a → ⊥ =
      λ auto. elim auto [
        | inl h ↦ differs name (codes "help") free refl (sym id_is ∙ h)
        | inr h ↦ differs name (codes "version") free refl (sym id_is ∙ h)
      ] in
      let unique : (j : ℕ) (e : Arg) → j < length (args_of old)
      → bytes_eq (slice_index_or (args_of old) j e).id.now a.id.now ≡ true → j ≡ k =
      λ j e low_j same.
      let there : (get_or all_rules j (rule_of e)).id ≡ (slice_index_or (args_of old) j e).id.now =
      ap (λ (rs : List Rule). (get_or rs j (rule_of e)).id) (sym rules_are)
      ∙ ap (λ (r : Rule). r.id) (get_or-map rule_of (args_of old) j e) in
      let hit : bytes_eq (get_or all_rules j (rule_of e)).id name ≡ true = rw (there, ← id_is) same in
      omega (arith, only_place 0 k name all_rules only j (rule_of e) (omega (arith, count)) hit) in
      let has = default_present old m p simple.globals k d inside (simple_arg.default_ifs, some_default) in
      let x = entry_found f.entries.items a.id.now has.0 has.1 has.2 in
      let parsed = p.parsed (p.from.globals ∙ simple.globals) in
      let got = entry_by_id (EntryPasses p.built) f.entries.items a.id.now x.0 parsed.values x.1 in
      let key : got.0.0.now ≡ a.id.now = (bytes_eq-Decides got.0.0.now a.id.now).0 got.2 in
      let number : (j : ℕ) (y : Arg) → j < length (args_of p.built) → slice_index_or (args_of p.built) j y ≡ y
      → bytes_eq y.id.now a.id.now ≡ true → IsNumberArg low high y =
      λ j y low_j at same.
      let s = same_rules_by_id old m p k d inside unique own_arg j y low_j at same in
      record {
        parser = s.parser _ parser_is;
        action = s.action Set action_is;
        least = s.least action_is least_is;
        delimiter = s.val_delim ∙ simple_arg.delimiter;
      } in
      row_number f a.id.now name low high id_is
      (entry_reads p.built f got.0 a.id.now low high no_groups
      (λ empty. differs name [] free refl (sym id_is ∙ empty)) key got.3 number (x.1 ∙ ap Some (sym got.1)))

  -- each option of the command has a number in its range
  pub has_numbers : HasNumbers (rows_of (found_of m))
  has_numbers = record {
    workers = option_number 2 1 64 (codes "workers") (codes "4") (omega arith) (λ r. refl) refl refl;
    askers = option_number 3 1 64 (codes "askers") (codes "1") (omega arith) (λ r. refl) refl refl;
    seed = option_number 4 0 4294967295 (codes "seed") (codes "1") (omega arith) (λ r. refl) refl refl;
    side = option_number 5 1 512 (codes "side") (codes "64") (omega arith) (λ r. refl) refl refl;
  }
