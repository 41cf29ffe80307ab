-- Clap takes the words exactly where `matches_of` is `Ok`, and then it found what is read.
use Rattle.std.proofs.Common.{ap, rules, refl, sym, ◌∙◌, map, string_bytes}
use Rattle.std.specs.Prelude.{option_and_then, option_map}
use Rattle.std.specs.Borrow.{Bor}
use Rattle.clap.specs.Words.{Text, found_of, rows_of}
use Rattle.sz_words.specs.Place.{makes_log}
use Rattle.sz_words.proofs.Accepted.{place_in, place_of-refused, place_of-taken}
use Rattle.sz_words.proofs.log_place.Goals as goal

pub returns-in-Err-Usage : goal.returns-in-Err-Usage
returns-in-Err-Usage c = sym (place_of-refused (map string_bytes c.args.words.now) (search rules))

pub returns-in_default : goal.returns-in_default
returns-in_default c =
    let found = rows_of (found_of c.in-Ok.matches) in
    let words = map string_bytes c.args.words.now in
    sym (place_of-taken words found c.in-Ok.ensures.ok c.in-Ok.ensures.rows
    ∙ ap (option_and_then (place_in found)) (sym c.fitting_mode.ensures ∙ c.in_default.is))

pub returns-in_default-text : goal.returns-in_default-text
returns-in_default-text c =
    let found = rows_of (found_of c.in-Ok.matches) in
    let words = map string_bytes c.args.words.now in
    let no_text = sym c.text.ensures ∙ ap (option_map (λ (s : Bor Text). s.now)) c.in_default-text.is in
    sym (place_of-taken words found c.in-Ok.ensures.ok c.in-Ok.ensures.rows
    ∙ ap (option_and_then (place_in found)) (sym c.fitting_mode.ensures ∙ c.in-Some.is)
    ∙ ap (option_map (λ (path : Text). (path, makes_log c.in-Some.mode))) no_text)

pub returns : goal.returns
returns c =
    let found = rows_of (found_of c.in-Ok.matches) in
    let words = map string_bytes c.args.words.now in
    let the_text = sym c.text.ensures ∙ ap (option_map (λ (s : Bor Text). s.now)) c.in-Some-text.is in
    sym (place_of-taken words found c.in-Ok.ensures.ok c.in-Ok.ensures.rows
    ∙ ap (option_and_then (place_in found)) (sym c.fitting_mode.ensures ∙ c.in-Some.is)
    ∙ ap (option_map (λ (path : Text). (path, makes_log c.in-Some.mode))) the_text
    ∙ rw (c.in_ok-from_str.ensures.ok, c.makes_log.ensures) refl)
