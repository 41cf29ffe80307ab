-- Clap takes the words exactly where `matches_of` is `Ok`, and then it found what is read.
use Rattle.std.proofs.Common.{rules, ap, refl, sym, ◌∙◌, map, string_bytes}
use Rattle.std.specs.Prelude.{option_map}
use Rattle.clap.specs.Words.{found_of, rows_of}
use Rattle.sz_words.specs.Job.{job_in}
use Rattle.sz_words.proofs.Accepted.{job_of-refused, job_of-taken}
use Rattle.sz_words.proofs.read_words.Goals as goal

pub returns-in_err-matches-clause-usage : goal.returns-in_err-matches-clause-usage
returns-in_err-matches-clause-usage c = search (rules, job_of-refused)

pub returns-in_default-clause-usage : goal.returns-in_default-clause-usage
returns-in_default-clause-usage c =
    λ _. job_of-taken (map string_bytes c.args.words.now) (rows_of (found_of c.in_ok-matches.matches))
    c.in_ok-matches.ensures.ok c.in_ok-matches.ensures.rows
    ∙ ap (option_map (λ mode. job_in mode (rows_of (found_of c.in_ok-matches.matches))))
    (sym c.fitting_mode.ensures ∙ c.in_default.is)

pub returns-clause-ok : goal.returns-clause-ok
returns-clause-ok c =
    job_of-taken (map string_bytes c.args.words.now) (rows_of (found_of c.in_ok-matches.matches))
    c.in_ok-matches.ensures.ok c.in_ok-matches.ensures.rows
    ∙ (ap (option_map (λ mode. job_in mode (rows_of (found_of c.in_ok-matches.matches))))
    (sym c.fitting_mode.ensures ∙ c.in-Some.is)
    ∙ rw (c.number.ensures, c.number-2.ensures, c.number-3.ensures, c.number-4.ensures) refl)
