-- What has to be kept of a line that has not ended.
--
-- The key idea: of a line past the limit it matters alone whether it is blank. It is blank where both its parts are, so
-- behind a line that is not blank nothing has to be kept, and behind a blank one at most one byte that is not.
use Rattle.std.proofs.Common.{◌≡◌, ℕ, ◌+◌, ◌-◌, ◌<◌, List, [], ◌++◌, length, take, drop}
use Rattle.std.proofs.Common.{sym, ap, ◌∙◌, subst, length-append, arith, take-add, Bool, true, false, inr}
use Rattle.std.specs.Prelude.{◌&&◌}
use Rattle.std.proofs.lemmas.Bool.{and_from, and_left, and_right}
use Rattle.std.proofs.lemmas.List.{take-append-drop}
use Rattle.sz_script.specs.Reading.{line_limit}
use Rattle.sz_commands.specs.Lines.{is_blank}
use Rattle.sz_feed.specs.Moments.{Alike}
use Rattle.sz_feed.proofs.Moments.{blank-append}

-- a line whose end is not blank is not blank
pub not_blank-end : (xs : List ℕ) (i : ℕ) → is_blank (drop i xs) ≡ false → is_blank xs ≡ false
not_blank-end xs i h =
    let whole : is_blank (take i xs ++ drop i xs) ≡ is_blank xs = ap is_blank (take-append-drop i xs) in
    sym whole ∙ blank-append (take i xs) (drop i xs) ∙ and_right (is_blank (take i xs)) (is_blank (drop i xs)) h

-- behind a line past the limit, bytes stand for others with which it is blank or not alike
alike-long : (line bytes kept : List ℕ) → line_limit < length line
    → (is_blank line && is_blank kept) ≡ (is_blank line && is_blank bytes) → Alike (line ++ kept) (line ++ bytes)
alike-long line bytes kept long same = inr (
  omega (arith, long, length-append line kept),
  omega (arith, long, length-append line bytes),
  blank-append line kept ∙ same ∙ sym (blank-append line bytes),
)

-- no byte stands for blank ones
pub alike-blank : (line bytes : List ℕ) → line_limit < length line → is_blank bytes ≡ true
    → Alike (line ++ []) (line ++ bytes)
alike-blank line bytes long h = alike-long line bytes [] long (ap (λ (t : Bool). is_blank line && t) (sym h))

-- no byte stands for any behind a line that is not blank
pub alike-filled : (line bytes : List ℕ) → line_limit < length line → is_blank line ≡ false
    → Alike (line ++ []) (line ++ bytes)
alike-filled line bytes long h =
    alike-long line bytes [] long (and_left (is_blank line) true h
    ∙ sym (and_left (is_blank line) (is_blank bytes) h))

-- a byte that is not blank stands for bytes that are not blank
pub alike-one : (line bytes kept : List ℕ) → line_limit < length line → is_blank bytes ≡ false
    → is_blank kept ≡ false → Alike (line ++ kept) (line ++ bytes)
alike-one line bytes kept long filled one =
    alike-long line bytes kept long (and_right (is_blank line) (is_blank kept) one
    ∙ sym (and_right (is_blank line) (is_blank bytes) filled))

-- one blank byte more
pub blank-more : (xs : List ℕ) (i : ℕ) → is_blank (take i xs) ≡ true
    → is_blank (take (i + 1 - i) (drop i xs)) ≡ true → is_blank (take (i + 1) xs) ≡ true
blank-more xs i so_far next =
    let one : i + 1 - i ≡ 1 = omega arith in
    let P : ℕ → Type 0 = λ n. is_blank (take n (drop i xs)) ≡ true in
    ap is_blank (take-add i 1 xs) ∙ blank-append (take i xs) (take 1 (drop i xs))
    ∙ and_from (is_blank (take i xs)) (is_blank (take 1 (drop i xs))) so_far (subst P one next)
