-- From what std says of one read and one write of a stream to what a source and a station tell of it. The key
-- idea: the bytes that a reader had left are those that it gave and then those that are still left, so dropping
-- as many as it gave leaves the latter; and what a writer took in several writes is one front of the bytes.
use Rattle.std.proofs.Common.{◌≡◌, ℕ, ◌+◌, ◌-◌, ◌≤◌, ◌<◌, List, [], ◌∷◌, ◌++◌}
use Rattle.std.proofs.Common.{None, Some, sym, ap, ◌∙◌, subst, length, take, drop, arith}
use Rattle.std.proofs.Common.{length-take-le, length-append, length-drop}
use Rattle.std.proofs.Math.Seq.{take-length, take-append_seam, drop-append_seam, take-add}
use Rattle.std.proofs.lemmas.List.{take_rest}
use Rattle.std.specs.Prelude.{Option}
use Rattle.std.specs.Io.KnownBytes.{Appends, Consumes, IsAtEnd, Keeps as KeepsKnown}
use Rattle.std.proofs.KnownBytes.{Appends-trans}
use Rattle.sz_outside.specs.Outside.{Gives, Keeps, Says, SaysPart}

-- a list whose first n bytes are one list and whose others are another
drop-whole : (xs ys front : List ℕ) (n : ℕ) → length front ≡ n → xs ≡ front ++ ys → drop n xs ≡ ys
drop-whole xs ys front n some e = rw (e, ← some) (drop-append_seam front ys)

take-whole : (xs ys front : List ℕ) (n : ℕ) → length front ≡ n → xs ≡ front ++ ys → take n xs ≡ front
take-whole xs ys front n some e = rw (e, ← some) (take-append_seam front ys)

length-whole : (xs ys front : List ℕ) (n : ℕ) → length front ≡ n → xs ≡ front ++ ys → n ≤ length xs
length-whole xs ys front n some e = omega (arith, some, ap length e, length-append front ys)

nil-whole : (xs ys front : List ℕ) → length front ≡ 0 → xs ≡ front ++ ys → ys ≡ [] → xs ≡ []
nil-whole xs ys [] none e last = e ∙ last
nil-whole xs ys (z ∷ front) none e last = absurd (omega arith)

-- a read that gave n bytes gave the next n of those that were left
pub gives-consumes : (before after : Option (List ℕ)) (into : List ℕ) (n : ℕ) → n ≤ length into
    → Consumes before after (take n into) → (n ≡ 0 → 0 < length into → IsAtEnd after)
    → Gives before after into n
gives-consumes None after into n fits taken end = tt
gives-consumes (Some xs) None into n fits taken end = absurd taken
gives-consumes (Some xs) (Some ys) into n fits taken end =
    let some : length (take n into) ≡ n = length-take-le n into fits in
    record {
      left = ap (λ (zs : List ℕ). Some zs) (sym (drop-whole xs ys (take n into) n some taken));
      fits = length-whole xs ys (take n into) n some taken;
      bytes = sym (take-whole xs ys (take n into) n some taken);
      end = λ room none. nil-whole xs ys (take n into) (some ∙ none) taken (end none room);
    }

-- bytes that stayed as they were
pub keeps-known : (before after : Option (List ℕ)) → KeepsKnown before after → Keeps before after
keeps-known None after kept = tt
keeps-known (Some xs) None kept = absurd kept
keeps-known (Some xs) (Some ys) kept = ap (λ (zs : List ℕ). Some zs) kept

-- the bytes that a writer took are said
pub says-appends : (before after : Option (List ℕ)) (bytes : List ℕ) → Appends before after bytes
    → Says before after bytes
says-appends None after bytes taken = tt
says-appends (Some xs) None bytes taken = absurd taken
says-appends (Some xs) (Some ys) bytes taken = ap (λ (zs : List ℕ). Some zs) taken

-- where a writer took the first n bytes, a part of them is said
pub says_part-appends : (before after : Option (List ℕ)) (bytes : List ℕ) (n : ℕ) → n ≤ length bytes
    → Appends before after (take n bytes) → SaysPart before after bytes
says_part-appends None after bytes n fits taken = tt
says_part-appends (Some xs) None bytes n fits taken = absurd taken
says_part-appends (Some xs) (Some ys) bytes n fits taken = (n, fits, ap (λ (zs : List ℕ). Some zs) taken)

-- all of the bytes, said and then kept, are a part of them
pub says_part-whole : (before between after : Option (List ℕ)) (bytes : List ℕ) → Says before between bytes
    → KeepsKnown between after → SaysPart before after bytes
says_part-whole None between after bytes said kept = tt
says_part-whole (Some xs) between after bytes said kept =
    let P : Option (List ℕ) → Type 0 = λ o. Keeps o after in (
      length bytes,
      omega arith,
      subst P said (keeps-known between after kept)
          ∙ ap (λ (zs : List ℕ). Some (xs ++ zs)) (sym (take-length bytes)),
    )

-- one more write, of bytes past the first n
pub appends-more : (before between after : Option (List ℕ)) (bytes : List ℕ) (n m : ℕ)
    → Appends before between (take n bytes)
    → Appends between after (take m (take (length bytes - n) (drop n bytes)))
    → Appends before after (take (n + m) bytes)
appends-more before between after bytes n m first second =
    let P : List ℕ → Type 0 = Appends before after in
    subst P (ap (λ (zs : List ℕ). take n bytes ++ take m zs) (take_rest bytes n) ∙ sym (take-add n m bytes))
    (Appends-trans before between after _ _ first second)

-- how many bytes were taken after one more write
pub fits-more : (bytes : List ℕ) (n m : ℕ) → n ≤ length bytes
    → m ≤ length (take (length bytes - n) (drop n bytes)) → n + m ≤ length bytes
fits-more bytes n m fits more = omega (arith, ap length (take_rest bytes n), length-drop n bytes)
