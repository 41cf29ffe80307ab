-- One line can be said of what a log keeps; and where it says that all is sound, each store is exact.
--
-- The key idea: what looking at the stores tells is one thing, and the line is read off it.
use Rattle.std.proofs.Common.{◌≡◌, List, ℕ, Some, None, Option, sym, ap, ◌∙◌, arith, get_or, length}
use Rattle.sz_recover.specs.declared.checking.WrongStore.{WrongStore}
use Rattle.sz_recover.proofs.Telling.{one-told, none-means-each}
use Rattle.sz_session.specs.Checking.{check_line, OneLineIsTold, SoundLinesMeanEach}

pub one-line : OneLineIsTold
one-line c kept line other (a, tells, is) (b, told, same) =
    is ∙ ap (λ (o : Option WrongStore). check_line (length kept) o) (one-told c kept a b tells told) ∙ sym same

pub sound-lines : SoundLinesMeanEach
sound-lines c kept (None, tells, is) = none-means-each c kept tells
sound-lines c kept (Some w, tells, is) =
    let byte : 115 ≡ 117 = ap (λ (l : List ℕ). get_or l 0 0) is in absurd (omega (arith, byte))
