-- What the reply of a worker says of its pass.
use Rattle.std.specs.Prelude.{◌≡◌, true, false, Some}
use Rattle.sz_shelf.specs.Tags.{tag_pieces}
use Rattle.sz_shelf.specs.Contents.{missing_in}
use Rattle.sz_shelf.specs.Passes.{Onlooker}
use Rattle.sz_shelf.specs.declared.answers.SealReply.{SealReply}
use Rattle.sz_shelf.specs.declared.answers.SealReply.TheVariants as seal

-- The pass saw the seal; or it did not, and this is the least piece that it has not seen.
abbrev pub IsReplyOf : Onlooker → SealReply → Type 0
IsReplyOf q seal.Sealed = q.saw ≡ true
IsReplyOf q (seal.Missing k) =
    (q.saw ≡ false) × (missing_in (tag_pieces q.tag) q.seen ≡ Some k)
