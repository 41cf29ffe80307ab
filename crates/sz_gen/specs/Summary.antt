-- The line that sums up a session that was run.
use Rattle.std.specs.Prelude.{ℕ, List, ◌++◌, codes, decimal}
use Rattle.sha2.specs.Sha256.{sha256}
use Rattle.hex.specs.Hex.{encode_lower}

-- the session's seed and side, how many lines it had, and the digest of its replies, with a newline
unfoldable pub summary_line : ℕ → ℕ → ℕ → List ℕ → List ℕ
summary_line seed side lines replies =
    codes "load seed " ++ decimal seed ++ codes " side " ++ decimal side
    ++ codes " lines " ++ decimal lines ++ codes " sha256 " ++ encode_lower (sha256 replies)
    ++ codes "\n"
