-- The payloads of the table so far are the operator's, and the others begin at the place.
use Rattle.std.proofs.Common.{◌≡◌, ℕ, List, length}
use Rattle.sz_payload.specs.Begins.{IsTableAt}
use Rattle.sz_payload.proofs.Judged.{IsJudged}
use Rattle.sz_payload.proofs.taking.are_lawful.Given as goal

abbrev pub invariant-loop-index : goal.invariant-loop-index
invariant-loop-index l = record {
  count : (payloads : List (List ℕ)) (rest : List ℕ) → IsTableAt l.bytes l.from payloads rest
      → l.count ≡ length payloads;
  judged : (payloads : List (List ℕ)) (rest : List ℕ) → IsTableAt l.bytes l.from payloads rest
      → IsJudged l.at l.bytes l.place l._index payloads rest;
}
