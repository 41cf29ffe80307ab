-- The parts are the same.
use Rattle.sz_short.proofs.Respelling.{begins-long, long-begins}
use Rattle.sz_short.proofs.RespellingPay.{pay-long, long-pay}
use Rattle.sz_short.proofs.laws.long_stores_are_stores.Goals as goal

pub returns : goal.returns
returns c = record {
  full = λ out ins bytes at next regions. (
    long-begins out ins bytes at next regions,
    begins-long out ins bytes at next regions,
  );
  pay = λ out bytes at next entries. (long-pay out bytes at next entries, pay-long out bytes at next entries);
}
