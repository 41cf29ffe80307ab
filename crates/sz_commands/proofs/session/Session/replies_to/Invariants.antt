-- The asks before the number have their replies.
use Rattle.std.proofs.Common.{◌≡◌, ◌+◌, ◌*◌, ◌≤◌, map, take, length}
use Rattle.std.specs.List.{AllZip}
use Rattle.sz_catalogue.specs.Seen.{response_of}
use Rattle.sz_commands.specs.Asks.{IsEnded, ask_reply, traced_for_asks, most_for_asks}
use Rattle.sz_commands.proofs.session.Session.replies_to.Given as goal

abbrev pub invariant-loop-place : goal.invariant-loop-place
invariant-loop-place l = record {
  end : l.place-end ≡ length l.lines;
  ended : AllZip (IsEnded l.self) l.lines l.all.items;
  replies : map response_of l.replies.items ≡ map (ask_reply l.self) (take l.place l.lines);
  least : l.fn.tally + traced_for_asks l.self (take l.place l.lines) ≤ l.tally;
  most : l.tally ≤ l.fn.tally + most_for_asks l.self (take l.place l.lines);
  room : l.tally ≤ l.fn.tally + l.place * 33554432;
}
