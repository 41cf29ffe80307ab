-- The asks before the index were begun.
use Rattle.std.proofs.Common.{◌≡◌, take}
use Rattle.std.specs.List.{AllZip}
use Rattle.sz_commands.specs.Asks.{IsBegun}
use Rattle.sz_commands.proofs.session.Session.begin_each.Given as goal

abbrev pub invariant-loop-line : goal.invariant-loop-line
invariant-loop-line g l = record {
  begun : AllZip (IsBegun l.fn.self) (take l.line-index l.lines) l.all.items;
  same : l.self ≡ l.fn.self;
}
