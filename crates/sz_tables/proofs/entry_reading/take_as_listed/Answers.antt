-- The entries that were read begin a store where they are apart, and only there.
use Rattle.std.proofs.Common.{true, false, Bool, subst}
use Rattle.sz_region.specs.Stores.{SaysWhetherApart}
use Rattle.sz_region.proofs.PayStores.{no-entries-apart}
use Rattle.sz_tables.specs.Entries.{entries}
use Rattle.sz_tables.specs.Listed.{IsRead}
use Rattle.sz_tables.proofs.Listed.{read-begins}
use Rattle.sz_tables.proofs.entry_reading.take_as_listed.Goals as goal

pub returns-then-branch-clause-ok : goal.returns-then-branch-clause-ok
returns-then-branch-clause-ok c =
    let t = c.in-Some.table in
    let r : IsRead c.args.out c.args.bytes.now c.args.at c.in-Some.next t =
    rw c.in-Some.is at c.in_ok-table.ensures.ok in
    let says : SaysWhetherApart (entries t) true =
    subst (λ (b : Bool). SaysWhetherApart (entries t) b) c.if-branch.true c.in_ok-are_apart.ensures in
    (read-begins c.args.out c.args.bytes.now c.args.at c.in-Some.next t r says).begins

pub returns-then-branch-clause-payloads : goal.returns-then-branch-clause-payloads
returns-then-branch-clause-payloads c =
    let t = c.in-Some.table in
    let r : IsRead c.args.out c.args.bytes.now c.args.at c.in-Some.next t =
    rw c.in-Some.is at c.in_ok-table.ensures.ok in
    let says : SaysWhetherApart (entries t) true =
    subst (λ (b : Bool). SaysWhetherApart (entries t) b) c.if-branch.true c.in_ok-are_apart.ensures in
    read-begins c.args.out c.args.bytes.now c.args.at c.in-Some.next t r says

pub returns-else-branch-clause-err : goal.returns-else-branch-clause-err
returns-else-branch-clause-err c =
    let t = c.in-Some.table in
    let r : IsRead c.args.out c.args.bytes.now c.args.at c.in-Some.next t =
    rw c.in-Some.is at c.in_ok-table.ensures.ok in
    let says : SaysWhetherApart (entries t) false =
    subst (λ (b : Bool). SaysWhetherApart (entries t) b) c.if-branch.false c.in_ok-are_apart.ensures in
    no-entries-apart c.args.out c.args.bytes.now c.args.at r.first r.second c.in-Some.next r.listed r.sets r.names
    (entries t) c.requires r.short r.listed_at r.each r.sets_at r.named r.few r.names_at says
