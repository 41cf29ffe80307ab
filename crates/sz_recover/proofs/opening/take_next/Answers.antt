-- The group that stands there is bad over what is held; or it acts, and the entries are those of the versions.
use Rattle.std.proofs.Common.{ℕ, List, sym, subst}
use Rattle.sz_bodies.specs.declared.reading.TakeFault.{TakeFault}
use Rattle.sz_recover.specs.declared.opening.Next.{Next}
use Rattle.sz_recover.specs.Logs.{Kept, IsNext, IsEntryAt, IsBad}
use Rattle.sz_recover.specs.Opened.{AreOfVersions}
use Rattle.sz_bodies.specs.Taking.{IfBad}
use Rattle.sz_recover.proofs.Acting.{entry_of}
use Rattle.sz_recover.proofs.Entries.{acts-keep}
use Rattle.sz_recover.proofs.Opened.{bad-on}
use Rattle.sz_recover.proofs.opening.take_next.Goals as goal

pub returns-in-Err-Bad-clause-bad : goal.returns-in-Err-Bad-clause-bad
returns-in-Err-Bad-clause-bad g c =
    let o = g.T.Station.disk c.args.station.now in
    let e = c.in-Ok-Entry in
    let held = c.args.catalogue.now in
    let there : IsEntryAt o c.args.at e.kind e.body.items e.next =
    subst (λ (x : Next). IsNext o c.args.at x) e.field-0-is e.ensures.next in
    let f = c.args.format.now in
    let bad : IsBad f held (entry_of e.kind c.deref.result.now) =
    subst (λ (x : TakeFault). IfBad x (IsBad f held (entry_of e.kind c.deref.result.now))) c.in-Err-Bad.field-0-is
    c.in-Err-Bad.ensures.err in
    bad-on o c.args.at e.kind e.next f e.body.items held there
    (subst (λ (xs : List ℕ). IsBad f held (entry_of e.kind xs)) c.deref.ensures.value bad)

pub returns-in-Ok-clause-entries : goal.returns-in-Ok-clause-entries
returns-in-Ok-clause-entries g c =
    λ are.
    let e = entry_of c.in-Ok-Entry.kind c.deref.result.now in
    let acts = c.in-Ok.ensures.ok in
    subst (λ (ks : List Kept). AreOfVersions c.act.new.catalogue ks) (sym acts.2)
    (acts-keep c.args.format.now c.act.new.format c.args.catalogue.now c.act.new.catalogue e c.args.kept.now.items
    acts.0 are acts.1)
