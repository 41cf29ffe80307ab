-- What `link` ensures: the group that is changed leads to one index more, or nothing is changed.
use Rattle.std.proofs.Common.{rules}
use Rattle.sz_core.proofs.Groups.{lead-link, lead-same}
use Rattle.sz_core.proofs.index.link.Goals as goal

pub returns-in_err-push-clause-err : goal.returns-in_err-push-clause-err
returns-in_err-push-clause-err c =
    let same = lead-same (λ v. v.items) c.args.groups.now.items c.args.near c.index_mut-group.result.now
    c.push.new.self c.index_mut-group.ensures.value c.in_err-push.ensures.items in
    search (rules, same)

pub returns-clause-ok : goal.returns-clause-ok
returns-clause-ok c k t =
    lead-link (λ v. v.items) c.args.groups.now.items c.args.near c.args.far c.index_mut-group.result.now
    c.push.new.self c.requires c.index_mut-group.ensures.value
    c.in_ok-push.ensures.items k t
