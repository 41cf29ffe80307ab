-- A store of entries is put as it is.
use Rattle.std.proofs.Common.{refl}
use Rattle.sz_store.specs.Kept.{keep_at}
use Rattle.sz_merge.proofs.Behind.{entries-left}
use Rattle.sz_merge.proofs.parts.merge_part.Goals as goal

pub returns-in_default : goal.returns-in_default
returns-in_default c =
    let s = c.args.store.now in
    let put = c.in_ok-put_store.ensures.ok in
    entries-left s.site (keep_at s.stores c.args.place) c.args.to.now.items c.put_store.new.to.items put.0
    c.args.kinds.now.items c.args.kinds.now.items c.in_default.ensures put.2 c.in_ok-put_store.ensures.read refl
