-- The stores stand in the bytes of format 1, so they are there in format 2, and are not refused.
use Rattle.std.proofs.Common.{◌≡◌, ◌++◌, length, ◌∙◌}
use Rattle.sz_formats.specs.Twice.{span}
use Rattle.sz_formats.proofs.Through.{cut-back, put-read, put-refused}
use Rattle.sz_formats.proofs.stores.put_short.Goals as goal

pub unreachable-requires : goal.unreachable-requires
unreachable-requires c =
    let s = c.args.store.now in
    put-refused s.site c.site-op.result.now s.list c.list.result.now c.new-wide.result.items c.put_bytes.new.to.items
    c.deref.result.now s.stores c.in-Err-Bad.field-0 c.in-Err-Bad.field-0-0 c.site-op.ensures c.list.ensures
    c.deref.ensures.value c.new-wide.ensures.items c.in_ok-put_bytes.ensures.read c.in-Err-Bad.field-0-is
    c.in-Err-Bad.ensures.err

pub returns-in-Ok-clause-read : goal.returns-in-Ok-clause-read
returns-in-Ok-clause-read c rest =
    let s = c.args.store.now in
    let old = c.args.to.now.items in
    let new = c.respell_each.new.to.items in
    put-read s.site c.site-op.result.now s.list c.list.result.now c.new-wide.result.items c.put_bytes.new.to.items
    c.deref.result.now c.in-Ok.field-0 (span (new ++ rest) (length old) (length new)) s.stores c.site-op.ensures
    c.list.ensures c.deref.ensures.value c.new-wide.ensures.items c.within_limits.ensures
    c.in_ok-put_bytes.ensures.read (c.in-Ok.ensures.ok rest)

pub returns-in-Err-NoMemory-clause-err : goal.returns-in-Err-NoMemory-clause-err
returns-in-Err-NoMemory-clause-err c =
    let front = c.in-Err-NoMemory.ensures.front in
    let long : c.len-length.result ≡ length c.args.to.now.items = c.len-length.ensures ∙ c.args.to.now.ok.0 in
    cut-back c.args.to.now.items c.respell_each.new.to.items front.0 c.truncate.new.self.items c.len-length.result
    long front.1 c.truncate.ensures.items
