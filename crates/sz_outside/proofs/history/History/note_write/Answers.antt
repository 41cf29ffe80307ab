-- A write stands in the disk, where it is done, and in its marks.
use Rattle.std.proofs.Common.{◌≡◌, List, ℕ, ◌≤◌, true, false, ap, ◌∙◌, take, length, replicate, arith}
use Rattle.sz_outside.specs.Disk.{written}
use Rattle.sz_outside.specs.Memory.{Past, now}
use Rattle.sz_outside.specs.History.{scene_before, scene_at}
use Rattle.sz_outside.specs.declared.history.Act.TheVariants as act
use Rattle.sz_outside.proofs.Scenes.{shows_next, even_now, torn_ones, torn_marked}
use Rattle.sz_outside.proofs.history.History.note_write.Goals.{In_ok-ones}
use Rattle.sz_outside.proofs.history.History.note_write.Goals as goal

-- the marked disk is as long as the disk
pub over-requires : goal.over-requires
over-requires c =
    let p : Past = record { start = c.self.inside.start.items; events = c.self.inside.calls.items } in
    let room = ap (λ (p : Past). length (now p).disk) c.self.view_is in
    omega (arith, c.requires, room, ap length c.deref.ensures.value, ap length c.self.invariant.ones, even_now p)

-- the marked disk before the write, and with its marks
abbrev ones_before : In_ok-ones → List ℕ
ones_before c = (scene_at (scene_before c.self.inside.start.items) c.self.inside.calls.items).ones

place : (c : In_ok-ones) → c.args.at ≤ length (ones_before c)
place c =
    let p : Past = record { start = c.self.inside.start.items; events = c.self.inside.calls.items } in
    omega (arith, c.requires, ap (λ (p : Past). length (now p).disk) c.self.view_is, even_now p)

marked : (c : In_ok-ones)
    → c.in_ok-ones.ones.items ≡ written (ones_before c) c.args.at (replicate (length c.args.bytes.now) 1)
marked c = c.in_ok-ones.ensures
    ∙ ap (λ (l : List ℕ). written l c.args.at c.deref-2.result.now) (c.deref.ensures.value ∙ c.self.invariant.ones)
    ∙ ap (λ (l : List ℕ). written (ones_before c) c.args.at l) (c.deref-2.ensures.value ∙ c.in_ok-marks.ensures)

pub invariant_of-self-then-not-is_done : goal.invariant_of-self-then-not-is_done
invariant_of-self-then-not-is_done c =
    let here = (goal.at.invariant_of-self-then-not-is_done c).In_ok-ones in
    let ones = ones_before here in
    let short = c.truncate.ensures.items
    ∙ ap (λ (n : ℕ). take n c.in_ok-ones.ones.items) (ap length (c.as_slice.ensures.value ∙ c.self.invariant.ones))
    ∙ ap (λ (l : List ℕ). take (length ones) l) (marked here) in
    shows_next (scene_before c.self.inside.start.items) c.self.inside.calls.items _
    (record { act = act.Write c.args.at; bytes = c.args.bytes.now; is_done = false }) c.in_ok-push_call.ensures.ok
    (record {
      disk = c.self.invariant.disk;
      said = c.self.invariant.said;
      synced = c.self.invariant.synced;
      ones = short;
      torn = (_, c.self.invariant.torn, torn_marked ones c.args.at (length c.args.bytes.now) (place here));
    })

pub invariant_of-self-2 : goal.invariant_of-self-2
invariant_of-self-2 c =
    let here = (goal.at.invariant_of-self-2 c).In_ok-ones in
    let ones = ones_before here in
    let over = c.in_ok-disk.ensures
    ∙ ap (λ (l : List ℕ). written l c.args.at c.args.bytes.now) (c.deref-3.ensures.value ∙ c.self.invariant.disk) in
    shows_next (scene_before c.self.inside.start.items) c.self.inside.calls.items _
    (record { act = act.Write c.args.at; bytes = c.args.bytes.now; is_done = true }) c.in_ok-push_call-2.ensures.ok
    (record {
      disk = over;
      said = c.self.invariant.said;
      synced = c.self.invariant.synced;
      ones = marked here;
      torn = (_, c.self.invariant.torn, torn_ones ones c.args.at (length c.args.bytes.now) (place here));
    })
