-- What a session takes, its log takes too. The key idea: its log holds fewer cells and fewer versions, and the same
-- arrays and flows, so what a rule lets pass over what is held it lets pass over what the log holds.
use Rattle.std.proofs.Common.{◌≡◌, ℕ, ◌+◌, ◌≤◌, List, [], ◌∷◌, length, refl, sym, ap, subst, arith, true, false}
use Rattle.std.proofs.Common.{true≢false, nat_lt, nat_le, Option, Some, None, is_none, inl, inr}
use Rattle.std.proofs.lemmas.Bool.Decides.{nat_tests}
use Rattle.sz_cells.specs.Extent.{size_of}
use Rattle.sz_spec.specs.Values.{Grid}
use Rattle.sz_script.specs.declared.command.Command.{Command}
use Rattle.sz_script.specs.declared.command.Command.TheVariants as command
use Rattle.sz_script.specs.declared.refusal.Refusal.TheVariants as refusal
use Rattle.sz_catalogue.specs.Holdings.{Version, Holdings, held_cells, version_numbered}
use Rattle.sz_catalogue.specs.Rules.{judged, has_no_room_for_array, most_arrays, most_cells}
use Rattle.sz_catalogue.specs.Rules.{version_of, first_of}
use Rattle.sz_catalogue.specs.Changes.{accepted}
use Rattle.sz_catalogue.proofs.Counts.{first-passed, neither}
use Rattle.sz_bodies.specs.Lawful.{CanBeAdded}
use Rattle.sz_recover.specs.Logs.{Kept, Acts, is_of_kind}
use Rattle.sz_recover.specs.Growing.{durable, IsInOrder, LinesAct, LinesKeepVersions, AwaitsAct, UpgradesAct}
use Rattle.sz_recover.proofs.Acting.{entry_of, each-kind, line-held, line-acts, kind-stays, version-stays}
use Rattle.sz_recover.proofs.Acting.{upgrade-acts}
use Rattle.sz_recover.proofs.Durable.{durable-cells, durable-less, can-be-added, version-found, await-settled}
use Rattle.sz_recover.proofs.Durable.{settled-new}
use Rattle.sz_bodies.proofs.Written.{written-lawful}

-- ---- lines

less-room : (most a b size : ℕ) → a ≤ b → nat_lt most (b + size) ≡ false → nat_lt most (a + size) ≡ false
less-room most a b size le is = grind (arith, nat_tests)

array-free : (c : Holdings) (array : Grid)
    → first_of ((has_no_room_for_array c array, refusal.NoRoomForArray) ∷ []) ≡ None
    → first_of ((has_no_room_for_array (durable c) array, refusal.NoRoomForArray) ∷ []) ≡ None
array-free c array free =
    let both = neither (nat_le most_arrays (length c.arrays)) (nat_lt most_cells (held_cells c + size_of array.extent))
    (first-passed (has_no_room_for_array c array) refusal.NoRoomForArray [] free).0 in
    let cells = less-room most_cells (held_cells (durable c)) (held_cells c) (size_of array.extent) (durable-cells c)
    both.1 in
    rw (both.0, cells) refl

line-free : (c : Holdings) (kind : ℕ) (order : Command) → is_of_kind kind order ≡ true → judged c order ≡ None
    → judged (durable c) order ≡ None
line-free c kind (command.Array name array) own free = array-free c array free
line-free c kind (command.Csv name array) own free = array-free c array free
line-free c kind (command.Layers name array) own free = array-free c array free
line-free c kind (command.Flow name flow) own free = free
line-free c kind (command.Strategy name node list) own free = free
line-free c kind _ own free = absurd (true≢false (sym own))

line-durable : (c : Holdings) (kind : ℕ) (order : Command) → is_of_kind kind order ≡ true
    → durable (accepted c order).0 ≡ (accepted (durable c) order).0
line-durable c =
    each-kind (λ order. durable (accepted c order).0 ≡ (accepted (durable c) order).0) (λ name array. refl)
    (λ name array. refl) (λ name array. refl) (λ name flow. refl) (λ name node list. refl)

pub lines-act : LinesAct
lines-act format c kind line order read own free =
    let d : Holdings = durable (accepted c order).0 in
    let e = entry_of kind line in
    subst (λ (n : ℕ). Acts format (durable c) e n d []) (sym (kind-stays format kind order line own))
    (line-acts format (durable c) d e
    (line-held (durable c) d kind line order read own (line-free c kind order own free)
    (line-durable c kind order own)))

pub lines-keep : LinesKeepVersions
lines-keep c =
    each-kind (λ order. (accepted c order).0.versions ≡ c.versions) (λ name array. refl) (λ name array. refl)
    (λ name array. refl) (λ name flow. refl) (λ name node list. refl)

-- ---- awaits

awaited-added : (c : Holdings) (n : ℕ) (v : Version) → IsInOrder c → version_numbered c n ≡ Some v
    → v.awaited ≡ false → CanBeAdded (durable c) n v
awaited-added c n v order found off =
    can-be-added c (durable c).versions [] n v order found
    (ap (λ (o : Option Version). is_none o) (settled-new c.versions n v off order.rising found))
    (durable-less c n v off found)

pub awaits-act : AwaitsAct
awaits-act format c n stores body order some off fit spelled =
    let v : Version = version_of c n in
    let w : Version = record v { awaited = true } in
    let found = version-found c n some in
    let lawful = written-lawful format (durable c) n v stores body (awaited-added c n v order found off) fit spelled in
    let one : Kept = record { number = n; stores = stores } in (
      version-stays format body,
      inr (inl (record {
        kind = refl;
        one = one;
        version = w;
        fit = fit;
        lawful = lawful.0;
        said = sym lawful.1;
        held =
            ap (λ (es : List (ℕ × Version)). record (durable c) { versions = es })
            (await-settled c.versions n v w off refl order.rising found);
        kept_is = refl;
      })),
    )

pub upgrades-act : UpgradesAct
upgrades-act c = upgrade-acts c
