-- What each call of a station in memory tells. The key idea: whether it found memory or not, its history is the one
-- before, with the call or without, and that is all that its disk, what was said and its stops depend on.
use Rattle.std.proofs.Common.{◌≡◌, ◌⊎◌, inl, inr, ℕ, List}
use Rattle.std.proofs.Common.{Result, Ok, Err, OnOk, OnErr, Bool, true, false, is_ok, ◌&&◌, Some}
use Rattle.std.proofs.Common.{⊎_elim, ap, ◌∙◌, subst}
use Rattle.sz_outside.specs.History.{Scene, MayLeave, step_of, scene_after}
use Rattle.sz_outside.specs.Memory.{Past, Ledger, now, noted, past_after, disk_of, said_of, PassesIn}
use Rattle.sz_outside.specs.Memory.{Fits, IsOfDisk, KeepsDisk, event, Found}
use Rattle.sz_outside.specs.declared.history.Act.{Act}
use Rattle.sz_outside.specs.declared.history.Act.TheVariants as act
use Rattle.sz_outside.proofs.Scenes.{from_call, stays, now_noted}
use Rattle.sz_outside.proofs.Scenes.{said_after, disk_after}

-- a call went over a ledger: the past has it, or is as before
pub record Went (old new : Ledger) (a : Act) (bytes : List ℕ) (d k : Bool) : Type 0 where
  pub past : new.past ≡ past_after old.past a bytes d k

-- what its steps tell
pub went : {T E : Type 0} (r : Result T E) (old new : Ledger) (h q : Past) (a : Act) (bytes : List ℕ) (d : Bool)
    → h ≡ old.past → new.past ≡ q → OnOk r (q ≡ noted h a bytes d) → OnErr r (q ≡ h)
    → Went old new a bytes d (is_ok r)
went (Ok x) old new h q a bytes d seen is ok err =
    record { past = is ∙ ok ∙ ap (λ (t : Past). noted t a bytes d) seen }
went (Err x) old new h q a bytes d seen is ok err = record { past = is ∙ err ∙ seen }

was_done : {V W P : Type 0} (res : Result V W) (p q : Past) (a : Act) (bytes : List ℕ) (d k : Bool)
    → is_ok res ≡ (d && k) → q ≡ past_after p a bytes d k
    → (now q ≡ scene_after (now p) (event a bytes true) → P) → OnOk res P
was_done (Ok y) p q a bytes true true answer is then = then (now_noted p q a bytes true is)
was_done (Ok y) p q a bytes true false answer is then = absurd (cc answer)
was_done (Ok y) p q a bytes false k answer is then = absurd (cc answer)
was_done (Err y) p q a bytes d k answer is then = tt

was_not_done : {V W P : Type 0} (res : Result V W) (p q : Past) (a : Act) (bytes : List ℕ) (d k : Bool)
    → is_ok res ≡ (d && k) → q ≡ past_after p a bytes d k
    → (now q ≡ scene_after (now p) (event a bytes false) ⊎ now q ≡ now p → P) → OnErr res P
was_not_done (Ok y) p q a bytes d k answer is then = tt
was_not_done (Err y) p q a bytes true true answer is then = absurd (cc answer)
was_not_done (Err y) p q a bytes false true answer is then = then (inl (now_noted p q a bytes false is))
was_not_done (Err y) p q a bytes d false answer is then = then (inr (ap now is))

pub stops : {old new : Ledger} {a : Act} {bytes : List ℕ} {d k : Bool} → Went old new a bytes d k
    → Fits a (now old.past) → PassesIn old new (step_of (event a bytes d) a) (Found (now old.past) bytes a)
stops {old} {new} {a} {bytes} {d} {k} call fits = from_call old.past new.past a bytes d k fits call.past

pub said : {old new : Ledger} {a : Act} {bytes : List ℕ} {d k : Bool} → Went old new a bytes d k → IsOfDisk a
    → Some (said_of new) ≡ Some (said_of old)
said {old} {new} {a} {bytes} {d} {k} call same = ap (λ (l : List ℕ). Some l)
    (stays (λ (s : Scene). s.said) old.past new.past a bytes d k (said_after (now old.past) a bytes d same) call.past)

pub disk : {old new : Ledger} {a : Act} {bytes : List ℕ} {d k : Bool} → Went old new a bytes d k → KeepsDisk a
    → Some (disk_of new) ≡ Some (disk_of old)
disk {old} {new} {a} {bytes} {d} {k} call same = ap (λ (l : List ℕ). Some l)
    (stays (λ (s : Scene). s.disk) old.past new.past a bytes d k (disk_after (now old.past) a bytes d same) call.past)

pub done : {V W P : Type 0} {old new : Ledger} {a : Act} {bytes : List ℕ} {d k : Bool} → Went old new a bytes d k
    → (res : Result V W) → is_ok res ≡ (d && k)
    → (now new.past ≡ scene_after (now old.past) (event a bytes true) → P) → OnOk res P
done {V} {W} {P} {old} {new} {a} {bytes} {d} {k} call res answer then =
    was_done res old.past new.past a bytes d k answer call.past then

-- of a call that was done, what the disk then is
pub read : {V W : Type 0} (s t : Scene) (res : Result V W) → OnOk res (s ≡ t) → OnOk res (Some s.disk ≡ Some t.disk)
read s t (Ok y) is = ap (λ (x : Scene). Some x.disk) is
read s t (Err y) is = tt

-- and of a sync, that a stop leaves nothing else
pub only_read : {V W : Type 0} (s t : Scene) (bytes : List ℕ) (res : Result V W)
    → OnOk res (s ≡ scene_after t (event act.Sync bytes true))
    → OnOk res ((image : List ℕ) → MayLeave s image → image ≡ t.disk)
only_read s t bytes (Ok y) is = λ image left.
    ⊎_elim (λ here. here) (λ here. here) (subst (λ (x : Scene). MayLeave x image) is left)
only_read s t bytes (Err y) is = tt

pub undone : {V W P : Type 0} {old new : Ledger} {a : Act} {bytes : List ℕ} {d k : Bool} → Went old new a bytes d k
    → (res : Result V W) → is_ok res ≡ (d && k)
    → (now new.past ≡ scene_after (now old.past) (event a bytes false) ⊎ now new.past ≡ now old.past → P)
    → OnErr res P
undone {V} {W} {P} {old} {new} {a} {bytes} {d} {k} call res answer then =
    was_not_done res old.past new.past a bytes d k answer call.past then
