-- A closure over five captures moves to another thread where they may.
--
-- The key idea: a closure is a tuple of what it captures, so it may move where each of these may. Its row keeps of that
-- tuple's no more than what it owns and shares, so that a search cannot tell which tuple it was: an answer names it.
use mathlib.Core.List.{[], ◌∷◌}
use Prim.Native.Nat.{ℕ}
use mir.Syntax.{Ty, Sym}
use denote.RattleType.{RattleType}
use denote.Exit.{no}
use denote.Param.{param, arg}
use denote.Param.Send.{IsSend, sendable, param_send, arg_send}
use denote.Param.SendFields.{declared_send}
use denote.Struct.Tuple.{TupleAt, type_at}
use Rattle.sz_shelf.proofs.Crossing.{fields}

pub closure_send : (i : ℕ) (δ : Ty) (ν : Sym) (A B C D E : RattleType) → IsSend A → IsSend B → IsSend C → IsSend D
    → IsSend E → IsSend (param i (arg δ no (TupleAt ν (A ∷ B ∷ C ∷ D ∷ E ∷ []))))
closure_send i δ ν A B C D E a b c d e =
    let all = declared_send (type_at ν (A ∷ B ∷ C ∷ D ∷ E ∷ [])) (search (a, b, c, d, e, sendable, fields)) in
    param_send i _ (arg_send δ no (TupleAt ν (A ∷ B ∷ C ∷ D ∷ E ∷ [])) all)
