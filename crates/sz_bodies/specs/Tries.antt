-- What was read of a node where it may begin.
use Rattle.std.specs.Prelude.{ℕ, List, option_map, IfSome}
use Rattle.std.specs.Arc.{arc_value}
use Rattle.sz_spec.specs.Shapes.{Site}
use Rattle.sz_bodies.specs.Fitting.{FitsNode, part_of}
use Rattle.sz_bodies.specs.Taking.{IsNodeAt, IsOnlyNode}
use Rattle.sz_bodies.specs.declared.tries.TakenNode.{TakenNode}
use Rattle.sz_bodies.specs.declared.tries.TriedNode.{TriedNode}

-- it stands at this place, no other one does, and its list and its stores fit
pub record IsTaken (format : ℕ) (s : Site) (bytes : List ℕ) (at : ℕ) (t : TakenNode) : Type 0 where
  pub node : IsNodeAt format s bytes at t.next (part_of t.list (option_map (λ a. arc_value a) t.kept))
  pub only : IsOnlyNode format s bytes at t.next (part_of t.list (option_map (λ a. arc_value a) t.kept))
  pub fits : FitsNode s t.list (option_map (λ a. arc_value a) t.kept)

-- where a node was read it is
abbrev pub IsTried : ℕ → Site → List ℕ → TriedNode → Type 0
IsTried format s bytes t = IfSome t.taken (IsTaken format s bytes t.at)
