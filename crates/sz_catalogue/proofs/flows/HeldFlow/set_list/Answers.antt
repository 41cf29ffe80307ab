-- A list for the node is set in place of another.
use Rattle.std.proofs.Common.{◌≡◌, ap, ◌∙◌, true}
use Rattle.std.specs.Arc.{arc_value}
use Rattle.sz_catalogue.specs.Holdings.{Workflow}
use Rattle.sz_catalogue.specs.Rules.{is_list_of}
use Rattle.sz_catalogue.proofs.NodeLists.{set-right}
use Rattle.sz_catalogue.proofs.flows.HeldFlow.set_list.Goals as goal

pub set-requires : goal.set-requires
set-requires c =
    let one : is_list_of (arc_value c.self.inside.flow).nodes c.args.node c.args.list ≡ true =
    ap (λ (w : Workflow). is_list_of w.graph.nodes c.args.node c.args.list) c.self.view_is ∙ c.requires in
    (set-right (arc_value c.self.inside.flow).nodes c.self.inside.lists c.args.node c.args.list
    c.self.invariant.lists one).0

pub invariant_of-self : goal.invariant_of-self
invariant_of-self c =
    let one : is_list_of (arc_value c.self.inside.flow).nodes c.args.node c.args.list ≡ true =
    ap (λ (w : Workflow). is_list_of w.graph.nodes c.args.node c.args.list) c.self.view_is ∙ c.requires in
    record {
      right = c.self.invariant.right;
      lists = rw c.set.ensures (set-right (arc_value c.self.inside.flow).nodes c.self.inside.lists c.args.node
          c.args.list c.self.invariant.lists one).1;
    }
