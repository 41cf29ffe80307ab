-- The words that clauses of this crate are written in, each from the file that defines it.
pub use Rattle.std.specs.Arc.{arc_value}
pub use Rattle.std.specs.List.{list_all}
pub use Rattle.std.specs.Prelude.{All, IfErr, IfNone, IfOk, IfSome, List, None, Ok, OnOk, Some, []}
pub use Rattle.std.specs.Prelude.{false, get_or, length, map, nat_le, option_map, true, ℕ}
pub use Rattle.sz_catalogue.specs.Holdings.{cells_of, flow_named, shapes_of}
pub use Rattle.sz_catalogue.specs.Rules.{are_distinct, has_no_version, is_list_for, names_a_store}
pub use Rattle.sz_catalogue.specs.Rules.{version_of}
pub use Rattle.sz_cells.specs.Extent.{Extent}
pub use Rattle.sz_cells.specs.SetBytes.{four_bytes}
pub use Rattle.sz_formats.specs.Formats.{is_format}
pub use Rattle.sz_formats.specs.Words.{BeginEachIn, NoneBeginIn}
pub use Rattle.sz_region.specs.Counted.{IsAt, counted}
pub use Rattle.sz_region.specs.Stores.{AreFew, NoneAt}
pub use Rattle.sz_spec.specs.Modes.{number_of, supports}
pub use Rattle.sz_spec.specs.Shapes.{Site}
pub use Rattle.sz_spec.specs.declared.flow.Node.{Node}
pub use Rattle.sz_store.specs.Kept.{stored_in}
pub use Rattle.sz_bodies.specs.Bodies.{BeginNodes, IsBodyOf, IsShortBase, IsShortName, NodePart}
pub use Rattle.sz_bodies.specs.Bodies.{base_bytes, list_bytes, name_bytes}
pub use Rattle.sz_bodies.specs.Fitting.{Fit, FitNodes, FitsNode, IsWholeFor, body_of, lineages}
pub use Rattle.sz_bodies.specs.Fitting.{named_base, part_of, parts_of, sites_of}
pub use Rattle.sz_bodies.specs.Lawful.{CanBeAdded, IsLawful, version_said}
pub use Rattle.sz_bodies.specs.Laws.{IsRightSite, OneBodyAtMost, WrittenBodiesAreLawful}
pub use Rattle.sz_bodies.specs.Taking.{AreArrays, AreNodesAt, AreOnlyNodes, Begun, FitShapes, IfBad}
pub use Rattle.sz_bodies.specs.Taking.{IsAnyText, IsArray, IsBegun, IsFitting, IsFlowOf, IsHeldBase}
pub use Rattle.sz_bodies.specs.Taking.{IsHeldHead, IsHeldName, IsName, IsNewNumber, IsNodeAt}
pub use Rattle.sz_bodies.specs.Taking.{IsOnlyNode, IsShortList, NoNodeAt, NoNodesAt, NoShapesFit}
pub use Rattle.sz_bodies.specs.Taking.{NoneIsLawful, NumberNone, Taken, said_bytes, said_in}
pub use Rattle.sz_bodies.specs.Taking.{site_over}
pub use Rattle.sz_bodies.specs.Tries.{IsTried}
pub use Rattle.sz_bodies.specs.declared.tries.TriedNode.{TriedNode}
