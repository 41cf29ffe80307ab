-- The words that clauses of this crate are written in, each from the file that defines it.
pub use Rattle.std.specs.Prelude.{IfOk, Ok, length, true}
pub use Rattle.serde_json.specs.View.{view}
pub use Rattle.sz_script.specs.Layers.{is_layer, is_row, is_value, value_of, values_of_layer}
pub use Rattle.sz_script.specs.Layers.{values_of_row}
pub use Rattle.sz_script.specs.Names.{is_name}
pub use Rattle.sz_script.specs.Reading.{reading}
pub use Rattle.sz_writing.specs.Orders.{array_order}
pub use Rattle.sz_writing.specs.Written.{AreLayers, IsOrder, IsWritten, layer_long, order_data}
pub use Rattle.sz_writing.specs.Written.{row_long, value_long}
