-- The asks of the machine of two nodes: one backward over both, one backward over the second input,
-- and one forward over both.
use Rattle.std.specs.Prelude.{List, [], ◌∷◌}
use Rattle.sz_cells.specs.Extent.{Extent}
use Rattle.sz_cells.specs.Cells.{named_in}
use Rattle.sz_spec.specs.declared.modes.Dir.TheVariants.{Back, Forward}
use Rattle.sz_core.specs.States.{Query}

abbrev pub queries : Extent → List Query
queries e =
    record {
      dir = Back;
      path = record { node = 1; input = 0 } ∷ record { node = 0; input = 0 } ∷ [];
      cells = named_in e (record { row = 0; col = 69 } ∷ []);
    }
    ∷ record {
      dir = Back;
      path = record { node = 1; input = 1 } ∷ [];
      cells = named_in e (record { row = 0; col = 7 } ∷ []);
    }
    ∷ record {
      dir = Forward;
      path = record { node = 0; input = 0 } ∷ record { node = 1; input = 0 } ∷ [];
      cells = named_in e (record { row = 0; col = 65 } ∷ []);
    }
    ∷ []
