-- What is prepared once for an operator and its inputs.
use Rattle.std.specs.Prelude.{List, if◌then◌else◌}
use Rattle.sz_spec.specs.declared.op.Op.{Op}
use Rattle.sz_spec.specs.Values.{Grid}
use Rattle.sz_ops_region.specs.Regions as regions
use Rattle.sz_ops.specs.declared.aid.Aid.{Aid}
use Rattle.sz_ops.specs.declared.aid.Aid.TheVariants.{Nothing, Components}

-- what is prepared for an operator over these inputs: for connected regions the component of each
-- cell, and else nothing
abbrev pub aid_of : Op → List Grid → Aid
aid_of op inputs =
    if regions.is_regions op then Components (regions.aid_of op inputs) else Nothing
