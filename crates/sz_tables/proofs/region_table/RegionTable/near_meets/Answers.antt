-- Each side has its own look.
use Rattle.sz_tables.proofs.region_table.RegionTable.near_meets.Goals as goal

pub returns-in-Back : goal.returns-in-Back
returns-in-Back c = rw c.in-Back.is c.out_set_meets.ensures

pub returns-in-Forward : goal.returns-in-Forward
returns-in-Forward c = rw c.in-Forward.is c.in_set_meets.ensures
