-- Lineages that fit as needed can be placed.
--
-- The key idea: a store asks for the parts that the list needs alone, and of each of them what the measure asks says
-- of its shapes what a store does.
use Rattle.sz_store.proofs.Placing.{needed-part}
use Rattle.sz_shelf.specs.Fitting.{FittingLineagesFitAsNeeded, NeededPartsCanBePlaced}

pub fits-needed : FittingLineagesFitAsNeeded
fits-needed m list k p fits = record { full = fits.full; pay = fits.pay; comp = fits.comp }

pub needed-placed : NeededPartsCanBePlaced
needed-placed s inputs list p fits m need = needed-part s inputs list p m fits need
