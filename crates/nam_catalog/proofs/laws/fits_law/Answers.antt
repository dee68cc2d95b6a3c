use Rattle.nam_catalog.proofs.FitsLemmas.{fits_limits, has_no_fault}
use Rattle.nam_catalog.proofs.laws.fits_law.Goals as goal

pub returns : goal.returns
returns c = λ shape. (fits_limits shape, has_no_fault shape)
