use Rattle.std.proofs.Common.{length, refl}
use Rattle.nam_overflow.proofs.FillLemmas.{fills}
use Rattle.nam_overflow.proofs.laws.fill_law.Goals as goal

pub returns : goal.returns
returns c cells cell owner begin ending words some =
    fills cells cell owner record { begin = begin; «end» = ending; value = words } (length words) refl some
