use Rattle.nam_record.proofs.RecordLemmas.{install_writes, only_writes}
use Rattle.nam_record.proofs.laws.install_law.Goals as goal

pub returns-clause-writes : goal.returns-clause-writes
returns-clause-writes c = λ place fits value wide count header.
    install_writes place fits.least_width count header value wide

pub returns-clause-only : goal.returns-clause-only
returns-clause-only c = λ place fits value wide count header steps.
    only_writes place fits.least_width count header value wide steps
