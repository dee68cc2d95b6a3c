use Rattle.std.proofs.Common.{Some, None}
use Rattle.nam_calls.specs.declared.record.CurrentEnd.TheVariants.{Found, Unsure, GoOld}
use Rattle.nam_record.proofs.CurrentLemmas.{current_tells, told_ends}
use Rattle.nam_record.proofs.laws.current_law.Goals as goal

pub returns-clause-deleted : goal.returns-clause-deleted
returns-clause-deleted c = λ place fits seen steps.
    let some = fits.least_width in
    (current_tells place seen some steps (Found None), told_ends place seen some steps (Found None))

pub returns-clause-found : goal.returns-clause-found
returns-clause-found c = λ place fits seen steps value.
    let some = fits.least_width in
    (current_tells place seen some steps (Found (Some value)), told_ends place seen some steps (Found (Some value)))

pub returns-clause-unsure : goal.returns-clause-unsure
returns-clause-unsure c = λ place fits seen steps value header.
    let some = fits.least_width in
    (current_tells place seen some steps (Unsure value header), told_ends place seen some steps (Unsure value header))

pub returns-clause-old : goal.returns-clause-old
returns-clause-old c = λ place fits seen steps.
    let some = fits.least_width in (current_tells place seen some steps GoOld, told_ends place seen some steps GoOld)
