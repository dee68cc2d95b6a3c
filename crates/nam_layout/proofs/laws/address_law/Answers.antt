use Rattle.nam_layout.proofs.AddressLemmas.{found_there, are_one}
use Rattle.nam_layout.proofs.FieldAtLemmas.{stands_there}
use Rattle.nam_layout.proofs.laws.address_law.Goals as goal

pub returns-clause-field : goal.returns-clause-field
returns-clause-field c = found_there

pub returns-clause-address : goal.returns-clause-address
returns-clause-address c =
    λ shape at within. let there = stands_there shape at within in (there.field, there.address_is)

pub returns-clause-distinct : goal.returns-clause-distinct
returns-clause-distinct c = are_one
