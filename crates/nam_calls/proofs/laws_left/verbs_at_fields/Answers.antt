use Rattle.nam_calls.proofs.FieldLemmas.{place_verbs, cell_verbs, move_field, collect_field, read_field}
use Rattle.nam_calls.proofs.FieldLemmas.{key_is, path_field}
use Rattle.nam_calls.proofs.laws_left.verbs_at_fields.Goals as goal

pub returns-clause-place : goal.returns-clause-place
returns-clause-place c = place_verbs

pub returns-clause-cells : goal.returns-clause-cells
returns-clause-cells c = cell_verbs

pub returns-clause-moves : goal.returns-clause-moves
returns-clause-moves c place cells workers fits = move_field place fits cells workers

pub returns-clause-collect : goal.returns-clause-collect
returns-clause-collect c = collect_field

pub returns-clause-read : goal.returns-clause-read
returns-clause-read c = read_field

pub returns-clause-path : goal.returns-clause-path
returns-clause-path c shape table key passed is l =
    (key_is shape table key passed, path_field shape table key passed is l)
