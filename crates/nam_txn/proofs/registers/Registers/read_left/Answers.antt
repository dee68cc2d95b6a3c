use Rattle.std.proofs.Common.{◌≡◌, ◌∙◌, [], ap, arith}
use Rattle.nam_verbs.specs.Now.{left_now}
use Rattle.nam_calls.specs.Reading.{read_left}
use Rattle.nam_txn.specs.Txn.{point_of}
use Rattle.nam_txn.proofs.registers.Registers.read_left.Goals as goal

pub returns-clause-value : goal.returns-clause-value
returns-clause-value c =
    let reader = c.args.self.now.reader in
    let left : c.left.result ≡ read_left reader.sight (point_of reader.state) =
    c.left.ensures.value [] ∙ ap (left_now (read_left reader.sight)) c.requires.0 in
    let within = c.requires.1 in
    let least = c.min.ensures in
    grind (arith, left, within, least)
