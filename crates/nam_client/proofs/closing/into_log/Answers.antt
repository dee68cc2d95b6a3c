use Rattle.std.proofs.Common.{◌≡◌, ◌∙◌, ap, rules}
use Rattle.nam_protocol.specs.CutClient.{finish_of}
use Rattle.nam_client.specs.Registers.{client_of, medic_of}
use Rattle.nam_client.specs.Closing.{finish_listed}
use Rattle.nam_client.proofs.ClosingLemmas.{closed_is}
use Rattle.nam_client.proofs.closing.into_log.Goals as goal

pub returns : goal.returns
returns c shape hand =
    closed_is shape c.args.registers c.list_call.new.a c.list_finish.new.a c.into_log.result
    (c.list_call.ensures.log shape hand) c.list_call.ensures.finish c.list_finish.ensures c.into_log.ensures
