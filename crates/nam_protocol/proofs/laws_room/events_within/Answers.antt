use Rattle.nam_protocol.proofs.EventsClient.{client_events}
use Rattle.nam_protocol.proofs.EventsSession.{events_within}
use Rattle.nam_protocol.proofs.laws_room.events_within.Goals as goal

pub returns-clause-client : goal.returns-clause-client
returns-clause-client c = client_events

pub returns-clause-session : goal.returns-clause-session
returns-clause-session c = events_within
