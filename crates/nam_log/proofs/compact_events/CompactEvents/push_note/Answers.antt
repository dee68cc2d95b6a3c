use Rattle.std.proofs.Common.{sym, append_assoc}
use Rattle.nam_log.proofs.NoteLemmas.{events_one_more}
use Rattle.nam_log.proofs.compact_events.CompactEvents.push_note.Goals as goal

pub returns-else-room-eq0-clause-items : goal.returns-else-room-eq0-clause-items
returns-else-room-eq0-clause-items c =
    rw (c.push.ensures.items, events_one_more, ← c.self.view_is) (sym (append_assoc c.self.inside.listed.items _ _))
