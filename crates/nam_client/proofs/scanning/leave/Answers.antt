use Rattle.nam_client.proofs.ScanLemmas.{left_room, left_same, left_more}
use Rattle.std.proofs.Common.{refl}
use Rattle.nam_client.proofs.scanning.leave.Goals as goal
use Rattle.nam_client.proofs.scanning.leave.Goals.{in-Some, in_default}

pub push-requires : goal.push-requires
push-requires c = left_room c.args.layout.now c.args.a.now c.args.position c.args.a.now.scan c.requires

pub list_rows-requires-clause-rise : goal.list_rows-requires-clause-rise
list_rows-requires-clause-rise c =
    let shape = c.args.layout.now in
    let a = c.args.a.now in
    elim c.match-value.branch [
      | in-Some w ↦
          rw (w.a-is, w.push.ensures.items)
          (left_more shape a c.args.position a.scan record {
            position = c.args.position;
            key = c.args.key;
            value = w.in-Some.value;
          } refl c.requires).rise
      | in_default w ↦ rw w.a-is (left_same shape a c.args.position a.scan c.requires).rise
    ]

pub list_rows-requires-clause-reads : goal.list_rows-requires-clause-reads
list_rows-requires-clause-reads c =
    let shape = c.args.layout.now in
    let a = c.args.a.now in
    elim c.match-value.branch [
      | in-Some w ↦
          rw (w.a-is, w.push.ensures.items)
          (left_more shape a c.args.position a.scan record {
            position = c.args.position;
            key = c.args.key;
            value = w.in-Some.value;
          } refl c.requires).reads
      | in_default w ↦ rw w.a-is (left_same shape a c.args.position a.scan c.requires).reads
    ]

pub list_rows-requires-clause-word : goal.list_rows-requires-clause-word
list_rows-requires-clause-word c =
    let shape = c.args.layout.now in
    let a = c.args.a.now in
    elim c.match-value.branch [
      | in-Some w ↦
          rw (w.a-is, w.push.ensures.items)
          (left_more shape a c.args.position a.scan record {
            position = c.args.position;
            key = c.args.key;
            value = w.in-Some.value;
          } refl c.requires).word
      | in_default w ↦ rw w.a-is (left_same shape a c.args.position a.scan c.requires).word
    ]
