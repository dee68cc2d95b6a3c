use Rattle.std.proofs.Common.{refl, rules, sym, ◌∙◌, subst}
use Rattle.nam_client.specs.Room.{ScanStands}
use Rattle.nam_client.proofs.TakeStart.{point_in, is_open, still_rows, comes, good, client}
use Rattle.nam_client.proofs.scanning.take_scan.Goals as goal

pub on_answer-requires : goal.on_answer-requires
on_answer-requires c =
    let shape = c.args.layout.now in
    let a = c.args.a.now in
    let scan = c.in-Some.scan in
    let at = point_in scan.state (subst ScanStands c.in-Some.is (rw c.requires.step at c.requires.holds.at).0) in
    comes shape a scan c.requires.of c.requires.holds c.requires.step c.in-Some.is
    c.position-position.ensures.fits at.0 at.1 c.args.found c.take.new.self c.take.ensures.of c.take.ensures.value
    c.position-position.result c.position-position.ensures.value (sym c.is_over.ensures ∙ c.if-is_over.true)

pub returns-then-is_over-clause-client : goal.returns-then-is_over-clause-client
returns-then-is_over-clause-client c =
    let shape = c.args.layout.now in
    let a = c.args.a.now in
    let scan = c.in-Some.scan in
    let at = point_in scan.state (subst ScanStands c.in-Some.is (rw c.requires.step at c.requires.holds.at).0) in
    client shape a scan c.requires.of c.requires.holds c.requires.step c.in-Some.is
    c.position-position.ensures.fits at.0 at.1 c.args.found c.take.new.self c.take.ensures.of c.take.ensures.value
    c.position-position.result c.position-position.ensures.value (sym c.is_over.ensures ∙ c.if-is_over.true)
    c.on_answer.new.a (c.on_answer.ensures c.take.new.self refl)

pub returns-then-is_over-clause-spare : goal.returns-then-is_over-clause-spare
returns-then-is_over-clause-spare c =
    let shape = c.args.layout.now in
    let a = c.args.a.now in
    let scan = c.in-Some.scan in
    let at = point_in scan.state (subst ScanStands c.in-Some.is (rw c.requires.step at c.requires.holds.at).0) in
    (good shape a scan c.requires.of c.requires.holds c.requires.step c.in-Some.is
    c.position-position.ensures.fits at.0 at.1 c.args.found c.take.new.self c.take.ensures.of c.take.ensures.value
    c.position-position.result c.position-position.ensures.value (sym c.is_over.ensures ∙ c.if-is_over.true)
    c.on_answer.new.a (c.on_answer.ensures c.take.new.self refl)).spare

pub returns-then-is_over-clause-txn : goal.returns-then-is_over-clause-txn
returns-then-is_over-clause-txn c =
    let shape = c.args.layout.now in
    let a = c.args.a.now in
    let scan = c.in-Some.scan in
    let at = point_in scan.state (subst ScanStands c.in-Some.is (rw c.requires.step at c.requires.holds.at).0) in
    let same = (good shape a scan c.requires.of c.requires.holds c.requires.step c.in-Some.is
    c.position-position.ensures.fits at.0 at.1 c.args.found c.take.new.self c.take.ensures.of c.take.ensures.value
    c.position-position.result c.position-position.ensures.value (sym c.is_over.ensures ∙ c.if-is_over.true)
    c.on_answer.new.a (c.on_answer.ensures c.take.new.self refl)).txn in
    λ e. rw same (c.requires.of.txn (is_open shape a scan c.requires.of c.requires.holds c.requires.step c.in-Some.is
    c.position-position.ensures.fits at.0 at.1))

pub returns-then-is_over-clause-hand : goal.returns-then-is_over-clause-hand
returns-then-is_over-clause-hand c =
    let shape = c.args.layout.now in
    let a = c.args.a.now in
    let scan = c.in-Some.scan in
    let at = point_in scan.state (subst ScanStands c.in-Some.is (rw c.requires.step at c.requires.holds.at).0) in
    (good shape a scan c.requires.of c.requires.holds c.requires.step c.in-Some.is
    c.position-position.ensures.fits at.0 at.1 c.args.found c.take.new.self c.take.ensures.of c.take.ensures.value
    c.position-position.result c.position-position.ensures.value (sym c.is_over.ensures ∙ c.if-is_over.true)
    c.on_answer.new.a (c.on_answer.ensures c.take.new.self refl)).hand

pub returns-then-is_over-clause-room : goal.returns-then-is_over-clause-room
returns-then-is_over-clause-room c =
    let shape = c.args.layout.now in
    let a = c.args.a.now in
    let scan = c.in-Some.scan in
    let at = point_in scan.state (subst ScanStands c.in-Some.is (rw c.requires.step at c.requires.holds.at).0) in
    (good shape a scan c.requires.of c.requires.holds c.requires.step c.in-Some.is
    c.position-position.ensures.fits at.0 at.1 c.args.found c.take.new.self c.take.ensures.of c.take.ensures.value
    c.position-position.result c.position-position.ensures.value (sym c.is_over.ensures ∙ c.if-is_over.true)
    c.on_answer.new.a (c.on_answer.ensures c.take.new.self refl)).room

pub returns-then-is_over-clause-at : goal.returns-then-is_over-clause-at
returns-then-is_over-clause-at c =
    let shape = c.args.layout.now in
    let a = c.args.a.now in
    let scan = c.in-Some.scan in
    let at = point_in scan.state (subst ScanStands c.in-Some.is (rw c.requires.step at c.requires.holds.at).0) in
    (good shape a scan c.requires.of c.requires.holds c.requires.step c.in-Some.is
    c.position-position.ensures.fits at.0 at.1 c.args.found c.take.new.self c.take.ensures.of c.take.ensures.value
    c.position-position.result c.position-position.ensures.value (sym c.is_over.ensures ∙ c.if-is_over.true)
    c.on_answer.new.a (c.on_answer.ensures c.take.new.self refl)).at

pub returns-then-is_over-clause-calm : goal.returns-then-is_over-clause-calm
returns-then-is_over-clause-calm c =
    let shape = c.args.layout.now in
    let a = c.args.a.now in
    let scan = c.in-Some.scan in
    let at = point_in scan.state (subst ScanStands c.in-Some.is (rw c.requires.step at c.requires.holds.at).0) in
    (good shape a scan c.requires.of c.requires.holds c.requires.step c.in-Some.is
    c.position-position.ensures.fits at.0 at.1 c.args.found c.take.new.self c.take.ensures.of c.take.ensures.value
    c.position-position.result c.position-position.ensures.value (sym c.is_over.ensures ∙ c.if-is_over.true)
    c.on_answer.new.a (c.on_answer.ensures c.take.new.self refl)).calm

pub returns-else-is_over-clause-at : goal.returns-else-is_over-clause-at
returns-else-is_over-clause-at c =
    let shape = c.args.layout.now in
    let a = c.args.a.now in
    let scan = c.in-Some.scan in
    let at = point_in scan.state (subst ScanStands c.in-Some.is (rw c.requires.step at c.requires.holds.at).0) in
    rw c.requires.step (
      search rules,
      still_rows shape a scan c.requires.of c.requires.holds c.requires.step c.in-Some.is
          c.position-position.ensures.fits at.0 at.1 c.args.found c.take.new.self c.take.ensures.of c.take.ensures.value,
    )
