use Rattle.std.proofs.Common.{[], ◌≡◌, ◌∷◌, ◌++◌, List, map, ap, sym, ◌∙◌, subst, append_assoc}
use Rattle.std.specs.List.{AllByRecursion}
use Rattle.std.specs.Prelude.{All}
use Rattle.std.specs.Vec.Iter.{into_iter_items}
use Rattle.std.proofs.lemmas.List.Elements.{All-head, All-tail}
use Rattle.si_model.specs.declared.log.Log.{Log}
use Rattle.nam_catalog.specs.declared.shape.Shape.{Shape}
use Rattle.nam_protocol.specs.declared.session.SessionState.{SessionState}
use Rattle.nam_protocol.specs.Session.{session_log}
use Rattle.nam_protocol.specs.World.{HasNoVerb}
use Rattle.nam_core.proofs.world.logs_of.Goals as goal

abbrev logs_in : {S : Type 0} → Shape → (S → SessionState) → List S → List Log
logs_in shape session sessions = map (session_log shape) (map session sessions)

-- the log of the next session follows
pushed : {S : Type 0} (shape : Shape) (session : S → SessionState) (logs more : List Log) (log : Log) (item : S)
    (rest all : List S) → more ≡ logs ++ log ∷ [] → log ≡ session_log shape (session item) → all ≡ item ∷ rest
    → more ++ logs_in shape session rest ≡ logs ++ logs_in shape session all
pushed shape session logs more log item rest all m l a =
    ap (λ (ls : List Log). ls ++ logs_in shape session rest) m
    ∙ append_assoc logs (log ∷ []) (logs_in shape session rest)
    ∙ ap (λ (x : Log). logs ++ x ∷ logs_in shape session rest) l
    ∙ ap (λ ls. logs ++ logs_in shape session ls) (sym a)

pub loop-session-preserved : goal.loop-session-preserved
loop-session-preserved g c =
    let shape = c.args.layout.now in
    let session = g.S.Runs.session in
    let rest = into_iter_items c.next.new.self in
    let next = c.in-Some.ensures.steps.0 in
    record {
      of =
          All-tail (g.S.Runs.IsOf c.args.layout.now) c.in-Some.session rest
          (subst (All (g.S.Runs.IsOf c.args.layout.now)) next c.loop-session.invariant.of);
      ended =
          (subst (λ sessions. AllByRecursion (HasNoVerb shape) (map session sessions)) next
          c.loop-session.invariant.ended).1;
      rest =
          pushed shape session c.loop-session.logs c.push.new.self c.into_log.result c.in-Some.session rest
          (into_iter_items c.loop-session.session-iterator) c.in_ok-push.ensures.ok (c.into_log.ensures shape (All-head (g.S.Runs.IsOf shape) c.in-Some.session rest (subst (All (g.S.Runs.IsOf shape)) next c.loop-session.invariant.of))) next
          ∙ c.loop-session.invariant.rest;
    }
