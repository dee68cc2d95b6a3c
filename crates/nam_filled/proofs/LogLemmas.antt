-- What becomes of a client's moves and collections in its log, by what its step lists.
use Rattle.std.proofs.Common.{List, Option, Some, [], ap, append-nil, false, inl, inr, length, refl, slice_get}
use Rattle.std.proofs.Common.{subst, sym, ℕ, ⊎_elim, ◌++◌, ◌∙◌, ◌∷◌, ◌≡◌, ◌⊎◌}
use Rattle.std.proofs.lemmas.Bool.{true≢false}
use Rattle.si_model.proofs.ListLemmas.{listed_append_left, listed_append_right}
use Rattle.si_model.specs.Causes.{has_collected}
use Rattle.si_model.specs.Lists.{Listed}
use Rattle.si_model.specs.declared.log.Event.TheVariants.{Collected}
use Rattle.si_model.specs.declared.log.Event.{Event}
use Rattle.nam_verbs.specs.declared.now.Now.{Now}
use Rattle.nam_catalog.specs.declared.shape.Shape.{Shape}
use Rattle.nam_filled.proofs.ListLemmas.{get_cases, get_end, get_front}
use Rattle.nam_filled.specs.Filled.{ArePassed, OthersCollected, Scene}
use Rattle.nam_filled.specs.Moves.{FillsIn, IsCollecting, Lists, NoEvent, OneEvent}
use Rattle.nam_filled.specs.Moves.{move_in, running_move}
use Rattle.nam_filled.specs.Turn.{CollectionsGo, LogGoes, NoneMore, OneMore}
use Rattle.nam_protocol.specs.declared.client.Answer.{Answer}
use Rattle.nam_protocol.specs.declared.client.CallPoint.{CallPoint}
use Rattle.nam_protocol.specs.declared.client.ClientState.{ClientState}

-- neither a collection runs nor a move that has claimed a cell
pub record IsCalm (shape : Shape) (call : Option (Now CallPoint Answer)) : Type 0 where
  pub none : running_move shape call ≡ []
  pub aside : (bucket cell : ℕ) → FillsIn shape call bucket cell → ⊥
  pub idle : IsCollecting call → ⊥

module _ (shape : Shape) (s t : Scene) (nth : ℕ) (client later : ClientState) where
  abbrev Goes : Type 0
  Goes = LogGoes shape s t nth client later

  told_stay : Lists client.log.events later.log.events → (event : Event) → Listed event client.log.events
      → Listed event later.log.events
  told_stay (NoEvent same) event listed = subst (Listed event) (sym same) listed
  told_stay (OneEvent more plain is) event listed =
      subst (Listed event) (sym is) (listed_append_left client.log.events (more ∷ []) event listed)

  got_stay : Lists client.log.events later.log.events → (n : ℕ) (event : Event)
      → slice_get client.log.events n ≡ Some event → slice_get later.log.events n ≡ Some event
  got_stay (NoEvent same) n event e = ap (λ es. slice_get es n) same ∙ e
  got_stay (OneEvent more plain is) n event e =
      ap (λ es. slice_get es n) is ∙ get_front client.log.events (more ∷ []) n event e

  none_more : Lists client.log.events later.log.events → CollectionsGo shape s t nth client later
  none_more (NoEvent same) =
      NoneMore (λ n bucket prefix entries e. ap (λ es. slice_get es n) (sym same) ∙ e)
  none_more (OneEvent more plain is) = NoneMore (λ n bucket prefix entries e.
      ⊎_elim (λ old. old)
      (λ (new : (n ≡ length client.log.events) × (more ≡ Collected bucket prefix entries false)).
      absurd (true≢false (sym (ap has_collected new.1) ∙ plain)))
      (get_cases client.log.events more n (Collected bucket prefix entries false)
      (ap (λ es. slice_get es n) (sym is) ∙ e)))

  -- where neither runs before
  pub calm_log : IsCalm shape client.call → Lists client.log.events later.log.events → Goes
  calm_log calm lists = record {
    moves = λ place move (event, at, is). (
      event,
      get_front later.log.events (running_move shape later.call) place event
          (got_stay lists place event
          (ap (λ es. slice_get es place) (sym (ap (λ es. client.log.events ++ es) calm.none
          ∙ append-nil client.log.events)) ∙ at)),
      is,
    );
    collected = λ has. ⊎_elim (λ (event, listed, is). inl (event, told_stay lists event listed, is))
        (λ runs. absurd (calm.idle runs)) has;
    collections = none_more lists;
  }

  -- where a move goes on
  pub work_log : (IsCollecting client.call → ⊥) → later.log.events ≡ client.log.events
      → running_move shape later.call ≡ running_move shape client.call → Goes
  work_log idle same runs = record {
    moves = λ place move (event, at, is).
        (event, ap (λ es. slice_get es place) (λ k. same k ++ runs k) ∙ at, is);
    collected = λ has. ⊎_elim (λ (event, listed, is). inl (event, subst (Listed event) (sym same) listed, is))
        (λ runs. absurd (idle runs)) has;
    collections = none_more (NoEvent same);
  }

  -- where a move ends
  pub end_log : (IsCollecting client.call → ⊥) → (cut told : Event) → running_move shape client.call ≡ cut ∷ []
      → later.log.events ≡ client.log.events ++ told ∷ [] → move_in told ≡ move_in cut
      → has_collected told ≡ false → Goes
  end_log idle cut told runs listed same plain = record {
    moves = λ place move (event, at, is).
        ⊎_elim
        (λ old. (
          event,
          get_front later.log.events (running_move shape later.call) place event
              (got_stay (OneEvent told plain listed) place event old),
          is,
        ))
        (λ (new : (place ≡ length client.log.events) × (cut ≡ event)). (
          told,
          get_front later.log.events (running_move shape later.call) place told
              (ap (slice_get later.log.events) new.0 ∙ ap (λ es. slice_get es (length client.log.events)) listed
              ∙ get_end client.log.events told),
          same ∙ ap move_in new.1 ∙ is,
        ))
        (get_cases client.log.events cut place event
        (ap (λ es. slice_get (client.log.events ++ es) place) (sym runs) ∙ at));
    collected = λ has. ⊎_elim
        (λ (event, is, collects). inl (event, told_stay (OneEvent told plain listed) event is, collects))
        (λ runs. absurd (idle runs)) has;
    collections = none_more (OneEvent told plain listed);
  }

  -- where a collection goes on, and where it is done
  pub collect_log : running_move shape client.call ≡ [] → later.log.events ≡ client.log.events
      → IsCollecting later.call → Goes
  collect_log none same runs = record {
    moves = λ place move (event, at, is). (
      event,
      get_front later.log.events (running_move shape later.call) place event
          (got_stay (NoEvent same) place event
          (ap (λ es. slice_get es place) (sym (ap (λ es. client.log.events ++ es) none
          ∙ append-nil client.log.events)) ∙ at)),
      is,
    );
    collected = λ has. inr runs;
    collections = none_more (NoEvent same);
  }

  pub collected_log : running_move shape client.call ≡ [] → (bucket prefix : ℕ) (entries : List ℕ)
      → later.log.events ≡ client.log.events ++ Collected bucket prefix entries false ∷ []
      → (OthersCollected shape t nth ⊎ ArePassed shape t nth bucket entries shape.cells) → Goes
  collected_log none bucket prefix entries listed passed =
      let told = Collected bucket prefix entries false in
      record {
        moves = λ place move (event, at, is). (
          event,
          get_front later.log.events (running_move shape later.call) place event
              (ap (λ es. slice_get es place) listed ∙ get_front client.log.events (told ∷ []) place event
              (ap (λ es. slice_get es place) (sym (ap (λ es. client.log.events ++ es) none
              ∙ append-nil client.log.events)) ∙ at)),
          is,
        );
        collected = λ has. inl (
          told,
          subst (Listed told) (sym listed)
              (listed_append_right client.log.events (told ∷ []) told (inl refl)),
          refl,
        );
        collections = OneMore bucket prefix entries listed passed;
      }
