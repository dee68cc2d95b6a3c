-- Each step of a store keeps what is said of keys, and each key word that stands.
use Rattle.std.proofs.Common.{None, Option, Some, inl, inr, refl, subst, sym, ℕ, ◌+◌, ◌∙◌, ◌≡◌}
use Rattle.std.proofs.lemmas.Bool.{cases_eq}
use Rattle.nam_calls.specs.Memory.{memory}
use Rattle.nam_catalog.specs.declared.shape.Shape.{Shape}
use Rattle.nam_ghost.proofs.KeyLemmas.{view_fits}
use Rattle.nam_ghost.specs.Ghost.{ghost_step, opening_ghost}
use Rattle.nam_ghost.specs.Keys.{IsUnused, KeyClientOk, KeysNext, KeysOk, key_view}
use Rattle.nam_ghost.specs.Steps.{chains_after}
use Rattle.nam_ghost.specs.Versions.{Chain}
use Rattle.nam_keys.proofs.ClientLemmas.{ask_tells, client_goes, client_tells}
use Rattle.nam_keys.proofs.OpeningLemmas.{keys_open}
use Rattle.nam_keys.proofs.StayLemmas.{client_stays}
use Rattle.nam_keys.proofs.UnusedLemmas.{chain_stays}
use Rattle.nam_keys.proofs.WordLemmas.{go_next, stand_stays}
use Rattle.nam_keys.specs.KeysLaw.{KeepsLaw, NextLaw, ReachedLaw}
use Rattle.nam_keys.specs.Tells.{KeysGo}
use Rattle.nam_layout.specs.declared.field.Field.{Field}
use Rattle.nam_layout.specs.declared.field.Field.TheVariants.{Key}
use Rattle.nam_protocol.specs.Client.{client_abandon, client_after, client_ask}
use Rattle.nam_protocol.specs.ClientFits.{NowFits}
use Rattle.nam_protocol.specs.CutClient.{client_cut}
use Rattle.nam_protocol.specs.declared.client.CallPoint.{CallPoint}
use Rattle.nam_protocol.specs.declared.client.ClientState.{ClientState}
use Rattle.nam_protocol.specs.declared.client.Open.{Open}
use Rattle.nam_store.proofs.BaseLemmas.{does_law}
use Rattle.nam_store.proofs.Lists.{everyone_put, everyone_set}
use Rattle.nam_store.proofs.ReachedLemmas.{reached_holds}
use Rattle.nam_store.specs.Base.{BaseOk, ClientOk}
use Rattle.nam_store.specs.Store.{Abandons, Asks, Cuts, Store, Takes, client_at, found_word, step, with_client}
use Rattle.nam_verbs.specs.declared.now.Now.TheVariants.{At}

module _ (shape : Shape) (store : Store) (base : BaseOk shape store) (nth : ℕ) (client : ClientState)
    (here : client_at store nth ≡ Some client) where
  abbrev m : Field → ℕ
  m = memory shape store.words

  own : ClientOk shape nth client
  own = base.clients nth client here

  -- 1. A word is taken

  module _ (place : CallPoint) (at : client.call ≡ Some (At place)) where
    abbrev now : Field → ℕ
    now = memory shape (step shape store nth client).words

    keys_go : KeysGo shape m now (key_view client.call)
    keys_go =
        let does = does_law shape store base nth client place here at in
        client_goes shape m now (nth + 1) client place at does.changes does.leaves (λ row. does.kinds (Key row))

    pub keys_next : KeysNext shape m now
    keys_next = go_next shape m now (key_view client.call) keys_go

    pub keys_step : (chains : ℕ → Chain) → KeysOk shape store chains
        → KeysOk shape (step shape store nth client)
        (chains_after client.txn place (found_word shape store client) chains)
    keys_step chains ok =
        let found = found_word shape store client in
        let words = (step shape store nth client).words in
        let after = client_after shape client found in
        let known = ok.clients nth client here in
        record {
          paths = stand_stays shape store.words words (key_view client.call)
              (view_fits shape base.limits client.txn client.call own.fits.2) known.at keys_go ok.paths;
          unused = λ row is none. elim (cases_eq (m (Key row)) 0) [
            | inl free ↦
                subst IsUnused
                (sym (chain_stays shape base.limits m row free chains client.txn place own.fits.1
                (subst (NowFits shape client.txn) at own.fits.2) known.claims found)) (ok.unused row is free)
            | inr some ↦ absurd (some (sym (keys_next row is some) ∙ none))
          ];
          clients = everyone_set (λ k c. KeyClientOk shape m c) (λ k c. KeyClientOk shape now c) store.clients nth
              after ok.clients
              (λ other c apart e o.
              client_stays shape m now keys_next base.limits c (base.clients other c e).fits o)
              (client_tells shape base.limits m now keys_next found client place at own.fits
              (client_stays shape m now keys_next base.limits client own.fits known)
              (refl, (does_law shape store base nth client place here at).changes));
        }

  -- 2. The client is asked, gives its transaction up, or is stopped

  module _ (chains : ℕ → Chain) (ok : KeysOk shape store chains) where
    unmoved : (after : ClientState) → KeyClientOk shape m after → KeysOk shape (with_client store nth after) chains
    unmoved after knows = record {
      paths = ok.paths;
      unused = ok.unused;
      clients = everyone_put (λ k c. KeyClientOk shape m c) store.clients nth after ok.clients knows;
    }

    known : KeyClientOk shape m client
    known = ok.clients nth client here

    pub keys_cut : KeysOk shape (with_client store nth (client_cut client)) chains
    keys_cut =
        unmoved (client_cut client) record { at = known.at; claims = known.claims; scanned = known.scanned }

    given_up : (opened : Option Open) → KeyClientOk shape m (record client { txn = opened })
        → KeyClientOk shape m (client_abandon (record client { txn = opened }))
    given_up None knows = knows
    given_up (Some attempt) knows = record { at = knows.at; claims = tt; scanned = knows.scanned }

    pub keys_abandoned : KeysOk shape (with_client store nth (client_abandon client)) chains
    keys_abandoned = unmoved (client_abandon client) (given_up client.txn known)

-- 3. One step, and every store

pub keys_keep : KeepsLaw
keys_keep shape before _ (Takes nth client place here runs at) ghost base ok =
    keys_step shape before base nth client here place at ghost.chains ok
keys_keep shape before _ (Asks nth client asked here may words) ghost base ok =
    let m = memory shape before.words in
    unmoved shape before base nth client here ghost.chains ok (client_ask shape client asked)
    (ask_tells shape m client asked (ok.clients nth client here))
keys_keep shape before _ (Abandons nth client here rests) ghost base ok =
    keys_abandoned shape before base nth client here ghost.chains ok
keys_keep shape before _ (Cuts nth client here) ghost base ok =
    keys_cut shape before base nth client here ghost.chains ok

pub next_law : NextLaw
next_law shape before _ (Takes nth client place here runs at) base =
    keys_next shape before base nth client here place at
next_law shape before _ (Asks nth client asked here may words) base = λ row is some. refl
next_law shape before _ (Abandons nth client here rests) base = λ row is some. refl
next_law shape before _ (Cuts nth client here) base = λ row is some. refl

pub keys_reached : ReachedLaw
keys_reached shape limits rows loaded =
    reached_holds shape rows (opening_ghost shape rows) (ghost_step shape) limits loaded
    (λ store ghost. KeysOk shape store ghost.chains) (keys_open shape limits rows loaded)
    (λ before after ghost goes base ok. keys_keep shape before after goes ghost base ok)
