-- Each client keeps what holds of it by itself.
use Rattle.std.proofs.Common.{Some, arith, false, ℕ, ◌+◌, ◌≡◌, ◌<◌}
use Rattle.nam_verbs.specs.declared.now.Now.TheVariants.{At}
use Rattle.nam_catalog.specs.declared.shape.Shape.{Shape}
use Rattle.nam_catalog.specs.Fits.{FitsLimits}
use Rattle.nam_calls.specs.Holds.{IsWord}
use Rattle.nam_protocol.specs.declared.client.Call.{Call}
use Rattle.nam_protocol.specs.declared.client.CallPoint.{CallPoint}
use Rattle.nam_protocol.specs.declared.client.ClientState.{ClientState}
use Rattle.nam_protocol.specs.Client.{client_abandon, client_after, client_ask}
use Rattle.nam_protocol.specs.CutClient.{client_cut}
use Rattle.nam_protocol.specs.HoldsWords.{CallHolds}
use Rattle.nam_protocol.specs.Own.{MayAsk, Rests}
use Rattle.nam_protocol.specs.Telling.{new_client}
use Rattle.nam_protocol.proofs.AnswersClient.{abandoned_carries, asked_carries, cut_carries, new_carries, word_carries}
use Rattle.nam_protocol.proofs.FallsClient.{client_falls}
use Rattle.nam_protocol.proofs.HoldsClient.{client_keeps}
use Rattle.nam_protocol.proofs.OpenLemmas.{open_abandoned, open_asked, open_cut, open_new, open_word}
use Rattle.nam_protocol.proofs.OwnLemmas.{fits_abandoned, fits_asked, own_abandoned, own_asked, own_cut, own_new}
use Rattle.nam_protocol.proofs.OwnLemmas.{own_word}
use Rattle.nam_protocol.proofs.StageLemmas.{stage_abandoned, stage_asked, stage_cut, stage_new, stage_word}
use Rattle.nam_protocol.proofs.UnreadLemmas.{unread_law}
use Rattle.nam_store.specs.Base.{ClientOk}

module _ (shape : Shape) (limits : FitsLimits shape) (nth : ℕ) where
  abbrev Ok : ClientState → Type 0
  Ok client = ClientOk shape nth client

  module _ (client : ClientState) (ok : Ok client) where
    pub client_takes : (place : CallPoint) (found : ℕ) → client.cut ≡ false → client.call ≡ Some (At place)
        → IsWord found → Ok (client_after shape client found)
    client_takes place found runs at is = record {
      own = own_word shape (nth + 1) client place found ok.fits at ok.own;
      fits = (client_falls shape limits client place found ok.fits runs at).0;
      opened = open_word shape client found ok.opened;
      stage = stage_word shape client place found ok.fits at ok.stage;
      unread = (unread_law.keeps shape client ok.unread).word found;
      carries = word_carries shape client found ok.fits ok.carries;
      holds = (client_keeps shape).word client found ok.holds is;
    }

    pub client_asked : (asked : Call) → MayAsk shape client asked → CallHolds asked → Ok (client_ask shape client asked)
    client_asked asked may words = record {
      own = own_asked shape (nth + 1) client asked may ok.own;
      fits = fits_asked shape limits client asked may ok.fits;
      opened = open_asked shape client asked may;
      stage = stage_asked shape client asked may;
      unread = (unread_law.keeps shape client ok.unread).asked asked may.rests;
      carries = asked_carries shape client asked may ok.carries;
      holds = (client_keeps shape).asked client asked ok.holds words;
    }

    pub client_abandons : Rests client.call → Ok (client_abandon client)
    client_abandons rests = record {
      own = own_abandoned shape (nth + 1) client ok.own;
      fits = fits_abandoned shape client rests ok.fits;
      opened = open_abandoned client rests;
      stage = stage_abandoned client rests;
      unread = (unread_law.keeps shape client ok.unread).abandoned;
      carries = abandoned_carries client ok.carries;
      holds = (client_keeps shape).abandoned client ok.holds;
    }

    pub client_stops : Ok (client_cut client)
    client_stops = record {
      own = own_cut shape (nth + 1) client ok.own;
      fits = ok.fits;
      opened = open_cut client ok.opened;
      stage = stage_cut client ok.stage;
      unread = (unread_law.keeps shape client ok.unread).stopped;
      carries = cut_carries client ok.carries;
      holds = (client_keeps shape).cut client ok.holds;
    }

  pub client_new : nth < shape.workers → Ok (new_client (nth + 1) shape.start)
  client_new less = record {
    own = own_new shape (nth + 1);
    fits = ((omega arith, omega arith), tt, tt, limits.start);
    opened = open_new (nth + 1) shape.start;
    stage = stage_new (nth + 1) shape.start;
    unread = unread_law.new (nth + 1) shape.start;
    carries = new_carries (nth + 1) shape.start;
    holds = (client_keeps shape).new (nth + 1) shape.start limits.start;
  }
