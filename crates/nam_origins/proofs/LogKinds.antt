-- The kinds of steps of a client's log: none, an event that is no commit, a snapshot, and a commit.
use Rattle.std.proofs.Common.{List, [], ap, arith, length, refl, sym, ℕ, ◌++◌, ◌+◌, ◌∙◌, ◌∷◌, ◌≡◌}
use Rattle.std.proofs.lemmas.List.{append-nil, take_all}
use Rattle.nam_origins.specs.Lists.{LogGoes, tell_of}
use Rattle.nam_origins.specs.Logs.{pending}
use Rattle.nam_protocol.specs.Log.{attempt_of}
use Rattle.nam_protocol.specs.declared.client.ClientState.{ClientState}
use Rattle.nam_protocol.specs.declared.client.Open.{Open}
use Rattle.si_model.specs.Commits.{Published, published_at}
use Rattle.si_model.specs.Tells.{Tell, snaps_in, total, writes_in}
use Rattle.si_model.specs.declared.log.Event.{Event}
use Rattle.si_model.specs.declared.log.Outcome.{Outcome}
use Rattle.si_model.specs.declared.log.Outcome.TheVariants.{Commit}

-- the log lists no written item and no snapshot more, of the same worker
pub record SameItems (before after : ClientState) : Type 0 where
  pub worker : after.worker ≡ before.worker
  pub writes : after.log.writes ≡ before.log.writes
  pub snaps : after.log.snaps ≡ before.log.snaps

-- the event is no commit
abbrev pub IsNoCommit : Event → Type 0
IsNoCommit e = (j : ℕ) (t : Tell) → published_at j t e ≡ []

module _ (was : List (List ℕ)) (before after : ClientState) where
  pub log_stands : SameItems before after → after.log.events ≡ before.log.events
      → pending after.txn after.call ≡ was → LogGoes was before after []
  log_stands same events pends = record {
    events_more = [];
    writes_more = [];
    snaps_more = [];
    own = [];
    worker = same.worker;
    events = events ∙ sym (append-nil before.log.events);
    writes = same.writes ∙ sym (append-nil before.log.writes);
    snaps = same.snaps ∙ sym (append-nil before.log.snaps);
    moves = append-nil was ∙ sym pends;
    all_writes = refl;
    all_snaps = refl;
    lists = refl;
  }

  -- it owns these of the snapshots that are pending
  pub log_adds : (e : Event) (own : List (List ℕ)) → SameItems before after
      → after.log.events ≡ before.log.events ++ e ∷ [] → was ≡ own ++ pending after.txn after.call
      → total snaps_in (e ∷ []) ≡ length own → total writes_in (e ∷ []) ≡ 0 → IsNoCommit e
      → LogGoes was before after []
  log_adds e own same events moves snaps writes no_commit = record {
    events_more = e ∷ [];
    writes_more = [];
    snaps_more = [];
    own = own;
    worker = same.worker;
    events = events;
    writes = same.writes ∙ sym (append-nil before.log.writes);
    snaps = same.snaps ∙ sym (append-nil before.log.snaps);
    moves = append-nil was ∙ moves;
    all_writes = writes;
    all_snaps = snaps;
    lists = ap (λ cs. cs ++ []) (no_commit before.worker (tell_of e [] own));
  }

-- the snapshot of a transaction or of a collection that begins
pub log_takes : (before after : ClientState) (seen : List ℕ) → after.worker ≡ before.worker
    → after.log.events ≡ before.log.events → after.log.writes ≡ before.log.writes
    → after.log.snaps ≡ before.log.snaps ++ seen ∷ [] → pending after.txn after.call ≡ seen ∷ []
    → LogGoes [] before after []
log_takes before after seen worker events writes snaps pends = record {
  events_more = [];
  writes_more = [];
  snaps_more = seen ∷ [];
  own = [];
  worker = worker;
  events = events ∙ sym (append-nil before.log.events);
  writes = writes ∙ sym (append-nil before.log.writes);
  snaps = snaps;
  moves = sym pends;
  all_writes = refl;
  all_snaps = refl;
  lists = refl;
}

-- an attempt that has ended and is no commit, with its snapshot
pub log_ends : (before after : ClientState) (seen : List ℕ) (attempt : Open) (how : Outcome) → SameItems before after
    → after.log.events ≡ before.log.events ++ attempt_of attempt how 0 ∷ [] → pending after.txn after.call ≡ []
    → IsNoCommit (attempt_of attempt how 0) → LogGoes (seen ∷ []) before after []
log_ends before after seen attempt how same events none no_commit =
    log_adds (seen ∷ []) before after (attempt_of attempt how 0) (seen ∷ []) same events
    (ap (λ later. seen ∷ later) (sym none)) refl refl no_commit

-- a commit, with its write set and its snapshot
abbrev pub listed_commit : ℕ → Open → ℕ → List ℕ → Published
listed_commit worker attempt number seen = record {
  line = record {
    worker = worker;
    number = number;
    prefix = attempt.prefix;
    txn = attempt.txn;
    writes = attempt.state.writes;
  };
  snap = seen;
  ops = [];
}

pub log_commits : (before after : ClientState) (seen : List ℕ) (attempt : Open) (number : ℕ)
    → after.worker ≡ before.worker
    → after.log.events ≡ before.log.events ++ attempt_of attempt (Commit number) (length attempt.state.writes) ∷ []
    → after.log.writes ≡ before.log.writes ++ attempt.state.writes → after.log.snaps ≡ before.log.snaps
    → pending after.txn after.call ≡ []
    → LogGoes (seen ∷ []) before after (listed_commit before.worker attempt number seen ∷ [])
log_commits before after seen attempt number worker events writes snaps none = record {
  events_more = attempt_of attempt (Commit number) (length attempt.state.writes) ∷ [];
  writes_more = attempt.state.writes;
  snaps_more = [];
  own = seen ∷ [];
  worker = worker;
  events = events;
  writes = writes;
  snaps = snaps ∙ sym (append-nil before.log.snaps);
  moves = ap (λ later. seen ∷ later) (sym none);
  all_writes = (let n = length attempt.state.writes in let z : n + 0 ≡ n = omega arith in z);
  all_snaps = refl;
  lists = ap (λ ws. record (listed_commit before.worker attempt number seen) {
    line = record {
      worker = before.worker;
      number = number;
      prefix = attempt.prefix;
      txn = attempt.txn;
      writes = ws;
    };
  } ∷ []) (take_all (length attempt.state.writes) attempt.state.writes (omega arith));
}
