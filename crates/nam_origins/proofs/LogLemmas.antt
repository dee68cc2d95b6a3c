-- A log that goes on: its events own what they did, and its listed commits are those before and the new ones.
use Rattle.std.proofs.Common.{List, [], ap, arith, length, length-append, sym, ℕ, ◌++◌, ◌<◌, ◌∙◌, ◌≡◌}
use Rattle.std.proofs.lemmas.List.{append-nil, append_assoc}
use Rattle.nam_catalog.specs.declared.shape.Shape.{Shape}
use Rattle.nam_ghost.specs.Origins.{listed_commits}
use Rattle.nam_ghost.specs.Publications.{Publication}
use Rattle.nam_layout.specs.Address.{IsRow}
use Rattle.nam_origins.proofs.TellLemmas.{commits_more, listed_are, total_more}
use Rattle.nam_origins.specs.Lists.{LogGoes, commits_of}
use Rattle.nam_origins.specs.Logs.{LogOk, pending}
use Rattle.nam_protocol.specs.declared.client.ClientState.{ClientState}
use Rattle.si_model.specs.Commits.{Published}
use Rattle.si_model.specs.Lists.{Listed}
use Rattle.si_model.specs.Tells.{snaps_in, total, writes_in}
use Rattle.si_model.specs.declared.log.Event.{Event}
use Rattle.si_model.specs.declared.row.Item.{Item}

-- a snapshot that no event owns is none of a commit's
no_more : (j : ℕ) (es : List Event) (ws : List Item) (own later : List (List ℕ)) → total writes_in es ≡ length ws
    → total snaps_in es ≡ length own → commits_of j es ws (own ++ later) ≡ commits_of j es ws own
no_more j es ws own later w s =
    ap (λ xs. commits_of j xs ws (own ++ later)) (sym (append-nil es))
    ∙ ap (λ xs. commits_of j (es ++ []) xs (own ++ later)) (sym (append-nil ws))
    ∙ commits_more j es [] ws [] own later w s ∙ append-nil (commits_of j es ws own)

module _ (shape : Shape) (published now : ℕ → List Publication) (nth : ℕ) (before after : ClientState)
    (commits : List Published) (goes : LogGoes (pending before.txn before.call) before after commits)
    (ok : LogOk shape published nth before) where
  snaps_are : after.log.snaps ≡ (ok.owned ++ goes.own) ++ pending after.txn after.call
  snaps_are =
      goes.snaps ∙ ap (λ ss. ss ++ goes.snaps_more) ok.snaps
      ∙ append_assoc ok.owned (pending before.txn before.call) goes.snaps_more
      ∙ ap (λ ss. ok.owned ++ ss) goes.moves ∙ sym (append_assoc ok.owned goes.own (pending after.txn after.call))

  -- its events own so many written items and snapshots
  more_writes : total writes_in after.log.events ≡ length after.log.writes
  more_writes =
      let old = before.log in
      let fits = ok.writes in let more = goes.all_writes in
      let all = total_more writes_in old.events goes.events_more in
      let long = length-append old.writes goes.writes_more in
      ap (total writes_in) goes.events
      ∙ (let same : total writes_in (old.events ++ goes.events_more) ≡ length (old.writes ++ goes.writes_more) =
      omega arith in same)
      ∙ ap length (sym goes.writes)

  more_snaps : total snaps_in after.log.events ≡ length (ok.owned ++ goes.own)
  more_snaps =
      let old = before.log in
      let fits = ok.all_owned in let more = goes.all_snaps in
      let all = total_more snaps_in old.events goes.events_more in
      let long = length-append ok.owned goes.own in
      ap (total snaps_in) goes.events
      ∙ (let same : total snaps_in (old.events ++ goes.events_more) ≡ length (ok.owned ++ goes.own) = omega arith in
      same)

  pub log_goes : ((commit : Publication) → Listed commit (now nth) → (p : ℕ) → p < commit.records
      → IsRow shape (commit.row p)) → LogOk shape now nth after
  log_goes rows = record {
    writes = more_writes;
    owned = ok.owned ++ goes.own;
    snaps = snaps_are;
    all_owned = more_snaps;
    rows = rows;
  }

  -- no event owns the snapshot that is pending
  listed_before : listed_commits before ≡ commits_of before.worker before.log.events before.log.writes ok.owned
  listed_before =
      let log = before.log in
      let j = before.worker in
      let later = pending before.txn before.call in
      listed_are before ∙ ap (commits_of j log.events log.writes) ok.snaps
      ∙ no_more j log.events log.writes ok.owned later ok.writes ok.all_owned

  pub listed_goes : listed_commits after ≡ listed_commits before ++ commits
  listed_goes =
      let log = before.log in
      let j = before.worker in
      let later = pending after.txn after.call in
      listed_are after ∙ ap (λ w. commits_of w after.log.events after.log.writes after.log.snaps) goes.worker
      ∙ ap (λ es. commits_of j es after.log.writes after.log.snaps) goes.events
      ∙ ap (λ ws. commits_of j (log.events ++ goes.events_more) ws after.log.snaps) goes.writes
      ∙ ap (λ ss. commits_of j (log.events ++ goes.events_more) (log.writes ++ goes.writes_more) ss)
      (snaps_are ∙ append_assoc ok.owned goes.own later)
      ∙ commits_more j log.events goes.events_more log.writes goes.writes_more ok.owned (goes.own ++ later) ok.writes
      ok.all_owned
      ∙ ap (λ cs. cs ++ commits_of j goes.events_more goes.writes_more (goes.own ++ later)) (sym listed_before)
      ∙ ap (λ cs. listed_commits before ++ cs)
      (no_more j goes.events_more goes.writes_more goes.own later goes.all_writes goes.all_snaps ∙ goes.lists)
