-- What one client lists after its step: of a step that publishes nothing, and of a commit's word.
use Rattle.std.proofs.Common.{List, Some, [], ap, subst, sym, ℕ, ◌++◌, ◌+◌, ◌<◌, ◌∙◌, ◌∷◌, ◌≡◌}
use Rattle.std.proofs.lemmas.List.{append-nil}
use Rattle.nam_catalog.specs.declared.shape.Shape.{Shape}
use Rattle.nam_ghost.specs.Keys.{KeysNext}
use Rattle.nam_ghost.specs.Moments.{has_published}
use Rattle.nam_ghost.specs.Origins.{AreListed, IsListedAs, listed_commits}
use Rattle.nam_ghost.specs.Publications.{Publication, publication_of}
use Rattle.nam_header.specs.Header.{flag}
use Rattle.nam_layout.specs.Address.{IsRow}
use Rattle.nam_layout.specs.declared.field.Field.{Field}
use Rattle.nam_origins.proofs.CommitLists.{Frees, LateGoes, Lists}
use Rattle.nam_origins.proofs.LogKinds.{listed_commit}
use Rattle.nam_origins.proofs.LogLemmas.{listed_goes, log_goes}
use Rattle.nam_origins.proofs.MatchLemmas.{matches_listed, matches_still}
use Rattle.nam_origins.specs.Lists.{LogGoes, Matches}
use Rattle.nam_origins.specs.Logs.{LogOk, pending}
use Rattle.nam_protocol.specs.Sorts.{committing_at}
use Rattle.nam_protocol.specs.declared.client.ClientState.{ClientState}
use Rattle.nam_protocol.specs.declared.client.Open.{Open}
use Rattle.nam_protocol.specs.declared.txn.CommitPoint.{CommitPoint}
use Rattle.nam_protocol.specs.declared.txn.TxnState.{TxnState}
use Rattle.si_model.specs.Commits.{Published}
use Rattle.si_model.specs.Lists.{Listed, last_of}

-- the rows of what was published are rows
abbrev pub AreRows : Shape → List Publication → Type 0
AreRows shape published =
    (commit : Publication) → Listed commit published → (p : ℕ) → p < commit.records → IsRow shape (commit.row p)

abbrev pub Pending : ClientState → List (List ℕ)
Pending client = pending client.txn client.call

-- 1. Nothing is published

module _ (shape : Shape) (published now : ℕ → List Publication) (nth : ℕ) (before after : ClientState)
    (same : now nth ≡ published nth) (ok : LogOk shape published nth before)
    (goes : LogGoes (Pending before) before after []) where
  pub quiet_log : LogOk shape now nth after
  quiet_log =
      log_goes shape published now nth before after [] goes ok (subst (AreRows shape) (sym same) ok.rows)

  module _ (m later : Field → ℕ) (next : KeysNext shape m later)
      (flags : has_published after.call ≡ has_published before.call) where
    pub quiet_lists : AreListed shape m published nth before → AreListed shape later now nth after
    quiet_lists are =
        let all : Matches shape m (published nth) (listed_commits before) (flag (has_published before.call)) =
        record { count = are.count; each = are.each } in
        let lists = listed_goes shape published now nth before after [] goes ok
        ∙ append-nil (listed_commits before) in
        as_listed (subst (λ n. Matches shape later (now nth) (listed_commits after) n) (ap flag (sym flags))
        (subst (λ cs. Matches shape later (now nth) cs (flag (has_published before.call))) (sym lists)
        (subst (λ ps. Matches shape later ps (listed_commits before) (flag (has_published before.call))) (sym same)
        (matches_still shape m later next (published nth) (listed_commits before) (flag (has_published before.call))
        ok.rows all))))
      where
        as_listed : Matches shape later (now nth) (listed_commits after) (flag (has_published after.call))
            → AreListed shape later now nth after
        as_listed all = record { count = all.count; each = all.each }

-- 2. A commit has published

module _ (shape : Shape) (published now : ℕ → List Publication) (nth : ℕ) (client : ClientState) (attempt : Open)
    (at : CommitPoint) (after : ClientState) where
  abbrev before : ClientState
  before = committing_at client attempt at

  abbrev state : TxnState
  state = attempt.state

  module _ (ok : LogOk shape published nth before) (goes : LateGoes state before after) where
    pub late_log : AreRows shape (now nth) → LogOk shape now nth after
    late_log rows = by goes
      where
        by : LateGoes state before after → LogOk shape now nth after
        by (Frees is goes) = log_goes shape published now nth before after [] goes ok rows
        by (Lists opened same is goes) = log_goes shape published now nth before after _ goes ok rows

    module _ (later : Field → ℕ) (last : last_of (now nth) ≡ Some (publication_of state))
        (lists_as : (opened : Open) → opened.state ≡ state → IsListedAs shape later (publication_of state)
        (listed_commit before.worker opened (state.last + 1) state.seen))
        (all : Matches shape later (now nth) (listed_commits before) 1) where
      pub late_lists : AreListed shape later now nth after
      late_lists = by goes
        where
          with_flag : (commits : List Published) → listed_commits after ≡ commits → (late : ℕ)
              → flag (has_published after.call) ≡ late → Matches shape later (now nth) commits late
              → AreListed shape later now nth after
          with_flag commits lists late flags all =
              let here : Matches shape later (now nth) (listed_commits after) (flag (has_published after.call)) =
              subst (λ (t : List Published × ℕ). Matches shape later (now nth) t.0 t.1)
              (λ i. (sym lists i, sym flags i)) all in
              record { count = here.count; each = here.each }

          by : LateGoes state before after → AreListed shape later now nth after
          by (Frees is goes) =
              with_flag (listed_commits before)
              (listed_goes shape published now nth before after [] goes ok ∙ append-nil (listed_commits before)) 1
              (ap flag is) all
          by (Lists opened same is goes) =
              let line = listed_commit before.worker opened (state.last + 1) state.seen in
              with_flag (listed_commits before ++ line ∷ [])
              (listed_goes shape published now nth before after (line ∷ []) goes ok) 0 (ap flag is)
              (matches_listed shape later (now nth) (listed_commits before) (publication_of state) line last
              (lists_as opened same) all)
