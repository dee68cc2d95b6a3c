-- Logs without events are consistent.
use Rattle.std.proofs.Common.{◌≡◌, ℕ, zero, suc, List, [], refl, subst}
use Rattle.std.specs.Prelude.{replicate}
use Rattle.std.proofs.lemmas.List.{length-replicate}
use Rattle.si_model.specs.Lists.{Listed}
use Rattle.si_model.specs.Tells.{Tell}
use Rattle.si_model.specs.Commits.{Published, published_from, published_by, snaps_by}
use Rattle.si_model.specs.View.{View}
use Rattle.si_model.specs.Setting.{Setting, Asked}
use Rattle.si_model.specs.Consistency.{AreOwned, AreSound, AreConsistent, view_by}

no_commits : (k n : ℕ) → published_from k (replicate n []) ≡ []
no_commits k zero = refl
no_commits k (suc n) = no_commits (suc k) n

no_snaps : (n : ℕ) → snaps_by (replicate n []) ≡ []
no_snaps zero = refl
no_snaps (suc n) = no_snaps n

nothing_owned : (start k n : ℕ) → AreOwned start k (replicate n [])
nothing_owned start k zero = tt
nothing_owned start k (suc n) = (record { snapshots = tt; numbers = tt }, nothing_owned start (suc k) n)

nothing_sound : (s : Setting) (asked : Asked) (v : View) (tss : List (List Tell)) (k n : ℕ)
    → AreSound s asked v tss k (replicate n [])
nothing_sound s asked v tss k zero = tt
nothing_sound s asked v tss k (suc n) =
    (record { sees = tt; answers = tt; causes = tt }, nothing_sound s asked v tss (suc k) n)

-- where nobody has done anything yet
pub start_consistent : (s : Setting) (asked : Asked) → AreConsistent s asked (replicate s.workers [])
start_consistent s asked =
    let none = no_commits 1 s.workers in
    let snaps = no_snaps s.workers in
    let no_commit : (c : Published) → Listed c (published_by (replicate s.workers [])) → ⊥ =
    λ c l. subst (Listed c) none l in
    let no_snap : (snap : List ℕ) → Listed snap (snaps_by (replicate s.workers [])) → ⊥ =
    λ snap l. subst (Listed snap) snaps l in
    record {
      one_log_each = length-replicate s.workers [];
      order = record {
        owned = nothing_owned s.start 1 s.workers;
        within = λ snap l. absurd (no_snap snap l);
        ordered = λ a b l m. absurd (no_snap a l);
      };
      published = λ c l. absurd (no_commit c l);
      first_wins = λ c d l m apart shares. absurd (no_commit c l);
      guards = λ snap l. absurd (no_snap snap l);
      no_circle = record {
        place = λ q. 0;
        below = λ c l. absurd (no_commit c l);
        rises = λ c d l m before. absurd (no_commit c l);
      };
      sound = nothing_sound s asked (view_by s (replicate s.workers [])) (replicate s.workers []) 1 s.workers;
    }
