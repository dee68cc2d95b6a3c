-- A driver follows the retry policy: from its start, through each answer, to its end or a cut, and in any later view.
use Rattle.std.specs.Prelude.{ℕ, ◌≤◌, ◌≡◌, List, [], ◌++◌, map, slice_get, Some, None}
use Rattle.si_model.specs.Tells.{Tell}
use Rattle.si_model.specs.View.{View}
use Rattle.si_model.specs.Setting.{Setting, Asked, txns_of}
use Rattle.si_model.specs.Answers.{AnswersMatch}
use Rattle.si_law.specs.Views.{AgreeOn}
use Rattle.nam_protocol.specs.declared.client.Answer.{Answer}
use Rattle.nam_protocol.specs.declared.session.Job.{Job}
use Rattle.nam_protocol.specs.declared.session.DriverState.{DriverState}
use Rattle.nam_protocol.specs.Driver.{new_driver, driver_next, driver_take}
use Rattle.nam_follows.specs.Tells.{AnswerTells, CutTells}
use Rattle.nam_follows.specs.Follows.{IsFollowing, FullsAre, IsFollowed}

-- a new driver, with the worker's transactions as its jobs, while nothing is told
abbrev pub NewLaw : Type 0
NewLaw =
    (s : Setting) (v : View) (j : ℕ) (jobs : List Job) → map (λ job. job.txn) jobs ≡ txns_of j s.owners
    → 1 ≤ s.policy.tries → IsFollowing s v j jobs (new_driver s.policy) []

-- each answer that tells what it should
abbrev pub TakeLaw : Type 0
TakeLaw =
    (s : Setting) (v : View) (j : ℕ) (jobs : List Job) (driver : DriverState) (job : Job) (front ts : List Tell)
    (answer : Answer) → slice_get jobs driver.job ≡ Some job → (told : IsFollowing s v j jobs driver front)
    → AnswerTells job driver.nth front driver.place answer ts → FullsAre s v j told.walk.parts ts
    → IsFollowing s v j jobs (driver_take jobs driver answer) (front ++ ts)

-- another view that agrees at the events told
abbrev pub ViewLaw : Type 0
ViewLaw =
    (s : Setting) (asked : Asked) (v w : View) (j : ℕ) (jobs : List Job) (driver : DriverState) (front : List Tell)
    → AgreeOn v w front → AnswersMatch s asked v j front → IsFollowing s v j jobs driver front
    → IsFollowing s w j jobs driver front

-- wherever its session is cut, it has followed the policy
abbrev pub CutLaw : Type 0
CutLaw =
    (s : Setting) (v : View) (j : ℕ) (jobs : List Job) (driver : DriverState) (job : Job) (front ts : List Tell)
    → slice_get jobs driver.job ≡ Some job → IsFollowing s v j jobs driver front
    → CutTells job driver.nth driver.place ts → IsFollowed s v j (front ++ ts)

-- and where no call is left
abbrev pub EndedLaw : Type 0
EndedLaw =
    (s : Setting) (v : View) (j : ℕ) (jobs : List Job) (driver : DriverState) (front : List Tell)
    → driver_next jobs driver ≡ None → IsFollowing s v j jobs driver front → IsFollowed s v j front
