-- When one view says all that another says, and when logs keep what other workers' events rest on.
use Rattle.std.specs.Prelude.{ℕ, ◌+◌, ◌≤◌, ◌≡◌, ◌≢◌, ◌==◌, ◌&&◌, ◌⊎◌, Bool, false, IsTrue, List, length, Some}
use Rattle.std.specs.List.{list_any, list_all}
use Rattle.si_model.specs.declared.row.Key.{Key}
use Rattle.si_model.specs.declared.op.Op.{Op}
use Rattle.si_model.specs.declared.log.Stamp.{Stamp}
use Rattle.si_model.specs.declared.log.Outcome.{Outcome}
use Rattle.si_model.specs.declared.log.Outcome.TheVariants.{Newer}
use Rattle.si_model.specs.declared.log.Event.{Event}
use Rattle.si_model.specs.declared.log.Event.TheVariants.{Tried, Moved}
use Rattle.si_model.specs.declared.report.CommitLine.{CommitLine}
use Rattle.si_model.specs.Lists.{Listed, concat_of}
use Rattle.si_model.specs.Rows.{key_at, same_key}
use Rattle.si_model.specs.History.{same_stamp, is_version}
use Rattle.si_model.specs.Tells.{Tell, prefix_in, last_number}
use Rattle.si_model.specs.View.{View}
use Rattle.si_model.specs.Setting.{Setting, Asked}
use Rattle.si_model.specs.Answers.{lock_key}
use Rattle.si_model.specs.Causes.{others_of, tells_by, lists_lock, collects_entry, has_collected, move_count}
use Rattle.si_model.specs.Causes.{moves_version, is_done, keeps_bucket, ends_locking, is_written}

-- all that was asked for is asked for
pub record AsksMore (a b : Asked) : Type 0 where
  pub ops : (op : Op) → Listed op a.ops → Listed op b.ops
  pub by_calls : IsTrue a.by_calls → IsTrue b.by_calls

-- the second view has all entries of the first, and the first counts nothing after what is no version
pub record Extends (v w : View) : Type 0 where
  pub listed : (e : CommitLine) → Listed e v.all → Listed e w.all
  pub long : length v.all ≤ length w.all
  pub unversioned : (t : Tell) (key : Key) (q : Stamp) → is_version key q v.all ≡ false → v.later t key q ≡ 0

-- the views say the same of the event
pub record Agrees (v w : View) (t : Tell) : Type 0 where
  pub value : v.value t ≡ w.value t
  pub newest : v.newest t ≡ w.newest t
  pub entries : v.entries t ≡ w.entries t
  pub has : v.has t ≡ w.has t
  pub later : (key : Key) (q : Stamp) → v.later t key q ≡ w.later t key q

-- of each event with a prefix
abbrev pub AgreeOn : View → View → List Tell → Type 0
AgreeOn v w ts = (t : Tell) → Listed t ts → (p : ℕ) → prefix_in t.event ≡ Some p → Agrees v w t

-- a move of the key into the bucket
abbrev pub moves_key_into : ℕ → Key → Event → Bool
moves_key_into b key (Moved c table k s how) = (c == b) && same_key (key_at table k) key
moves_key_into b key event = false

abbrev pub is_newer : Key → Stamp → Outcome → Bool
is_newer key q (Newer l) = same_key (lock_key l) key && same_stamp l.stamp q
is_newer key q outcome = false

-- an attempt that found this newer version of the key
abbrev pub tells_newer : Key → Stamp → Event → Bool
tells_newer key q (Tried a) = is_newer key q a.outcome
tells_newer key q event = false

-- what the causes of worker j's events ts rest on in the logs of all is there in other logs and another view too
pub record KeepCauses (s : Setting) (w : View) (tss now : List (List Tell)) (j : ℕ) (ts : List Tell) : Type 0 where
  pub locks : (key : Key) (q : Stamp) → IsTrue (list_any (lists_lock key q) (others_of j tss))
      → IsTrue (list_any (lists_lock key q) (others_of j now))
  pub entries : (i n : ℕ) → IsTrue (list_any (λ o. collects_entry i n o.event) (others_of j tss))
      → IsTrue (list_any (λ o. collects_entry i n o.event) (others_of j now))
  pub collects : IsTrue (list_any (λ o. has_collected o.event) (others_of j tss))
      → IsTrue (list_any (λ o. has_collected o.event) (others_of j now))
  pub done : (key : Key) (q : Stamp) → IsTrue (list_any (λ o. moves_version is_done key q o.event) (others_of j tss))
      → IsTrue (list_any (λ o. moves_version is_done key q o.event) (others_of j now))
  pub moves : (b : ℕ) → move_count b (others_of j tss) ≤ move_count b (others_of j now)
  pub all_moves : (b : ℕ) → move_count b (concat_of tss) ≤ move_count b (concat_of now)
  -- moves of the keys that ts moves stay in their buckets
  pub buckets :
      (b : ℕ) (key : Key) → IsTrue (list_any (λ o. moves_key_into b key o.event) ts)
      → IsTrue (list_all (λ o. keeps_bucket b key o.event) (concat_of tss))
      → IsTrue (list_all (λ o. keeps_bucket b key o.event) (concat_of now))
  -- a worker that stopped before it published what ts found newer is still stopped, or has published it
  pub stops :
      (key : Key) (q : Stamp) → IsTrue (list_any (λ o. tells_newer key q o.event) ts) → q.thread ≢ j
      → IsTrue (ends_locking key (tells_by q.thread tss)) → q.number ≡ last_number s.start (tells_by q.thread tss) + 1
      → IsTrue (is_written w key q) ⊎ (IsTrue (ends_locking key (tells_by q.thread now))
      × (q.number ≡ last_number s.start (tells_by q.thread now) + 1))
