-- The entries and snapshots read off the flat lists are those that the logs tell.
use Rattle.std.proofs.Common.{◌≡◌, ℕ, suc, ◌+◌, List, [], ◌∷◌, ◌++◌, length, get_or, take, drop, map, refl, ap, sym}
use Rattle.std.proofs.Common.{◌∙◌, arith, Option, Some, inl, inr}
use Rattle.std.specs.Prelude.{is_some}
use Rattle.std.specs.List.{AllByRecursion}
use Rattle.std.proofs.lemmas.List.{map-append, nil_from_length}
use Rattle.std.proofs.lemmas.Bool.{cases_Bool}
use Rattle.si_model.specs.declared.row.Item.{Item}
use Rattle.si_model.specs.declared.op.Op.{Op}
use Rattle.si_model.specs.declared.log.Lock.{Lock}
use Rattle.si_model.specs.declared.log.Attempt.{Attempt}
use Rattle.si_model.specs.declared.log.Outcome.{Outcome}
use Rattle.si_model.specs.declared.log.Outcome.TheVariants.{Commit}
use Rattle.si_model.specs.declared.log.Event.{Event}
use Rattle.si_model.specs.declared.log.Event.TheVariants.{Tried}
use Rattle.si_model.specs.declared.log.Log.{Log}
use Rattle.si_model.specs.Tells.{Tell, tells_from, tells_of, ops_in, reads_in, locks_in, writes_in, snaps_in, total}
use Rattle.si_model.specs.Tells.{prefix_in, CountsFit}
use Rattle.si_model.specs.Commits.{entry_of, published_in, published_at, published_of, published_from, snaps_of}
use Rattle.si_model.specs.Commits.{snaps_by}
use Rattle.nam_report.specs.Lines.{line_in, line_at, lines_from, lines_by, snaps_in_logs}

line_in_told : (j : ℕ) (t : Tell) (a : Attempt) (p : Option ℕ) (o : Outcome)
    → map entry_of (published_in j t a p o) ≡ line_in j a p o t.writes
line_in_told j t a (Some p) (Commit c) = refl
line_in_told j t a p o = refl

line_told : (j : ℕ) (t : Tell) (e : Event) → map entry_of (published_at j t e) ≡ line_at j e t.writes
line_told j t (Tried a) = line_in_told j t a a.prefix a.outcome
line_told j t e = refl

lines_told : (j : ℕ) (jobs : List (List Op)) (es : List Event) (rs : List Item) (ls : List Lock) (ws : List Item)
    (ss : List (List ℕ))
    → map entry_of (published_of j (tells_from jobs es rs ls ws ss)) ≡ lines_from j es ws
lines_told j jobs [] rs ls ws ss = refl
lines_told j jobs (e ∷ es) rs ls ws ss =
    let t : Tell = record {
      event = e;
      ops = ops_in jobs e;
      reads = take (reads_in e) rs;
      locks = take (locks_in e) ls;
      writes = take (writes_in e) ws;
      snap = get_or (take (snaps_in e) ss) 0 [];
    } in
    let rest = published_of j (tells_from jobs es (drop (reads_in e) rs) (drop (locks_in e) ls) (drop (writes_in e) ws)
    (drop (snaps_in e) ss)) in
    map-append entry_of (published_at j t e) rest
    ∙ ap (λ zs. zs ++ map entry_of rest) (line_told j t e)
    ∙ ap (λ zs. line_at j e (take (writes_in e) ws) ++ zs)
    (lines_told j jobs es (drop (reads_in e) rs) (drop (locks_in e) ls) (drop (writes_in e) ws)
    (drop (snaps_in e) ss))

-- the entries of the published commits
pub lines_by_told : (j : ℕ) (jobs : List (List Op)) (logs : List Log)
    → map entry_of (published_from j (map (tells_of jobs) logs)) ≡ lines_by j logs
lines_by_told j jobs [] = refl
lines_by_told j jobs (log ∷ logs) =
    map-append entry_of (published_of j (tells_of jobs log)) (published_from (suc j) (map (tells_of jobs) logs))
    ∙ ap (λ zs. zs ++ map entry_of (published_from (suc j) (map (tells_of jobs) logs)))
    (lines_told j jobs log.events log.reads log.locks log.writes log.snaps)
    ∙ ap (λ zs. lines_from j log.events log.writes ++ zs) (lines_by_told (suc j) jobs logs)

one_snap : (ss : List (List ℕ)) (n : ℕ) → 1 + n ≡ length ss → (x : List ℕ) × (rest : List (List ℕ)) × (ss ≡ x ∷ rest)
    × (n ≡ length rest)
one_snap [] n h = absurd (omega arith)
one_snap (x ∷ rest) n h = (x, rest, refl, omega arith)

snaps_flat : (jobs : List (List Op)) (es : List Event) (rs : List Item) (ls : List Lock) (ws : List Item)
    (ss : List (List ℕ))
    → total snaps_in es ≡ length ss → snaps_of (tells_from jobs es rs ls ws ss) ≡ ss
snaps_flat jobs [] rs ls ws ss h = sym (nil_from_length ss (sym h))
snaps_flat jobs (e ∷ es) rs ls ws ss h =
    elim (cases_Bool (is_some (prefix_in e))) [
      | inl t ↦
          let one : snaps_in e ≡ 1 = rw t refl in
          let r = one_snap ss (total snaps_in es) (sym (ap (λ n. n + total snaps_in es) one) ∙ h) in
          let rest = snaps_flat jobs es (drop (reads_in e) rs) (drop (locks_in e) ls) (drop (writes_in e) ws) r.1 r.3 in
          rw (t, r.2) (ap (λ zs. r.0 ∷ zs) rest)
      | inr f ↦
          let none : snaps_in e ≡ 0 = rw f refl in
          let rest = snaps_flat jobs es (drop (reads_in e) rs) (drop (locks_in e) ls) (drop (writes_in e) ws) ss
          (omega (arith, none, h)) in
          rw f rest
    ]

-- the snapshots that the events list, where the counts fit
pub snaps_told : (jobs : List (List Op)) (logs : List Log) → AllByRecursion CountsFit logs
    → snaps_by (map (tells_of jobs) logs) ≡ snaps_in_logs logs
snaps_told jobs [] h = refl
snaps_told jobs (log ∷ logs) h =
    ap (λ zs. zs ++ snaps_by (map (tells_of jobs) logs))
    (snaps_flat jobs log.events log.reads log.locks log.writes log.snaps h.0.snaps)
    ∙ ap (λ zs. log.snaps ++ zs) (snaps_told jobs logs h.1)
