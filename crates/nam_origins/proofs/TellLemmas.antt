-- The commits that a log lists, by its events, its written items and its snapshots alone; and those of a log with more.
use Rattle.std.proofs.Common.{List, None, Option, Some, [], ap, arith, drop, length, refl, sym, take, ℕ, ◌++◌, ◌+◌, ◌∙◌}
use Rattle.std.proofs.Common.{◌∷◌, ◌≡◌, ◌≤◌}
use Rattle.std.proofs.Math.Seq.{drop-append-le, take-append-le}
use Rattle.std.proofs.lemmas.List.{append_assoc, length-drop, nil_from_length}
use Rattle.std.specs.Prelude.{slice_index_or}
use Rattle.nam_calls.proofs.FallsTests.{either}
use Rattle.nam_ghost.specs.Origins.{listed_commits}
use Rattle.nam_origins.specs.Lists.{commits_of, tell_of}
use Rattle.nam_protocol.specs.declared.client.ClientState.{ClientState}
use Rattle.si_model.specs.Commits.{published_at, published_in, published_of}
use Rattle.si_model.specs.Tells.{Tell, is_attempt, locks_in, ops_each, reads_in, snaps_in, tells_each, total, writes_in}
use Rattle.si_model.specs.declared.log.Attempt.{Attempt}
use Rattle.si_model.specs.declared.log.Event.{Event}
use Rattle.si_model.specs.declared.log.Event.TheVariants.{Tried}
use Rattle.si_model.specs.declared.log.Lock.{Lock}
use Rattle.si_model.specs.declared.log.Outcome.{Outcome}
use Rattle.si_model.specs.declared.log.Outcome.TheVariants.{Commit}
use Rattle.si_model.specs.declared.row.Item.{Item}

-- 1. One event

-- a commit is listed with its written items and its snapshot; its reads and locks don't matter
same_in : (j : ℕ) (t : Tell) (reads : List Item) (locks : List Lock) (a : Attempt) (prefix : Option ℕ)
    (outcome : Outcome)
    → published_in j t a prefix outcome ≡ published_in j (record t { reads = reads; locks = locks }) a prefix outcome
same_in j t reads locks a (Some p) (Commit number) = refl
same_in j t reads locks a (Some p) _ = refl
same_in j t reads locks a None _ = refl

same_at : (j : ℕ) (t : Tell) (reads : List Item) (locks : List Lock) (e : Event)
    → published_at j t e ≡ published_at j (record t { reads = reads; locks = locks }) e
same_at j t reads locks (Tried a) = same_in j t reads locks a a.prefix a.outcome
same_at j t reads locks _ = refl

-- 2. All events

no_ops : (e : Event) (es : List Event) → ops_each [] (e ∷ es) ≡ [] ∷ ops_each [] es
no_ops e es = either (λ opss. opss ≡ [] ∷ ops_each [] es) (is_attempt e) _ _ refl refl

commits_are : (j : ℕ) (es : List Event) (rs : List Item) (ls : List Lock) (ws : List Item) (ss : List (List ℕ))
    → published_of j (tells_each (ops_each [] es) es rs ls ws ss) ≡ commits_of j es ws ss
commits_are j [] rs ls ws ss = refl
commits_are j (e ∷ es) rs ls ws ss =
    let reads = drop (reads_in e) rs in
    let locks = drop (locks_in e) ls in
    let writes = drop (writes_in e) ws in
    let snaps = drop (snaps_in e) ss in
    ap (λ opss. published_of j (tells_each opss (e ∷ es) rs ls ws ss)) (no_ops e es)
    ∙ ap (λ cs. cs ++ published_of j (tells_each (ops_each [] es) es reads locks writes snaps))
    (sym (same_at j (tell_of e ws ss) (take (reads_in e) rs) (take (locks_in e) ls) e))
    ∙ ap (λ cs. published_at j (tell_of e ws ss) e ++ cs) (commits_are j es reads locks writes snaps)

pub listed_are : (client : ClientState)
    → listed_commits client ≡ commits_of client.worker client.log.events client.log.writes client.log.snaps
listed_are client =
    let log = client.log in commits_are client.worker log.events log.reads log.locks log.writes log.snaps

-- 3. A log with more

pub total_more : (owned : Event → ℕ) (es more : List Event)
    → total owned (es ++ more) ≡ total owned es + total owned more
total_more owned [] more = omega arith
total_more owned (e ∷ es) more = let rest = total_more owned es more in omega arith

-- what events own wholly stands before the items of others
pub commits_more : (j : ℕ) (es more : List Event) (ws later : List Item) (ss next : List (List ℕ))
    → total writes_in es ≡ length ws → total snaps_in es ≡ length ss
    → commits_of j (es ++ more) (ws ++ later) (ss ++ next) ≡ commits_of j es ws ss ++ commits_of j more later next
commits_more j [] more ws later ss next w s =
    ap (λ xs. commits_of j more (xs ++ later) (ss ++ next)) (nil_from_length ws (sym w))
    ∙ ap (λ xs. commits_of j more later (xs ++ next)) (nil_from_length ss (sym s))
commits_more j (e ∷ es) more ws later ss next w s =
    let n = writes_in e in
    let k = snaps_in e in
    let here : n ≤ length ws = omega arith in
    let there : k ≤ length ss = omega arith in
    let rest = commits_more j es more (drop n ws) later (drop k ss) next
    (let l = length-drop n ws in omega arith) (let l = length-drop k ss in omega arith) in
    let tell : List Item → List (List ℕ) → Tell = λ items snaps. record {
      event = e;
      ops = [];
      reads = [];
      locks = [];
      writes = items;
      snap = slice_index_or snaps 0 [];
    } in
    ap (λ xs. published_at j (tell xs (take k (ss ++ next))) e
    ++ commits_of j (es ++ more) (drop n (ws ++ later)) (drop k (ss ++ next))) (take-append-le n ws later here)
    ∙ ap (λ xs. published_at j (tell (take n ws) xs) e
    ++ commits_of j (es ++ more) (drop n (ws ++ later)) (drop k (ss ++ next))) (take-append-le k ss next there)
    ∙ ap (λ xs. published_at j (tell_of e ws ss) e ++ commits_of j (es ++ more) xs (drop k (ss ++ next)))
    (drop-append-le n ws later here)
    ∙ ap (λ xs. published_at j (tell_of e ws ss) e ++ commits_of j (es ++ more) (drop n ws ++ later) xs)
    (drop-append-le k ss next there)
    ∙ ap (λ cs. published_at j (tell_of e ws ss) e ++ cs) rest
    ∙ sym (append_assoc (published_at j (tell_of e ws ss) e) (commits_of j es (drop n ws) (drop k ss))
    (commits_of j more later next))
