-- What a log tells: by the jobs or as its attempts asked, of a log that lists these events, and with one more event.
use Rattle.std.proofs.Common.{◌≡◌, ℕ, zero, suc, ◌+◌, ◌-◌, Bool, true, false, cond, inl, inr, List, [], ◌∷◌, ◌++◌}
use Rattle.std.proofs.Common.{length, get_or, take, drop, map, refl, ap, sym, ◌∙◌, arith, Option, Some, None}
use Rattle.std.specs.Prelude.{is_some, filter, if◌then◌else◌}
use Rattle.std.specs.List.{flat_map, AllByRecursion}
use Rattle.std.proofs.lemmas.Bool.{cases_Bool}
use Rattle.std.proofs.lemmas.List.{append_assoc, append-nil, map-append, length-append, nil_from_length}
use Rattle.std.proofs.lemmas.List.{take-append-drop}
use Rattle.std.proofs.lemmas.Grind.{flat_map-append}
use Rattle.std.proofs.Math.Seq.{take-append_seam, drop-append_seam}
use Rattle.si_model.specs.declared.row.Item.{Item}
use Rattle.si_model.specs.declared.op.Op.{Op}
use Rattle.si_model.specs.declared.log.Lock.{Lock}
use Rattle.si_model.specs.declared.log.Attempt.{Attempt}
use Rattle.si_model.specs.declared.log.Event.{Event}
use Rattle.si_model.specs.declared.log.Log.{Log}
use Rattle.si_model.specs.Tells.{Tell, prefix_in, attempt_in, reads_in, locks_in, writes_in, snaps_in, total, CountsFit}
use Rattle.si_model.specs.Tells.{ops_in, tells_each, tells_from, tells_of, is_attempt, ops_each, tells_with, job_ops}
use Rattle.si_model.specs.Tells.{own_ops, own_snaps, OwnsItems, with_tell, ListsTells}
use Rattle.si_model.proofs.ListLemmas.{All-append}

-- ---- operations for each event and for each attempt

none_in_others : (jobs : List (List Op)) (e : Event) → is_attempt e ≡ false → ops_in jobs e ≡ []
none_in_others jobs e none = by (attempt_in e) none
  where
    by : (o : Option Attempt) → is_some o ≡ false
        → elim o as (λ x. List Op) [ None ↦ [] | Some a ↦ get_or jobs (a.txn - 1) [] ] ≡ []
    by None h = refl
    by (Some a) h = absurd cc

-- the jobs' operations of the attempts are those of the events
pub job_ops_each : (jobs : List (List Op)) (es : List Event) → ops_each (job_ops jobs es) es ≡ map (ops_in jobs) es
job_ops_each jobs [] = refl
job_ops_each jobs (e ∷ es) = elim (cases_Bool (is_attempt e)) [
  | inl h ↦ rw h (ap (λ opss. ops_in jobs e ∷ opss) (job_ops_each jobs es))
  | inr h ↦ rw (h, none_in_others jobs e h) (ap (λ opss. [] ∷ opss) (job_ops_each jobs es))
]

-- a log tells by the jobs what it tells where its attempts asked for their jobs' operations
pub tells_by_jobs : (jobs : List (List Op)) (log : Log) → tells_with (job_ops jobs log.events) log ≡ tells_of jobs log
tells_by_jobs jobs log =
    ap (λ opss. tells_each opss log.events log.reads log.locks log.writes log.snaps) (job_ops_each jobs log.events)

-- ---- what a log tells that lists these events

abbrev make : Event → List Op → List Item → List Lock → List Item → List ℕ → Tell
make event ops reads locks writes snap =
    record { event = event; ops = ops; reads = reads; locks = locks; writes = writes; snap = snap }

taken : {X : Type 0} (n : ℕ) (xs ys : List X) → n ≡ length xs → take n (xs ++ ys) ≡ xs
taken n xs ys e = ap (λ k. take k (xs ++ ys)) e ∙ take-append_seam xs ys

left : {X : Type 0} (n : ℕ) (xs ys : List X) → n ≡ length xs → drop n (xs ++ ys) ≡ ys
left n xs ys e = ap (λ k. drop k (xs ++ ys)) e ∙ drop-append_seam xs ys

-- the event and its items stand before others
one_tell : (t : Tell) → OwnsItems t → (opss : List (List Op)) (es : List Event) (rs : List Item) (ls : List Lock)
    (ws : List Item) (ss : List (List ℕ))
    → tells_each (t.ops ∷ opss) (t.event ∷ es) (t.reads ++ rs) (t.locks ++ ls) (t.writes ++ ws) (own_snaps t ++ ss)
    ≡ t ∷ tells_each opss es rs ls ws ss
one_tell t owns opss es rs ls ws ss =
    let e = t.event in
    let own : get_or (take (snaps_in e) (own_snaps t ++ ss)) 0 [] ≡ t.snap =
    elim (cases_Bool (is_some (prefix_in e))) [ inl h ↦ rw h refl | inr h ↦ rw h (sym (owns.snap h)) ] in
    let snaps : drop (snaps_in e) (own_snaps t ++ ss) ≡ ss =
    elim (cases_Bool (is_some (prefix_in e))) [ inl h ↦ rw h refl | inr h ↦ rw h refl ] in
    let reads = t.reads ++ rs in
    let locks = t.locks ++ ls in
    let writes = t.writes ++ ws in
    let rest : List Item → List Lock → List Item → List (List ℕ) → List Tell = tells_each opss es in
    let here : List Item → List Lock → List Item → List ℕ → Tell = make e t.ops in
    let later = rest (drop (reads_in e) reads) (drop (locks_in e) locks) (drop (writes_in e) writes)
    (drop (snaps_in e) (own_snaps t ++ ss)) in
    let snap = get_or (take (snaps_in e) (own_snaps t ++ ss)) 0 [] in
    ap (λ x. here x (take (locks_in e) locks) (take (writes_in e) writes) snap ∷ later)
    (taken (reads_in e) t.reads rs owns.reads)
    ∙ ap (λ x. here t.reads x (take (writes_in e) writes) snap ∷ later) (taken (locks_in e) t.locks ls owns.locks)
    ∙ ap (λ x. here t.reads t.locks x snap ∷ later) (taken (writes_in e) t.writes ws owns.writes)
    ∙ ap (λ x. here t.reads t.locks t.writes x ∷ later) own
    ∙ ap (λ x. t ∷ rest x (drop (locks_in e) locks) (drop (writes_in e) writes) (drop (snaps_in e) (own_snaps t ++ ss)))
    (left (reads_in e) t.reads rs owns.reads)
    ∙ ap (λ x. t ∷ rest rs x (drop (writes_in e) writes) (drop (snaps_in e) (own_snaps t ++ ss)))
    (left (locks_in e) t.locks ls owns.locks)
    ∙ ap (λ x. t ∷ rest rs ls x (drop (snaps_in e) (own_snaps t ++ ss))) (left (writes_in e) t.writes ws owns.writes)
    ∙ ap (λ x. t ∷ rest rs ls ws x) snaps

-- all events, before what they don't own
each_tells : (ts : List Tell) → AllByRecursion OwnsItems ts → (rs : List Item) (ls : List Lock) (ws : List Item)
    (ss : List (List ℕ))
    → tells_each (map (λ t. t.ops) ts) (map (λ t. t.event) ts) (flat_map (λ t. t.reads) ts ++ rs)
    (flat_map (λ t. t.locks) ts ++ ls) (flat_map (λ t. t.writes) ts ++ ws) (flat_map own_snaps ts ++ ss) ≡ ts
each_tells [] owns rs ls ws ss = refl
each_tells (t ∷ ts) owns rs ls ws ss =
    let reads = flat_map (λ t. t.reads) ts in
    let locks = flat_map (λ t. t.locks) ts in
    let writes = flat_map (λ t. t.writes) ts in
    let snaps = flat_map own_snaps ts in
    let all : List Item → List Lock → List Item → List (List ℕ) → List Tell =
    tells_each (t.ops ∷ map (λ t. t.ops) ts) (t.event ∷ map (λ t. t.event) ts) in
    ap (λ x. all x ((t.locks ++ locks) ++ ls) ((t.writes ++ writes) ++ ws) ((own_snaps t ++ snaps) ++ ss))
    (append_assoc t.reads reads rs)
    ∙ ap (λ x. all (t.reads ++ (reads ++ rs)) x ((t.writes ++ writes) ++ ws) ((own_snaps t ++ snaps) ++ ss))
    (append_assoc t.locks locks ls)
    ∙ ap (λ x. all (t.reads ++ (reads ++ rs)) (t.locks ++ (locks ++ ls)) x ((own_snaps t ++ snaps) ++ ss))
    (append_assoc t.writes writes ws)
    ∙ ap (all (t.reads ++ (reads ++ rs)) (t.locks ++ (locks ++ ls)) (t.writes ++ (writes ++ ws)))
    (append_assoc (own_snaps t) snaps ss)
    ∙ one_tell t owns.0 (map (λ t. t.ops) ts) (map (λ t. t.event) ts) (reads ++ rs) (locks ++ ls) (writes ++ ws)
    (snaps ++ ss)
    ∙ ap (λ us. t ∷ us) (each_tells ts owns.1 rs ls ws ss)

-- what the attempts asked for is what the events have
asked_each : (ts : List Tell) → AllByRecursion OwnsItems ts
    → ops_each (flat_map own_ops ts) (map (λ t. t.event) ts) ≡ map (λ t. t.ops) ts
asked_each [] owns = refl
asked_each (t ∷ ts) owns = elim (cases_Bool (is_attempt t.event)) [
  | inl h ↦ rw h (ap (λ opss. t.ops ∷ opss) (asked_each ts owns.1))
  | inr h ↦ rw (h, owns.0.ops h) (ap (λ opss. [] ∷ opss) (asked_each ts owns.1))
]

module _ (log : Log) (ts : List Tell) (rs : List Item) (ls : List Lock) (ws : List Item) (ss : List (List ℕ))
    (lists : ListsTells log ts rs ls ws ss) where
  listed_each : (opss : List (List Op)) → opss ≡ map (λ t. t.ops) ts
      → tells_each opss log.events log.reads log.locks log.writes log.snaps ≡ ts
  listed_each opss same =
      ap (λ x. tells_each x log.events log.reads log.locks log.writes log.snaps) same
      ∙ ap (λ x. tells_each (map (λ t. t.ops) ts) x log.reads log.locks log.writes log.snaps) lists.events
      ∙ ap (λ x. tells_each (map (λ t. t.ops) ts) (map (λ t. t.event) ts) x log.locks log.writes log.snaps) lists.reads
      ∙ ap (λ x. tells_each (map (λ t. t.ops) ts) (map (λ t. t.event) ts) (flat_map (λ t. t.reads) ts ++ rs) x
      log.writes log.snaps) lists.locks
      ∙ ap (λ x. tells_each (map (λ t. t.ops) ts) (map (λ t. t.event) ts) (flat_map (λ t. t.reads) ts ++ rs)
      (flat_map (λ t. t.locks) ts ++ ls) x log.snaps) lists.writes
      ∙ ap (tells_each (map (λ t. t.ops) ts) (map (λ t. t.event) ts) (flat_map (λ t. t.reads) ts ++ rs)
      (flat_map (λ t. t.locks) ts ++ ls) (flat_map (λ t. t.writes) ts ++ ws)) lists.snaps
      ∙ each_tells ts lists.owned rs ls ws ss

  -- over the calls
  pub listed_tells : tells_with (flat_map own_ops ts) log ≡ ts
  listed_tells =
      listed_each (ops_each (flat_map own_ops ts) log.events)
      (ap (ops_each (flat_map own_ops ts)) lists.events ∙ asked_each ts lists.owned)

  -- by the jobs
  pub listed_tells_by_jobs : (jobs : List (List Op)) → AllByRecursion (λ t. t.ops ≡ ops_in jobs t.event) ts
      → tells_of jobs log ≡ ts
  listed_tells_by_jobs jobs same =
      listed_each (map (ops_in jobs) log.events) (ap (map (ops_in jobs)) lists.events ∙ each_job ts same)
    where
      each_job : (ts : List Tell) → AllByRecursion (λ t. t.ops ≡ ops_in jobs t.event) ts
          → map (ops_in jobs) (map (λ t. t.event) ts) ≡ map (λ t. t.ops) ts
      each_job [] same = refl
      each_job (t ∷ ts) same = ap (λ ops. ops ∷ map (ops_in jobs) (map (λ t. t.event) ts)) (sym same.0)
          ∙ ap (λ opss. t.ops ∷ opss) (each_job ts same.1)

  -- the log lists more, which no event owns yet
  pub lists_more : (rs' : List Item) (ls' : List Lock) (ws' : List Item) (ss' : List (List ℕ))
      → ListsTells (record {
        events = log.events;
        reads = log.reads ++ rs';
        locks = log.locks ++ ls';
        writes = log.writes ++ ws';
        snaps = log.snaps ++ ss';
      }) ts (rs ++ rs') (ls ++ ls') (ws ++ ws') (ss ++ ss')
  lists_more rs' ls' ws' ss' = record {
    events = lists.events;
    reads = ap (λ x. x ++ rs') lists.reads ∙ append_assoc (flat_map (λ t. t.reads) ts) rs rs';
    locks = ap (λ x. x ++ ls') lists.locks ∙ append_assoc (flat_map (λ t. t.locks) ts) ls ls';
    writes = ap (λ x. x ++ ws') lists.writes ∙ append_assoc (flat_map (λ t. t.writes) ts) ws ws';
    snaps = ap (λ x. x ++ ss') lists.snaps ∙ append_assoc (flat_map own_snaps ts) ss ss';
    owned = lists.owned;
  }

-- ---- one more event

more_flat : {X : Type 0} (f : Tell → List X) (ts : List Tell) (t : Tell)
    → flat_map f ts ++ f t ≡ flat_map f (ts ++ t ∷ []) ++ []
more_flat f ts t =
    sym (append-nil (flat_map f (ts ++ t ∷ [])) ∙ flat_map-append f ts (t ∷ [])
    ∙ ap (λ xs. flat_map f ts ++ xs) (append-nil (f t)))

-- an event that owns all that no event owned yet
pub lists_event : (log : Log) (ts : List Tell) (t : Tell)
    → ListsTells log ts t.reads t.locks t.writes (own_snaps t) → OwnsItems t
    → ListsTells (record log { events = log.events ++ t.event ∷ [] }) (ts ++ t ∷ []) [] [] [] []
lists_event log ts t lists owns = record {
  events = ap (λ es. es ++ t.event ∷ []) lists.events ∙ sym (map-append (λ t. t.event) ts (t ∷ []));
  reads = lists.reads ∙ more_flat (λ t. t.reads) ts t;
  locks = lists.locks ∙ more_flat (λ t. t.locks) ts t;
  writes = lists.writes ∙ more_flat (λ t. t.writes) ts t;
  snaps = lists.snaps ∙ more_flat own_snaps ts t;
  owned = All-append OwnsItems ts (t ∷ []) lists.owned (owns, tt);
}

-- an event with what it owns
pub lists_tell : (log : Log) (ts : List Tell) (t : Tell) → ListsTells log ts [] [] [] [] → OwnsItems t
    → ListsTells (with_tell log t) (ts ++ t ∷ []) [] [] [] []
lists_tell log ts t lists owns =
    lists_event (record (with_tell log t) { events = log.events }) ts t
    (lists_more log ts [] [] [] [] lists t.reads t.locks t.writes (own_snaps t)) owns

-- ---- logs whose counts fit

total_is : {X : Type 0} (owned : Event → ℕ) (f : Tell → List X) (ts : List Tell)
    → AllByRecursion (λ t. owned t.event ≡ length (f t)) ts
    → total owned (map (λ t. t.event) ts) ≡ length (flat_map f ts)
total_is owned f [] h = refl
total_is owned f (t ∷ ts) h =
    omega (arith, h.0, total_is owned f ts h.1, length-append (f t) (flat_map f ts))

-- a log that lists these events and nothing more has counts that fit
pub lists_counts : (log : Log) (ts : List Tell) → ListsTells log ts [] [] [] [] → CountsFit log
lists_counts log ts lists = record {
  reads = fits reads_in (λ t. t.reads) log.reads lists.reads (all_of (λ t o. o.reads) ts lists.owned);
  locks = fits locks_in (λ t. t.locks) log.locks lists.locks (all_of (λ t o. o.locks) ts lists.owned);
  writes = fits writes_in (λ t. t.writes) log.writes lists.writes (all_of (λ t o. o.writes) ts lists.owned);
  snaps = fits snaps_in own_snaps log.snaps lists.snaps (all_of (λ t o. own t) ts lists.owned);
}
  where
    fits : {X : Type 0} (owned : Event → ℕ) (f : Tell → List X) (all : List X) → all ≡ flat_map f ts ++ []
        → AllByRecursion (λ t. owned t.event ≡ length (f t)) ts → total owned log.events ≡ length all
    fits owned f all is h =
        ap (total owned) lists.events ∙ total_is owned f ts h ∙ ap length (sym (is ∙ append-nil (flat_map f ts)))

    all_of : {P Q : Tell → Type 0} → ((t : Tell) → P t → Q t) → (ts : List Tell) → AllByRecursion P ts
        → AllByRecursion Q ts
    all_of f [] h = tt
    all_of f (t ∷ ts) h = (f t h.0, all_of f ts h.1)

    own : (t : Tell) → snaps_in t.event ≡ length (own_snaps t)
    own t = elim (cases_Bool (is_some (prefix_in t.event))) [ inl h ↦ rw h refl | inr h ↦ rw h refl ]

-- events that are no attempts have no operations
abbrev OthersHaveNone : List (List Op) → List Event → Type 0
OthersHaveNone opss [] = Unit {0}
OthersHaveNone opss (e ∷ es) = (is_attempt e ≡ false → get_or opss 0 [] ≡ []) × OthersHaveNone (drop 1 opss) es

others_asked : (asked : List (List Op)) (es : List Event) → OthersHaveNone (ops_each asked es) es
others_asked asked [] = tt
others_asked asked (e ∷ es) = elim (cases_Bool (is_attempt e)) [
  | inl h ↦ rw h ((λ none. absurd cc), others_asked (drop 1 asked) es)
  | inr h ↦ rw h ((λ none. refl), others_asked asked es)
]

others_jobs : (jobs : List (List Op)) (es : List Event) → OthersHaveNone (map (ops_in jobs) es) es
others_jobs jobs [] = tt
others_jobs jobs (e ∷ es) = (none_in_others jobs e, others_jobs jobs es)

taken_fits : {X : Type 0} (n m : ℕ) (xs : List X) → n + m ≡ length xs → n ≡ length (take n xs)
taken_fits zero m xs h = refl
taken_fits (suc n) m [] h = absurd (omega (arith, h))
taken_fits (suc n) m (x ∷ xs) h = ap suc (taken_fits n m xs (omega (arith, h)))

left_fits : {X : Type 0} (n m : ℕ) (xs : List X) → n + m ≡ length xs → m ≡ length (drop n xs)
left_fits zero m xs h = omega (arith, h)
left_fits (suc n) m [] h = absurd (omega (arith, h))
left_fits (suc n) m (x ∷ xs) h = left_fits n m xs (omega (arith, h))

own_taken : (e : Event) (ss : List (List ℕ)) (m : ℕ) → snaps_in e + m ≡ length ss
    → (if is_some (prefix_in e) then get_or (take (snaps_in e) ss) 0 [] ∷ [] else []) ≡ take (snaps_in e) ss
own_taken e ss m h = elim (cases_Bool (is_some (prefix_in e))) [
  | inl k ↦ let one : snaps_in e ≡ 1 = rw k refl in rw k (first ss (omega (arith, h, one)))
  | inr k ↦ rw k refl
]
  where
    first : (ss : List (List ℕ)) → suc m ≡ length ss → get_or (take 1 ss) 0 [] ∷ [] ≡ take 1 ss
    first [] h = absurd (omega (arith, h))
    first (x ∷ ss) h = refl

-- what an event takes, and the rest
joined : {X : Type 0} (n : ℕ) (xs own ys : List X) → own ≡ take n xs → drop n xs ≡ ys ++ [] → xs ≡ (own ++ ys) ++ []
joined n xs own ys a b =
    sym (append_assoc own ys [] ∙ ap (λ zs. own ++ zs) (sym b) ∙ ap (λ zs. zs ++ drop n xs) a ∙ take-append-drop n xs)

-- what events take of lists that they own wholly
each_lists : (opss : List (List Op)) (es : List Event) (rs : List Item) (ls : List Lock) (ws : List Item)
    (ss : List (List ℕ)) → OthersHaveNone opss es → total reads_in es ≡ length rs → total locks_in es ≡ length ls
    → total writes_in es ≡ length ws → total snaps_in es ≡ length ss
    → ListsTells (record { events = es; reads = rs; locks = ls; writes = ws; snaps = ss })
    (tells_each opss es rs ls ws ss) [] [] [] []
each_lists opss [] rs ls ws ss others r l w s = record {
  events = refl;
  reads = nil_from_length rs (sym r);
  locks = nil_from_length ls (sym l);
  writes = nil_from_length ws (sym w);
  snaps = nil_from_length ss (sym s);
  owned = tt;
}
each_lists opss (e ∷ es) rs ls ws ss others r l w s =
    let rest = each_lists (drop 1 opss) es (drop (reads_in e) rs) (drop (locks_in e) ls) (drop (writes_in e) ws)
    (drop (snaps_in e) ss) others.1 (left_fits (reads_in e) (total reads_in es) rs r)
    (left_fits (locks_in e) (total locks_in es) ls l) (left_fits (writes_in e) (total writes_in es) ws w)
    (left_fits (snaps_in e) (total snaps_in es) ss s) in
    let ts = tells_each (drop 1 opss) es (drop (reads_in e) rs) (drop (locks_in e) ls) (drop (writes_in e) ws)
    (drop (snaps_in e) ss) in
    record {
      events = ap (λ xs. e ∷ xs) rest.events;
      reads = joined (reads_in e) rs (take (reads_in e) rs) (flat_map (λ t. t.reads) ts) refl rest.reads;
      locks = joined (locks_in e) ls (take (locks_in e) ls) (flat_map (λ t. t.locks) ts) refl rest.locks;
      writes = joined (writes_in e) ws (take (writes_in e) ws) (flat_map (λ t. t.writes) ts) refl rest.writes;
      snaps = joined (snaps_in e) ss
          (if is_some (prefix_in e) then get_or (take (snaps_in e) ss) 0 [] ∷ [] else []) (flat_map own_snaps ts)
          (own_taken e ss (total snaps_in es) s) rest.snaps;
      owned = (
        record {
          reads = taken_fits (reads_in e) (total reads_in es) rs r;
          locks = taken_fits (locks_in e) (total locks_in es) ls l;
          writes = taken_fits (writes_in e) (total writes_in es) ws w;
          snap = λ none. rw none refl;
          ops = others.0;
        },
        rest.owned,
      );
    }

-- where the counts fit, a log lists what it tells and nothing more
pub counts_list : (asked : List (List Op)) (log : Log) → CountsFit log
    → ListsTells log (tells_with asked log) [] [] [] []
counts_list asked log fits =
    each_lists (ops_each asked log.events) log.events log.reads log.locks log.writes log.snaps
    (others_asked asked log.events) fits.reads fits.locks fits.writes fits.snaps

pub counts_list_by_jobs : (jobs : List (List Op)) (log : Log) → CountsFit log
    → ListsTells log (tells_of jobs log) [] [] [] []
counts_list_by_jobs jobs log fits =
    each_lists (map (ops_in jobs) log.events) log.events log.reads log.locks log.writes log.snaps
    (others_jobs jobs log.events) fits.reads fits.locks fits.writes fits.snaps

-- one more event is one more in what the log tells

pub counts_grow : (log : Log) (t : Tell) → CountsFit log → OwnsItems t → CountsFit (with_tell log t)
counts_grow log t fits owns =
    lists_counts (with_tell log t) (tells_with [] log ++ t ∷ [])
    (lists_tell log (tells_with [] log) t (counts_list [] log fits) owns)

first_asked : (asked : List (List Op)) (n : ℕ) (rest : List (List Op) → List (List Op)) → length asked ≡ suc n
    → ((more : List (List Op)) → length more ≡ n → rest more ≡ more) → get_or asked 0 [] ∷ rest (drop 1 asked) ≡ asked
first_asked [] n rest long back = absurd (omega (arith, long))
first_asked (ops ∷ asked) n rest long back = ap (λ opss. ops ∷ opss) (back asked (omega (arith, long)))

asked_back : (es : List Event) (asked : List (List Op)) (rs : List Item) (ls : List Lock) (ws : List Item)
    (ss : List (List ℕ)) → length asked ≡ length (filter is_attempt es)
    → flat_map own_ops (tells_each (ops_each asked es) es rs ls ws ss) ≡ asked
asked_back [] asked rs ls ws ss long = sym (nil_from_length asked long)
asked_back (e ∷ es) asked rs ls ws ss long =
    let rest : List (List Op) → List (List Op) =
    λ more. flat_map own_ops (tells_each (ops_each more es) es (drop (reads_in e) rs) (drop (locks_in e) ls)
    (drop (writes_in e) ws) (drop (snaps_in e) ss)) in
    let back : (more : List (List Op)) → length more ≡ length (filter is_attempt es) → rest more ≡ more =
    λ more. asked_back es more (drop (reads_in e) rs) (drop (locks_in e) ls) (drop (writes_in e) ws)
    (drop (snaps_in e) ss) in
    let count : (b : Bool) → is_attempt e ≡ b
    → length asked ≡ length (cond b (e ∷ filter is_attempt es) (filter is_attempt es)) =
    λ b h. long ∙ ap (λ c. length (cond c (e ∷ filter is_attempt es) (filter is_attempt es))) h in
    elim (cases_Bool (is_attempt e)) [
      | inl h ↦
          rw h (first_asked asked (length (filter is_attempt es)) rest (count true h) back)
      | inr h ↦ rw h (back asked (count false h))
    ]

-- over the calls: the operations of each attempt so far stand before those of the new one
pub tells_grow : (asked : List (List Op)) (log : Log) (t : Tell) → CountsFit log
    → length asked ≡ length (filter is_attempt log.events) → OwnsItems t
    → tells_with (asked ++ own_ops t) (with_tell log t) ≡ tells_with asked log ++ t ∷ []
tells_grow asked log t fits long owns =
    let ts = tells_with asked log in
    let lists = lists_tell log ts t (counts_list asked log fits) owns in
    let ops : flat_map own_ops (ts ++ t ∷ []) ≡ asked ++ own_ops t =
    flat_map-append own_ops ts (t ∷ []) ∙ ap (λ opss. flat_map own_ops ts ++ opss) (append-nil (own_ops t))
    ∙ ap (λ opss. opss ++ own_ops t)
    (asked_back log.events asked log.reads log.locks log.writes log.snaps long) in
    ap (λ opss. tells_with opss (with_tell log t)) (sym ops)
    ∙ listed_tells (with_tell log t) (ts ++ t ∷ []) [] [] [] [] lists

-- by the jobs
pub tells_grow_by_jobs : (jobs : List (List Op)) (log : Log) (t : Tell) → CountsFit log → OwnsItems t
    → t.ops ≡ ops_in jobs t.event → tells_of jobs (with_tell log t) ≡ tells_of jobs log ++ t ∷ []
tells_grow_by_jobs jobs log t fits owns job =
    let ts = tells_of jobs log in
    listed_tells_by_jobs (with_tell log t) (ts ++ t ∷ []) [] [] [] []
    (lists_tell log ts t (counts_list_by_jobs jobs log fits) owns) jobs
    (All-append (λ t. t.ops ≡ ops_in jobs t.event) ts (t ∷ [])
    (each_ops log.events log.reads log.locks log.writes log.snaps) (job, tt))
  where
    each_ops : (es : List Event) (rs : List Item) (ls : List Lock) (ws : List Item) (ss : List (List ℕ))
        → AllByRecursion (λ t. t.ops ≡ ops_in jobs t.event) (tells_from jobs es rs ls ws ss)
    each_ops [] rs ls ws ss = tt
    each_ops (e ∷ es) rs ls ws ss = (
      refl,
      each_ops es (drop (reads_in e) rs) (drop (locks_in e) ls) (drop (writes_in e) ws) (drop (snaps_in e) ss),
    )
