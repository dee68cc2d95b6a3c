-- The moves that have claimed a cell are as many moves that are told; each has claimed one cell, for good.
use Rattle.std.proofs.Common.{Bool, List, Some, [], ap, arith, false, inl, inr, length, length-append, refl}
use Rattle.std.proofs.Common.{slice_get, subst, suc, sym, true, zero, ℕ, ◌+◌, ◌++◌, ◌∙◌, ◌∷◌, ◌≡◌, ◌≢◌, ◌≤◌}
use Rattle.std.specs.Prelude.{filter, if◌then◌else◌, ◌==◌}
use Rattle.std.proofs.lemmas.Bool.{eq-eqb}
use Rattle.std.proofs.lemmas.List.Elements.{filter-append}
use Rattle.std.proofs.lemmas.Option.{none-some, same_Some}
use Rattle.si_law.proofs.GrowthCrowded.{length-le_from_listed}
use Rattle.si_model.proofs.ListLemmas.{All-from_listed, listed_append_left, listed_append_right}
use Rattle.si_model.specs.Causes.{move_count, moves_into}
use Rattle.si_model.specs.Lists.{Listed, Pairwise, StandsAt, concat_of}
use Rattle.si_model.specs.Tells.{Tell}
use Rattle.nam_verbs.proofs.TestLemmas.{by_test}
use Rattle.nam_calls.specs.declared.mover.MovePoint.TheVariants.{MoveClaim}
use Rattle.nam_calls.specs.declared.mover.MovePoint.{MovePoint}
use Rattle.nam_calls.specs.declared.overflow.ClaimPoint.TheVariants.{ClaimTake}
use Rattle.nam_catalog.specs.declared.shape.Shape.{Shape}
use Rattle.nam_filled.proofs.ListLemmas.{listed_get}
use Rattle.nam_filled.proofs.SpotLemmas.{added_cases}
use Rattle.nam_filled.proofs.TakenLemmas.{movers_law}
use Rattle.nam_filled.specs.Holders.{Holders, Mover, add_holder, call_holders, move_holders, mover_of}
use Rattle.nam_tells.specs.Logs.{logs_cut, logs_from}
use Rattle.nam_filled.specs.TakenLaw.{AloneLaw, CountLaw, StaysLaw}
use Rattle.nam_layout.specs.Place.{bucket_of}
use Rattle.nam_layout.specs.Rows.{row_of}
use Rattle.nam_protocol.specs.CutClient.{client_cut}
use Rattle.nam_protocol.specs.declared.client.CallPoint.TheVariants.{Beginning, Collecting, InTxn, Moving, Scanning}
use Rattle.nam_protocol.specs.declared.client.CallPoint.TheVariants.{Seeking, Snapping}
use Rattle.nam_protocol.specs.declared.client.CallPoint.{CallPoint}
use Rattle.nam_protocol.specs.declared.client.ClientState.{ClientState}
use Rattle.nam_store.specs.Store.{Abandons, Asks, Cuts, Takes, found_word}
use Rattle.nam_tells.specs.Teller.{Teller}
use Rattle.nam_tells.specs.TellsLaw.{tells_now}

-- 1. Claimed once, and for good

pub alone_law : AloneLaw
alone_law shape store ghost holders filled b c d e mover at is =
    let i = listed_get (holders b c) mover at in
    let j = listed_get (holders d e) mover is in
    let once = filled.once b c i.0 d e j.0 mover i.1 j.1 in
    (once.0, once.1)

module _ (shape : Shape) (own : Mover) (found : ℕ) (holders : Holders) (bucket cell : ℕ) (mover : Mover)
    (listed : Listed mover (holders bucket cell)) where
  abbrev In : Holders → Type 0
  In more = Listed mover (more bucket cell)

  move_stays : (row : ℕ) (at : MovePoint) → In (move_holders shape own row at found holders)
  move_stays row (MoveClaim slot header ending (ClaimTake taken tag)) =
      by_test In (found == tag) (add_holder holders (bucket_of shape row) taken own) holders
      (λ e. added_cases (bucket_of shape row) taken bucket cell holders own (Listed mover)
      (λ f g. listed_append_left (holders bucket cell) (own ∷ []) mover listed) listed) (λ e. listed)
  move_stays row _ = listed

  call_stays : (place : CallPoint) → In (call_holders shape own place found holders)
  call_stays (Moving table key position at) = move_stays (row_of shape.tables table position) at
  call_stays (Beginning txn nth at) = listed
  call_stays (InTxn at) = listed
  call_stays (Scanning table low high at) = listed
  call_stays (Seeking table key passed) = listed
  call_stays (Snapping bucket at) = listed
  call_stays (Collecting bucket prefix seen at) = listed

pub stays_law : StaysLaw
stays_law shape before _ (Takes nth client place here runs at) holders bucket cell mover listed =
    call_stays shape (mover_of nth client) (found_word shape before client) holders bucket cell mover listed place
stays_law shape before _ (Asks nth client asked here may words) holders bucket cell mover listed = listed
stays_law shape before _ (Abandons nth client here rests) holders bucket cell mover listed = listed
stays_law shape before _ (Cuts nth client here) holders bucket cell mover listed = listed

-- 2. The moves that are told

get_apart : {A : Type 0} (xs : List A) → ((i j : ℕ) (x : A) → slice_get xs i ≡ Some x → slice_get xs j ≡ Some x
    → i ≡ j) → Pairwise (λ a b. a ≢ b) xs
get_apart [] once = tt
get_apart (x ∷ xs) once = (
  All-from_listed (λ y. x ≢ y) xs (λ y listed same.
      let j = listed_get xs y listed in
      let e = once 0 (suc j.0) y (ap Some same) j.1 in absurd (omega arith)),
  get_apart xs (λ i j y at is. let e = once (suc i) (suc j) y at is in omega arith),
)

-- those into the bucket that a worker's events tell, the first of which stands at this place
movers_in : ℕ → ℕ → ℕ → List Tell → List Mover
movers_in bucket worker place [] = []
movers_in bucket worker place (t ∷ ts) =
    if moves_into bucket t.event then record { worker = worker; place = place } ∷ movers_in bucket worker (place + 1) ts
    else movers_in bucket worker (place + 1) ts

movers_count : (bucket worker place : ℕ) (ts : List Tell)
    → length (movers_in bucket worker place ts) ≤ move_count bucket ts
unfolding movers_in
movers_count bucket worker place [] = omega arith
movers_count bucket worker place (t ∷ ts) = by (moves_into bucket t.event) (movers_count bucket worker (place + 1) ts)
  where
    by : (into : Bool) → length (movers_in bucket worker (place + 1) ts) ≤ move_count bucket ts
        → length (if into then record { worker = worker; place = place } ∷ movers_in bucket worker (place + 1) ts
        else movers_in bucket worker (place + 1) ts)
        ≤ length (if into then t ∷ filter (λ (u : Tell). moves_into bucket u.event) ts
        else filter (λ (u : Tell). moves_into bucket u.event) ts)
    by true less = omega arith
    by false less = less

-- a move into the bucket is one of them
movers_listed : (bucket worker place : ℕ) (ts : List Tell) (n : ℕ) (tell : Tell) → StandsAt n tell ts
    → moves_into bucket tell.event ≡ true
    → Listed record { worker = worker; place = place + n } (movers_in bucket worker place ts)
unfolding movers_in
movers_listed bucket worker place [] zero tell (rest, stands) into = absurd (cc)
movers_listed bucket worker place [] (suc n) tell (rest, stands) into = absurd (cc)
movers_listed bucket worker place (t ∷ ts) zero tell (rest, stands) into =
    let same : t ≡ tell = same_Some t tell (ap (λ us. slice_get us 0) stands) in
    let at : place ≡ place + 0 = omega arith in
    subst (λ into. Listed record { worker = worker; place = place + 0 }
    (if into then record { worker = worker; place = place } ∷ movers_in bucket worker (place + 1) ts
    else movers_in bucket worker (place + 1) ts))
    (sym (ap (λ (u : Tell). moves_into bucket u.event) same ∙ into))
    (inl (ap (λ p. record { worker = worker; place = p }) at))
movers_listed bucket worker place (t ∷ ts) (suc n) tell stands into =
    let at : (place + 1) + n ≡ place + suc n = omega arith in
    let more = subst (λ p. Listed record { worker = worker; place = p } (movers_in bucket worker (place + 1) ts)) at
    (movers_listed bucket worker (place + 1) ts n tell stands into) in
    by_test (Listed record { worker = worker; place = place + suc n }) (moves_into bucket t.event)
    (record { worker = worker; place = place } ∷ movers_in bucket worker (place + 1) ts)
    (movers_in bucket worker (place + 1) ts) (λ e. inr more) (λ e. more)

movers_all : ℕ → ℕ → List (List Tell) → List Mover
movers_all bucket nth [] = []
movers_all bucket nth (ts ∷ tss) = movers_in bucket (suc nth) 0 ts ++ movers_all bucket (suc nth) tss

all_count : (bucket nth : ℕ) (tss : List (List Tell))
    → length (movers_all bucket nth tss) ≤ move_count bucket (concat_of tss)
unfolding movers_all
all_count bucket nth [] = omega arith
all_count bucket nth (ts ∷ tss) =
    let here = movers_count bucket (suc nth) 0 ts in
    let rest = all_count bucket (suc nth) tss in
    let into : Tell → Bool = λ t. moves_into bucket t.event in
    let parts = ap length (filter-append into ts (concat_of tss))
    ∙ length-append (filter into ts) (filter into (concat_of tss)) in
    let both = length-append (movers_in bucket (suc nth) 0 ts) (movers_all bucket (suc nth) tss) in
    omega arith

module _ (shape : Shape) (tellers : ℕ → Teller) (bucket : ℕ) (mover : Mover) where
  -- of the client with this number among those from here on
  all_listed : (clients : List ClientState) (first n : ℕ) (client : ClientState) (tell : Tell)
      → slice_get clients n ≡ Some client → mover.worker ≡ first + n + 1
      → StandsAt mover.place tell (tells_now shape (tellers (first + n)) (client_cut client))
      → moves_into bucket tell.event ≡ true
      → Listed mover (movers_all bucket first (logs_from shape tellers first clients))
  unfolding movers_all
  all_listed [] first n client tell here worker_is stands into = absurd (none-some client here)
  all_listed (c ∷ clients) first zero client tell here worker_is stands into =
      let first_is : first + 0 ≡ first = omega arith in
      let same : client ≡ c = sym (same_Some c client here) in
      let there =
      subst (λ (o : ClientState). StandsAt mover.place tell (tells_now shape (tellers first) (client_cut o)))
      same (subst (λ k. StandsAt mover.place tell (tells_now shape (tellers k) (client_cut client))) first_is stands) in
      let worker : suc first ≡ mover.worker = omega arith in
      listed_append_left (movers_in bucket (suc first) 0 (tells_now shape (tellers first) (client_cut c)))
      (movers_all bucket (suc first) (logs_from shape tellers (suc first) clients)) mover
      (subst (λ w. Listed record { worker = w; place = mover.place }
      (movers_in bucket (suc first) 0 (tells_now shape (tellers first) (client_cut c)))) worker
      (subst (λ p. Listed record { worker = suc first; place = p }
      (movers_in bucket (suc first) 0 (tells_now shape (tellers first) (client_cut c)))) (omega arith)
      (movers_listed bucket (suc first) 0 (tells_now shape (tellers first) (client_cut c)) mover.place tell there
      into)))
  all_listed (c ∷ clients) first (suc n) client tell here worker_is stands into =
      listed_append_right (movers_in bucket (suc first) 0 (tells_now shape (tellers first) (client_cut c)))
      (movers_all bucket (suc first) (logs_from shape tellers (suc first) clients)) mover
      (all_listed clients (suc first) n client tell here (omega arith)
      (subst (λ k. StandsAt mover.place tell (tells_now shape (tellers k) (client_cut client)))
      (omega arith) stands) into)

pub count_law : CountLaw
count_law shape store ghost holders tellers tells bucket cell =
    let all = movers_all bucket 0 (logs_cut shape tellers store) in
    let most = all_count bucket 0 (logs_cut shape tellers store) in
    let few = length-le_from_listed (holders bucket cell) all
    (get_apart (holders bucket cell) (λ i j mover at is.
    (tells.filled.once bucket cell i bucket cell j mover at is).2))
    (λ mover listed.
    let told = (movers_law shape store ghost holders tellers tells bucket cell mover listed).2 in
    all_listed shape tellers bucket mover store.clients 0 told.nth told.client told.tell told.here
    (let e = told.worker_is in omega arith)
    (subst (λ k. StandsAt mover.place told.tell (tells_now shape (tellers k) (client_cut told.client))) (omega arith)
    told.stands)
    (ap (moves_into bucket) told.event_is ∙ eq-eqb bucket bucket refl)) in
    omega arith
