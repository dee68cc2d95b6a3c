-- The lines of the transactions and the turns of a script lead to the draft of them.
use Rattle.std.proofs.Common.{◌≡◌, ℕ, ◌+◌, ◌^◌, ◌<◌, ◌≤◌, true, eqb, ltb, leb, List, [], ◌∷◌, ◌++◌, map, length}
use Rattle.std.proofs.Common.{Some, Result, Ok, refl, sym, ap, ◌∙◌, subst, arith, length-append}
use Rattle.std.proofs.Common.{◌-◌}
use Rattle.std.specs.Prelude.{slice_index}
use Rattle.std.specs.List.{AllByRecursion}
use Rattle.std.proofs.lemmas.Bool.{eq-eqb, lt-ltb, le-leb}
use Rattle.std.proofs.lemmas.List.{append-nil, length-map}
use Rattle.std.proofs.lemmas.List.Elements.{recursion_from_All}
use Rattle.std.proofs.lemmas.Grind.{flat_map-append}
use Rattle.std.proofs.lemmas.Option.{same_Some}
use Rattle.si_model.specs.declared.op.Op.{Op}
use Rattle.si_model.specs.declared.op.Op.TheVariants as op
use Rattle.si_model.specs.Evaluation.{OpFits, key_claimed, keys_from}
use Rattle.nam_catalog.specs.declared.shape.Table.{Table}
use Rattle.nam_catalog.specs.Tables.{name_of, widths_of, capacities_of}
use Rattle.nam_catalog.specs.Fits.{FitsTable}
use Rattle.nam_catalog.proofs.FitsLemmas.{fits_limits}
use Rattle.nam_script.specs.declared.refusal.Kind.{Kind}
use Rattle.nam_script.specs.declared.refusal.Kind.TheVariants as kind
use Rattle.nam_script.specs.Line as line
use Rattle.nam_script.specs.declared.script.ScriptTxn.{ScriptTxn}
use Rattle.nam_script.specs.declared.script.Stint.{Stint}
use Rattle.nam_script.specs.declared.script.Turns.TheVariants as turns
use Rattle.nam_script.specs.declared.script.Script.{Script}
use Rattle.nam_script.specs.declared.draft.Draft.{Draft}
use Rattle.nam_script.specs.declared.stage.Stage.{Stage}
use Rattle.nam_script.specs.declared.stage.Stage.TheVariants as stage
use Rattle.nam_script.specs.Lines.{FitsStint, spelt_line}
use Rattle.nam_script.specs.Stages.{is_at, is_loaded, takes_turns}
use Rattle.nam_script.specs.Checks.{within, small, all_small, key_of, all_stints, place_of}
use Rattle.nam_script.specs.Checks.{total_within, steps_of, op_cost, ops_cost, txns_cost, keys_after}
use Rattle.nam_script.specs.Admit.{push_op, admit}
use Rattle.nam_script.specs.Limits.{IsNamed, Fits64Bits, IsKey, OpNumbersFit, TxnFits, StintFits, TurnsFit, IsScript}
use Rattle.nam_script.specs.Spelling.{IsGood, somes, spelt, op_line, txn_lines}
use Rattle.nam_script.specs.Spelling.{turns_line}
use Rattle.nam_script.proofs.Kept.{with_key, ops_cost_both, ops_cost_more, txns_cost_both, txns_cost_more, keys_both}
use Rattle.nam_script.proofs.Kept.{steps_both}
use Rattle.nam_script.proofs.StoreLeads.{fit_words}
use Rattle.nam_script.proofs.Leads.{Leads, leads_none, leads_next, leads_both, Leads1, each_line_leads}
use Rattle.nam_script.proofs.Leads.{ok_goes, must_goes, within_goes, total_goes, all_small_goes, all_stints_go, keys_go}
use Rattle.nam_script.proofs.Leads.{keys_grow}
use Rattle.nam_script.proofs.Fronts.{all_at, all_front, all_rest, AreFirst, found_at, finds}
use Rattle.nam_script.proofs.Fronts.{name_at, width_at, place_below}
use Rattle.nam_script.proofs.Drafts.{after, after_more, after_passes, loaded, ended}
use Rattle.nam_script.proofs.Drafts.{last_worker, last_more, ran, opened, in_all, turned, seeded}

-- ---- operations

-- its line is spelt right
op_is_good : (ts : List Table) (o : Op) → AllByRecursion IsNamed ts → AllByRecursion FitsTable ts
    → OpFits (widths_of ts) o → OpNumbersFit o → IsGood (op_line ts o)
unfolding spelt_line
op_is_good ts (op.Get t k) named sized fit num = (name_at ts t named (place_below ts t fit.0), omega (arith, num))
op_is_good ts (op.Put t k v) named sized fit num =
    let lt = place_below ts t fit.0.0 in
    let wide = width_at ts t sized lt in
    let count = length-map v (λ (n : ℕ). Some n) in (
      name_at ts t named lt,
      (
        omega (arith, num.0),
        (fit_words v num.1, omega (arith, count, fit.1, wide.0), omega (arith, count, fit.1, wide.1)),
      ),
    )
op_is_good ts (op.Add t k f up by) named sized fit num =
    let lt = place_below ts t fit.0.0 in
    let wide = width_at ts t sized lt in (
      name_at ts t named lt,
      (
        omega (arith, num.0),
        (omega (arith, fit.1.1, wide.1), (num.1, λ down zero. omega (arith, num.2 down, same_Some by 0 zero))),
      ),
    )
op_is_good ts (op.Del t k) named sized fit num = (name_at ts t named (place_below ts t fit.0), omega (arith, num))
op_is_good ts (op.Need t k f least) named sized fit num =
    let lt = place_below ts t fit.0.0 in
    let wide = width_at ts t sized lt in
    (name_at ts t named lt, (omega (arith, num.0), (omega (arith, fit.1.1, wide.1), num.1)))
op_is_good ts (op.Guard t k) named sized fit num = (name_at ts t named (place_below ts t fit.0), omega (arith, num))
op_is_good ts (op.Scan t low high) named sized fit num =
    (name_at ts t named (place_below ts t fit.0), (omega (arith, num.0, num.1), omega (arith, num.1)))

key_goes : (k : ℕ) → IsKey k → key_of (Some k) ≡ Ok k
key_goes k is = within_goes 0 (2 ^ 64 - 2) k (omega arith) is

small_goes : (n : ℕ) → Fits64Bits n → small (Some n) ≡ Ok n
small_goes n fits = within_goes 0 (2 ^ 64 - 1) n (omega arith) (omega (arith, fits))

-- what its line comes to, where a transaction is open: the operation is pushed
op_goes : (d : Draft) (o : Op) (y : Result Draft Kind) → is_at d.stage stage.Open ≡ true → AreFirst d.shape.tables
    → OpFits (widths_of d.shape.tables) o → OpNumbersFit o
    → push_op d o (op_cost (capacities_of d.shape.tables) o) ≡ y → admit d (op_line d.shape.tables o) ≡ y
unfolding admit
op_goes d (op.Get t k) y at first fit num goes =
    let ts = d.shape.tables in
    must_goes (is_at d.stage stage.Open) kind.Word _ y at
    (ok_goes (place_of ts (name_of ts t)) _ (found_at ts t) y (finds ts first t (place_below ts t fit.0))
    (ok_goes (key_of (Some k)) _ k y (key_goes k num) goes))
op_goes d (op.Put t k v) y at first fit num goes =
    let ts = d.shape.tables in
    must_goes (is_at d.stage stage.Open) kind.Word _ y at
    (ok_goes (place_of ts (name_of ts t)) _ (found_at ts t) y (finds ts first t (place_below ts t fit.0.0))
    (ok_goes (key_of (Some k)) _ k y (key_goes k num.0)
    (ok_goes (all_small (somes v)) _ v y (all_small_goes v)
    (must_goes (eqb (length v) (slice_index (widths_of ts) t)) kind.Size _ y (eq-eqb _ _ fit.1) goes))))
op_goes d (op.Add t k f up by) y at first fit num goes =
    let ts = d.shape.tables in
    must_goes (is_at d.stage stage.Open) kind.Word _ y at
    (ok_goes (place_of ts (name_of ts t)) _ (found_at ts t) y (finds ts first t (place_below ts t fit.0.0))
    (ok_goes (key_of (Some k)) _ k y (key_goes k num.0)
    (ok_goes (within 1 (slice_index (widths_of ts) t) (Some f)) _ f y
    (within_goes 1 (slice_index (widths_of ts) t) f fit.1.0 fit.1.1)
    (ok_goes (small (Some by)) _ by y (small_goes by num.1) goes))))
op_goes d (op.Del t k) y at first fit num goes =
    let ts = d.shape.tables in
    must_goes (is_at d.stage stage.Open) kind.Word _ y at
    (ok_goes (place_of ts (name_of ts t)) _ (found_at ts t) y (finds ts first t (place_below ts t fit.0))
    (ok_goes (key_of (Some k)) _ k y (key_goes k num) goes))
op_goes d (op.Need t k f least) y at first fit num goes =
    let ts = d.shape.tables in
    must_goes (is_at d.stage stage.Open) kind.Word _ y at
    (ok_goes (place_of ts (name_of ts t)) _ (found_at ts t) y (finds ts first t (place_below ts t fit.0.0))
    (ok_goes (key_of (Some k)) _ k y (key_goes k num.0)
    (ok_goes (within 1 (slice_index (widths_of ts) t) (Some f)) _ f y
    (within_goes 1 (slice_index (widths_of ts) t) f fit.1.0 fit.1.1)
    (ok_goes (small (Some least)) _ least y (small_goes least num.1) goes))))
op_goes d (op.Guard t k) y at first fit num goes =
    let ts = d.shape.tables in
    must_goes (is_at d.stage stage.Open) kind.Word _ y at
    (ok_goes (place_of ts (name_of ts t)) _ (found_at ts t) y (finds ts first t (place_below ts t fit.0))
    (ok_goes (key_of (Some k)) _ k y (key_goes k num) goes))
op_goes d (op.Scan t low high) y at first fit num goes =
    let ts = d.shape.tables in
    must_goes (is_at d.stage stage.Open) kind.Word _ y at
    (ok_goes (place_of ts (name_of ts t)) _ (found_at ts t) y (finds ts first t (place_below ts t fit.0))
    (ok_goes (key_of (Some low)) _ low y (key_goes low (omega (arith, num.0, num.1)))
    (ok_goes (key_of (Some high)) _ high y (key_goes high num.1)
    (must_goes (leb low high) kind.Range _ y (le-leb low high num.0) goes))))

push_goes : (d : Draft) (o : Op) (cost : ℕ) → length d.body.ops < 32 → d.body.cost + cost ≤ 65536
    → length (with_key d.body.keys (key_claimed o)) ≤ 16
    → push_op d o cost ≡ Ok (record d {
      body = record d.body {
        ops = d.body.ops ++ o ∷ [];
        keys = with_key d.body.keys (key_claimed o);
        cost = d.body.cost + cost;
      };
    })
push_goes d o cost room most few =
    must_goes (ltb (length d.body.ops) 32) kind.Size _ _ (lt-ltb (length d.body.ops) 32 room)
    (ok_goes (total_within d.body.cost cost 65536) _ (d.body.cost + cost) _ (total_goes d.body.cost cost 65536 most)
    (ok_goes (keys_after d.body.keys o) _ (with_key d.body.keys (key_claimed o)) _
    (keys_go d.body.keys (key_claimed o) few) refl))

-- the transaction at a place, and the ones before it
pub record IsAt (s : Script) (before : List ScriptTxn) (x : ScriptTxn) : Type 0 where
  pub fits : TxnFits s.shape.workers s.shape.tables x
  pub few : length before < 8192
  pub cost : txns_cost (capacities_of s.shape.tables) before + ops_cost (capacities_of s.shape.tables) x.ops ≤ 65536

more_op : (s : Script) (xs : List ScriptTxn) (w : ℕ) (before : List Op) (o : Op) (keys : List _) (cost : ℕ)
    → keys ≡ keys_from key_claimed [] (before ++ o ∷ [])
    → cost ≡ txns_cost (capacities_of s.shape.tables) xs + ops_cost (capacities_of s.shape.tables) (before ++ o ∷ [])
    → ◌≡◌ {A = Result Draft Kind}
    (Ok (record (opened s xs w (before ++ o ∷ [])) {
      body = record (opened s xs w (before ++ o ∷ [])).body { keys = keys; cost = cost };
    }))
    (Ok (opened s xs w (before ++ o ∷ [])))
more_op s xs w before o keys cost ek ec = rw (ek, ec) refl

op_leads : (s : Script) → IsScript s → (xs : List ScriptTxn) (x : ScriptTxn) → IsAt s xs x → (before : List Op) (o : Op)
    (rest : List Op) → before ++ o ∷ rest ≡ x.ops
    → Leads1 (opened s xs x.worker before) (op_line s.shape.tables o) (opened s xs x.worker (before ++ o ∷ []))
op_leads s is xs x at before o rest all =
    let ts = s.shape.tables in
    let caps = capacities_of ts in
    let limits = fits_limits s.shape is.shape in
    let sized = recursion_from_All FitsTable ts limits.tables in
    let has = at.fits.ops in
    let fit = all_at (OpFits (widths_of ts)) before o rest
    (subst (AllByRecursion (OpFits (widths_of ts))) (sym all) has.fit) in
    let num = all_at OpNumbersFit before o rest (subst (AllByRecursion OpNumbersFit) (sym all) has.numbers) in
    let d = opened s xs x.worker before in
    let all_keys = keys_both key_claimed [] before (o ∷ rest) in
    let claimed = with_key d.body.keys (key_claimed o) in
    let grown : length claimed ≤ length (keys_from key_claimed [] (before ++ o ∷ rest)) = omega
    (arith, keys_grow key_claimed claimed rest, ap length all_keys) in
    let few : length claimed ≤ 16 = omega
    (arith, grown, has.claims, ap (λ (os : List Op). length (keys_from key_claimed [] os)) all) in
    let spent = ops_cost_both caps before (o ∷ rest) in
    let most : d.body.cost + op_cost caps o ≤ 65536 = omega (arith, at.cost, spent, ap (ops_cost caps) all) in
    let room : length before < 32 = omega (arith, has.few, ap length all, length-append before (o ∷ rest)) in (
      op_is_good ts o is.names sized fit num,
      op_goes d o _ refl limits.names fit num (push_goes d o (op_cost caps o) room most few ∙ more_op s xs x.worker
          before o claimed (d.body.cost + op_cost caps o) (sym (keys_both key_claimed [] before (o ∷ [])))
          (omega (arith, ops_cost_more caps before o))),
    )

-- ---- transactions

-- a transaction is opened
open_goes : (s : Script) → IsScript s → (before : List ScriptTxn) (x : ScriptTxn) → IsAt s before x
    → admit (ran s before) (line.Txn (Some x.worker)) ≡ Ok (opened s before x.worker [])
unfolding admit
open_goes s is before x at =
    let nothing : (n : ℕ) → n ≡ n + 0 = λ n. omega arith in
    must_goes (is_loaded (after (loaded s) stage.Between before)) kind.Word _ _
    (after_passes is_loaded (loaded s) stage.Between before
    (after_passes is_loaded stage.Tables stage.Rows s.rows refl refl) refl)
    (ok_goes (within 1 s.shape.workers (Some x.worker)) _ x.worker _
    (within_goes 1 s.shape.workers x.worker at.fits.worker.0 at.fits.worker.1)
    (must_goes (ltb (length before) 8192) kind.Size _ _ (lt-ltb (length before) 8192 at.few)
    (ap (λ (n : ℕ). Ok (record (opened s before x.worker []) {
      body = record (opened s before x.worker []).body { cost = n };
    })) (nothing (txns_cost (capacities_of s.shape.tables) before)))))

ran_on : (s : Script) (before : List ScriptTxn) (x : ScriptTxn) (st : Stage) (w cost : ℕ)
    → st ≡ after (loaded s) stage.Between (before ++ x ∷ []) → w ≡ last_worker 0 (before ++ x ∷ [])
    → cost ≡ txns_cost (capacities_of s.shape.tables) (before ++ x ∷ [])
    → ◌≡◌ {A = Result Draft Kind}
    (Ok (record (ran s (before ++ x ∷ [])) {
      stage = st;
      body = record (ran s (before ++ x ∷ [])).body { worker = w; cost = cost };
    }))
    (Ok (ran s (before ++ x ∷ [])))
ran_on s before x st w cost es ew ec = rw (es, ew, ec) refl

-- and ended
end_goes : (s : Script) (before : List ScriptTxn) (x : ScriptTxn) → IsAt s before x
    → admit (opened s before x.worker x.ops) line.End ≡ Ok (ran s (before ++ x ∷ []))
unfolding admit
end_goes s before x at =
    let caps = capacities_of s.shape.tables in
    must_goes (ltb 0 (length x.ops)) kind.Word _ _ (lt-ltb 0 (length x.ops) (omega (arith, at.fits.some)))
    (ran_on s before x stage.Between x.worker (txns_cost caps before + ops_cost caps x.ops)
    (sym (after_more (loaded s) stage.Between before x)) (sym (last_more 0 before x))
    (sym (txns_cost_more caps before x)))

end_is_good : IsGood line.End
unfolding spelt_line
end_is_good = tt

worker_is_good : (s : Script) → IsScript s → (x : ScriptTxn) → TxnFits s.shape.workers s.shape.tables x
    → IsGood (line.Txn (Some x.worker))
unfolding spelt_line
worker_is_good s is x fits =
    let limits = fits_limits s.shape is.shape in
    omega (arith, fits.worker.1, limits.most_workers)

pub txn_leads : (s : Script) → IsScript s → (before : List ScriptTxn) (x : ScriptTxn) (rest : List ScriptTxn)
    → before ++ x ∷ rest ≡ s.txns
    → Leads (ran s before) (txn_lines s.shape.tables x) (ran s (before ++ x ∷ []))
txn_leads s is before x rest all =
    let ts = s.shape.tables in
    let caps = capacities_of ts in
    let spent = txns_cost_both caps before (x ∷ rest) in
    let at : IsAt s before x = record {
      fits = all_at (TxnFits s.shape.workers ts) before x rest
          (subst (AllByRecursion (TxnFits s.shape.workers ts)) (sym all) is.txns);
      few = omega (arith, is.few, ap length all, length-append before (x ∷ rest));
      cost = omega (arith, is.cost, spent, ap (txns_cost caps) all);
    } in
    let d = ran s before in
    let e = ran s (before ++ x ∷ []) in
    let whole = opened s before x.worker x.ops in
    leads_next d (opened s before x.worker []) e (line.Txn (Some x.worker)) (map (op_line ts) x.ops ++ line.End ∷ [])
    (worker_is_good s is x at.fits) (open_goes s is before x at)
    (leads_both (opened s before x.worker []) whole e (map (op_line ts) x.ops) (line.End ∷ [])
    (each_line_leads (op_line ts) (opened s before x.worker) x.ops (op_leads s is before x at))
    (leads_next whole e e line.End [] end_is_good (end_goes s before x at) (leads_none e)))

-- ---- turns

-- the stints of a line of turns
stints_good : (workers : ℕ) (ss : List Stint) → workers ≤ 16 → AllByRecursion (StintFits workers) ss
    → AllByRecursion FitsStint (map spelt ss)
stints_good workers [] le h = tt
stints_good workers (s ∷ ss) le h =
    ((omega (arith, h.0.1, le), omega (arith, h.0.3)), stints_good workers ss le h.1)

turned_on : (s : Script) (before : List (List Stint)) (g : List Stint) (st : Stage) (ss : List Stint) (steps : ℕ)
    → st ≡ after (ended s) stage.Turns (before ++ g ∷ []) → ss ≡ in_all (before ++ g ∷ [])
    → steps ≡ steps_of (in_all (before ++ g ∷ []))
    → ◌≡◌ {A = Result Draft Kind}
    (Ok (record (turned s (before ++ g ∷ [])) {
      stage = st;
      body = record (turned s (before ++ g ∷ [])).body { stints = ss; steps = steps };
    }))
    (Ok (turned s (before ++ g ∷ [])))
turned_on s before g st ss steps et es en = rw (et, es, en) refl

in_all_both : (gs hs : List (List Stint)) → in_all (gs ++ hs) ≡ in_all gs ++ in_all hs
in_all_both gs hs = flat_map-append (λ g. g) gs hs

pub ended_takes : (s : Script) → takes_turns (ended s) ≡ true
ended_takes s =
    after_passes takes_turns (loaded s) stage.Between s.txns
    (after_passes takes_turns stage.Tables stage.Rows s.rows refl refl) refl

pub group_leads : (s : Script) → IsScript s → (gs : List (List Stint))
    → AllByRecursion (StintFits s.shape.workers) (in_all gs) → steps_of (in_all gs) ≤ 10000000
    → AllByRecursion (λ g. (1 ≤ length g) × (length g ≤ 64)) gs → (before : List (List Stint)) (g : List Stint)
    (rest : List (List Stint)) → before ++ g ∷ rest ≡ gs
    → Leads1 (turned s before) (turns_line g) (turned s (before ++ g ∷ []))
unfolding admit spelt_line
group_leads s is gs fit most short before g rest all =
    let workers = s.shape.workers in
    let limits = fits_limits s.shape is.shape in
    let split : in_all gs ≡ in_all before ++ (g ++ in_all rest) = ap in_all (sym all)
    ∙ in_all_both before (g ∷ rest) in
    let fits = all_front (StintFits workers) g (in_all rest)
    (all_rest (StintFits workers) (in_all before) (g ++ in_all rest)
    (subst (AllByRecursion (StintFits workers)) split fit)) in
    let len = all_at (λ h. (1 ≤ length h) × (length h ≤ 64)) before g rest
    (subst (AllByRecursion (λ h. (1 ≤ length h) × (length h ≤ 64))) (sym all) short) in
    let count = length-map g spelt in
    let so_far = steps_of (in_all before) in
    let sum : so_far + steps_of g ≤ 10000000 = omega (
      arith,
      most,
      ap steps_of split,
      steps_both (in_all before) (g ++ in_all rest),
      steps_both g (in_all rest),
    ) in
    let more : in_all before ++ g ≡ in_all (before ++ g ∷ []) = ap (λ (x : List Stint). in_all before ++ x)
    (sym (append-nil g)) ∙ sym (in_all_both before (g ∷ [])) in (
      (stints_good workers g limits.most_workers fits, omega (arith, len.0, count), omega (arith, len.1, count)),
      must_goes (takes_turns (after (ended s) stage.Turns before)) kind.Word _ _
          (after_passes takes_turns (ended s) stage.Turns before (ended_takes s) refl)
          (ok_goes (all_stints workers (map spelt g)) _ g _ (all_stints_go workers g fits)
          (ok_goes (total_within so_far (steps_of g) 10000000) _ (so_far + steps_of g) _
          (total_goes so_far (steps_of g) 10000000 sum)
          (turned_on s before g stage.Turns (in_all before ++ g) (so_far + steps_of g)
          (sym (after_more (ended s) stage.Turns before g)) more
          (sym (steps_both (in_all before) g) ∙ ap steps_of more)))),
    )

pub seed_leads : (s : Script) (seed picks : ℕ) → TurnsFit s.shape.workers (turns.Seed seed picks)
    → Leads1 (ran s s.txns) (line.Seed (Some seed) (Some picks)) (seeded s seed picks)
unfolding admit spelt_line
seed_leads s seed picks fit = (
  (fit.0, omega (arith, fit.1)),
  must_goes (is_loaded (ended s)) kind.Word _ _
      (after_passes is_loaded (loaded s) stage.Between s.txns
      (after_passes is_loaded stage.Tables stage.Rows s.rows refl refl) refl)
      (ok_goes (small (Some seed)) _ seed _ (small_goes seed fit.0)
      (ok_goes (within 0 1000000 (Some picks)) _ picks _ (within_goes 0 1000000 picks (omega arith) fit.1) refl)),
)
