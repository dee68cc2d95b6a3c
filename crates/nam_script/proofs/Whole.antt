-- What spells a script within the limits is read as that script.
use Rattle.std.proofs.Common.{◌≡◌, ℕ, ◌≤◌, Bool, true, false, cond, List, [], ◌∷◌, ◌++◌, map, length}
use Rattle.std.proofs.Common.{Some, Result, Ok, refl, sym, ap, ◌∙◌, subst}
use Rattle.std.specs.List.{AllByRecursion, flat_map}
use Rattle.std.proofs.lemmas.List.{append-nil}
use Rattle.nam_catalog.proofs.FitsLemmas.{fits_limits}
use Rattle.nam_script.specs.declared.refusal.ParseEnd.{ParseEnd}
use Rattle.nam_script.specs.Line.{Line}
use Rattle.nam_script.specs.Line as line
use Rattle.nam_script.specs.declared.script.Stint.{Stint}
use Rattle.nam_script.specs.declared.script.Turns.{Turns}
use Rattle.nam_script.specs.declared.script.Turns.TheVariants as turns
use Rattle.nam_script.specs.declared.script.Script.{Script}
use Rattle.nam_script.specs.declared.draft.Draft.{Draft}
use Rattle.nam_script.specs.declared.stage.Stage.{Stage}
use Rattle.nam_script.specs.declared.stage.Stage.TheVariants as stage
use Rattle.nam_script.specs.Stages.{is_at, takes_turns, can_end}
use Rattle.nam_script.specs.Checks.{steps_of}
use Rattle.nam_script.specs.Admit.{start}
use Rattle.nam_script.specs.Parse.{whole_script, turns_of, script_of, Gives}
use Rattle.nam_script.specs.Limits.{StintFits, TurnsFit, IsScript}
use Rattle.nam_script.specs.Spelling.{spelt, setting_lines, table_line, row_line, txn_lines}
use Rattle.nam_script.specs.Spelling.{turns_line, line_text, text_of}
use Rattle.nam_script.specs.Text.{settings_text, table_text, row_text, txn_text, IsSpelt, stints_in, grouped_text}
use Rattle.nam_script.proofs.Concat.{joined}
use Rattle.nam_script.proofs.Founds.{joined_text, ended_by, is_found, is_good}
use Rattle.nam_script.proofs.Again.{again}
use Rattle.nam_script.proofs.StoreLeads.{settings_lead, table_leads, row_leads}
use Rattle.nam_script.proofs.RunLeads.{txn_leads, ended_takes, group_leads, seed_leads}
use Rattle.nam_script.proofs.Leads.{Leads, leads_none, leads_next, leads_both, each_leads, each_line_leads}
use Rattle.nam_script.proofs.Drafts.{after_some, after_passes, after_fails, loaded, ended, tabled}
use Rattle.nam_script.proofs.Drafts.{rowed, ran, in_all, turned, seeded}

-- the lines as far as the transactions
lines_lead : (s : Script) → IsScript s → (ls : List Line) (e : Draft) → Leads (ran s s.txns) ls e
    → Leads start (setting_lines s.shape s.policy ++ (map table_line s.shape.tables
    ++ (map (row_line s.shape.tables) s.rows ++ (flat_map (txn_lines s.shape.tables) s.txns ++ ls)))) e
lines_lead s is ls e last =
    let ts = s.shape.tables in
    let limits = fits_limits s.shape is.shape in
    let at : tabled s ts ≡ rowed s [] = ap (λ (y : Stage). record (rowed s []) { stage = y })
    (after_some stage.Overflow stage.Tables ts limits.least_tables) in
    let tables = subst (λ (d : Draft). Leads (tabled s []) (map table_line ts) d) at
    (each_line_leads table_line (tabled s) ts (table_leads s is)) in
    let rows = each_line_leads (row_line ts) (rowed s) s.rows (row_leads s is) in
    let txns = each_leads (txn_lines ts) (ran s) s.txns (txn_leads s is) in
    leads_both start (tabled s []) e (setting_lines s.shape s.policy) _ (settings_lead s is)
    (leads_both (tabled s []) (rowed s []) e (map table_line ts) _ tables
    (leads_both (rowed s []) (rowed s s.rows) e (map (row_line ts) s.rows) _ rows
    (leads_both (rowed s s.rows) (ran s s.txns) e (flat_map (txn_lines ts) s.txns) ls txns last)))

-- the text of these lines is read as the script
read_as : (s : Script) (text : List ℕ) (r : Result Script ParseEnd) → Gives r (script_of text) → (ls : List Line)
    (e : Draft) → Leads start ls e → can_end e.stage ≡ true → text ≡ text_of ls → whole_script e ≡ s
    → Gives r (Ok s)
read_as s text r given ls e leads ends spelt is =
    subst (λ (x : Script). Gives r (Ok x)) is (again text r given ls e leads.good leads.admits ends spelt)

unseeded : (b : Bool) (stints : List Stint) (seed picks : ℕ) → b ≡ false
    → cond b (turns.Seed seed picks) (turns.List stints) ≡ turns.List stints
unseeded b stints seed picks e = rw e refl

by_turns : (s : Script) (t : Turns) → s.turns ≡ t → IsScript s → (text : List ℕ) (gs : List (List Stint))
    → in_all gs ≡ stints_in t → AllByRecursion (λ g. (1 ≤ length g) × (length g ≤ 64)) gs
    → text ≡ grouped_text (record s { turns = t }) gs → (r : Result Script ParseEnd) → Gives r (script_of text)
    → Gives r (Ok s)
by_turns s (turns.List ss) at is text gs stints short spelt r given =
    let ts = s.shape.tables in
    let fit : TurnsFit s.shape.workers (turns.List ss) = subst (TurnsFit s.shape.workers) at is.turns in
    let fits = subst (AllByRecursion (StintFits s.shape.workers)) (sym stints) fit.0 in
    let most = subst (λ (xs : List Stint). steps_of xs ≤ 10000000) (sym stints) fit.1 in
    let e = turned s gs in
    let last = each_line_leads turns_line (turned s) gs (group_leads s is gs fits most short) in
    let last_all = subst (λ (ls : List Line). Leads (ran s s.txns) ls e) (sym (append-nil (map turns_line gs))) last in
    let ends : takes_turns e.stage ≡ true = after_passes takes_turns (ended s) stage.Turns gs (ended_takes s) refl in
    let open_end : is_at e.stage stage.Seed ≡ false = after_fails (λ (y : Stage). is_at y stage.Seed) (ended s)
    stage.Turns gs (after_fails (λ (y : Stage). is_at y stage.Seed) (loaded s) stage.Between s.txns
    (after_fails (λ (y : Stage). is_at y stage.Seed) stage.Tables stage.Rows s.rows refl refl) refl) refl in
    let same : turns_of e.stage e.body.stints e.body.seed e.body.picks ≡ s.turns = unseeded (is_at e.stage stage.Seed)
    (in_all gs) 0 0 open_end ∙ ap (λ (xs : List Stint). turns.List xs) stints ∙ sym at in
    read_as s text r given (joined (setting_lines s.shape s.policy) ts s.rows s.txns [] gs []) e
    (lines_lead s is (map turns_line gs ++ []) e last_all) (rw ends refl)
    (spelt ∙ sym (joined_text s.shape s.policy s.rows s.txns gs [] ∙ append-nil _))
    (ap (λ (t : Turns). record s { turns = t }) same)
by_turns s (turns.Seed seed picks) at is text gs stints short spelt r given =
    let ts = s.shape.tables in
    let fit : TurnsFit s.shape.workers (turns.Seed seed picks) = subst (TurnsFit s.shape.workers) at is.turns in
    let e = seeded s seed picks in
    let l : Line = line.Seed (Some seed) (Some picks) in
    let step = seed_leads s seed picks fit in
    let last = leads_next (ran s s.txns) e e l [] step.0 step.1 (leads_none e) in
    read_as s text r given (joined (setting_lines s.shape s.policy) ts s.rows s.txns [] [] (l ∷ [])) e
    (lines_lead s is (l ∷ []) e last) refl
    (spelt ∙ sym (joined_text s.shape s.policy s.rows s.txns [] (l ∷ []) ∙ ended_by (settings_text s.shape s.policy
    ++ flat_map table_text ts ++ flat_map (row_text ts) s.rows ++ flat_map (txn_text ts) s.txns) (text_of (l ∷ [])) _
    (append-nil (line_text l))))
    (ap (λ (t : Turns). record s { turns = t }) (sym at))

-- bytes that spell a script within the limits are read as that script
pub whole : (text : List ℕ) (r : Result Script ParseEnd) → Gives r (script_of text) → (s : Script) → IsScript s
    → IsSpelt s text → Gives r (Ok s)
whole text r given s is spelt = by_turns s s.turns refl is text spelt.groups spelt.stints spelt.short spelt.is r given

-- what the clauses of the reader say
pub ruleset parse_laws = (is_found, is_good, again, whole)
