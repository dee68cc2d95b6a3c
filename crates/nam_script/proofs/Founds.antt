-- What is read is the text of the script, and the script keeps to its limits.
use Rattle.std.proofs.Common.{◌≡◌, ℕ, ◌≤◌, Bool, true, false, cond, List, [], ◌∷◌, ◌++◌, map, Some, Result, Ok, Err}
use Rattle.std.proofs.Common.{refl, sym, ap, ◌∙◌, subst, append_assoc, arith, inl, inr}
use Rattle.std.specs.Prelude.{IfOk, None}
use Rattle.std.specs.List.{flat_map}
use Rattle.std.proofs.lemmas.List.{append-nil}
use Rattle.std.proofs.lemmas.Grind.{flat_map-append}
use Rattle.si_model.specs.declared.row.Row.{Row}
use Rattle.nam_catalog.specs.declared.shape.Shape.{Shape}
use Rattle.nam_catalog.specs.Limits.{fault_of}
use Rattle.si_model.specs.declared.op.Policy.{Policy}
use Rattle.nam_script.specs.Line.{Line}
use Rattle.nam_script.specs.Line as line
use Rattle.nam_script.specs.declared.script.ScriptTxn.{ScriptTxn}
use Rattle.nam_script.specs.declared.script.Stint.{Stint}
use Rattle.nam_script.specs.declared.script.Script.{Script}
use Rattle.nam_script.specs.declared.script.Turns.{Turns}
use Rattle.nam_script.specs.declared.script.Turns.TheVariants as turns
use Rattle.nam_script.specs.declared.refusal.ParseEnd.{ParseEnd}
use Rattle.nam_script.specs.declared.draft.Draft.{Draft}
use Rattle.nam_script.specs.declared.stage.Stage.{Stage}
use Rattle.nam_script.specs.declared.stage.Stage.TheVariants as stage
use Rattle.nam_script.specs.Stages.{rank, is_at, takes_turns}
use Rattle.nam_script.specs.Text.{settings_text, table_text, row_text, txn_text, group_text, IsSpelt}
use Rattle.nam_script.specs.Limits.{IsScript, TurnsFit}
use Rattle.nam_script.specs.Parse.{Fault, draft_of, turns_of, whole_script, script_if, script_of, Gives}
use Rattle.nam_script.specs.Spelling.{line_text, text_of, opening_lines, store_lines, setting_lines, table_line}
use Rattle.nam_script.specs.Spelling.{row_line, txn_lines, turns_line}
use Rattle.nam_script.proofs.Chains.{at_is, either}
use Rattle.nam_script.proofs.Concat.{joined, same_parts}
use Rattle.nam_script.proofs.Kept.{InOrder, before_turns}
use Rattle.nam_script.proofs.Steps.{Stands, late_parts, late_settings, if_none, no_groups}
use Rattle.nam_script.proofs.Texts.{Taken, draft_is_taken}
use Rattle.nam_script.proofs.Wording.{each_line, txns_are}

both : (x y z w : List ℕ) → x ≡ z → y ≡ w → x ++ y ≡ z ++ w
both x y z w e f = rw (e, f) refl

left_nested : (a t r x g l : List ℕ) → a ++ (t ++ (r ++ (x ++ (g ++ l)))) ≡ a ++ t ++ r ++ x ++ g ++ l
left_nested a t r x g l = sym (append_assoc _ g l ∙ append_assoc _ x _ ∙ append_assoc _ r _ ∙ append_assoc a t _)

pub joined_text : (s : Shape) (p : Policy) (rs : List Row) (xs : List ScriptTxn) (gs : List (List Stint))
    (sd : List Line)
    → text_of (joined (setting_lines s p) s.tables rs xs [] gs sd)
    ≡ settings_text s p ++ flat_map table_text s.tables ++ flat_map (row_text s.tables) rs ++ flat_map
    (txn_text s.tables) xs ++ flat_map group_text gs ++ text_of sd
joined_text s p rs xs gs sd =
    flat_map-append line_text (setting_lines s p) _
    ∙ both _ _ _ _ (flat_map-append line_text (opening_lines s p) (store_lines s p))
    (flat_map-append line_text (map table_line s.tables) _
    ∙ both _ _ _ _ (each_line table_line s.tables) (flat_map-append line_text (map (row_line s.tables) rs) _
    ∙ both _ _ _ _ (each_line (row_line s.tables) rs) (flat_map-append line_text (flat_map (txn_lines s.tables) xs) _
    ∙ both _ _ _ _ (txns_are s.tables xs) (flat_map-append line_text (map turns_line gs) sd
    ∙ both _ _ _ _ (each_line turns_line gs) refl))))
    ∙ left_nested (settings_text s p) (flat_map table_text s.tables) (flat_map (row_text s.tables) rs)
    (flat_map (txn_text s.tables) xs) (flat_map group_text gs) (text_of sd)

pub ended_by : (x y z : List ℕ) → y ≡ z → (x ++ []) ++ y ≡ x ++ z
ended_by x y z e = rw (append-nil x, e) refl

-- the two ways of a script's end
turns_if : (b : Bool) (stints : List Stint) (seed picks : ℕ) → b ≡ false
    → cond b (turns.Seed seed picks) (turns.List stints) ≡ turns.List stints
turns_if b stints seed picks e = rw e refl

seed_if : (b : Bool) (stints : List Stint) (seed picks : ℕ) → b ≡ true
    → cond b (turns.Seed seed picks) (turns.List stints) ≡ turns.Seed seed picks
seed_if b stints seed picks e = rw e refl

if_some : (b : Bool) (x : List Line) → b ≡ true → cond b x [] ≡ x
if_some b x e = rw e refl

-- the script with other turns
abbrev script_with : Draft → Turns → Script
script_with d t = record { shape = d.shape; policy = d.policy; rows = d.body.rows; txns = d.body.txns; turns = t }

-- what a script and its text come to, by its turns
record IsFinal (text : List ℕ) (s : Script) : Type 0 where
  spelt : IsSpelt s text
  good : IsScript s

law : (d : Draft) (t : Turns) → Stands d → fault_of d.shape ≡ None → d.body.ops ≡ [] → TurnsFit d.shape.workers t
    → IsScript (script_with d t)
law d t s good ops fit =
    let k = s.kept in
    record {
      shape = good;
      form = k.form;
      few_tables = k.few_tables;
      names = k.names;
      tries = s.tries;
      rows = k.rows;
      few = omega (arith, k.few);
      txns = k.txns;
      cost = omega (arith, k.cost, k.most_cost);
      turns = fit;
    }

listed : (d : Draft) (text : List ℕ) → Taken d text → takes_turns d.stage ≡ true → IsFinal text (whole_script d)
listed d text t y =
    let s = t.stands in
    let k = s.kept in
    let b = before_turns d.stage d.shape d.body y s.order in
    let is : turns_of d.stage d.body.stints d.body.seed d.body.picks ≡ turns.List d.body.stints = turns_if _
    d.body.stints d.body.seed d.body.picks b.late.unpicked in
    subst (λ (u : Turns). IsFinal text (script_with d u)) (sym is) (record {
      spelt = record {
        groups = t.groups;
        stints = t.are.0;
        short = t.are.1;
        is = t.told ∙ ap text_of (late_parts d t.groups t.groups d.body.txns b.late refl refl)
            ∙ joined_text d.shape d.policy d.body.rows d.body.txns t.groups [] ∙ append-nil _;
      };
      good = law d (turns.List d.body.stints) s b.shape b.ops
          (k.stints, subst (λ (n : ℕ). n ≤ 10000000) k.steps k.most_steps);
    })

seeded : (d : Draft) (text : List ℕ) → Taken d text → d.stage ≡ stage.Seed → IsFinal text (whole_script d)
seeded d text t at =
    let s = t.stands in
    let k = s.kept in
    let o = subst (λ (y : Stage). InOrder y d.shape d.body) at s.order in
    let yes = ap (λ (y : Stage). is_at y stage.Seed) at in
    let is : turns_of d.stage d.body.stints d.body.seed d.body.picks ≡ turns.Seed d.body.seed d.body.picks = seed_if _
    d.body.stints d.body.seed d.body.picks yes in
    let l : Line = line.Seed (Some d.body.seed) (Some d.body.picks) in
    let eg = no_groups t.groups d.body.stints t.are o.2 in
    let parts = same_parts _ (setting_lines d.shape d.policy) d.shape.tables _ d.body.rows _ d.body.txns _ [] t.groups
    [] _ (l ∷ [])
    (late_settings d (subst (λ (y : Stage). 7 ≤ rank y) (sym at) (omega arith))) refl refl
    (if_none _ _ (ap (λ (y : Stage). is_at y stage.Open) at)) eg (if_some _ _ yes) in
    subst (λ (u : Turns). IsFinal text (script_with d u)) (sym is) (record {
      spelt = record {
        groups = [];
        stints = refl;
        short = tt;
        is = t.told ∙ ap text_of parts ∙ joined_text d.shape d.policy d.body.rows d.body.txns [] (l ∷ [])
            ∙ ended_by (settings_text d.shape d.policy ++ flat_map table_text d.shape.tables ++ flat_map
            (row_text d.shape.tables) d.body.rows ++ flat_map (txn_text d.shape.tables) d.body.txns) (text_of
            (l ∷ [])) _ (append-nil (line_text l));
      };
      good = law d (turns.Seed d.body.seed d.body.picks) s o.0 o.1 (k.seed, k.picks);
    })

final : (d : Draft) (text : List ℕ) → Taken d text → IsFinal text (whole_script d)
final d text t = elim (either (takes_turns d.stage) _ t.ends) [
  | inl y ↦ listed d text t y
  | inr y ↦ seeded d text t (at_is d.stage stage.Seed y)
]

same_script : (x y : Script) → ◌≡◌ {A = Result Script Fault} (Ok x) (Ok y) → x ≡ y
same_script x y e = cc

finished_then : {P : Type 0} (r : Result Draft Fault) (s : Script) → script_if r ≡ Ok s
    → ((d : Draft) → r ≡ Ok d → whole_script d ≡ s → P) → P
finished_then (Ok d) s e p = p d refl (same_script (whole_script d) s e)
finished_then (Err f) s e p = absurd cc

read_is_final : (text : List ℕ) (s : Script) → script_of text ≡ Ok s → IsFinal text s
read_is_final text s e =
    finished_then (draft_of text) s e (λ d ed is. subst (IsFinal text) is (final d text (draft_is_taken text d ed)))

-- what is read is spelt so
pub is_found : (text : List ℕ) (r : Result Script ParseEnd) → Gives r (script_of text) → IfOk r (λ s. IsSpelt s text)
is_found text (Ok s) given = (read_is_final text s given).spelt
is_found text (Err e) given = tt

-- what is read keeps to the limits
pub is_good : (text : List ℕ) (r : Result Script ParseEnd) → Gives r (script_of text) → IfOk r IsScript
is_good text (Ok s) given = (read_is_final text s given).good
is_good text (Err e) given = tt
