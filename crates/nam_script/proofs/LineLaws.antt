-- Each kind of line keeps both laws: what is written is read, and only what is written is read.
use Rattle.std.proofs.Common.{◌≡◌, ℕ, ◌+◌, Bool, true, false, cond, eqb, leb, List, [], ◌∷◌, ◌++◌, length, take, drop}
use Rattle.std.proofs.Common.{Option, Some, None, refl, sym, ap, ◌∙◌, subst, add-one}
use Rattle.std.specs.Prelude.{codes}
use Rattle.std.specs.List.{AllByRecursion, list_all, position}
use Rattle.std.proofs.lemmas.Bool.{eqb-true, ne_eqb, and_from, and_parts}
use Rattle.std.proofs.lemmas.Option.{same_Some}
use Rattle.nam_catalog.specs.declared.form.Form.{Form}
use Rattle.nam_catalog.specs.declared.form.Form.TheVariants.{Narrow, Wide, Held}
use Rattle.nam_text.specs.Token.{number_of, number_text}
use Rattle.nam_text.specs.Spelling.{IsPlain, IsField, FitsWord, IsWord, among}
use Rattle.nam_text.specs.Kinds.{fields, IsKind}
use Rattle.nam_text.proofs.Takes.{bind_then, if_then, number_takes}
use Rattle.nam_text.proofs.Again.{number_again, decimal_starless}
use Rattle.nam_text.proofs.Spellings.{number_plain, number_reads, number_is, name_is, choice_is, nothing_is, word_is}
use Rattle.nam_text.proofs.Spellings.{last_is, next_is, some_is}
use Rattle.nam_text.proofs.KindLemmas.{Takes, none_takes, or_takes, line_again, line_plain}
use Rattle.nam_script.specs.declared.line.Change.{Change}
use Rattle.nam_script.specs.declared.line.SpeltStint.{SpeltStint}
use Rattle.nam_script.specs.Line.{Line}
use Rattle.nam_script.specs.Line.{Version, Header, Workers, Tries, Tidy, Start, Overflow}
use Rattle.nam_script.specs.Line.{Table, Row, Txn, Get, Put, Add, Del, Need, Guard, Scan}
use Rattle.nam_script.specs.Line.{End, Turns, Seed}
use Rattle.nam_script.specs.Lines.{form_word, form, switch_word, switch, change_text, is_zero as zero_amount}
use Rattle.nam_script.specs.Lines.{change_by, change_of, FitsChange, change, spelt_stint_text, parted_at, stint_of}
use Rattle.nam_script.specs.Lines.{FitsStint, stint, version_line, header_line, workers_line, tries_line, tidy_line}
use Rattle.nam_script.specs.Lines.{start_line, overflow_line, table_line, row_line, txn_line, get_line, put_line}
use Rattle.nam_script.specs.Lines.{add_line, del_line, need_line, guard_line, scan_line, end_line, turns_line}
use Rattle.nam_script.specs.Lines.{seed_line, spelt_line, op_of, body_of, word_of, line_of}
use Rattle.nam_script.specs.Spelling.{IsGood, LineIsSmall}
use Rattle.nam_script.proofs.StintFields.{at_star, star_at, before_star, behind_star}

-- ---- parts of lines

form_again : (f : Form) → among form_word (Narrow ∷ Wide ∷ Held ∷ []) (form_word f) ≡ Some f
form_again Narrow = refl
form_again Wide = refl
form_again Held = refl

form_plain : (f : Form) → IsPlain (form_word f)
form_plain Narrow = refl
form_plain Wide = refl
form_plain Held = refl

form_is : IsField form
form_is = choice_is form_word (Narrow ∷ Wide ∷ Held ∷ []) form_again form_plain

switch_again : (on : Bool) → among switch_word (true ∷ false ∷ []) (switch_word on) ≡ Some on
switch_again true = refl
switch_again false = refl

switch_plain : (on : Bool) → IsPlain (switch_word on)
switch_plain true = refl
switch_plain false = refl

switch_is : IsField switch
switch_is = choice_is switch_word (true ∷ false ∷ []) switch_again switch_plain

no_zero : (n : Option ℕ) → zero_amount n ≡ false → n ≡ Some 0 → ⊥
no_zero n some zero = let is : zero_amount n ≡ true = ap zero_amount zero in absurd cc

signed_again : (up : Bool) (o : Option ℕ) → FitsChange (record { up = up; by = o })
    → change_of (change_text (record { up = up; by = o })) ≡ Some (record { up = up; by = o })
unfolding change_of
signed_again up None h = absurd h.0
signed_again true (Some n) h = rw (number_again n h.0) refl
signed_again false (Some n) h =
    let other : eqb n 0 ≡ false = ne_eqb _ _ (λ e. h.1 refl (ap (λ (m : ℕ). Some m) e)) in
    rw (number_again n h.0, other) refl

signed_plain : (up : Bool) (o : Option ℕ) → FitsWord o → IsPlain (change_text (record { up = up; by = o }))
signed_plain true o h = and_from _ _ refl (number_plain o h)
signed_plain false o h = and_from _ _ refl (number_plain o h)

-- a sign and what it makes of a number
change_by_takes : (sign : ℕ) (n : Option ℕ) (c : Change) → change_by sign n ≡ Some c
    → (c.by ≡ n) × (cond c.up 43 45 ≡ sign) × (c.up ≡ false → (c.by ≡ Some 0) → ⊥)
change_by_takes sign n c e =
    if_then (eqb sign 43) _ _ _ e
    (λ t e1. subst (λ (d : Change). (d.by ≡ n) × (cond d.up 43 45 ≡ sign) × (d.up ≡ false → (d.by ≡ Some 0) → ⊥))
    (same_Some _ _ e1) (refl, sym (eqb-true _ _ t), λ down _. absurd cc))
    (λ _ e2. if_then (eqb sign 45) _ _ _ e2
    (λ t e3. if_then (zero_amount n) _ _ _ e3 (λ _ e4. absurd cc)
    (λ some e4. subst (λ (d : Change). (d.by ≡ n) × (cond d.up 43 45 ≡ sign) × (d.up ≡ false → (d.by ≡ Some 0) → ⊥))
    (same_Some _ _ e4) (refl, sym (eqb-true _ _ t), λ _ zero. no_zero n some zero)))
    (λ _ e3. absurd cc))

change_takes : (f : List ℕ) (c : Change) → change_of f ≡ Some c → IsWord c.by → FitsChange c × (f ≡ change_text c)
unfolding change_of
change_takes [] c e small = absurd cc
change_takes (sign ∷ digits) c e small =
    bind_then (number_of digits) _ c e (λ n en e1.
    let s = change_by_takes sign n c e1 in
    let d = number_takes digits n en (subst IsWord s.0 small) in
    ((subst FitsWord (sym s.0) d.0, s.2), rw (d.1, ← s.0, ← s.1) refl))

change_again : (c : Change) → FitsChange c → change_of (change_text c) ≡ Some c
change_again c fits = signed_again c.up c.by fits

change_plain : (c : Change) → FitsChange c → IsPlain (change_text c)
change_plain c fits = signed_plain c.up c.by fits.0

change_is : IsField change
change_is = record { again = change_again; only = change_takes; plain = change_plain }

number_starless : (o : Option ℕ) → FitsWord o → AllByRecursion (λ b. eqb b 42 ≡ false) (number_text o)
number_starless None h = absurd h
number_starless (Some n) h = decimal_starless n h

parted_takes : (f : List ℕ) (o : Option ℕ) (s : SpeltStint) → position (λ b. eqb b 42) f ≡ o → parted_at f o ≡ Some s
    → IsWord s.worker × IsWord s.steps → FitsStint s × (f ≡ spelt_stint_text s)
unfolding parted_at
parted_takes f None s at e small = absurd cc
parted_takes f (Some star) s at e small =
    bind_then (number_of (take star f)) _ s e (λ n en e1.
    bind_then (number_of (drop (star + 1) f)) _ s e1 (λ m em e2.
    subst (λ (t : SpeltStint). IsWord t.worker × IsWord t.steps → FitsStint t × (f ≡ spelt_stint_text t))
    (same_Some _ _ e2)
    (λ h.
    let a = number_takes _ n en h.0 in
    let b = number_takes _ m em h.1 in (
      (a.0, b.0),
      at_star f star at ∙ ap (λ (g : List ℕ). g ++ 42 ∷ drop (star + 1) f) a.1 ∙ ap
          (λ (g : List ℕ). number_text n ++ 42 ∷ g) b.1,
    )) small))

parted_is : (s : SpeltStint) → FitsStint s
    → parted_at (spelt_stint_text s) (Some (length (number_text s.worker))) ≡ Some s
unfolding parted_at
parted_is s h =
    let ds = number_text s.worker in
    let rest = number_text s.steps in
    let behind : drop (length ds + 1) (ds ++ 42 ∷ rest) ≡ rest = ap (λ (n : ℕ). drop n (ds ++ 42 ∷ rest))
    (add-one (length ds))
    ∙ behind_star ds rest in
    rw (before_star ds rest, number_reads s.worker h.0, behind, number_reads s.steps h.1) refl

stint_again : (s : SpeltStint) → FitsStint s → stint_of (spelt_stint_text s) ≡ Some s
stint_again s h =
    ap (parted_at (spelt_stint_text s))
    (star_at (number_text s.worker) (number_text s.steps) (number_starless s.worker h.0))
    ∙ parted_is s h

both_pass : (p : ℕ → Bool) (f g : List ℕ) → list_all p f ≡ true → list_all p g ≡ true → list_all p (f ++ g) ≡ true
both_pass p [] g h k = k
both_pass p (b ∷ f) g h k = let r = and_parts _ _ h in and_from _ _ r.0 (both_pass p f g r.1 k)

stint_plain : (s : SpeltStint) → FitsStint s → IsPlain (spelt_stint_text s)
stint_plain s h =
    both_pass (leb 42) (number_text s.worker) (42 ∷ number_text s.steps) (number_plain s.worker h.0)
    (and_from _ _ refl (number_plain s.steps h.1))

stint_is : IsField stint
stint_is = record { again = stint_again; only = λ f s e small. parted_takes f _ s refl e small; plain = stint_plain }

-- ---- the kinds of lines

version_is : IsKind spelt_line version_line
unfolding spelt_line
version_is = record { rest = word_is (codes "1") refl nothing_is; word = refl; is = λ _. refl }

header_is : IsKind spelt_line header_line
unfolding spelt_line
header_is = record { rest = last_is form_is; word = refl; is = λ _. refl }

workers_is : IsKind spelt_line workers_line
unfolding spelt_line
workers_is = record { rest = last_is number_is; word = refl; is = λ _. refl }

tries_is : IsKind spelt_line tries_line
unfolding spelt_line
tries_is = record { rest = last_is number_is; word = refl; is = λ _. refl }

tidy_is : IsKind spelt_line tidy_line
unfolding spelt_line
tidy_is = record { rest = last_is switch_is; word = refl; is = λ _. refl }

start_is : IsKind spelt_line start_line
unfolding spelt_line
start_is = record { rest = last_is number_is; word = refl; is = λ _. refl }

overflow_is : IsKind spelt_line overflow_line
unfolding spelt_line
overflow_is = record { rest = next_is number_is (last_is number_is); word = refl; is = λ _. refl }

table_is : IsKind spelt_line table_line
unfolding spelt_line
table_is =
    record {
      rest = next_is name_is (word_is (codes "width") refl (next_is number_is
          (word_is (codes "capacity") refl (next_is number_is (word_is (codes "ring") refl (last_is number_is))))));
      word
          = refl;
      is = λ _. refl;
    }

row_is : IsKind spelt_line row_line
unfolding spelt_line
row_is = record { rest = next_is name_is (next_is number_is (some_is 8 number_is)); word = refl; is = λ _. refl }

txn_is : IsKind spelt_line txn_line
unfolding spelt_line
txn_is = record { rest = last_is number_is; word = refl; is = λ _. refl }

get_is : IsKind spelt_line get_line
unfolding spelt_line
get_is = record { rest = next_is name_is (last_is number_is); word = refl; is = λ _. refl }

put_is : IsKind spelt_line put_line
unfolding spelt_line
put_is = record { rest = next_is name_is (next_is number_is (some_is 8 number_is)); word = refl; is = λ _. refl }

add_is : IsKind spelt_line add_line
unfolding spelt_line
add_is =
    record {
      rest = next_is name_is (next_is number_is (next_is number_is (last_is change_is)));
      word = refl;
      is = λ _.
          refl;
    }

del_is : IsKind spelt_line del_line
unfolding spelt_line
del_is = record { rest = next_is name_is (last_is number_is); word = refl; is = λ _. refl }

need_is : IsKind spelt_line need_line
unfolding spelt_line
need_is =
    record {
      rest = next_is name_is (next_is number_is (next_is number_is (last_is number_is)));
      word = refl;
      is = λ _.
          refl;
    }

guard_is : IsKind spelt_line guard_line
unfolding spelt_line
guard_is = record { rest = next_is name_is (last_is number_is); word = refl; is = λ _. refl }

scan_is : IsKind spelt_line scan_line
unfolding spelt_line
scan_is = record { rest = next_is name_is (next_is number_is (last_is number_is)); word = refl; is = λ _. refl }

end_is : IsKind spelt_line end_line
unfolding spelt_line
end_is = record { rest = nothing_is; word = refl; is = λ _. refl }

turns_is : IsKind spelt_line turns_line
unfolding spelt_line
turns_is = record { rest = some_is 64 stint_is; word = refl; is = λ _. refl }

seed_is : IsKind spelt_line seed_line
unfolding spelt_line
seed_is = record { rest = next_is number_is (last_is number_is); word = refl; is = λ _. refl }

op_takes : Takes spelt_line op_of
unfolding op_of
op_takes =
    or_takes get_is (or_takes put_is (or_takes add_is (or_takes del_is (or_takes need_is (or_takes guard_is
    (or_takes scan_is (none_takes spelt_line)))))))

body_takes : Takes spelt_line body_of
unfolding body_of
body_takes =
    or_takes table_is
    (or_takes row_is (or_takes txn_is (or_takes end_is (or_takes turns_is (or_takes seed_is op_takes)))))

word_takes : Takes spelt_line word_of
unfolding word_of
word_takes =
    or_takes version_is (or_takes header_is (or_takes workers_is (or_takes tries_is (or_takes tidy_is (or_takes start_is
    (or_takes overflow_is body_takes))))))

-- what is read as a line is spelt as that line
pub line_takes : (fs : List (List ℕ)) (l : Line) → line_of fs ≡ Some l → LineIsSmall l
    → IsGood l × (fs ≡ fields (spelt_line l))
unfolding line_of
line_takes [] l e small = absurd cc
line_takes (w ∷ fs) l e small = word_takes w fs l e small

-- what is spelt as a line is read as that line, and has no space and no newline in a field
pub record IsReadable (l : Line) : Type 0 where
  pub again : line_of (fields (spelt_line l)) ≡ Some l
  pub plain : AllByRecursion IsPlain (fields (spelt_line l))

pub readable : (l : Line) → IsGood l → IsReadable l
unfolding line_of word_of body_of op_of spelt_line
readable Version good = record { again = line_again version_is tt good; plain = line_plain version_is tt good }
readable (Header form) good = record { again = line_again header_is form good; plain = line_plain header_is form good }
readable (Workers n) good = record { again = line_again workers_is n good; plain = line_plain workers_is n good }
readable (Tries n) good = record { again = line_again tries_is n good; plain = line_plain tries_is n good }
readable (Tidy on) good = record { again = line_again tidy_is on good; plain = line_plain tidy_is on good }
readable (Start n) good = record { again = line_again start_is n good; plain = line_plain start_is n good }
readable (Overflow b c) good =
    record { again = line_again overflow_is (b, c) good; plain = line_plain overflow_is (b, c) good }
readable (Table t w k r) good =
    record { again = line_again table_is (t, (w, (k, r))) good; plain = line_plain table_is (t, (w, (k, r))) good }
readable (Row t k vs) good =
    record { again = line_again row_is (t, (k, vs)) good; plain = line_plain row_is (t, (k, vs)) good }
readable (Txn w) good = record { again = line_again txn_is w good; plain = line_plain txn_is w good }
readable (Get t k) good = record { again = line_again get_is (t, k) good; plain = line_plain get_is (t, k) good }
readable (Put t k vs) good =
    record { again = line_again put_is (t, (k, vs)) good; plain = line_plain put_is (t, (k, vs)) good }
readable (Add t k f c) good =
    record { again = line_again add_is (t, (k, (f, c))) good; plain = line_plain add_is (t, (k, (f, c))) good }
readable (Del t k) good = record { again = line_again del_is (t, k) good; plain = line_plain del_is (t, k) good }
readable (Need t k f n) good =
    record { again = line_again need_is (t, (k, (f, n))) good; plain = line_plain need_is (t, (k, (f, n))) good }
readable (Guard t k) good = record { again = line_again guard_is (t, k) good; plain = line_plain guard_is (t, k) good }
readable (Scan t m n) good =
    record { again = line_again scan_is (t, (m, n)) good; plain = line_plain scan_is (t, (m, n)) good }
readable End good = record { again = line_again end_is tt good; plain = line_plain end_is tt good }
readable (Turns ss) good = record { again = line_again turns_is ss good; plain = line_plain turns_is ss good }
readable (Seed x n) good = record { again = line_again seed_is (x, n) good; plain = line_plain seed_is (x, n) good }
