-- Each kind of line of a report keeps both laws: what is written is read, and only what is written is read.
use Rattle.std.proofs.Common.{◌≡◌, ℕ, suc, ◌+◌, ◌^◌, Bool, cond, true, false, List, [], ◌∷◌, ◌++◌, Option, Some}
use Rattle.std.proofs.Common.{None, refl, sym, ap, ◌∙◌, subst, inl, inr, arith, add-zero}
use Rattle.std.specs.Prelude.{codes, bytes_eq, length, ◌==◌, nat_le}
use Rattle.std.specs.List.{AllByRecursion, position_from}
use Rattle.si_model.specs.declared.log.Event.{Event}
use Rattle.si_model.specs.declared.log.Event.TheVariants.{Tried, NoRoom, Moved, Collected, CollectAgain, CollectCut}
use Rattle.si_model.specs.declared.log.Event.TheVariants.{TidyCut, TailCut, Finished}
use Rattle.std.proofs.lemmas.Option.{same_Some}
use Rattle.std.proofs.lemmas.Slice.Eq.{bytes_eq-Decides}
use Rattle.si_model.specs.declared.log.Outcome.{Outcome}
use Rattle.si_model.specs.declared.log.Outcome.TheVariants.{Commit, ReadOnly, Declined, NoSpace, Spent, Again, Locked}
use Rattle.si_model.specs.declared.log.Outcome.TheVariants.{Newer, TooOld, Full, Cut, Left}
use Rattle.si_model.specs.declared.log.MoveEnd.{MoveEnd}
use Rattle.si_model.specs.declared.log.MoveEnd.TheVariants.{Done, Back, Cut as MoveCut}
use Rattle.si_model.specs.declared.log.Finish.{Finish}
use Rattle.si_model.specs.declared.log.Finish.TheVariants.{Clean, Undone, RolledOn}
use Rattle.nam_catalog.specs.declared.shape.Table.{Table}
use Rattle.nam_catalog.specs.Tables.{name_of, first_named}
use Rattle.nam_text.specs.Token.{number_of, is_name}
use Rattle.nam_text.specs.Read.{◌>>=◌, all_read, some_read, word_at, done}
use Rattle.nam_text.specs.Spelling.{IsPlain, IsField, IsSpelling, among, some}
use Rattle.nam_text.specs.Kinds.{of, fields, IsKind}
use Rattle.nam_text.proofs.Takes.{if_then}
use Rattle.nam_text.proofs.Again.{name_plain}
use Rattle.nam_text.proofs.Spellings.{below_is, or_dash_is, choice_is, nothing_is, word_is, last_is, next_is, some_is}
use Rattle.nam_text.proofs.Spellings.{before_is, with_mark_is, or_lone_dash_is, through_is}
use Rattle.nam_text.proofs.KindLemmas.{Takes, none_takes, or_takes, line_again, line_plain, by_word_is}
use Rattle.nam_report.specs.Spelling.{u32, u64, table, value, lock_in, lock_parts, lock, move_end_word, move_end}
use Rattle.nam_report.specs.Spelling.{collect_end_word, collect_end, finish_word, finish, commit_kind, read_only_kind}
use Rattle.nam_report.specs.Spelling.{declined_kind, no_space_kind, spent_kind, again_kind, locked_kind, newer_kind}
use Rattle.nam_report.specs.Spelling.{too_old_kind, full_kind, cut_kind, left_kind, spelt_outcome, outcome_of}
use Rattle.nam_report.specs.Spelling.{outcome, attempt_kind, no_room_kind, move_kind, Collect, collect_done_kind}
use Rattle.nam_report.specs.Spelling.{collect_again_kind, collect_cut_kind, spelt_collect, collect_of, collect_in}
use Rattle.nam_report.specs.Spelling.{collect_kind, tidy_cut_kind, tail_cut_kind, medic_kind, spelt_event, event_of}
use Rattle.nam_report.specs.Spelling.{item_kind, entry_kind, worker_kind}
use Rattle.nam_report.specs.Spelling.{audit_row_kind}

-- ---- parts of lines

u32_is : IsField u32
u32_is = below_is (2 ^ 32)

u64_is : IsField u64
u64_is = below_is (2 ^ 64)

-- the table that is found bears the name
named_at : (name : List ℕ) (ts : List Table) (i t : ℕ) → position_from (λ u. bytes_eq u.name name) i ts ≡ Some t
    → (k : ℕ) × (t ≡ i + k) × (name_of ts k ≡ name)
named_at name [] i t e = absurd cc
named_at name (u ∷ ts) i t e =
    if_then (bytes_eq u.name name) _ _ _ e
    (λ same e1. (0, sym (same_Some _ _ e1) ∙ sym (add-zero i), (bytes_eq-Decides u.name name).0 same))
    (λ _ e1. let r = named_at name ts (i + 1) t e1 in (suc r.0, omega (arith, r.1), r.2))

named : (tables : List Table) (f : List ℕ) (t : ℕ) → first_named f tables ≡ Some t → f ≡ name_of tables t
named tables f t e =
    let r = named_at f tables 0 t e in
    sym (ap (name_of tables) (omega (arith, r.1)) ∙ r.2)

cond_none : {A : Type 0} (b : Bool) (o : Option A) (x : A) → cond b o None ≡ Some x → (b ≡ true) × (o ≡ Some x)
cond_none true o x e = (refl, e)
cond_none false o x e = absurd cc

table_only : (tables : List Table) (f : List ℕ) (t : ℕ) → (table tables).read f ≡ Some t
    → (table tables).Fits t × (f ≡ name_of tables t)
table_only tables f t e =
    let h = cond_none (is_name f) (first_named f tables) t e in
    let is = named tables f t h.1 in (
      (subst (λ (x : List ℕ). is_name x ≡ true) is h.0, subst (λ (x : List ℕ). first_named x tables ≡ Some t) is h.1),
      is,
    )

table_is : (tables : List Table) → IsField (table tables)
table_is tables = record {
  again = λ t fits. rw fits.0 fits.1;
  only = λ f t e _. table_only tables f t e;
  plain = λ t fits. name_plain (name_of tables t) fits.0;
}

dash_is_none : (some 8 u64).read (codes "-" ∷ []) ≡ None
unfolding some_read all_read number_of
dash_is_none = refl

value_is : IsSpelling value
value_is = or_lone_dash_is (some_is 8 u64_is) dash_is_none

pub lock_is : (tables : List Table) → IsSpelling (lock tables)
lock_is tables =
    through_is lock_in lock_parts (λ _. refl) (λ _. refl)
    (next_is (table_is tables) (next_is u64_is (next_is u32_is (last_is u64_is))))

move_end_again : (x : MoveEnd) → among move_end_word (Done ∷ Back ∷ MoveCut ∷ []) (move_end_word x) ≡ Some x
move_end_again Done = refl
move_end_again Back = refl
move_end_again MoveCut = refl

move_end_plain : (x : MoveEnd) → IsPlain (move_end_word x)
move_end_plain Done = refl
move_end_plain Back = refl
move_end_plain MoveCut = refl

move_end_is : IsField move_end
move_end_is = choice_is move_end_word (Done ∷ Back ∷ MoveCut ∷ []) move_end_again move_end_plain

collect_end_again : (x : Bool) → among collect_end_word (true ∷ false ∷ []) (collect_end_word x) ≡ Some x
collect_end_again true = refl
collect_end_again false = refl

collect_end_plain : (x : Bool) → IsPlain (collect_end_word x)
collect_end_plain true = refl
collect_end_plain false = refl

collect_end_is : IsField collect_end
collect_end_is = choice_is collect_end_word (true ∷ false ∷ []) collect_end_again collect_end_plain

finish_again : (x : Finish) → among finish_word (Clean ∷ Undone ∷ RolledOn ∷ []) (finish_word x) ≡ Some x
finish_again Clean = refl
finish_again Undone = refl
finish_again RolledOn = refl

finish_plain : (x : Finish) → IsPlain (finish_word x)
finish_plain Clean = refl
finish_plain Undone = refl
finish_plain RolledOn = refl

finish_is : IsField finish
finish_is = choice_is finish_word (Clean ∷ Undone ∷ RolledOn ∷ []) finish_again finish_plain

-- ---- outcomes

commit_is : (tables : List Table) → IsKind (spelt_outcome tables) commit_kind
unfolding spelt_outcome
commit_is tables = record { rest = last_is u64_is; word = refl; is = λ _. refl }

read_only_is : (tables : List Table) → IsKind (spelt_outcome tables) read_only_kind
unfolding spelt_outcome
read_only_is tables = record { rest = nothing_is; word = refl; is = λ _. refl }

declined_is : (tables : List Table) → IsKind (spelt_outcome tables) declined_kind
unfolding spelt_outcome
declined_is tables = record { rest = last_is u32_is; word = refl; is = λ _. refl }

no_space_is : (tables : List Table) → IsKind (spelt_outcome tables) (no_space_kind tables)
unfolding spelt_outcome
no_space_is tables = record { rest = last_is (table_is tables); word = refl; is = λ _. refl }

spent_is : (tables : List Table) → IsKind (spelt_outcome tables) spent_kind
unfolding spelt_outcome
spent_is tables = record { rest = nothing_is; word = refl; is = λ _. refl }

again_is : (tables : List Table) → IsKind (spelt_outcome tables) again_kind
unfolding spelt_outcome
again_is tables = record { rest = next_is u32_is (next_is u64_is (last_is u64_is)); word = refl; is = λ _. refl }

locked_is : (tables : List Table) → IsKind (spelt_outcome tables) (locked_kind tables)
unfolding spelt_outcome
locked_is tables = record { rest = lock_is tables; word = refl; is = λ _. refl }

newer_is : (tables : List Table) → IsKind (spelt_outcome tables) (newer_kind tables)
unfolding spelt_outcome
newer_is tables = record { rest = lock_is tables; word = refl; is = λ _. refl }

too_old_is : (tables : List Table) → IsKind (spelt_outcome tables) too_old_kind
unfolding spelt_outcome
too_old_is tables = record { rest = next_is u32_is (next_is u64_is (last_is u64_is)); word = refl; is = λ _. refl }

full_is : (tables : List Table) → IsKind (spelt_outcome tables) (full_kind tables)
unfolding spelt_outcome
full_is tables = record { rest = lock_is tables; word = refl; is = λ _. refl }

cut_is : (tables : List Table) → IsKind (spelt_outcome tables) cut_kind
unfolding spelt_outcome
cut_is tables = record { rest = nothing_is; word = refl; is = λ _. refl }

left_is : (tables : List Table) → IsKind (spelt_outcome tables) left_kind
unfolding spelt_outcome
left_is tables = record { rest = nothing_is; word = refl; is = λ _. refl }

outcome_takes : (tables : List Table) → Takes (spelt_outcome tables) (outcome_of tables)
unfolding outcome_of
outcome_takes tables =
    or_takes (commit_is tables)
    (or_takes (read_only_is tables) (or_takes (declined_is tables) (or_takes (no_space_is tables)
    (or_takes (spent_is tables) (or_takes (again_is tables) (or_takes (locked_is tables) (or_takes (newer_is tables)
    (or_takes (too_old_is tables) (or_takes (full_is tables) (or_takes (cut_is tables) (or_takes (left_is tables)
    (none_takes (spelt_outcome tables)))))))))))))

record IsTold (tables : List Table) (o : Outcome) : Type 0 where
  again : outcome_of tables (spelt_outcome tables o).word (spelt_outcome tables o).rest ≡ Some o
  plain : AllByRecursion IsPlain (fields (spelt_outcome tables o))

outcome_told : (tables : List Table) (o : Outcome) → (spelt_outcome tables o).Fits → IsTold tables o
unfolding spelt_outcome outcome_of
outcome_told tables (Commit n) fits =
    record { again = line_again (commit_is tables) n fits; plain = line_plain (commit_is tables) n fits }
outcome_told tables ReadOnly fits =
    record { again = line_again (read_only_is tables) tt fits; plain = line_plain (read_only_is tables) tt fits }
outcome_told tables (Declined n) fits =
    record { again = line_again (declined_is tables) n fits; plain = line_plain (declined_is tables) n fits }
outcome_told tables (NoSpace t) fits =
    record { again = line_again (no_space_is tables) t fits; plain = line_plain (no_space_is tables) t fits }
outcome_told tables Spent fits =
    record { again = line_again (spent_is tables) tt fits; plain = line_plain (spent_is tables) tt fits }
outcome_told tables (Again j x y) fits =
    record
    { again = line_again (again_is tables) (j, (x, y)) fits; plain = line_plain (again_is tables) (j, (x, y)) fits }
outcome_told tables (Locked l) fits =
    record { again = line_again (locked_is tables) l fits; plain = line_plain (locked_is tables) l fits }
outcome_told tables (Newer l) fits =
    record { again = line_again (newer_is tables) l fits; plain = line_plain (newer_is tables) l fits }
outcome_told tables (TooOld j x y) fits =
    record {
      again = line_again (too_old_is tables) (j, (x, y)) fits;
      plain = line_plain (too_old_is tables) (j, (x, y))
          fits;
    }
outcome_told tables (Full l) fits =
    record { again = line_again (full_is tables) l fits; plain = line_plain (full_is tables) l fits }
outcome_told tables Cut fits =
    record { again = line_again (cut_is tables) tt fits; plain = line_plain (cut_is tables) tt fits }
outcome_told tables Left fits =
    record { again = line_again (left_is tables) tt fits; plain = line_plain (left_is tables) tt fits }

outcome_is : (tables : List Table) → IsSpelling (outcome tables)
outcome_is tables =
    by_word_is (spelt_outcome tables) (outcome_of tables) (outcome_takes tables)
    (λ o fits. (outcome_told tables o fits).again) (λ o fits. (outcome_told tables o fits).plain)

-- ---- events

dash_is_no_number : u64.read (codes "-") ≡ None
unfolding number_of
dash_is_no_number = refl

attempt_is : (tables : List Table) → IsKind (spelt_event tables) (attempt_kind tables)
unfolding spelt_event
attempt_is tables = record {
  rest =
      next_is u32_is (word_is (codes "try") refl (next_is u32_is (word_is (codes "prefix") refl
      (next_is (or_dash_is u64_is dash_is_no_number) (outcome_is tables)))));
  word = refl;
  is = λ _. refl;
}

no_room_is : (tables : List Table) → IsKind (spelt_event tables) no_room_kind
unfolding spelt_event
no_room_is tables = record { rest = last_is u32_is; word = refl; is = λ _. refl }

move_is : (tables : List Table) → IsKind (spelt_event tables) (move_kind tables)
unfolding spelt_event
move_is tables = record {
  rest = next_is u32_is
      (next_is (table_is tables) (next_is u64_is (next_is u32_is (next_is u64_is (last_is move_end_is)))));
  word = refl;
  is = λ _. refl;
}

collected_is : IsKind spelt_collect collect_done_kind
collected_is =
    record { rest = next_is u64_is (before_is (some_is 16 u64_is) collect_end_is); word = refl; is = λ _. refl }

collect_again_is : IsKind spelt_collect collect_again_kind
collect_again_is = record { rest = next_is u32_is (next_is u64_is (last_is u64_is)); word = refl; is = λ _. refl }

collect_cut_is : IsKind spelt_collect collect_cut_kind
collect_cut_is = record { rest = nothing_is; word = refl; is = λ _. refl }

collect_takes : Takes spelt_collect collect_of
unfolding collect_of
collect_takes = or_takes collected_is (or_takes collect_again_is (or_takes collect_cut_is (none_takes spelt_collect)))

collect_reads : (x : Collect) → (spelt_collect x).Fits
    → collect_of (spelt_collect x).word (spelt_collect x).rest ≡ Some x
unfolding collect_of
collect_reads (inl x) fits = line_again collected_is x fits
collect_reads (inr (inl x)) fits = line_again collect_again_is x fits
collect_reads (inr (inr x)) fits = line_again collect_cut_is x fits

collect_plain : (x : Collect) → (spelt_collect x).Fits → AllByRecursion IsPlain (fields (spelt_collect x))
collect_plain (inl x) fits = line_plain collected_is x fits
collect_plain (inr (inl x)) fits = line_plain collect_again_is x fits
collect_plain (inr (inr x)) fits = line_plain collect_cut_is x fits

collect_made : (tables : List Table) (b : ℕ) (x : Collect)
    → spelt_event tables (collect_in b x) ≡ of collect_kind (b, x)
unfolding spelt_event
collect_made tables b (inl x) = refl
collect_made tables b (inr (inl x)) = refl
collect_made tables b (inr (inr x)) = refl

collect_is : (tables : List Table) → IsKind (spelt_event tables) collect_kind
collect_is tables = record {
  rest = next_is u32_is (by_word_is spelt_collect collect_of collect_takes collect_reads collect_plain);
  word = refl;
  is = λ x. collect_made tables x.0 x.1;
}

tidy_cut_is : (tables : List Table) → IsKind (spelt_event tables) (tidy_cut_kind tables)
unfolding spelt_event
tidy_cut_is tables =
    record {
      rest = next_is (table_is tables) (next_is u64_is (word_is (codes "cut") refl nothing_is));
      word = refl;
      is
          = λ _. refl;
    }

tail_cut_is : (tables : List Table) → IsKind (spelt_event tables) tail_cut_kind
unfolding spelt_event
tail_cut_is tables = record { rest = word_is (codes "cut") refl nothing_is; word = refl; is = λ _. refl }

finished_is : (tables : List Table) → IsKind (spelt_event tables) medic_kind
unfolding spelt_event
finished_is tables = record { rest = last_is finish_is; word = refl; is = λ _. refl }

-- what is read as an event is spelt so
pub event_takes : (tables : List Table) → Takes (spelt_event tables) (event_of tables)
unfolding event_of
event_takes tables =
    or_takes (attempt_is tables) (or_takes (no_room_is tables) (or_takes (move_is tables) (or_takes (collect_is tables)
    (or_takes (tidy_cut_is tables) (or_takes (tail_cut_is tables) (or_takes (finished_is tables)
    (none_takes (spelt_event tables))))))))

-- an event without the counts of the lines that it owns
abbrev pub bare : Event → Event
bare (Tried a) = Tried (record a { reads = 0; locks = 0; writes = 0 })
bare e = e

-- what is spelt as an event is read, without the counts of the lines that it owns
pub event_again : (tables : List Table) (e : Event) → (spelt_event tables e).Fits
    → event_of tables (spelt_event tables e).word (spelt_event tables e).rest ≡ Some (bare e)
unfolding event_of spelt_event
event_again tables (Tried a) fits = line_again (attempt_is tables) (a.txn, (a.nth, (a.prefix, a.outcome))) fits
event_again tables (NoRoom b) fits = line_again (no_room_is tables) b fits
event_again tables (Moved b t k stamp how) fits =
    line_again (move_is tables) (b, (t, (k, (stamp.thread, (stamp.number, how))))) fits
event_again tables (Collected b p entries cut) fits = line_again (collect_is tables) (b, inl (p, (entries, cut))) fits
event_again tables (CollectAgain b j first second) fits =
    line_again (collect_is tables) (b, inr (inl (j, (first, second)))) fits
event_again tables (CollectCut b) fits = line_again (collect_is tables) (b, inr (inr tt)) fits
event_again tables (TidyCut t k) fits = line_again (tidy_cut_is tables) (t, (k, tt)) fits
event_again tables TailCut fits = line_again (tail_cut_is tables) tt fits
event_again tables (Finished how) fits = line_again (finished_is tables) how fits

-- no space and no newline stands in the fields of an event
pub event_plain : (tables : List Table) (e : Event) → (spelt_event tables e).Fits
    → AllByRecursion IsPlain (fields (spelt_event tables e))
unfolding spelt_event
event_plain tables (Tried a) fits = line_plain (attempt_is tables) (a.txn, (a.nth, (a.prefix, a.outcome))) fits
event_plain tables (NoRoom b) fits = line_plain (no_room_is tables) b fits
event_plain tables (Moved b t k stamp how) fits =
    line_plain (move_is tables) (b, (t, (k, (stamp.thread, (stamp.number, how))))) fits
event_plain tables (Collected b p entries cut) fits = line_plain (collect_is tables) (b, inl (p, (entries, cut))) fits
event_plain tables (CollectAgain b j first second) fits =
    line_plain (collect_is tables) (b, inr (inl (j, (first, second)))) fits
event_plain tables (CollectCut b) fits = line_plain (collect_is tables) (b, inr (inr tt)) fits
event_plain tables (TidyCut t k) fits = line_plain (tidy_cut_is tables) (t, (k, tt)) fits
event_plain tables TailCut fits = line_plain (tail_cut_is tables) tt fits
event_plain tables (Finished how) fits = line_plain (finished_is tables) how fits

-- ---- the other lines

pub item_is : (tables : List Table) (letter : List ℕ) → IsSpelling (item_kind tables letter).rest
item_is tables letter = next_is (table_is tables) (next_is u64_is value_is)

pub entry_is : IsSpelling entry_kind.rest
entry_is =
    next_is u64_is (word_is (codes "worker") refl (next_is u32_is (word_is (codes "number") refl (next_is u64_is
    (word_is (codes "prefix") refl (next_is u64_is (word_is (codes "txn") refl (last_is u32_is))))))))

pub worker_is : IsSpelling worker_kind.rest
worker_is = next_is u64_is (word_is (codes "events") refl (last_is u64_is))

rest_none : {A : Type 0} (o : Option A) (rest : Option (List A)) → rest ≡ None
    → (o >>= (λ x. rest >>= (λ xs. Some (x ∷ xs)))) ≡ None
rest_none None rest none = refl
rest_none (Some x) rest none = rw none refl

-- no value ends in the mark of a locked row
all_read_none : {A : Type 0} (read : List ℕ → Option A) (fs : List (List ℕ)) (last : List ℕ) → read last ≡ None
    → all_read read (fs ++ last ∷ []) ≡ None
unfolding all_read
all_read_none read [] last none = rw none refl
all_read_none read (f ∷ fs) last none = rest_none (read f) (all_read read (fs ++ last ∷ [])) (all_read_none read fs last none)

none_either : {A : Type 0} (b c : Bool) (o : Option A) → o ≡ None → cond b None (cond c o None) ≡ None
none_either true c o none = refl
none_either false true o none = none
none_either false false o none = refl

more_than_dash : (b : Bool) (fs : List (List ℕ)) (f : List ℕ) → (cond b (Some (fs ++ f ∷ [])) None >>= done) ≡ None
more_than_dash true [] f = refl
more_than_dash true (g ∷ fs) f = refl
more_than_dash false fs f = refl

locked_is_no_word : u64.read (codes "locked") ≡ None
unfolding number_of
locked_is_no_word = refl

-- no words end in it
no_words : (fs : List (List ℕ)) → (word_at (codes "-") (fs ++ codes "locked" ∷ []) >>= done) ≡ None
    → value.read (fs ++ codes "locked" ∷ []) ≡ None
unfolding some_read
no_words fs no_dash =
    let all = fs ++ codes "locked" ∷ [] in
    let none : some_read 8 u64.read all ≡ None
    = none_either (length all == 0) (nat_le (length all) 8) (all_read u64.read all)
    (all_read_none u64.read fs (codes "locked") locked_is_no_word) in
    rw (no_dash, none) refl

locked_is_no_value : (fs : List (List ℕ)) → value.read (fs ++ codes "locked" ∷ []) ≡ None
locked_is_no_value [] = no_words [] refl
locked_is_no_value (f ∷ fs) = no_words (f ∷ fs) (more_than_dash (bytes_eq f (codes "-")) fs (codes "locked"))

nothing_is_no_value : value.read [] ≡ None
unfolding some_read
nothing_is_no_value = refl

pub audit_row_is : (tables : List Table) → IsSpelling (audit_row_kind tables).rest
audit_row_is tables =
    next_is (table_is tables) (next_is u64_is
    (with_mark_is (codes "locked") refl locked_is_no_value nothing_is_no_value value_is))
