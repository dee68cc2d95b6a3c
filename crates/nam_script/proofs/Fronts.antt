-- What the tables, rows and operations before one of a script keep to, as tests of its line.
use Rattle.std.proofs.Common.{◌≡◌, ℕ, zero, suc, ◌+◌, ◌*◌, ◌<◌, ◌≤◌, Bool, true, false, cond, eqb, ◌||◌, not, List}
use Rattle.std.proofs.Common.{[], ◌∷◌}
use Rattle.std.proofs.Common.{◌++◌, length, Some, Result, Ok, Err, refl, sym, ap, ◌∙◌, subst, arith}
use Rattle.std.proofs.Common.{length-append}
use Rattle.std.specs.Prelude.{is_ok, slice_index, EachIndex}
use Rattle.std.specs.List.{AllByRecursion, position_from}
use Rattle.std.specs.Str.{bytes_eq}
use Rattle.std.proofs.lemmas.Bool.{eq-eqb}
use Rattle.std.proofs.lemmas.List.{length-map}
use Rattle.std.proofs.lemmas.List.Elements.{All-from_recursion}
use Rattle.std.proofs.lemmas.Option.{none-some, same_Some}
use Rattle.std.proofs.lemmas.Slice.Eq.{bytes_eq-Decides}
use Rattle.si_model.specs.declared.row.Row.{Row}
use Rattle.si_model.specs.Rows.{same_key, row_key}
use Rattle.nam_catalog.specs.declared.shape.Shape.{Shape}
use Rattle.nam_catalog.specs.declared.shape.Table.{Table}
use Rattle.nam_catalog.specs.Tables.{name_of, first_named, widths_of, capacities_of}
use Rattle.nam_catalog.specs.Words.{tables_words, table_words, cell_words, intent_words}
use Rattle.nam_catalog.specs.Fits.{FitsTable, FitsLimits}
use Rattle.nam_text.specs.Token.{is_name}
use Rattle.nam_text.proofs.Takes.{if_then}
use Rattle.nam_script.specs.declared.refusal.Kind.{Kind}
use Rattle.nam_script.specs.declared.checks.Found.{Found}
use Rattle.nam_script.specs.Checks.{place_from, place_of, is_given, rows_in}
use Rattle.nam_script.specs.Limits.{IsNamed, AreDistinct}
use Rattle.nam_script.proofs.Chains.{found_is}
use Rattle.nam_script.proofs.Kept.{rows_in_both}

-- ---- any list

pub all_at : {X : Type 0} (P : X → Type 0) (before : List X) (x : X) (rest : List X)
    → AllByRecursion P (before ++ x ∷ rest) → P x
all_at P [] x rest h = h.0
all_at P (y ∷ before) x rest h = all_at P before x rest h.1

pub all_front : {X : Type 0} (P : X → Type 0) (front rest : List X) → AllByRecursion P (front ++ rest)
    → AllByRecursion P front
all_front P [] rest h = tt
all_front P (x ∷ front) rest h = (h.0, all_front P front rest h.1)

pub all_rest : {X : Type 0} (P : X → Type 0) (front rest : List X) → AllByRecursion P (front ++ rest)
    → AllByRecursion P rest
all_rest P [] rest h = h
all_rest P (x ∷ front) rest h = all_rest P front rest h.1

-- ---- tables

-- each table is the first of its name
abbrev pub AreFirst : List Table → Type 0
AreFirst ts = EachIndex ts (λ k. first_named (name_of ts k) ts ≡ Some k)

name_front : (ts us : List Table) (k : ℕ) → k < length ts → name_of (ts ++ us) k ≡ name_of ts k
name_front [] us k lt = absurd (omega arith)
name_front (t ∷ ts) us zero lt = refl
name_front (t ∷ ts) us (suc k) lt = name_front ts us k (omega arith)

name_behind : (ts : List Table) (t : Table) (us : List Table) → name_of (ts ++ t ∷ us) (length ts) ≡ t.name
name_behind [] t us = refl
name_behind (s ∷ ts) t us = name_behind ts t us

at_least : (p : Table → Bool) (us : List Table) (i j : ℕ) → position_from p i us ≡ Some j → i ≤ j
at_least p [] i j found = absurd (none-some j found)
at_least p (u ∷ us) i j found =
    if_then (p u) (Some i) (position_from p (i + 1) us) (Some j) found (λ _ here. omega (arith, same_Some i j here))
    (λ _ later. omega (arith, at_least p us (i + 1) j later))

-- the first that passes, where it is among the front
found_front : (p : Table → Bool) (ts us : List Table) (i j : ℕ) → position_from p i (ts ++ us) ≡ Some j
    → j < i + length ts → position_from p i ts ≡ Some j
found_front p [] us i j found lt = absurd (omega (arith, at_least p us i j found, lt))
found_front p (t ∷ ts) us i j found lt =
    if_then (p t) (Some i) (position_from p (i + 1) (ts ++ us)) (Some j) found (λ passes here. rw passes here)
    (λ fails later. rw fails (found_front p ts us (i + 1) j later (omega (arith, lt))))

pub first_front : (ts us : List Table) → AreFirst (ts ++ us) → AreFirst ts
first_front ts us first k lt =
    let here = first k (omega (arith, length-append ts us)) in
    let named = name_front ts us k lt in
    found_front (λ t. bytes_eq t.name (name_of ts k)) ts us 0 k
    (subst (λ (name : List ℕ). first_named name (ts ++ us) ≡ Some k) named here) (omega arith)

more_words : (n a b : ℕ) → a ≤ b → n + a ≤ n + b
more_words n a b le = omega arith

words_front : (ts us : List Table) → tables_words ts ≤ tables_words (ts ++ us)
words_front [] us = omega arith
words_front (t ∷ ts) us = more_words (table_words t) (tables_words ts) (tables_words (ts ++ us)) (words_front ts us)

fewer_words : (w a b c i : ℕ) → a ≤ b → w + a + c + i ≤ w + b + c + i
fewer_words w a b c i le = omega arith

-- the shape with its first tables fits as well
pub front_fits : (s : Shape) (ts us : List Table) → AllByRecursion FitsTable (ts ++ us) → 1 ≤ length ts
    → FitsLimits (record s { tables = ts ++ us }) → FitsLimits (record s { tables = ts })
front_fits s ts us fit some h = record {
  least_workers = h.least_workers;
  most_workers = h.most_workers;
  least_tables = some;
  tables = All-from_recursion FitsTable ts (all_front FitsTable ts us fit);
  least_buckets = h.least_buckets;
  most_buckets = h.most_buckets;
  least_cells = h.least_cells;
  most_cells = h.most_cells;
  start = h.start;
  names = first_front ts us h.names;
  words = omega (
    arith,
    h.words,
    fewer_words (2 * s.workers) (tables_words ts) (tables_words (ts ++ us)) (s.buckets * s.cells * cell_words)
        (s.workers * intent_words s.form) (words_front ts us),
  );
}

-- none of these is found
none_found : (r : Result Found Kind) → ((f : Found) → r ≡ Ok f → ⊥) → not (is_ok r) ≡ true
none_found (Ok f) h = absurd (h f refl)
none_found (Err k) h = refl

-- a table's name is new
pub name_is_new : (ts : List Table) (t : Table) (us : List Table) → AreFirst (ts ++ t ∷ us)
    → not (is_ok (place_of ts t.name)) ≡ true
name_is_new ts t us first =
    none_found (place_of ts t.name) (λ f found.
    let all = ts ++ t ∷ us in
    let is = found_is ts t.name f found in
    let len = length-append ts (t ∷ us) in
    let early : first_named t.name all ≡ Some f.table = subst (λ (name : List ℕ). first_named name all ≡ Some f.table)
    (name_front ts (t ∷ us) f.table is.within ∙ is.named) (first f.table (omega (arith, is.within, len))) in
    let here : first_named t.name all ≡ Some (length ts) = subst
    (λ (name : List ℕ). first_named name all ≡ Some (length ts)) (name_behind ts t us)
    (first (length ts) (omega (arith, len))) in
    omega (arith, same_Some f.table (length ts) (sym early ∙ here), is.within))

or_later : (b : Bool) (x : Found) (r : Result Found Kind) → ((f : Found) × (r ≡ Ok f))
    → (f : Found) × (cond b (Ok x) r ≡ Ok f)
or_later true x r later = (x, refl)
or_later false x r later = later

place_some : (i : ℕ) (ts : List Table) (n : ℕ) (name : List ℕ) → n < length ts → name_of ts n ≡ name
    → (f : Found) × (place_from i ts name ≡ Ok f)
unfolding place_from
place_some i [] n name lt named = absurd (omega arith)
place_some i (t ∷ ts) zero name lt named =
    let same : bytes_eq t.name name ≡ true = (bytes_eq-Decides t.name name).1 named in
    (record { table = i; width = t.width; capacity = t.capacity }, rw same refl)
place_some i (t ∷ ts) (suc n) name lt named =
    or_later (bytes_eq t.name name) (record { table = i; width = t.width; capacity = t.capacity })
    (place_from (i + 1) ts name) (place_some (i + 1) ts n name (omega arith) named)

-- the table at a place
abbrev pub found_at : List Table → ℕ → Found
found_at ts t = record { table = t; width = slice_index (widths_of ts) t; capacity = slice_index (capacities_of ts) t }

found_same : (f : Found) (t w c : ℕ) → f.table ≡ t → f.width ≡ w → f.capacity ≡ c
    → f ≡ record { table = t; width = w; capacity = c }
found_same f t w c et ew ec = rw (et, ew, ec) refl

-- a table is found by its name
pub finds : (ts : List Table) → AreFirst ts → (t : ℕ) → t < length ts → place_of ts (name_of ts t) ≡ Ok (found_at ts t)
finds ts first t lt =
    let some = place_some 0 ts t (name_of ts t) lt refl in
    let f = some.0 in
    let is = found_is ts (name_of ts t) f some.1 in
    let early = subst (λ (name : List ℕ). first_named name ts ≡ Some f.table) is.named (first f.table is.within) in
    let at : f.table ≡ t = same_Some f.table t (sym early ∙ first t lt) in
    some.1 ∙ ap (λ (g : Found). Ok g) (found_same f t _ _ at
    (sym is.width ∙ ap (slice_index (widths_of ts)) at) (sym is.capacity ∙ ap (slice_index (capacities_of ts)) at))

pub name_at : (ts : List Table) (t : ℕ) → AllByRecursion IsNamed ts → t < length ts
    → is_name (name_of ts t) ≡ true
name_at [] t named lt = absurd (omega arith)
name_at (u ∷ ts) zero named lt = named.0
name_at (u ∷ ts) (suc t) named lt = name_at ts t named.1 (omega arith)

pub width_at : (ts : List Table) (t : ℕ) → AllByRecursion FitsTable ts → t < length ts
    → (1 ≤ slice_index (widths_of ts) t) × (slice_index (widths_of ts) t ≤ 8)
width_at [] t fit lt = absurd (omega arith)
width_at (u ∷ ts) zero fit lt = (fit.0.least_width, fit.0.most_width)
width_at (u ∷ ts) (suc t) fit lt = width_at ts t fit.1 (omega arith)

pub place_below : (ts : List Table) (t : ℕ) → t < length (widths_of ts) → t < length ts
place_below ts t lt = omega (arith, length-map ts (λ (u : Table). u.width))

-- ---- rows

neither : (x y : Bool) → x ≡ false → y ≡ false → (x || y) ≡ false
neither x y ex ey = rw (ex, ey) refl

none_given : (before : List Row) (r : Row) (rest : List Row) → AreDistinct (before ++ r ∷ rest)
    → is_given before r.table r.key ≡ false
none_given [] r rest distinct = refl
none_given (q ∷ before) r rest distinct =
    let first = all_at (λ x. same_key (row_key q) (row_key x) ≡ false) before r rest distinct.0 in
    neither (same_key (row_key q) (row_key r)) (is_given before r.table r.key) first
    (none_given before r rest distinct.1)

-- its key is new
pub row_is_new : (before : List Row) (r : Row) (rest : List Row) → AreDistinct (before ++ r ∷ rest)
    → not (is_given before r.table r.key) ≡ true
row_is_new before r rest distinct = ap not (none_given before r rest distinct)

bit : (n : ℕ) → ◌≡◌ {A = ℕ} (cond (eqb n n) 1 0) 1
bit n = rw (eq-eqb n n refl) refl

-- there is room for it
pub row_has_room : (before : List Row) (r : Row) (rest : List Row) (most : ℕ)
    → rows_in (before ++ r ∷ rest) r.table ≤ most → rows_in before r.table < most
row_has_room before r rest most le = omega (arith, le, rows_in_both before (r ∷ rest) r.table, bit r.table)
