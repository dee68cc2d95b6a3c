-- A spelling as a value: how values are written in the fields of a line, and how they are read from them.
use Rattle.std.specs.Prelude.{◌≡◌, ℕ, ◌^◌, ◌<◌, ◌≤◌, List, [], ◌∷◌, ◌++◌, map, length, codes, Option, Some, None}
use Rattle.std.specs.Prelude.{Bool, true, false, nat_le, nat_lt, if◌then◌else◌}
use Rattle.std.specs.Fmt.{decimal}
use Rattle.std.specs.List.{list_all, AllByRecursion}
use Rattle.std.specs.Str.{bytes_eq}
use Rattle.nam_text.specs.Token.{number_of, number_text, is_name}
use Rattle.nam_text.specs.Read.{◌>>=◌, word_at, field_at, done, some_read}

-- no byte is below 42, so that none is a space or a newline
abbrev pub IsPlain : List ℕ → Type 0
IsPlain f = list_all (nat_le 42) f ≡ true

-- ---- what both are to keep to

-- A spelling in one field. A number that is read may be above 2^64 - 1; a small value holds no such number.
pub record Field (A : Type 0) : Type 1 where
  pub Fits : A → Type 0
  pub IsSmall : A → Type 0
  pub text : A → List ℕ
  pub read : List ℕ → Option A

-- what is written is read, and only what is written is read
pub record IsField {A : Type 0} (f : Field A) : Type 0 where
  pub again : (x : A) → f.Fits x → f.read (f.text x) ≡ Some x
  pub only : (text : List ℕ) (x : A) → f.read text ≡ Some x → f.IsSmall x → f.Fits x × (text ≡ f.text x)
  pub plain : (x : A) → f.Fits x → IsPlain (f.text x)

-- a spelling in all the fields that are left
pub record Spelling (A : Type 0) : Type 1 where
  pub Fits : A → Type 0
  pub IsSmall : A → Type 0
  pub fields : A → List (List ℕ)
  pub read : List (List ℕ) → Option A

pub record IsSpelling {A : Type 0} (s : Spelling A) : Type 0 where
  pub again : (x : A) → s.Fits x → s.read (s.fields x) ≡ Some x
  pub only : (fs : List (List ℕ)) (x : A) → s.read fs ≡ Some x → s.IsSmall x → s.Fits x × (fs ≡ s.fields x)
  pub plain : (x : A) → s.Fits x → AllByRecursion IsPlain (s.fields x)

-- ---- single fields

abbrev pub FitsWord : Option ℕ → Type 0
FitsWord None = ⊥
FitsWord (Some n) = n < 2 ^ 64

abbrev pub IsWord : Option ℕ → Type 0
IsWord None = ⊥
IsWord (Some n) = Unit {0}

abbrev pub number : Field (Option ℕ)
number = record { Fits = FitsWord; IsSmall = IsWord; text = number_text; read = number_of }

abbrev pub name_of : List ℕ → Option (List ℕ)
name_of f = if is_name f then Some f else None

abbrev pub name : Field (List ℕ)
name = record { Fits = λ x. is_name x ≡ true; IsSmall = λ _. Unit {0}; text = λ x. x; read = name_of }

-- a number below a bound
abbrev pub below_of : ℕ → Option ℕ → Option ℕ
below_of bound None = None
below_of bound (Some n) = if nat_lt n bound then Some n else None

-- a number below a bound of at most 2^64; another one is not read
abbrev pub below : ℕ → Field ℕ
below bound = record {
  Fits = λ n. (n < bound) × (n < 2 ^ 64);
  IsSmall = λ _. Unit {0};
  text = decimal;
  read = λ f. number_of f >>= below_of bound;
}

abbrev pub dash_text : {A : Type 0} → (A → List ℕ) → Option A → List ℕ
dash_text text None = codes "-"
dash_text text (Some x) = text x

abbrev pub FitsIfSome : {A : Type 0} → (A → Type 0) → Option A → Type 0
FitsIfSome Fits None = Unit {0}
FitsIfSome Fits (Some x) = Fits x

-- a value, or a dash where there is none
abbrev pub or_dash : {A : Type 0} → Field A → Field (Option A)
or_dash f = record {
  Fits = FitsIfSome f.Fits;
  IsSmall = FitsIfSome f.IsSmall;
  text = dash_text f.text;
  read = λ t. if bytes_eq t (codes "-") then Some None else (f.read t >>= (λ x. Some (Some x)));
}

-- the first of the values with this text
abbrev pub among : {A : Type 0} → (A → List ℕ) → List A → List ℕ → Option A
among text [] f = None
among text (x ∷ xs) f = if bytes_eq f (text x) then Some x else among text xs f

-- values that have a word each
abbrev pub choice : {A : Type 0} → (A → List ℕ) → List A → Field A
choice text all = record { Fits = λ _. Unit {0}; IsSmall = λ _. Unit {0}; text = text; read = among text all }

-- ---- all the fields that are left

abbrev pub nothing : Spelling (Unit {0})
nothing = record { Fits = λ _. Unit {0}; IsSmall = λ _. Unit {0}; fields = λ _. []; read = done }

-- behind a word
abbrev pub word : {A : Type 0} → List ℕ → Spelling A → Spelling A
word w s = record {
  Fits = s.Fits;
  IsSmall = s.IsSmall;
  fields = λ x. w ∷ s.fields x;
  read = λ fs. word_at w fs >>= s.read;
}

-- in one field, the last
abbrev pub last : {A : Type 0} → Field A → Spelling A
last f = record {
  Fits = f.Fits;
  IsSmall = f.IsSmall;
  fields = λ x. f.text x ∷ [];
  read = λ fs. field_at f.read fs >>= (λ x. done x.1 >>= (λ _. Some x.0));
}

-- one in the next field, and another in those after it
abbrev pub next : {A B : Type 0} → Field A → Spelling B → Spelling (A × B)
next f s = record {
  Fits = λ x. f.Fits x.0 × s.Fits x.1;
  IsSmall = λ x. f.IsSmall x.0 × s.IsSmall x.1;
  fields = λ x. f.text x.0 ∷ s.fields x.1;
  read = λ fs. field_at f.read fs >>= (λ x. s.read x.1 >>= (λ y. Some (x.0, y)));
}

-- 1 to so many, in a field each
abbrev pub some : {A : Type 0} → ℕ → Field A → Spelling (List A)
some most f = record {
  Fits = λ xs. AllByRecursion f.Fits xs × (1 ≤ length xs) × (length xs ≤ most);
  IsSmall = λ xs. AllByRecursion f.IsSmall xs;
  fields = λ xs. map f.text xs;
  read = λ fs. some_read most f.read fs;
}

abbrev pub dash_fields : {A : Type 0} → (A → List (List ℕ)) → Option A → List (List ℕ)
dash_fields fields None = codes "-" ∷ []
dash_fields fields (Some x) = fields x

abbrev pub if_dash : {A : Type 0} → Option (Unit {0}) → Option (Option A) → Option (Option A)
if_dash None read = read
if_dash (Some u) read = Some None

-- all fields but the last, and the last
unfoldable pub split_last : List (List ℕ) → Option (List (List ℕ) × List ℕ)
split_last [] = None
split_last (f ∷ []) = Some ([], f)
split_last (f ∷ g ∷ fs) = split_last (g ∷ fs) >>= (λ x. Some (f ∷ x.0, x.1))

-- one in all fields but the last, and another in that
abbrev pub before : {A B : Type 0} → Spelling A → Field B → Spelling (A × B)
before s f = record {
  Fits = λ x. s.Fits x.0 × f.Fits x.1;
  IsSmall = λ x. s.IsSmall x.0 × f.IsSmall x.1;
  fields = λ x. s.fields x.0 ++ f.text x.1 ∷ [];
  read = λ fs. split_last fs >>= (λ x. s.read x.0 >>= (λ a. f.read x.1 >>= (λ b. Some (a, b))));
}

-- a word, if it is so
abbrev pub mark : List ℕ → Bool → List (List ℕ)
mark w true = w ∷ []
mark w false = []

abbrev pub mark_read : {A : Type 0} → List ℕ → Spelling A → List (List ℕ) → List (List ℕ) × List ℕ → Option (A × Bool)
mark_read w s fs x =
    if bytes_eq x.1 w then (s.read x.0 >>= (λ a. Some (a, true))) else (s.read fs >>= (λ a. Some (a, false)))

-- a word follows, or none
abbrev pub with_mark : {A : Type 0} → List ℕ → Spelling A → Spelling (A × Bool)
with_mark w s = record {
  Fits = λ x. s.Fits x.0;
  IsSmall = λ x. s.IsSmall x.0;
  fields = λ x. s.fields x.0 ++ mark w x.1;
  read = λ fs. split_last fs >>= mark_read w s fs;
}

-- a value, or a dash where there is none
abbrev pub or_lone_dash : {A : Type 0} → Spelling A → Spelling (Option A)
or_lone_dash s = record {
  Fits = FitsIfSome s.Fits;
  IsSmall = FitsIfSome s.IsSmall;
  fields = dash_fields s.fields;
  read = λ fs. if_dash (word_at (codes "-") fs >>= done) (s.read fs >>= (λ x. Some (Some x)));
}

-- seen as another value
abbrev pub through : {A B : Type 0} → (A → B) → (B → A) → Spelling A → Spelling B
through to from s = record {
  Fits = λ y. s.Fits (from y);
  IsSmall = λ y. s.IsSmall (from y);
  fields = λ y. s.fields (from y);
  read = λ fs. s.read fs >>= (λ x. Some (to x));
}
