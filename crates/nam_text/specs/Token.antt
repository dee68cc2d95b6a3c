-- What a field spells.
use Rattle.std.specs.Prelude.{ℕ, ◌+◌, ◌*◌, ◌^◌, List, [], length, Option, Some, None, Bool, ◌&&◌, ◌||◌, ◌==◌, nat_lt, nat_le}
use Rattle.std.specs.Prelude.{if◌then◌else◌, slice_index}
use Rattle.std.specs.List.{list_all}
use Rattle.std.specs.Char.{is_ascii_digit, is_ascii_lowercase}
use Rattle.std.specs.Str.Parse.{digits_value}
use Rattle.std.specs.Fmt.{decimal}

-- not empty, and without a leading zero, 0 alone excepted
abbrev pub is_led : List ℕ → Bool
is_led field = if slice_index field 0 == 48 then length field == 1 else nat_lt 0 (length field)

-- decimal digits without a leading zero, 0 alone excepted
abbrev pub is_number : List ℕ → Bool
is_number field = list_all is_ascii_digit field && is_led field

-- a number with one digit more, and none where it is above 2^64 - 1
abbrev pub with_digit : Option ℕ → ℕ → Option ℕ
with_digit None digit = None
with_digit (Some n) digit = if nat_lt (n * 10 + digit) (2 ^ 64) then Some (n * 10 + digit) else None

-- the number that digits spell, and none where it is above 2^64 - 1
abbrev pub number_value : List ℕ → Option ℕ
number_value field = if nat_lt (digits_value 10 field) (2 ^ 64) then Some (digits_value 10 field) else None

-- the number that a field spells: nothing where it spells none
unfoldable pub number_of : List ℕ → Option (Option ℕ)
number_of field = if is_number field then Some (number_value field) else None

-- the one spelling of a number
abbrev pub number_text : Option ℕ → List ℕ
number_text None = []
number_text (Some n) = decimal n

abbrev pub is_name_byte : ℕ → Bool
is_name_byte b = is_ascii_lowercase b || is_ascii_digit b || b == 95

-- 1 to 16 characters: a letter, then letters, digits or underscores
abbrev pub is_name : List ℕ → Bool
is_name field =
    nat_lt 0 (length field) && nat_le (length field) 16 && is_ascii_lowercase (slice_index field 0) && list_all
    is_name_byte field
