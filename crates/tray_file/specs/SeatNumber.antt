-- A seat's number as it stands in an argument.
use Prim.Native.Char.{code}
use Rattle.std.specs.Prelude.{ℕ, ◌+◌, ◌-◌, ◌*◌, Bool, true, false, List, [], ◌∷◌, ltb, if◌then◌else◌}
use Rattle.tray.specs.Tray.{seats}

abbrev pub is_digit : (byte : ℕ) → Bool
is_digit byte = if ltb byte (code "0") then false else if ltb (code "9") byte then false else true

unfoldable pub all_digits : List ℕ → Bool
all_digits [] = true
all_digits (byte ∷ bytes) = if is_digit byte then all_digits bytes else false

-- Digits, one at least.
unfoldable pub is_number : List ℕ → Bool
is_number [] = false
is_number (byte ∷ bytes) = all_digits (byte ∷ bytes)

-- The number of these digits, with another before them.
unfoldable pub number_after : (number : ℕ) (digits : List ℕ) → ℕ
number_after number [] = number
number_after number (digit ∷ digits) = number_after (number * 10 + (digit - code "0")) digits

abbrev pub number_of : (digits : List ℕ) → ℕ
number_of digits = number_after 0 digits

-- Every number that no seat has is taken for the least of them, 40.
unfoldable pub or_forty : ℕ → ℕ
or_forty number = if ltb number seats then number else seats
