-- Lines and numbers as text.
use Rattle.std.specs.Prelude.{ℕ, zero, suc, ◌/◌, ◌%◌, List, [], ◌∷◌, ◌++◌, ltb, if◌then◌else◌}
use Prim.Native.String.{String}
use Rattle.answer.specs.Text.{ascii, newline, digit}

-- Lines of text; each ends with one newline.
abbrev pub in_lines : List String → List ℕ
in_lines [] = []
in_lines (line ∷ lines) = ascii line ++ (newline ∷ in_lines lines)

-- A number in decimal, with no leading zeros, if `most` digits are enough: the last digit is the remainder by ten, and those before
-- it, where there are any, are the quotient's.
unfoldable pub decimal_in : (most n : ℕ) → List ℕ
decimal_in zero n = []
decimal_in (suc most) n =
    if ltb n 10 then digit n ∷ []
    else decimal_in most (n / 10) ++ (digit (n % 10) ∷ [])

-- Ten digits are enough for every number of 32 bits.
abbrev pub decimal : ℕ → List ℕ
decimal n = decimal_in 10 n
