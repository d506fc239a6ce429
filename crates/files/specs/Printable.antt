-- A byte of a file's name as it is printed: a control character of ASCII, below 32 or 127, as a question mark.
use Rattle.std.specs.Prelude.{ℕ, eqb, ltb, cond}

unfoldable pub printable : (byte : ℕ) → ℕ
printable byte = cond (ltb byte 32) 63 (cond (eqb byte 127) 63 byte)
