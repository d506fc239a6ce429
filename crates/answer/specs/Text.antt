-- Text as bytes.
use Prim.Native.Char.{code}
use Rattle.std.specs.Prelude.{ℕ, ◌+◌, List, [], ◌∷◌}
use Prim.Native.String.{String, [] as end, ◌∷◌ as ◌then◌}

-- The bytes of a text; its characters are those of ASCII, one byte each.
abbrev pub ascii : String → List ℕ
ascii end = []
ascii (c then text) = code c ∷ ascii text

abbrev pub space : ℕ
space = code " "

abbrev pub newline : ℕ
newline = code "\n"

-- The digit of a number below ten.
abbrev pub digit : ℕ → ℕ
digit n = code "0" + n
