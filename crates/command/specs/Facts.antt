-- How many bytes each class has: together all 256, so no range reaches into another.
use Rattle.std.specs.Prelude.{ℕ, zero, suc, ◌+◌, [], ◌∷◌, map, ◌≡◌, eqb, if◌then◌else◌}
use Rattle.command.specs.Types.{Class, Listen, Unlisten, Talk, Untalk, Secondary, Close, Open, Other}
use Rattle.command.specs.Classes.{class_of, class_number}

-- How many of the bytes below this one have the class.
abbrev pub count_below : (end : ℕ) → Class → ℕ
count_below zero class = 0
count_below (suc byte) class = (if eqb (class_number (class_of byte)) (class_number class) then 1 else 0) + count_below byte class

abbrev pub ClassesCounted : Type 0
ClassesCounted =
    map (count_below 256) (Listen ∷ Unlisten ∷ Talk ∷ Untalk ∷ Secondary ∷ Close ∷ Open ∷ Other ∷ [])
    ≡ 31 ∷ 1 ∷ 31 ∷ 1 ∷ 16 ∷ 16 ∷ 16 ∷ 144 ∷ []
