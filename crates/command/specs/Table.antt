-- What the letters of the code's table stand for.
use Prim.Native.Char.{code}
use Rattle.std.specs.Prelude.{ℕ, eqb, if◌then◌else◌}
use Rattle.command.specs.Types.{Class, Listen, Unlisten, Talk, Untalk, Secondary, Close, Open, Other}

unfoldable pub class_by : (letter : ℕ) → Class
class_by letter =
    if eqb letter (code "L") then Listen
    else if eqb letter (code "l") then Unlisten
    else if eqb letter (code "T") then Talk
    else if eqb letter (code "t") then Untalk
    else if eqb letter (code "S") then Secondary
    else if eqb letter (code "C") then Close
    else if eqb letter (code "O") then Open
    else Other
