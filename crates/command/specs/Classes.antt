-- Document 02, #101: "a table with one class for each of the 256 command bytes".
use Rattle.std.specs.Prelude.{ℕ, Bool, ◌&&◌, leb, eqb, if◌then◌else◌}
use Rattle.command.specs.Types.{Class, Listen, Unlisten, Talk, Untalk, Secondary, Close, Open, Other}

-- From one byte to another, both included.
abbrev within : (from to byte : ℕ) → Bool
within from to byte = leb from byte && leb byte to

unfoldable pub class_of : (byte : ℕ) → Class
class_of byte =
    if within 0x20 0x3E byte then Listen  -- "listen 0x20-0x3E"
    else if eqb byte 0x3F then Unlisten  -- "unlisten 0x3F"
    else if within 0x40 0x5E byte then Talk  -- "talk 0x40-0x5E"
    else if eqb byte 0x5F then Untalk  -- "untalk 0x5F"
    else if within 0x60 0x6F byte then Secondary  -- "secondary 0x60-0x6F"
    else if within 0xE0 0xEF byte then Close  -- "close 0xE0-0xEF"
    else if within 0xF0 0xFF byte then Open  -- "open 0xF0-0xFF"
    else Other  -- "other"

-- The number by which a class crosses to C and Rust.
abbrev pub class_number : Class → ℕ
class_number Other = 0
class_number Listen = 1
class_number Unlisten = 2
class_number Talk = 3
class_number Untalk = 4
class_number Secondary = 5
class_number Close = 6
class_number Open = 7
