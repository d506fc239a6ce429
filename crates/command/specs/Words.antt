-- The word that the programs print for each class: document 02's.
use Rattle.std.specs.Prelude.{ℕ, List}
use Rattle.answer.specs.Text.{ascii}
use Rattle.command.specs.Types.{Class, Listen, Unlisten, Talk, Untalk, Secondary, Close, Open, Other}

abbrev pub class_word : Class → List ℕ
class_word Listen = ascii "listen"
class_word Unlisten = ascii "unlisten"
class_word Talk = ascii "talk"
class_word Untalk = ascii "untalk"
class_word Secondary = ascii "secondary"
class_word Close = ascii "close"
class_word Open = ascii "open"
class_word Other = ascii "other"
