-- A file longer than any recording is answered by its beginning. So a program that has room for one byte more than the longest
-- recording may hand over the beginning of such a file: the judge gives for it what it gives for the whole file.
use Rattle.std.specs.Prelude.{ℕ, ◌<◌, List, ◌++◌, length, ◌≡◌}
use Rattle.recording.specs.LongFiles.{longest_recording}
use Rattle.transfer.specs.Types.{Limits}
use Rattle.judge.specs.Judged.{judged}

abbrev pub LongFileLaw : Type 0
LongFileLaw = (L : Limits) (beginning rest bytes ledger : List ℕ) → longest_recording < length beginning
    → judged L (beginning ++ rest) bytes ledger ≡ judged L beginning bytes ledger
