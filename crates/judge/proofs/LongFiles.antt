-- Why a file longer than any recording is answered by its beginning: both are refused, and for the same. Assumes nothing.
use Rattle.std.specs.Prelude.{[]}
use mathlib.Core.{List.append-nil, Path.sym, Path.ap, Path.◌∙◌}
use Rattle.recording.specs.Form.{form_of}
use Rattle.recording.proofs.LongFiles.{long_form}
use Rattle.judge.specs.{Judged.judged, Judged.judged_in_form, LongFiles.LongFileLaw}

pub long_file : LongFileLaw
unfolding judged judged_in_form
long_file L beginning rest bytes ledger long =
    let alone = ap form_of (sym (append-nil beginning)) ∙ long_form beginning [] long in
    rw (long_form beginning rest long, alone)
