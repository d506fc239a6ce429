-- A file that is longer than a room with more places than a state file has bytes is read by its beginning. Assumes nothing.
use Rattle.std.specs.Prelude.{ℕ, suc, ◌≤◌, ◌<◌, List, length, take, ◌≡◌}
use native.Mathlib.Omega.{arith}
use mathlib.Core.Path.{sym, ap, ◌∙◌}
use lib.{ListN.length-take, Seq.length-take-le, Seq.take-take}
use Rattle.answer.specs.Answers.{first}
use Rattle.tray_file.specs.{State.state_text, Reading.bytes_in}
use Rattle.tray_file.specs.LongFiles.{LongStateLaw}
use Rattle.tray_file.proofs.TextLaws.{text_length_lem}

module _ (file : List ℕ) (room : ℕ) (more : 493 < room) (fits : room ≤ length file) where
  long : length (first room file) ≡ room
  long = length-take-le room file fits

  module _ (n : ℕ) (text : List ℕ) (short : length text ≡ 493) where
    -- Both begin with the text's first bytes, or neither does.
    whole_begins : take n (first room file) ≡ take n text → take n file ≡ take n text
    whole_begins e =
        let lengths = sym (length-take n (first room file)) ∙ ap length e ∙ length-take n text in
        let within : n ≤ room = omega (arith, long) in
        sym (take-take n room file within) ∙ e

    beginning_begins : take n file ≡ take n text → take n (first room file) ≡ take n text
    beginning_begins e =
        let lengths = sym (length-take n file) ∙ ap length e ∙ length-take n text in
        let within : n ≤ room = omega arith in
        take-take n room file within ∙ e

pub long_state : LongStateLaw
long_state file room read more fits part =
    let known = long file room more fits in
    record {
      right = λ seats z.
          let right = part.right seats z in
          let e = ap length right.1 ∙ text_length_lem seats right.0 in
          absurd (omega arith);
      all_right = λ seats h e. let l = ap length e ∙ text_length_lem seats h in absurd (omega arith);
      some_line = part.some_line;
      before = λ line z.
          let told = part.before line z in
          let short = text_length_lem told.0 told.1 in
          (told.0, told.1, whole_begins file room more fits (bytes_in line) (state_text told.0) short told.2);
      wrong = λ line z seats h e.
          part.wrong line z seats h
          (beginning_begins file room more fits (bytes_in (suc line)) (state_text seats) (text_length_lem seats h) e);
    }
