-- Why the beginning decides for a file longer than any recording. Assumes nothing.
use Rattle.std.specs.Prelude.{ℕ, Ok, Err, zero, suc, ◌+◌, ◌<◌, Bool, true, false, List, [], ◌∷◌, ◌++◌, length, ◌≡◌, ltb, if◌then◌else◌}
use Rattle.answer.specs.Basics.{differs}
use mathlib.Core.Path.{refl}
use native.Mathlib.Omega.{arith}
use lib.ListN.{length-append}
use borrow.Author.Tests.{ltb-false, le-ltb, ne_eqb}
use Rattle.recording.specs.{Types.Header, Form.Test, Form.header_test, Form.form_of, LongFiles.longest_recording}
use Rattle.recording.specs.{LongFiles.long_refusal, LongFiles.LongFormLaw}
use Rattle.recording.specs.Layout.{byte_at, u16_at, u32_at, header_at, header_size, good_version, most_steps, file_length}
use Rattle.answer.specs.Types.{WrongVersion, TooManySteps, WrongOffset, WrongLength}

byte_before : (b r : List ℕ) (k : ℕ) → k < length b → byte_at (b ++ r) k ≡ byte_at b k
byte_before [] r k h = absurd (omega arith)
byte_before (x ∷ b) r zero h = refl
byte_before (x ∷ b) r (suc k) h = byte_before b r k (omega arith)

module _ (b r : List ℕ) (long : longest_recording < length b) where
  u16_before : (k : ℕ) → k + 1 < header_size → u16_at (b ++ r) k ≡ u16_at b k
  u16_before k h = rw (byte_before b r k (omega (arith, long)), byte_before b r (k + 1) (omega (arith, long)))

  u32_before : (k : ℕ) → k + 3 < header_size → u32_at (b ++ r) k ≡ u32_at b k
  u32_before k h = rw (u16_before k (omega arith), u16_before (k + 2) (omega arith))

  header_before : header_at (b ++ r) ≡ header_at b
  header_before = rw (
    u16_before 0 (omega arith),
    u16_before 2 (omega arith),
    u32_before 4 (omega arith),
    u32_before 8 (omega arith),
    u32_before 12 (omega arith),
  )

-- The last test fails where that of the step count did not.
chain : (version many offset field size : Bool) → (many ≡ false → size ≡ true)
    → ◌≡◌ {A = Test} (if version then Err WrongVersion else if many then Err TooManySteps else if offset then Err WrongOffset else
    if field then Err WrongLength else if size then Err WrongLength else Ok tt)
    (Err (if version then WrongVersion else if many then TooManySteps else if offset then WrongOffset else WrongLength))
chain true many offset field size h = refl
chain false true offset field size h = refl
chain false false true field size h = refl
chain false false false true size h = refl
chain false false false false size h = rw (h refl)

header_fails : (h : Header) (size : ℕ) → longest_recording < size → header_test h size ≡ Err (long_refusal h)
unfolding header_test long_refusal
header_fails h size long =
    chain (differs h.version good_version) (ltb most_steps h.steps) (differs h.offset header_size)
    (differs h.length (file_length h.steps)) (differs size (file_length h.steps))
    (λ few. rw (ne_eqb size (file_length h.steps) (λ same. omega (arith, long, ltb-false most_steps h.steps few, same))))

pub long_form : LongFormLaw
unfolding form_of
long_form b r long =
    let longer : longest_recording < length (b ++ r) = omega (arith, long, length-append b r) in
    let enough = le-ltb (length (b ++ r)) header_size (omega (arith, longer)) in
    rw (enough, header_before b r long, header_fails (header_at b) (length (b ++ r)) longer)
