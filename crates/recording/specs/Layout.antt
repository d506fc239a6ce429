-- Document 01, "Recording layout": a header of 16 bytes, then steps of 4 bytes each, little-endian.
use Rattle.std.specs.Prelude.{ℕ, ◌+◌, ◌*◌, Bool, List, get_or, eqb}
use Rattle.recording.specs.Types.{Header, Step}

abbrev pub header_size : ℕ
header_size = 16

abbrev pub step_size : ℕ
step_size = 4

abbrev pub good_version : ℕ
good_version = 1

abbrev pub most_steps : ℕ
most_steps = 16000

-- The longest duration that two bytes hold.
abbrev pub longest_duration : ℕ
longest_duration = 65535

-- Bits 0 to 3 are the lines (ATN, CLK, DATA, SRQ), so a byte with no other bit is below this.
abbrev pub line_bound : ℕ
line_bound = 16

-- #103: "The recorder now marks a step before which ticks were lost: its last byte is 1."
abbrev pub mark : ℕ
mark = 1

abbrev pub is_marked : Step → Bool
is_marked s = eqb s.last mark

-- Where step i begins.
abbrev pub step_place : ℕ → ℕ
step_place i = header_size + step_size * i

-- 16+4n: a file of n steps ends where a further step would begin.
abbrev pub file_length : ℕ → ℕ
file_length n = step_place n

abbrev pub byte_at : List ℕ → ℕ → ℕ
byte_at file at = get_or file at 0

abbrev pub u16_at : List ℕ → ℕ → ℕ
u16_at file at = byte_at file at + byte_at file (at + 1) * 256

abbrev pub u32_at : List ℕ → ℕ → ℕ
u32_at file at = u16_at file at + u16_at file (at + 2) * 65536

-- "0-1 version, ..; 2-3 step count n, ..; 4-7 offset of the first step, ..; 8-11 total ticks, ..; 12-15 file length, .."
abbrev pub header_at : List ℕ → Header
header_at file =
    record {
      version = u16_at file 0;
      steps = u16_at file 2;
      offset = u32_at file 4;
      total = u32_at file 8;
      length = u32_at file 12;
    }

-- "Duration .. in two bytes; lines in one byte ..; one zero byte", or since #103 the mark.
abbrev pub step_at : List ℕ → ℕ → Step
step_at file i =
    record {
      duration = u16_at file (step_place i);
      lines = byte_at file (step_place i + 2);
      last = byte_at file (step_place i + 3);
    }
