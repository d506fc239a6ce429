-- Where two rows of document 01, of #101 or of #103 meet: tick lists whose outcomes show how they are read there, and on which tick each
-- time falls. docs/DECISIONS.md gives the reasons.
use Rattle.std.specs.Prelude.{ℕ, Bool, true, ◌&&◌, List, [], ◌∷◌, ◌++◌, length, ◌≡◌, eqb}
use Rattle.transfer.specs.{Types.Limits, Limits.standard_limits, Limits.command_limits, Outcome.outcome}
use Rattle.transfer.specs.Spans.{Span, ticks, ◌∶◌, lost, opening, bits, till41, s1, attended, listen}
use Rattle.answer.specs.Numbers.{verdict_number}

-- The byte 0x80, from tick 0 to the CLK pull after bit 8, which is tick 1,630.
abbrev pub till80 : List Span
till80 = opening 220 80 ++ bits (0 ∷ 0 ∷ 0 ∷ 0 ∷ 0 ∷ 0 ∷ 0 ∷ 4 ∷ [])

-- The byte 0x41 as a first byte that is not the last.
abbrev pub plain41 : List Span
plain41 = 200 ∶ 6 ∷ 50 ∶ 4 ∷ 60 ∶ 0 ∷ bits (4 ∷ 0 ∷ 0 ∷ 0 ∷ 0 ∷ 0 ∷ 4 ∷ 0 ∷ [])

-- A tick list, and the number, tick and count that it comes to.
pub data Reading : Type 0 where
  reads : List Span → (number tick count : ℕ) → Reading

abbrev pub readings : List Reading
readings =
    -- S1 of document 01, and the same without its last step.
    reads s1 20 1910 1
    ∷ reads (till41 ++ (30 ∶ 2 ∷ 200 ∶ 6 ∷ 50 ∶ 4 ∷ [])) 22 1910 1
    -- A 201st set-up tick, and a 201st valid tick: 34.
    ∷ reads (opening 220 80 ++ (201 ∶ 6 ∷ [])) 34 790 0
    ∷ reads (opening 220 80 ++ (70 ∶ 6 ∷ 201 ∶ 4 ∷ [])) 34 860 0
    -- A 201st valid tick in which DATA moved: 33, whose row is the earlier one.
    ∷ reads (opening 220 80 ++ (70 ∶ 6 ∷ 200 ∶ 4 ∷ 1 ∶ 0 ∷ [])) 33 860 0
    -- The first valid tick with other DATA than the last set-up tick: 33.
    ∷ reads (opening 220 80 ++ (70 ∶ 6 ∷ 1 ∶ 0 ∷ [])) 33 660 0
    -- A CLK pull after 19 valid ticks, not after 20: 32, also with DATA moved in the same tick, and after bit 8.
    ∷ reads (opening 220 80 ++ (70 ∶ 6 ∷ 19 ∶ 4 ∷ 1 ∶ 2 ∷ [])) 32 679 0
    ∷ reads (opening 220 80 ++ (70 ∶ 6 ∷ 20 ∶ 4 ∷ 1 ∶ 2 ∷ [])) 22 681 0
    ∷ reads (opening 220 80 ++ (bits (0 ∷ 0 ∷ 0 ∷ 0 ∷ 0 ∷ 0 ∷ 0 ∷ []) ++ (70 ∶ 2 ∷ 19 ∶ 0 ∷ 1 ∶ 6 ∷ []))) 32 1589 0
    -- Bit 8 zero, and offset 0 of the handover shows (1,1): 26.
    ∷ reads (till41 ++ (1 ∶ 6 ∷ [])) 26 1630 0
    -- Carried: DATA released with CLK is 26 and not 36.
    ∷ reads (till80 ++ (50 ∶ 6 ∷ 1 ∶ 0 ∷ [])) 26 1680 0
    -- Carried: CLK released at offset 100 is too soon, at 101 it hands the byte over.
    ∷ reads (till80 ++ (100 ∶ 6 ∷ 1 ∶ 4 ∷ [])) 36 1730 0
    ∷ reads (till80 ++ (101 ∶ 6 ∷ 1 ∶ 4 ∷ [])) 22 1732 1
    -- Carried has no upper end: 35 never falls there.
    ∷ reads (till80 ++ (1500 ∶ 6 ∷ 50 ∶ 4 ∷ 100 ∶ 0 ∷ [])) 20 3180 1
    -- Carried, then open: 35 still counts from offset 0.
    ∷ reads (till80 ++ (100 ∶ 6 ∷ 901 ∶ 2 ∷ [])) 35 2630 0
    -- Open at offset 1,000: CLK released is 26 and not 35.
    ∷ reads (till41 ++ (1000 ∶ 2 ∷ 1 ∶ 4 ∷ [])) 26 2630 0
    -- B, too soon: both released is 26; 36 is for (0,1) alone, 99 ticks after the take and not 100, and the byte is not counted.
    -- The first B has no such time.
    ∷ reads (till41 ++ (30 ∶ 2 ∷ 50 ∶ 6 ∷ 1 ∶ 0 ∷ [])) 26 1710 0
    ∷ reads (till41 ++ (30 ∶ 2 ∷ 99 ∶ 6 ∷ 1 ∶ 4 ∷ [])) 36 1759 0
    ∷ reads (till41 ++ (30 ∶ 2 ∷ 100 ∶ 6 ∷ 1 ∶ 4 ∷ [])) 22 1761 1
    ∷ reads (50 ∶ 6 ∷ 50 ∶ 4 ∷ []) 22 100 0
    -- The first B with DATA released: 26, with CLK pulled and released.
    ∷ reads (50 ∶ 6 ∷ 1 ∶ 2 ∷ []) 26 50 0
    ∷ reads (50 ∶ 6 ∷ 1 ∶ 0 ∷ []) 26 50 0
    -- C: the byte is handed over on entering it, and a fault in it counts the byte.
    ∷ reads (till41 ++ (30 ∶ 2 ∷ 200 ∶ 6 ∷ 50 ∶ 4 ∷ 1 ∶ 2 ∷ [])) 26 1910 1
    -- At the last offset of a phase the rows of CLK and DATA come first: A at 256, D at 290, F at 150, G at 512 after D.
    ∷ reads (256 ∶ 2 ∷ 1 ∶ 0 ∷ []) 26 256 0
    ∷ reads (opening 290 150) 22 730 0
    ∷ reads (200 ∶ 6 ∷ 50 ∶ 4 ∷ 220 ∶ 0 ∷ 80 ∶ 4 ∷ 212 ∶ 0 ∷ 1 ∶ 2 ∷ []) 30 762 0
    -- The 512 counts from D's first tick, through the acknowledgement: 21 with no byte handed over, 31 after one.
    ∷ reads (opening 220 80 ++ (300 ∶ 0 ∷ [])) 21 762 0
    ∷ reads (plain41 ++ (30 ∶ 2 ∷ 200 ∶ 6 ∷ 50 ∶ 4 ∷ 220 ∶ 0 ∷ 80 ∶ 4 ∷ 300 ∶ 0 ∷ [])) 31 2142 1
    -- A's last offset: 24 falls at 256.
    ∷ reads (257 ∶ 2 ∷ []) 24 256 0
    -- D: a gap of 199 ticks is none for an end mark, one of 200 is.
    ∷ reads (opening 199 80) 26 449 0
    ∷ reads (opening 200 80) 22 570 0
    -- D with CLK pulled at 199 begins the bits, at 200 it is 26.
    ∷ reads (200 ∶ 6 ∷ 50 ∶ 4 ∷ 199 ∶ 0 ∷ 1 ∶ 2 ∷ []) 22 450 0
    ∷ reads (200 ∶ 6 ∷ 50 ∶ 4 ∷ 200 ∶ 0 ∷ 1 ∶ 2 ∷ []) 26 450 0
    -- F with CLK pulled: 26. G with (0,1): 26.
    ∷ reads (200 ∶ 6 ∷ 50 ∶ 4 ∷ 220 ∶ 0 ∷ 80 ∶ 4 ∷ 1 ∶ 6 ∷ []) 26 550 0
    ∷ reads (opening 220 80 ++ (1 ∶ 4 ∷ [])) 26 590 0
    -- G: CLK pulled at offset 60 begins the bits, at 61 it is late.
    ∷ reads (200 ∶ 6 ∷ 50 ∶ 4 ∷ 220 ∶ 0 ∷ 80 ∶ 4 ∷ 60 ∶ 0 ∷ 1 ∶ 6 ∷ []) 22 611 0
    ∷ reads (200 ∶ 6 ∷ 50 ∶ 4 ∷ 220 ∶ 0 ∷ 80 ∶ 4 ∷ 61 ∶ 0 ∷ 1 ∶ 6 ∷ []) 30 611 0
    -- D's and F's last offsets, and carried's: 27, 29 and 26 fall one tick later than the last that is allowed.
    ∷ reads (200 ∶ 6 ∷ 50 ∶ 4 ∷ 291 ∶ 0 ∷ []) 27 540 0
    ∷ reads (200 ∶ 6 ∷ 50 ∶ 4 ∷ 220 ∶ 0 ∷ 151 ∶ 4 ∷ []) 29 620 0
    ∷ reads (till80 ++ (101 ∶ 6 ∷ 1 ∶ 2 ∷ [])) 26 1731 0
    -- F: an acknowledgement of 59 ticks is too short, one of 60 is not.
    ∷ reads (opening 220 59) 28 529 0
    ∷ reads (opening 220 60) 22 570 0
    -- ATN comes before anything else, also in E and where tick 0 would be 25.
    ∷ reads (1 ∶ 1 ∷ []) 23 0 0
    ∷ reads (s1 ++ (1 ∶ 1 ∷ [])) 23 2010 1
    -- E: any tick other than (0,0) is 37. SRQ, bit 3, changes no answer.
    ∷ reads (s1 ++ (1 ∶ 2 ∷ [])) 37 2010 1
    ∷ reads (s1 ++ (1 ∶ 4 ∷ [])) 37 2010 1
    ∷ reads (s1 ++ (1 ∶ 8 ∷ [])) 20 1910 1
    -- Commands handed to the entry for data.
    ∷ reads (listen 200 ++ (1 ∶ 6 ∷ [])) 23 0 0
    -- A verdict stands: ATN pulled later changes nothing.
    ∷ reads (1 ∶ 0 ∷ 1 ∶ 1 ∷ []) 25 0 0
    -- Ticks lost: before ATN, at tick 0 and in a bit; in B, where the same lines would hand the byte over, which is not counted; in C after
    -- that; and in E, with its own lines and with ATN.
    ∷ reads (lost (2 ∶ 1) ∷ []) 40 0 0
    ∷ reads (opening 220 80 ++ (70 ∶ 6 ∷ lost (60 ∶ 5) ∷ [])) 40 660 0
    ∷ reads (till41 ++ (30 ∶ 2 ∷ 200 ∶ 6 ∷ lost (50 ∶ 4) ∷ [])) 40 1860 0
    ∷ reads (till41 ++ (30 ∶ 2 ∷ 200 ∶ 6 ∷ 50 ∶ 4 ∷ lost (100 ∶ 0) ∷ [])) 40 1910 1
    ∷ reads (s1 ++ (lost (100 ∶ 0) ∷ [])) 40 2010 1
    ∷ reads (s1 ++ (lost (100 ∶ 1) ∷ [])) 40 2010 1
    -- A verdict that fell before them stands.
    ∷ reads (1 ∶ 0 ∷ lost (1 ∶ 0) ∷ []) 25 0 0
    -- No ticks at all.
    ∷ reads [] 22 0 0
    ∷ []

-- A command byte 0x80 from tick 0 to the CLK pull after bit 8, which is tick 1,350; then CLK and DATA pulled for `hold` ticks.
abbrev pub carried80 : (hold : ℕ) → List Span
carried80 hold = attended (200 ∶ 6 ∷ 50 ∶ 4 ∷ 60 ∶ 0 ∷ (bits (0 ∷ 0 ∷ 0 ∷ 0 ∷ 0 ∷ 0 ∷ 0 ∷ 4 ∷ []) ++ (hold ∶ 6 ∷ [])))

-- Up to D of a first command byte, and `gap` ticks of it.
abbrev pub silent : (gap : ℕ) → List Span
silent gap = attended (200 ∶ 6 ∷ 50 ∶ 4 ∷ gap ∶ 0 ∷ [])

-- The same of commands. `listen` has its second take at tick 2,760.
abbrev pub command_readings : List Reading
command_readings =
    -- LISTEN 8, secondary 15. The finish is 100 or more ticks after the take; what CLK and DATA show after it does not matter.
    reads (listen 200 ++ (1 ∶ 6 ∷ [])) 20 2960 2
    ∷ reads (listen 100 ++ (1 ∶ 6 ∷ 5 ∶ 0 ∷ 5 ∶ 4 ∷ 5 ∶ 2 ∷ [])) 20 2860 2
    ∷ reads (listen 99 ++ (1 ∶ 6 ∷ [])) 39 2859 1
    -- Without a finish it is cut, and the last byte is not handed over.
    ∷ reads (listen 200) 22 2960 1
    -- The finish must show (1,1): each of the others is 39, in time or not; and in the take's own tick.
    ∷ reads (listen 200 ++ (1 ∶ 2 ∷ [])) 39 2960 1
    ∷ reads (listen 200 ++ (1 ∶ 4 ∷ [])) 39 2960 1
    ∷ reads (listen 200 ++ (1 ∶ 0 ∷ [])) 39 2960 1
    ∷ reads (listen 99 ++ (1 ∶ 4 ∷ [])) 39 2859 1
    ∷ reads (listen 0 ++ (1 ∶ 6 ∷ [])) 39 2760 1
    -- In a carried handover the take is at offset 1: the finish comes at offset 101, not at 100, and must show (1,1).
    ∷ reads (carried80 100 ++ (1 ∶ 6 ∷ [])) 39 1450 0
    ∷ reads (carried80 101 ++ (1 ∶ 6 ∷ [])) 20 1451 1
    ∷ reads (carried80 101 ++ (1 ∶ 2 ∷ [])) 39 1451 0
    ∷ reads (carried80 101 ++ (1 ∶ 4 ∷ [])) 39 1451 0
    -- After the finish a pull of ATN is 37, whatever the others show, and the last byte is counted.
    ∷ reads (listen 200 ++ (1 ∶ 6 ∷ 1 ∶ 7 ∷ [])) 37 2961 2
    ∷ reads (listen 200 ++ (1 ∶ 6 ∷ 9 ∶ 0 ∷ 1 ∶ 1 ∷ [])) 37 2970 2
    -- ATN released elsewhere is 39, before the phase's rows: in A, where tick 0 would be 25 and 256 would be 24; in B before any byte;
    -- in C; in D at 199, where it would be 38; in a bit, where it would be 33; in an open handover, where it would be 35.
    ∷ reads (1 ∶ 0 ∷ []) 39 0 0
    ∷ reads (attended (256 ∶ 2 ∷ []) ++ (1 ∶ 2 ∷ [])) 39 256 0
    ∷ reads (attended (200 ∶ 6 ∷ []) ++ (1 ∶ 6 ∷ [])) 39 200 0
    ∷ reads (attended (200 ∶ 6 ∷ 50 ∶ 4 ∷ []) ++ (1 ∶ 6 ∷ [])) 39 250 0
    ∷ reads (silent 199 ++ (1 ∶ 0 ∷ [])) 39 449 0
    ∷ reads (attended (200 ∶ 6 ∷ 50 ∶ 4 ∷ 60 ∶ 0 ∷ 70 ∶ 6 ∷ []) ++ (1 ∶ 0 ∷ [])) 39 380 0
    ∷ reads (carried80 50 ++ (attended (950 ∶ 2 ∷ []) ++ (1 ∶ 2 ∷ []))) 39 2350 0
    -- D: at offset 199 (0,0) is 38, CLK pulled begins the bits, (0,1) is 26; so too after a byte.
    ∷ reads (silent 199) 22 449 0
    ∷ reads (silent 200) 38 449 0
    ∷ reads (silent 199 ++ attended (1 ∶ 2 ∷ [])) 22 450 0
    ∷ reads (silent 199 ++ attended (1 ∶ 4 ∷ [])) 26 449 0
    ∷ reads (listen 200 ++ attended (50 ∶ 4 ∷ 200 ∶ 0 ∷ [])) 38 3209 2
    -- The other rows are a data transfer's: no receiver, a bad start, out of turn, too short a bit, a late take, a hurried sender.
    ∷ reads (attended (257 ∶ 2 ∷ [])) 24 256 0
    ∷ reads (attended (1 ∶ 0 ∷ [])) 25 0 0
    ∷ reads (attended (1 ∶ 6 ∷ 1 ∶ 2 ∷ [])) 26 1 0
    ∷ reads (attended (200 ∶ 6 ∷ 50 ∶ 4 ∷ 60 ∶ 0 ∷ 70 ∶ 6 ∷ 19 ∶ 4 ∷ 1 ∶ 6 ∷ [])) 32 399 0
    ∷ reads (carried80 50 ++ attended (951 ∶ 2 ∷ [])) 35 2350 0
    ∷ reads (listen 99 ++ attended (1 ∶ 4 ∷ [])) 36 2859 1
    -- Ticks lost: before 39, in place of the finish, whose byte is not handed over, after it, and there before 37.
    ∷ reads (lost (1 ∶ 0) ∷ []) 40 0 0
    ∷ reads (listen 200 ++ (lost (1 ∶ 6) ∷ [])) 40 2960 1
    ∷ reads (carried80 101 ++ (lost (1 ∶ 6) ∷ [])) 40 1451 0
    ∷ reads (listen 200 ++ (1 ∶ 6 ∷ lost (9 ∶ 6) ∷ [])) 40 2961 2
    ∷ reads (listen 200 ++ (1 ∶ 6 ∷ lost (9 ∶ 7) ∷ [])) 40 2961 2
    -- A data transfer handed to the command entry, and no ticks at all.
    ∷ reads s1 39 0 0
    ∷ reads [] 22 0 0
    ∷ []

abbrev pub holds : Limits → Reading → Bool
holds L (reads spans number tick count) =
    let o = outcome L (ticks spans) in
    eqb (verdict_number o.decision.verdict) number && (eqb o.decision.tick tick && eqb (length o.bytes) count)

abbrev pub all_hold : Limits → List Reading → Bool
all_hold L [] = true
all_hold L (r ∷ rs) = holds L r && all_hold L rs

pub record ReadingsHold : Type 0 where
  pub plain : all_hold standard_limits readings ≡ true
  pub command : all_hold command_limits command_readings ≡ true
