-- How long the lines of a state file are, and the byte at each of its places. Assumes nothing.
use Rattle.std.specs.Prelude.{ℕ, zero, suc, ◌+◌, ◌-◌, ◌*◌, ◌/◌, ◌%◌, ◌≤◌, ◌<◌, List, [], ◌∷◌, ◌++◌, length, get_or, ◌≡◌}
use native.Mathlib.Omega.{arith}
use mathlib.Core.Path.{refl, ap, ap₂, ◌∙◌}
use lib.{ListN.length-append, ListN.get_or-append, Seq.get_or-append-add}
use Rattle.tray.specs.Types.{SeatState, Vacant, Unjudged, Passed, Failed, Seat}
use Rattle.tray.specs.Tray.{seat_at}
use Rattle.answer.specs.Text.{ascii, space, newline, digit}
use Rattle.tray_file.specs.State.{state_word, seat_line, lines_from, state_text}

word_length : (state : SeatState) → length (ascii (state_word state)) ≡ 8
word_length Vacant = refl
word_length Unjudged = refl
word_length Passed = refl
word_length Failed = refl

pub line_length_lem : (number : ℕ) (seat : Seat) → length (seat_line number seat) ≡ 12
unfolding seat_line
line_length_lem number seat =
    omega (arith, length-append (ascii (state_word seat.state)) (newline ∷ []), word_length seat.state)

lines_length : (number : ℕ) (seats : List Seat) → length (lines_from number seats) ≡ 12 * length seats
unfolding lines_from
lines_length number [] = refl
lines_length number (seat ∷ seats) =
    let joined = length-append (seat_line number seat) (lines_from (suc number) seats) in
    omega (arith, line_length_lem number seat, lines_length (suc number) seats)

pub text_length_lem : (seats : List Seat) → length seats ≡ 40 → length (state_text seats) ≡ 493
unfolding state_text
text_length_lem seats forty = omega (arith, lines_length 0 seats)

-- A line as the code puts it together.
pub line_spelt : (word : List ℕ) (tens ones number : ℕ) (seat : Seat) → word ≡ ascii (state_word seat.state)
    → tens ≡ digit (number / 10) → ones ≡ digit (number % 10)
    → tens ∷ ones ∷ space ∷ (word ++ (newline ∷ [])) ≡ seat_line number seat
unfolding seat_line
line_spelt word tens ones number seat w t o =
    ap (λ (l : List ℕ). tens ∷ ones ∷ space ∷ (l ++ (newline ∷ []))) w
    ∙ ap₂ (λ (a b : ℕ). a ∷ b ∷ space ∷ (ascii (state_word seat.state) ++ (newline ∷ []))) t o

-- The byte in a column of a seat's line.
lines_at : (number : ℕ) (seats : List Seat) (seat column : ℕ) → seat < length seats → column < 12
    → get_or (lines_from number seats) (12 * seat + column) 0 ≡ get_or (seat_line (number + seat) (seat_at seats seat)) column 0
unfolding lines_from
lines_at number [] seat column within narrow = absurd (omega arith)
lines_at number (s ∷ seats) zero column within narrow =
    let place : 12 * zero + column ≡ column = omega arith in
    let same : number ≡ number + zero = omega arith in
    ap (λ (p : ℕ). get_or (seat_line number s ++ lines_from (suc number) seats) p 0) place
    ∙ get_or-append (seat_line number s) (lines_from (suc number) seats) 0 column (omega (arith, line_length_lem number s))
    ∙ ap (λ (n : ℕ). get_or (seat_line n s) column 0) same
lines_at number (s ∷ seats) (suc seat) column within narrow =
    let place : 12 * suc seat + column ≡ length (seat_line number s) + (12 * seat + column) = omega (arith, line_length_lem number s) in
    let next : suc number + seat ≡ number + suc seat = omega arith in
    ap (λ (p : ℕ). get_or (seat_line number s ++ lines_from (suc number) seats) p 0) place
    ∙ get_or-append-add (seat_line number s) (lines_from (suc number) seats) (12 * seat + column) 0
    ∙ lines_at (suc number) seats seat column (omega arith) narrow
    ∙ ap (λ (n : ℕ). get_or (seat_line n (seat_at seats seat)) column 0) next

abbrev pub heading : List ℕ
heading = ascii "station tray" ++ (newline ∷ [])

pub heading_at : (seats : List Seat) (place : ℕ) → place < 13 → get_or (state_text seats) place 0 ≡ get_or heading place 0
unfolding state_text
heading_at seats place h = get_or-append heading (lines_from 0 seats) 0 place h

pub column_at : (seats : List Seat) (seat column : ℕ) → length seats ≡ 40 → seat < 40 → column < 12
    → get_or (state_text seats) (13 + (12 * seat + column)) 0 ≡ get_or (seat_line seat (seat_at seats seat)) column 0
unfolding state_text
column_at seats seat column forty within narrow =
    let same : 0 + seat ≡ seat = omega arith in
    get_or-append-add heading (lines_from 0 seats) (12 * seat + column) 0 ∙ lines_at 0 seats seat column (omega arith) narrow
    ∙ ap (λ (n : ℕ). get_or (seat_line n (seat_at seats seat)) column 0) same

-- The same by the place.
pub line_at : (seats : List Seat) (place : ℕ) → length seats ≡ 40 → 13 ≤ place → place < 493
    → get_or (state_text seats) place 0 ≡ get_or (seat_line ((place - 13) / 12) (seat_at seats ((place - 13) / 12))) ((place - 13) % 12) 0
line_at seats place forty low high =
    let split : place ≡ 13 + (12 * ((place - 13) / 12) + (place - 13) % 12) = omega arith in
    ap (λ (p : ℕ). get_or (state_text seats) p 0) split
    ∙ column_at seats ((place - 13) / 12) ((place - 13) % 12) forty (omega arith) (omega arith)
