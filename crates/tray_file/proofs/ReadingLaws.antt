-- Why the seats that are told by one byte of each line, and the place up to which their text is the file, read the file. Assumes nothing.
use Rattle.std.specs.Prelude.{ℕ, suc, ◌+◌, ◌-◌, ◌*◌, ◌/◌, ◌%◌, ◌≤◌, ◌<◌, List, [], length, take, get_or, ◌≡◌, Result, Ok, Err, is_ok}
use mathlib.Core.Bool.{false≢true}
use native.Mathlib.Omega.{arith}
use mathlib.Core.Path.{refl, subst, ap, sym, ◌∙◌}
use lib.{ListN.length-take, Seq.length-take-le, Seq.get_or-take, Seq.ext_get_or}
use Rattle.tray.specs.Types.{SeatState, Vacant, Unjudged, Passed, Failed, Seat}
use Rattle.tray.specs.Tray.{vacant_seat, seat_at}
use Rattle.tray_file.specs.{State.seat_line, State.state_text, Reading.bytes_in, Reading.BeginsAs, Reading.ReadAs}
use Rattle.tray_file.specs.Steps.{telling_place, state_told_by, seat_told_by, SeatsTold, SameUntil, line_of}
use Rattle.tray_file.proofs.TextLaws.{text_length_lem, heading_at, column_at, line_at}
use Rattle.tray_file.proofs.LineLaws.{either_below, in_line, some_line}

abbrev seats_of : Result (List Seat) ℕ → List Seat
seats_of (Ok seats) = seats
seats_of (Err line) = []

abbrev line_told : Result (List Seat) ℕ → ℕ
line_told (Ok seats) = 0
line_told (Err line) = line

-- The byte in the telling column of a seat's line tells the seat.
told : (number : ℕ) (seat : Seat) → seat_told_by (get_or (seat_line number seat) 5 0) ≡ seat
unfolding seat_line state_told_by
told number seat = by_state seat.state
  where
    by_state : (state : SeatState) → seat_told_by (get_or (seat_line number (record { state = state })) 5 0) ≡ record { state = state }
    by_state Vacant = refl
    by_state Unjudged = refl
    by_state Passed = refl
    by_state Failed = refl

-- As far as two lists are the same, so are their beginnings.
same_beginning : (n : ℕ) (a b : List ℕ) → n ≤ length a → n ≤ length b → ((k : ℕ) → k < n → get_or a k 0 ≡ get_or b k 0)
    → take n a ≡ take n b
same_beginning n a b in-a in_b same =
    let long-a = length-take-le n a in-a in
    let long-b = length-take-le n b in_b in
    ext_get_or 0 (take n a) (take n b) (long-a ∙ sym long-b)
    (λ k h.
    let below : k < n = omega arith in
    get_or-take n a k 0 below ∙ same k below ∙ sym (get_or-take n b k 0 below))

module _ (file : List ℕ) (seats : List Seat) (told-seats : SeatsTold file seats) where
  -- Where the file has the line of another tray's seat, that seat is told.
  told_alike : (others : List Seat) (number : ℕ) → length others ≡ 40 → number < 40
      → get_or file (telling_place number) 0 ≡ get_or (state_text others) (telling_place number) 0
      → seat_at seats number ≡ seat_at others number
  told_alike others number forty within same =
      let place : telling_place number ≡ 13 + (12 * number + 5) = omega arith in
      told-seats.each number within
      ∙ ap seat_told_by
      (same ∙ ap (λ (p : ℕ). get_or (state_text others) p 0) place ∙ column_at others number 5 forty within (omega arith))
      ∙ told number (seat_at others number)

  module _ (place : ℕ) (text : List ℕ) (spelt : text ≡ state_text seats) (found : SameUntil file text place) where
    until : SameUntil file (state_text seats) place
    until = subst (λ (t : List ℕ). SameUntil file t place) spelt found

    long : length (state_text seats) ≡ 493
    long = text_length_lem seats told-seats.of_forty

    reads_right : place ≡ 493 → length file ≡ 493 → file ≡ state_text seats
    reads_right place_end file_end =
        ext_get_or 0 file (state_text seats) (file_end ∙ sym long) (λ k h. until.same k (omega arith))

    reads_before : (line : ℕ) → line_of place ≡ suc line → BeginsAs line file seats
    reads_before line e =
        let begun = (in_line place line e).begun in
        same_beginning (bytes_in line) file (state_text seats) (omega (arith, until.in_file)) (omega (arith, until.in_text, long))
        (λ k h. until.same k (omega arith))

    module _ (others : List Seat) (forty : length others ≡ 40) where
      long_others : length (state_text others) ≡ 493
      long_others = text_length_lem others forty

      -- Where the file is as the other text up to the end of a place's line, both texts are the same at that place.
      same_byte : (n : ℕ) → place < n → place < 493 → (13 ≤ place → 13 + (place - 13) / 12 * 12 + 12 ≤ n)
          → ((k : ℕ) → k < n → get_or file k 0 ≡ get_or (state_text others) k 0) → get_or file place 0 ≡ get_or (state_text seats) place 0
      same_byte n below inside whole same =
          either_below place 13
          (λ low. same place below ∙ heading_at others place low ∙ sym (heading_at seats place low))
          (λ high.
          let number = (place - 13) / 12 in
          let within : number < 40 = omega arith in
          let seat = told_alike others number forty within (same (telling_place number) (omega (arith, whole high))) in
          same place below ∙ line_at others place forty high inside
          ∙ ap (λ (s : Seat). get_or (seat_line number s) ((place - 13) % 12) 0) (sym seat)
          ∙ sym (line_at seats place told-seats.of_forty high inside))

      reads_wrong : (place ≡ 493 → length file ≡ 493 → ⊥) → (line : ℕ) → line_of place ≡ suc line → BeginsAs (suc line) file others → ⊥
      reads_wrong short line e begins =
          let at = in_line place line e in
          let n = bytes_in (suc line) in
          let lengths = sym (length-take n file) ∙ ap length begins ∙ length-take n (state_text others) in
          let same : (k : ℕ) → k < n → get_or file k 0 ≡ get_or (state_text others) k 0 =
          λ k h. sym (get_or-take n file k 0 h) ∙ ap (λ (l : List ℕ). get_or l k 0) begins ∙ get_or-take n (state_text others) k 0 h in
          either_below place 493
          (λ inside.
          until.other inside (omega (arith, lengths, long_others, at.ended)) (same_byte n at.ended inside at.whole same))
          (λ end. short (omega (arith, until.in_text)) (omega (arith, lengths, long_others, at.ended, until.in_file)))

      reads_seats : file ≡ state_text others → seats ≡ others
      reads_seats e =
          ext_get_or vacant_seat seats others (told-seats.of_forty ∙ sym forty)
          (λ k h.
          told_alike others k forty (omega (arith, told-seats.of_forty)) (ap (λ (l : List ℕ). get_or l (telling_place k) 0) e))

      reads_all : file ≡ state_text others → 493 ≤ place
      reads_all e =
          let here : file ≡ state_text seats = e ∙ ap state_text (sym (reads_seats e)) in
          either_below place 493
          (λ inside.
          absurd (until.other inside (omega (arith, ap length e, long_others)) (ap (λ (l : List ℕ). get_or l place 0) here)))
          (λ end. end)

    pub reads_whole : place ≡ 493 → length file ≡ 493 → ReadAs file (Ok seats)
    reads_whole place_end file_end =
        record {
          right = λ others e.
              let same : seats ≡ others = ap seats_of e in
              rw (← same) (told-seats.of_forty, reads_right place_end file_end);
          all_right = λ others forty f. ap Ok (reads_seats others forty f);
          some_line = λ e. false≢true (sym (ap is_ok e));
          before = λ line e. absurd (false≢true (sym (ap is_ok e)));
          wrong = λ line e. absurd (false≢true (sym (ap is_ok e)));
        }

    pub reads_part : (place ≡ 493 → length file ≡ 493 → ⊥) → (line : ℕ) → line ≡ line_of place → ReadAs file (Err line)
    reads_part short line at =
        record {
          right = λ others e. absurd (false≢true (ap is_ok e));
          all_right = λ others forty f.
              absurd
              (short (omega (arith, until.in_text, reads_all others forty f)) (ap length f ∙ text_length_lem others forty));
          some_line = λ e. let none : line ≡ 0 = ap line_told e in omega (arith, some_line place);
          before = λ n e.
              let next : line ≡ suc n = ap line_told e in
              (seats, told-seats.of_forty, reads_before n (sym at ∙ next));
          wrong = λ n e others forty. let next : line ≡ suc n = ap line_told e in reads_wrong others forty short n (sym at ∙ next);
        }
