-- A tray that only its calls change, from a vacant one on: what is asked of it, and what is accepted.
use Rattle.std.specs.Prelude.{ℕ, suc, ◌+◌, Bool, true, false, ◌&&◌, List, [], ◌∷◌, replicate, eqb, ◌≡◌, if◌then◌else◌}
use Rattle.answer.specs.Types.{Answer}
use Rattle.tray.specs.Types.{Call, Load, Remove, Post, Seat, Counts}
use Rattle.tray.specs.{Passing.PassingPost, Passing.passing, Tray.seats, Tray.vacant_seat, Tray.Called, Tray.called, Counts.counts_of}

-- A call of load, remove or post with what it is handed beside the tray.
pub data Request : Type 0 where
  load : (seat : ℕ) → Request
  remove : (seat : ℕ) → Request
  post : (seat : ℕ) (answer : Answer) (buffer expected : List ℕ) → Request

abbrev pub seat_of : Request → ℕ
seat_of (load seat) = seat
seat_of (remove seat) = seat
seat_of (post seat answer buffer expected) = seat

abbrev pub call_of : Request → Call
call_of (load seat) = Load
call_of (remove seat) = Remove
call_of (post seat answer buffer expected) = Post (passing answer buffer expected)

-- What a request leaves of a tray: what the functions of these names promise.
abbrev pub answered : List Seat → Request → Called
answered tray request = called tray (seat_of request) (call_of request)

-- The tray after some requests, of which the latest stands first.
unfoldable pub tray_after : List Request → List Seat
tray_after [] = replicate seats vacant_seat
tray_after (request ∷ earlier) = (answered (tray_after earlier) request).tray

-- Whether a request is accepted after the earlier ones.
abbrev pub is_accepted : Request → (earlier : List Request) → Bool
is_accepted request earlier = eqb (answered (tray_after earlier) request).answer 0

abbrev pub is_load : Request → Bool
is_load (load seat) = true
is_load (remove seat) = false
is_load (post seat answer buffer expected) = false

abbrev pub is_removal : Request → Bool
is_removal (load seat) = false
is_removal (remove seat) = true
is_removal (post seat answer buffer expected) = false

-- How many requests of a kind were accepted.
unfoldable pub accepted : (kind : Request → Bool) → List Request → ℕ
accepted kind [] = 0
accepted kind (request ∷ earlier) =
    if kind request && is_accepted request earlier then suc (accepted kind earlier) else accepted kind earlier

-- "Seats in use."
abbrev pub used_in : Counts → ℕ
used_in c = c.passed + c.failed + c.unjudged

abbrev pub seats_in_use : List Seat → ℕ
seats_in_use tray = used_in (counts_of tray)

-- The last accepted request for a seat, or none.
unfoldable pub last_accepted : (seat : ℕ) → List Request → List Request
last_accepted seat [] = []
last_accepted seat (request ∷ earlier) =
    if eqb (seat_of request) seat && is_accepted request earlier then request ∷ [] else last_accepted seat earlier

-- The seat's last accepted call is a post whose answer was 20 with exactly the bytes expected.
pub record LastPostPassed (seat : ℕ) (requests : List Request) : Type 0 where
  pub answer : Answer
  pub buffer : List ℕ
  pub expected : List ℕ
  pub last : last_accepted seat requests ≡ post seat answer buffer expected ∷ []
  pub passed : PassingPost answer buffer expected
