-- The samples hold: each is computed. Assumes nothing.
use mathlib.Core.Path.{refl}
use Rattle.tray.specs.{Seats.changed, Passing.passing, Tray.outside, Tray.called, Sealing.sealed}
use Rattle.tray.specs.Samples.{CallSamples, PostSamples, SealSamples}

pub calls_hold : CallSamples
unfolding called outside changed
calls_hold =
    record {
      load_vacant = refl;
      load_unjudged = refl;
      load_passed = refl;
      load_failed = refl;
      remove_vacant = refl;
      remove_unjudged = refl;
      remove_passed = refl;
      remove_failed = refl;
      post_vacant = refl;
      post_unjudged = refl;
      post_failing = refl;
      post_passed = refl;
      post_failed = refl;
      last_seat = refl;
      no_such_seat = refl;
      no_such_vacant_seat = refl;
      too_short = refl;
      too_long = refl;
    }

pub posts_hold : PostSamples
unfolding passing
posts_hold =
    record {
      as_expected = refl;
      cut = refl;
      empty_stream = refl;
      one_byte_more = refl;
      one_byte_less = refl;
      first_byte_other = refl;
      last_byte_other = refl;
      buffer_too_short = refl;
      no_byte = refl;
    }

pub seals_hold : SealSamples
unfolding sealed
seals_hold =
    record {
      vacant_tray = refl;
      one_passed = refl;
      all_used_passed = refl;
      one_unjudged = refl;
      one_failed = refl;
      none_passed = refl;
      too_short = refl;
      too_long = refl;
    }
