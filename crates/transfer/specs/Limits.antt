-- The times of document 01: "each house time has one name, used wherever the time is meant". H marks a house limit, 000 and 003
-- the source that gives the others, also where document 01's row does not name it.
use Rattle.std.specs.Prelude.{◌-◌}
use Rattle.transfer.specs.Types.{Limits, Plain, Command}

abbrev pub standard_limits : Limits
standard_limits =
    record {
      entry = Plain;  -- a data transfer
      presence = 256;  -- A: the last tick at which a receiver may first take DATA (000)
      between_bytes = 100;  -- B, carried: from a take to the next release of CLK, at the least (000)
      end_mark = 200;  -- D: a gap that long means an end mark; CLK pulled before it, none (003)
      end_mark_latest = 290;  -- D: the latest start of an acknowledgement (H)
      acknowledge_least = 60;  -- F: the shortest acknowledgement (003)
      acknowledge_most = 150;  -- F: the longest acknowledgement (H)
      response = 60;  -- G: the last offset of the CLK pull (003)
      sender_timeout = 512;  -- G: no CLK pull that long after D's first tick is a time-out (000)
      set_up_most = 200;  -- Bits: the most ticks of a set-up (H)
      valid_least = 20;  -- Bits: the fewest valid ticks (003)
      valid_most = 200;  -- Bits: the most valid ticks (H)
      keep_most = 100;  -- Handover: the last offset at which the sender lets go (H)
      take_latest = 1000;  -- Handover: the last offset at which the receiver takes (000)
    }

-- #101: the same times for commands. They are judged "without .. end mark: in D, (0,0) at offset 199 gives 38", so that D lasts no
-- longer than a byte may begin.
abbrev pub for_commands : Limits → Limits
for_commands L =
    record {
      entry = Command;
      presence = L.presence;
      between_bytes = L.between_bytes;
      end_mark = L.end_mark;
      end_mark_latest = L.end_mark - 1;
      acknowledge_least = L.acknowledge_least;
      acknowledge_most = L.acknowledge_most;
      response = L.response;
      sender_timeout = L.sender_timeout;
      set_up_most = L.set_up_most;
      valid_least = L.valid_least;
      valid_most = L.valid_most;
      keep_most = L.keep_most;
      take_latest = L.take_latest;
    }

abbrev pub command_limits : Limits
command_limits = for_commands standard_limits
