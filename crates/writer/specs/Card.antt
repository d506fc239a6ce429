-- The durations that the writer puts down, each named once.
use Rattle.writer.specs.declared.card.Card.{Card}

-- Document 01, "What the writer puts down".
abbrev pub standard_card : Card
standard_card =
    record {
      hold = 200;
      ready_to_send = 50;
      gap = 60;
      set_up = 70;
      valid = 60;
      take = 30;
      end_gap = 220;
      acknowledgement = 80;
      response = 40;
      silence = 100;
      no_response = 300;
    }
