-- Demand 3 about a file, from demand 3 over its tick list. Assumes nothing.
use Rattle.std.specs.Prelude.{ℕ, List, length, take, ◌≡◌}
use mathlib.Core.Path.{sym, ap, subst, subst⁻¹, ◌∙◌}
use lib.Seq.{take-append_seam}
use Rattle.recording.specs.{Types.Step, GoodForm.GoodForm, Ticks.steps_of}
use Rattle.recording.proofs.GoodFormLaws.{good_form}
use Rattle.transfer.specs.{Types.Limits, Types.Lines, Types.Tick, Types.Byte, Limits.standard_limits, Limits.command_limits}
use Rattle.transfer.specs.{Outcome.outcome, Pair.values, Pair.SameOrLater}
use Rattle.transfer.specs.Demand3.{Consistent, shown_sender, shown_receiver, Explains, Explained, CompleteWith as CompleteTicks}
use Rattle.answer.specs.Numbers.{verdict_number}
use Rattle.transfer.proofs.Demand3.{demand3, standard_consistent, commands_consistent}
use Rattle.answer.proofs.Numbers.{only_complete_is_20}
use Rattle.judge.specs.Promise.{JudgePromise}
use Rattle.judge.specs.Judged.{Judged, tick_list, line_list, verdict_leaves, judged}
use Rattle.judge.specs.Demand3.{GoodWithRoom, CompleteWith, dated, FileDemand3}
use Rattle.judge.proofs.{JudgedLaws.is_verdict, MarkLaws.no_mark, LedgerLists.length-values, LedgerLists.reads_ledger}

-- What is left at a verdict is complete with a string exactly if the tick list is.
module _ (L : Limits) (w : List Tick) (steps : List Step) (b g : List ℕ) where
  abbrev verdict_of : Judged
  verdict_of = verdict_leaves steps (outcome L w) b g

  abbrev handed : List Byte
  handed = (outcome L w).bytes

  begins_with_lem : (string : List ℕ) → length handed ≡ length string → take (length string) verdict_of.bytes ≡ values handed
  begins_with_lem string e =
      ap (λ (n : ℕ). take n verdict_of.bytes) (sym (length-values handed ∙ e)) ∙ take-append_seam (values handed) _

  complete_ticks : (string : List ℕ) → CompleteWith verdict_of string → CompleteTicks L w string
  complete_ticks string c =
      record {
        verdict = only_complete_is_20 _ c.number;
        bytes = sym (begins_with_lem string c.count) ∙ c.begins;
      }

  complete_file : (string : List ℕ) → CompleteTicks L w string → CompleteWith verdict_of string
  complete_file string c =
      let count : length handed ≡ length string = sym (length-values handed) ∙ ap length c.bytes in
      record {
        number = ap verdict_number c.verdict;
        count = count;
        begins = begins_with_lem string count ∙ c.bytes;
      }

  -- The ledger's bytes are those that were handed over.
  dated_handed : (string : List ℕ) → CompleteTicks L w string → handed ≡ dated string verdict_of.ledger
  dated_handed string c = sym (reads_ledger handed _) ∙ ap (λ (v : List ℕ). dated v verdict_of.ledger) c.bytes

module _ (L : Limits) (times : Consistent L) (file b g : List ℕ) where
  abbrev w : List Tick
  w = tick_list file

  abbrev l : List Lines
  l = line_list file

  at_verdict : (n : ℕ) → GoodForm file n → FileDemand3 L file (verdict_leaves (steps_of file) (outcome L w) b g)
  at_verdict n good =
      let ticks = demand3 L times w in
      let steps = steps_of file in
      let marks = no_mark file n good in
      record {
        exactly = λ string. (
          λ c. let x = (ticks.exactly string).0 (complete_ticks L w steps b g string c) in (x.0, marks.1 x.1),
          λ x. complete_file L w steps b g string ((ticks.exactly string).1 (x.0, marks.0 x.1)),
        );
        shown_pair = λ string c.
            let t = complete_ticks L w steps b g string c in
            subst (λ (d : List Byte). Explains L l string (shown_sender d l) (shown_receiver d l) d)
            (dated_handed L w steps b g string t) (ticks.shown_pair string t);
        earliest = λ string sender receiver other x none.
            let pair : Explained L l string = record { sender = sender; receiver = receiver; dated = other; explains = x } in
            let t = (ticks.exactly string).1 (pair, marks.0 none) in
            subst (λ (d : List Byte). SameOrLater d other) (dated_handed L w steps b g string t)
            (ticks.earliest string sender receiver other x (marks.0 none));
        never = λ none e. ticks.never (λ string x u. none string x (marks.1 u)) (only_complete_is_20 _ e);
      }

  pub file_demand3 : GoodWithRoom file b g → FileDemand3 L file (judged L file b g)
  file_demand3 good =
      subst⁻¹ (FileDemand3 L file)
      (is_verdict L file b g good.steps ((good_form file good.steps).1 good.good_form) good.byte_room_lent good.ledger_room_lent)
      (at_verdict good.steps good.good_form)

-- The promise, from its first clause, for all times that are consistent; and for each entry, from the limits that its call made.
promise : (L : Limits) → Consistent L → (file b g : List ℕ) (j : Judged) → j ≡ judged L file b g → JudgePromise L file b g j
promise L times file b g j e =
    record { given = e; explained = λ good. subst⁻¹ (FileDemand3 L file) e (file_demand3 L times file b g good) }

made : (L : Limits) → Consistent L → (file b g : List ℕ) (j : Judged) (K : Limits) → K ≡ L → j ≡ judged K file b g
    → JudgePromise L file b g j
made L times file b g j K e h = promise L times file b g j (h ∙ ap (λ (M : Limits). judged M file b g) e)

pub standard_promised : (file b g : List ℕ) (j : Judged) (K : Limits) → K ≡ standard_limits → j ≡ judged K file b g
    → JudgePromise standard_limits file b g j
standard_promised = made standard_limits standard_consistent

pub command_promised : (file b g : List ℕ) (j : Judged) (K : Limits) → K ≡ command_limits → j ≡ judged K file b g
    → JudgePromise command_limits file b g j
command_promised = made command_limits (commands_consistent standard_limits standard_consistent)
