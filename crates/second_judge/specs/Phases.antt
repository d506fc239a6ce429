-- Where the reading stands, and what a tick leads to, from `src/phase.rt`. Assumes nothing.
use Rattle.std.specs.Prelude.{ℕ, ◌/◌, ◌%◌, true, false, ◌==◌, ◌≡◌, Result, Ok, Err}
use Rattle.second_judge.specs.declared.entry.Entry.{Entry}
use Rattle.second_judge.specs.declared.entry.Entry.TheVariants.{Plain, Command}
use Rattle.second_judge.specs.declared.lines.Lines.{Lines}
use Rattle.second_judge.specs.declared.numbers.Verdict.{Verdict}
use Rattle.second_judge.specs.declared.phase.Next.{Next}
use Rattle.second_judge.specs.declared.phase.Next.TheVariants.{Stay, Go, HandOver, OpenFromHere, Finish}
use Rattle.second_judge.specs.declared.phase.Phase.{Phase}
use Rattle.second_judge.specs.declared.phase.Phase.TheVariants.{ReadyToSend, Acknowledgement}
use Rattle.second_judge.specs.declared.phase.Phase.TheVariants.{Acknowledged, Open, End}
use Rattle.second_judge.specs.declared.tick.Tick.{Tick}
use Rattle.second_judge.specs.Numbers.{Gives, while_reading}

-- "bit 0 ATN, 1 CLK, 2 DATA"
abbrev pub lines_of : ℕ → Lines
lines_of shown = record { attention = shown % 2 == 1; clock = shown / 2 % 2 == 1; «data» = shown / 4 % 2 == 1 }

-- No line is pulled; after the finish of #101 "only a pull of ATN matters".
abbrev pub Rests : Entry → Lines → Type 0
Rests Plain lines = (lines.attention ≡ false) × (lines.clock ≡ false) × (lines.«data» ≡ false)
Rests Command lines = lines.attention ≡ false

-- An entry that has the end mark: #101 goes without.
abbrev pub HasEndMark : Entry → Type 0
HasEndMark Plain = Unit
HasEndMark Command = ⊥

-- Where the reading may stand: F and G are the phases that only an end mark leads to.
abbrev pub Stands : Entry → Phase → Type 0
Stands entry Acknowledgement = HasEndMark entry
Stands entry Acknowledged = HasEndMark entry
Stands entry phase = Unit

-- The phase after a tick that leads to `next`, in the phase `before`.
abbrev pub phase_after : Phase → Next → Phase
phase_after before Stay = before
phase_after before (Go phase) = phase
phase_after before HandOver = ReadyToSend
phase_after before OpenFromHere = Open
phase_after before Finish = End

-- "(0,0)": CLK and DATA are released.
abbrev pub NeitherPulled : Lines → Type 0
NeitherPulled lines = (lines.clock ≡ false) × (lines.«data» ≡ false)

-- What a row may lead to, with an entry: where the reading may stand, but never to E; of the verdicts only the entry's.
abbrev pub Leads : Entry → Result Next Verdict → Type 0
Leads entry (Ok Stay) = Unit
Leads entry (Ok (Go phase)) = Stands entry phase × (phase ≡ End → ⊥)
Leads entry (Ok HandOver) = Unit
Leads entry (Ok OpenFromHere) = Unit
Leads entry (Ok Finish) = ⊥
Leads entry (Err verdict) = Gives (while_reading entry) verdict

-- The same of a row of both entries.
abbrev pub LeadsBoth : Result Next Verdict → Type 0
LeadsBoth led = (entry : Entry) → Leads entry led

-- What C's row may lead to, the one row that leads to E, and so what the rows together may: to E only with (0,0) and after
-- an end mark; otherwise what any row may.
abbrev pub LeadsOrEnds : Entry → Tick → Result Next Verdict → Type 0
LeadsOrEnds entry tick (Ok (Go phase)) =
    Stands entry phase × (phase ≡ End → NeitherPulled tick.lines × (tick.end_mark ≡ true))
LeadsOrEnds entry tick led = Leads entry led

-- Where the reading goes on after a tick: where it may stand, and in E only with the lines at rest. Or a verdict.
abbrev pub GoesOn : Entry → Tick → Result Next Verdict → Type 0
GoesOn entry tick (Ok next) =
    Stands entry (phase_after tick.phase next) × (phase_after tick.phase next ≡ End → Rests entry tick.lines)
GoesOn entry tick (Err verdict) = Gives (while_reading entry) verdict
