-- Laws on what a tick leads to. Assumes nothing.
use Rattle.std.proofs.Common.{◌≡◌, ℕ, false, refl, arith}
use Rattle.std.proofs.lemmas.Bool.{eqb-false}
use Rattle.std.specs.Prelude.{IsOk, Result, Ok, Err}
use Rattle.second_judge.specs.declared.entry.Entry.{Entry}
use Rattle.second_judge.specs.declared.entry.Entry.TheVariants.{Plain, Command}
use Rattle.second_judge.specs.declared.numbers.Verdict.{Verdict}
use Rattle.second_judge.specs.declared.phase.Next.{Next}
use Rattle.second_judge.specs.declared.phase.Next.TheVariants.{Stay, Go, HandOver, OpenFromHere, Finish}
use Rattle.second_judge.specs.declared.phase.Phase.TheVariants.{End}
use Rattle.second_judge.specs.declared.tick.Tick.{Tick}
use Rattle.second_judge.specs.Phases.{GoesOn, Leads, LeadsBoth, LeadsOrEnds, lines_of, NeitherPulled, Rests, Stands}
use Rattle.second_judge.specs.Recording.{AtRest}

-- when a tick is tried against the rows: a plain one with ATN released; one of a command recording before the finish, and
-- as one of a byte with no end mark
abbrev pub Tried : Entry → Tick → Type 0
Tried Plain tick = tick.lines.attention ≡ false
Tried Command tick = (tick.end_mark ≡ false) × (tick.phase ≡ End → ⊥)

-- what the rows may lead to, as a tick is tried against them, is where the reading may go on
pub goes_on : (entry : Entry) (tick : Tick) (led : Result Next Verdict) → Stands entry tick.phase → Tried entry tick
    → LeadsOrEnds entry tick led → (tick.phase ≡ End → IsOk led → NeitherPulled tick.lines)
    → GoesOn entry tick led
goes_on entry tick (Err verdict) stands tried leads rests = leads
goes_on Plain tick (Ok Stay) stands tried leads rests =
    (stands, λ ends. let shown = rests ends refl in (tried, shown.0, shown.1))
goes_on Command tick (Ok Stay) stands tried leads rests = (stands, λ ends. absurd (tried.1 ends))
goes_on Plain tick (Ok (Go phase)) stands tried leads rests =
    (leads.0, λ ends. let shown = leads.1 ends in (tried, shown.0.0, shown.0.1))
goes_on Command tick (Ok (Go phase)) stands tried leads rests =
    (leads.0, λ ends. let shown = leads.1 ends in let none = tried.0 in let some = shown.1 in absurd (cc))
goes_on entry tick (Ok HandOver) stands tried leads rests = (tt, λ ends. absurd (cc))
goes_on entry tick (Ok OpenFromHere) stands tried leads rests = (tt, λ ends. absurd (cc))
goes_on entry tick (Ok Finish) stands tried leads rests = absurd leads

-- what a row may lead to, the rows may
pub leads_or_ends : (entry : Entry) (tick : Tick) (led : Result Next Verdict) → Leads entry led → LeadsOrEnds entry tick led
leads_or_ends entry tick (Err verdict) leads = leads
leads_or_ends entry tick (Ok Stay) leads = leads
leads_or_ends entry tick (Ok (Go phase)) leads = (leads.0, λ ends. absurd (leads.1 ends))
leads_or_ends entry tick (Ok HandOver) leads = leads
leads_or_ends entry tick (Ok OpenFromHere) leads = leads
leads_or_ends entry tick (Ok Finish) leads = leads

-- and a row of both entries
pub leads_or_ends_both : (entry : Entry) (tick : Tick) (led : Result Next Verdict) → LeadsBoth led → LeadsOrEnds entry tick led
leads_or_ends_both entry tick led leads = leads_or_ends entry tick led (leads entry)

-- what C's row may lead to with both entries, it may with each
pub ends_both : (entry : Entry) (tick : Tick) (led : Result Next Verdict) → ((either : Entry) → LeadsOrEnds either tick led)
    → LeadsOrEnds entry tick led
ends_both entry tick led leads = leads entry

-- the lines that a step shows are at rest
pub rests_shown : (entry : Entry) (shown : ℕ) → Rests entry (lines_of shown) → AtRest entry shown
rests_shown Plain shown rests =
    omega (arith, eqb-false _ _ rests.0, eqb-false _ _ rests.1, eqb-false _ _ rests.2)
rests_shown Command shown rests = omega (arith, eqb-false _ _ rests)
