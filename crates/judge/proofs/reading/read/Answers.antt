use Rattle.std.proofs.Common.{◌+◌, ◌-◌, ◌*◌, ◌≤◌, arith, refl, sym, ◌∙◌, rules}
use Rattle.recording.specs.Layout.{longest_duration}
use Rattle.recording.proofs.GoodFormLaws.{good_form}
use Rattle.judge.proofs.TickLists.{step_left, all_left, none_left, tick_left, ticks_left, no_tick_left, few_handed}
use Rattle.judge.proofs.ReadingLaws.{tick_read, tick_most, taken_by, counted, unmarked, idle_passed}
use Rattle.judge.proofs.ReadingLaws.{step_begins, step_ends, reading_ends, verdict_stands, has_place, reading_begins, reading_is}
use Rattle.judge.proofs.reading.read.Goals as goal

pub steps-init : goal.steps-init
steps-init c =
    let good = (good_form _ _).0 c.args.recording.good in
    let few = few_handed c.args.limits c.args.recording.file.now c.args.recording.steps good.few in
    reading_begins c.args.limits _ _ _ _ _ c.new-state.ensures (all_left _ _) few

pub loop-left-init : goal.loop-left-init
loop-left-init c =
    let s = c.step-step in
    let here = step_left c.args.recording.file.now _ _ s.result _ _ s.ensures c.marked.ensures c.from.ensures c.steps-test.true in (
      search rules,
      search rules,
      step_begins c.args.limits _ _ _ _ _ _ _ _ _ _ _ c.steps.invariant (omega arith) here refl,
    )

pub next-next-requires : goal.next-next-requires
next-next-requires c =
    let good = (good_form _ _).0 c.args.recording.good in
    let k = c.loop-left.invariant in
    let place = has_place c.args.limits c.loop-left.state _ k.2.few in
    record {
      tick = omega (arith, k.2.tick, k.1, good.few);
      count = omega (arith, place);
    }

pub store-requires : goal.store-requires
store-requires c =
    let good = (good_form _ _).0 c.args.recording.good in
    let L = c.args.limits in
    let k = c.loop-left.invariant in
    let place = has_place L c.loop-left.state _ k.2.few in
    let taken = taken_by L c.loop-left.state c.next-next.result _ c.next-next.ensures in
    record {
      byte_place = omega (arith, place, k.2.byte_places, c.steps.invariant.byte_places, c.requires.byte_room_lent);
      ledger_place = omega (arith, place, k.2.ledger_places, c.steps.invariant.ledger_places, c.requires.ledger_room_lent);
      take = λ rose. omega (arith, taken rose, k.2.tick, k.1, good.few);
    }

pub later-state-requires : goal.later-state-requires
later-state-requires c =
    let good = (good_form _ _).0 c.args.recording.good in
    let L = c.args.limits in
    let k = c.loop-left.invariant in
    let one = tick_most L _ c.next-next.result _ c.next-next.ensures in
    let few = (counted L _ c.next-next.result _ _ _ c.next-next.ensures c.idle-idle.ensures).few in
    omega (arith, one, few, c.loop-left-test.true, k.2.tick, k.0, k.1, good.few)

pub overflow_sub-left-in-loop-left : goal.overflow_sub-left-in-loop-left
overflow_sub-left-in-loop-left c =
    (counted c.args.limits _ c.next-next.result _ _ _ c.next-next.ensures c.idle-idle.ensures).few

pub loop-left-preserved : goal.loop-left-preserved
loop-left-preserved c =
    let L = c.args.limits in
    let k = c.loop-left.invariant in
    let more = c.loop-left-test.true in
    let left = c.loop-left.left - 1 in
    let behind = longest_duration * c.steps.index + (longest_duration - left) in
    let on = tick_read L _ _ _ _ behind _ _ _ _ c.next-next.result _ _ _ _ k.2 (omega (arith, k.0, more)) (tick_left _ _ _ more)
    c.next-next.ensures c.store.ensures.0 c.store.ensures.1 in
    let n = counted L _ c.next-next.result _ _ _ c.next-next.ensures c.idle-idle.ensures in
    let undecided = sym c.is_decided.ensures ∙ c.if-is_decided.false in
    let plain = unmarked L _ c.next-next.result _ c.next-next.ensures undecided in
    let i = c.idle-idle.result in
    let passed : behind + i ≤ longest_duration * c.steps.index + (longest_duration - (left - i)) = omega (arith, n.few, k.0) in (
      omega (arith, k.0),
      k.1,
      idle_passed L _ _ _ behind _ i _ _ _ c.next-next.result c.later-state.result _ _ on passed
          (ticks_left _ _ _ _ plain n.few) (n.idle undecided) c.later-state.ensures,
    )

pub steps-preserved : goal.steps-preserved
steps-preserved c =
    let k = c.loop-left.invariant in
    let s = c.step-step in
    let here = step_left c.args.recording.file.now _ _ s.result _ _ s.ensures c.marked.ensures c.from.ensures k.1 in
    step_ends c.args.limits _ _ _ _ _ _ _ _ _ _ _ _ _ _ _ _ c.steps.invariant here k.2
    (no_tick_left _ _ _ c.loop-left-test.false) (omega arith)

pub returns-after-steps : goal.returns-after-steps
returns-after-steps c =
    let good = (good_form _ _).0 c.args.recording.good in
    let L = c.args.limits in
    let few = few_handed L c.args.recording.file.now c.args.recording.steps good.few in
    sym (reading_ends L _ _ _ _ _ _ _ _ c.steps.invariant (none_left c.args.recording.file.now _ _ c.steps-test.false))
    ∙ reading_is L _ _ _ _ c.new-state.ensures few c.requires.byte_room_lent c.requires.ledger_room_lent

pub returns-then-is_decided : goal.returns-then-is_decided
returns-then-is_decided c =
    let good = (good_form _ _).0 c.args.recording.good in
    let L = c.args.limits in
    let k = c.loop-left.invariant in
    let s = c.step-step in
    let more = c.loop-left-test.true in
    let behind = longest_duration * c.steps.index + (longest_duration - (c.loop-left.left - 1)) in
    let on = tick_read L _ _ _ _ behind _ _ _ _ c.next-next.result _ _ _ _ k.2 (omega (arith, k.0, more)) (tick_left _ _ _ more)
    c.next-next.ensures c.store.ensures.0 c.store.ensures.1 in
    let here = step_left c.args.recording.file.now _ _ s.result _ _ s.ensures c.marked.ensures c.from.ensures k.1 in
    let whole = step_ends L _ _ _ _ _ behind _ _ _ _ _ _ _ _ _ _ c.steps.invariant here on refl (omega arith) in
    let few = few_handed L c.args.recording.file.now c.args.recording.steps good.few in
    sym (verdict_stands L _ _ _ _ _ _ _ _ whole (sym c.is_decided.ensures ∙ c.if-is_decided.true))
    ∙ reading_is L _ _ _ _ c.new-state.ensures few c.requires.byte_room_lent c.requires.ledger_room_lent
