-- The formula is the code's, and no sum is too large.
use Rattle.std.proofs.Common.{◌+◌, ◌-◌, sym, arith, rules}
use Rattle.writer.proofs.TickLaws.{product_fits, ticks_none, ticks_some}
use Rattle.writer.proofs.card.Card.total_ticks.Goals as goal

pub returns-then-count-eq0 : goal.returns-then-count-eq0
returns-then-count-eq0 c =
    rw (c.opening_ticks-opening.ensures, c.acknowledged_ticks.ensures) (sym (ticks_none _ _ c.if-count-eq0.true))

pub overflow_mul-others : goal.overflow_mul-others
overflow_mul-others c =
    let ticks = c.opening_ticks-opening.result + c.args.self.gap + c.value_ticks-value.result in
    omega (arith, product_fits (c.args.count - 1) ticks (search rules) (search rules))

pub overflow_add-result-2 : goal.overflow_add-result-2
overflow_add-result-2 c =
    let ticks = c.opening_ticks-opening.result + c.args.self.gap + c.value_ticks-value.result in
    omega (arith, product_fits (c.args.count - 1) ticks (search rules) (search rules))

pub overflow_add-result-4 : goal.overflow_add-result-4
overflow_add-result-4 c =
    let ticks = c.opening_ticks-opening.result + c.args.self.gap + c.value_ticks-value.result in
    omega (arith, product_fits (c.args.count - 1) ticks (search rules) (search rules))

pub returns : goal.returns
returns c =
    rw (c.opening_ticks-opening.ensures, c.value_ticks-value.ensures, c.acknowledged_ticks-2.ensures)
    (sym (ticks_some _ _ c.if-count-eq0.false))
