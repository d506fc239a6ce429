-- Each return is a law of the form.
use Rattle.std.proofs.Common.{sym, ◌∙◌, arith}
use Rattle.std.proofs.lemmas.Result.{err_from_is_err_and}
use Rattle.recording.proofs.{FormLaws.short_file, FormLaws.header_refuses, FormLaws.header_passes, PassedLaws.header_passed}
use Rattle.recording.proofs.form.check_form.Goals as goal

pub returns-then-file-lt-SIZE : goal.returns-then-file-lt-SIZE
returns-then-file-lt-SIZE c = rw c.into.ensures (short_file _ c.if-file-lt-SIZE.true)

pub returns-in_err-test : goal.returns-in_err-test
returns-in_err-test c =
    let h = c.read-header in
    let t = c.test in
    let p = err_from_is_err_and c.from_residual.result c.from_residual.ensures.1 in
    rw (p.1, p.2) (header_refuses _ h.result t.result h.ensures t.ensures c.if-file-lt-SIZE.false _ c.in_err-test.was)

pub check_steps-requires : goal.check_steps-requires
check_steps-requires c =
    let good = header_passed c.read-header.result _ (sym c.test.ensures ∙ c.in_ok-test.was) in
    omega arith

pub returns-in_err-steps : goal.returns-in_err-steps
returns-in_err-steps c =
    let h = c.read-header in
    let t = c.test in
    let p = err_from_is_err_and c.from_residual-in_err-steps.result c.from_residual-in_err-steps.ensures.1 in
    rw (p.1, p.2)
    (header_passes _ h.result t.result h.ensures t.ensures c.if-file-lt-SIZE.false c.in_ok-test.was
    ∙ sym c.check_steps.ensures ∙ c.in_err-steps.was)

pub invariant_of-result : goal.invariant_of-result
invariant_of-result c =
    let h = c.read-header in
    let t = c.test in
    record {
      good =
          header_passes _ h.result t.result h.ensures t.ensures c.if-file-lt-SIZE.false c.in_ok-test.was
          ∙ sym c.check_steps.ensures ∙ c.in_ok-steps.was;
    }
