use Rattle.std.proofs.Common.{◌≡◌, Err}
use Rattle.std.proofs.lemmas.Result.{err_from_is_err_and}
use Rattle.reader.specs.Reading.{step}
use Rattle.reader.proofs.Walks.{step_broken, step_refused, step_taken}
use Rattle.reader.proofs.draft.Draft.step.Goals as goal

pub returns-in_err-record : goal.returns-in_err-record
returns-in_err-record c = λ k h.
    let e = err_from_is_err_and c.from_residual.result c.from_residual.ensures.1 in
    let broken : step k c.args.bytes.now ≡ Err c.in_err-record.field-0.0 =
    step_broken k c.args.bytes.now c.in_err-record.field-0.0 c.in_err-record.ensures in rw (e.1, e.2) broken

pub returns-in_err-take : goal.returns-in_err-take
returns-in_err-take c = λ k h.
    let e = err_from_is_err_and c.from_residual-in_err-take.result c.from_residual-in_err-take.ensures.1 in
    let refused : step k c.args.bytes.now ≡ Err c.in_err-take.field-0.0 =
    step_refused k c.args.bytes.now c.in_ok-record.record c.in_ok-record.rest.now c.in_err-take.field-0.0
    c.in_ok-record.ensures (c.in_err-take.ensures k h) in rw (e.1, e.2) refused

pub returns : goal.returns
returns c = λ k h.
    let t = c.in_ok-take.ensures k h in (
      t.0,
      step_taken k c.args.bytes.now c.in_ok-record.record c.in_ok-record.rest.now t.0 c.in_ok-record.ensures t.1,
      t.2,
    )
