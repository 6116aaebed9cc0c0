use Rattle.std.proofs.Common.{◌≡◌, ◌-◌, length, Err, refl, ◌∙◌, subst, arith, rules}
use Rattle.std.proofs.lemmas.Result.{err_from_is_err_and}
use Rattle.reader.specs.declared.fault.ReadFault.TheVariants.{Flawed}
use Rattle.reader.specs.Notes.{blank}
use Rattle.reader.specs.Reading.{finished, read_job, step}
use Rattle.reader.specs.Steps.{Steps}
use Rattle.reader.proofs.JobLaws.{read_law}
use Rattle.reader.proofs.Mapping.{mapped_err, mapped_ok}
use Rattle.reader.proofs.Walks.{read_ended, read_job_long, read_job_walk, read_more, read_stopped, some_left}
use Rattle.reader.proofs.Walks.{step_shorter}
use Rattle.reader.proofs.read.read.Goals as goal

pub returns-then-job-gt-LONGEST_JOB-clause-is : goal.returns-then-job-gt-LONGEST_JOB-clause-is
returns-then-job-gt-LONGEST_JOB-clause-is c = read_job_long c.args.job.now c.if-job-gt-LONGEST_JOB.true

pub returns-then-job-gt-LONGEST_JOB-clause-law : goal.returns-then-job-gt-LONGEST_JOB-clause-law
returns-then-job-gt-LONGEST_JOB-clause-law c = read_law c.args.job.now c.type_inv.job

pub loop-rest-init : goal.loop-rest-init
loop-rest-init c = (length c.args.job.now, blank, omega arith, omega arith, c.new-draft.ensures, refl)

pub returns-in_err-rest-clause-is : goal.returns-in_err-rest-clause-is
returns-in_err-rest-clause-is c =
    let p = err_from_is_err_and c.from_residual.result c.from_residual.ensures.1 in
    let i = c.loop-rest.invariant in
    let rest = c.loop-rest.rest.now in
    let some = some_left (length rest) c.loop-rest-test.ensures in
    let m = mapped_err c.step.result c.map_err.result _ c.in_err-rest.field-0.0 c.map_err.ensures.cases c.in_err-rest.was in
    let stopped : step i.1 rest ≡ Err m.0 = subst (Steps (step i.1 rest) c.step.new.self) m.1 (c.step.ensures i.1 i.4) in
    let walk : read_job c.args.job.now ≡ Err (Flawed m.0 (length c.args.job.now - length rest)) =
    read_job_walk c.args.job.now c.if-job-gt-LONGEST_JOB.false ∙ i.5
    ∙ read_stopped i.0 (length c.args.job.now) i.1 rest m.0 some i.2 stopped in
    let same : c.in_err-rest.field-0.0 ≡ Flawed m.0 (length c.args.job.now - length rest) = search rules in
    rw (p.1, p.2, same) walk

pub returns-in_err-rest-clause-law : goal.returns-in_err-rest-clause-law
returns-in_err-rest-clause-law c = read_law c.args.job.now c.type_inv.job

pub loop-rest-smaller : goal.loop-rest-smaller
loop-rest-smaller c =
    let i = c.loop-rest.invariant in
    let rest = c.loop-rest.rest.now in
    let m = mapped_ok c.step.result c.map_err.result _ c.in_ok-rest.rest c.map_err.ensures.cases c.in_ok-rest.was in
    let s = subst (Steps (step i.1 rest) c.step.new.self) m (c.step.ensures i.1 i.4) in
    step_shorter i.1 s.0 rest c.in_ok-rest.rest.now (some_left (length rest) c.loop-rest-test.ensures) s.1

pub loop-rest-preserved : goal.loop-rest-preserved
loop-rest-preserved c =
    let i = c.loop-rest.invariant in
    let rest = c.loop-rest.rest.now in
    let m = mapped_ok c.step.result c.map_err.result _ c.in_ok-rest.rest c.map_err.ensures.cases c.in_ok-rest.was in
    let s = subst (Steps (step i.1 rest) c.step.new.self) m (c.step.ensures i.1 i.4) in
    let some = some_left (length rest) c.loop-rest-test.ensures in
    let less = step_shorter i.1 s.0 rest c.in_ok-rest.rest.now some s.1 in (
      i.0 - 1,
      s.0,
      omega (arith, less, i.2),
      omega (arith, less, i.3),
      s.2,
      i.5 ∙ read_more i.0 (length c.args.job.now) i.1 s.0 rest c.in_ok-rest.rest.now some i.2 s.1,
    )

pub returns-clause-is : goal.returns-clause-is
returns-clause-is c =
    let i = c.loop-rest.invariant in
    let none : length c.loop-rest.rest.now ≡ 0 = search rules in
    let walk : read_job c.args.job.now ≡ finished (length c.args.job.now) i.1 =
    read_job_walk c.args.job.now c.if-job-gt-LONGEST_JOB.false ∙ i.5
    ∙ read_ended i.0 (length c.args.job.now) i.1 c.loop-rest.rest.now none in
    rw walk (c.into_sheet.ensures i.1 i.4)

pub returns-clause-law : goal.returns-clause-law
returns-clause-law c = read_law c.args.job.now c.type_inv.job
