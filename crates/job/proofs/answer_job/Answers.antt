use Rattle.std.proofs.Common.{length, Err, rules, sym, ap, ◌∙◌}
use Rattle.std.proofs.lemmas.Result.{err_from_is_err_and, IfOk-from_err}
use Rattle.report.specs.Degrees.{listed}
use Rattle.job.specs.Jobs.{answer, fitting, written}
use Rattle.job.proofs.Answering.{fits_reported, verdict_counted, verdict_refused, verdict_unread}
use Rattle.job.proofs.Refusing.{only_too_many}
use Rattle.job.proofs.answer_job.Goals as goal

pub returns-in_err-sheet : goal.returns-in_err-sheet
returns-in_err-sheet c =
    let v = verdict_unread c.args.input.now c.in_err-sheet.field-0.0 c.in_err-sheet.ensures.is in search rules

pub returns-in_err-counts : goal.returns-in_err-counts
returns-in_err-counts c =
    let k = c.in_ok-sheet.ensures.is in let old = c.args.report.now in let out = c.from_residual-in_err-counts in
    let found = sym (c.in_err-counts.ensures.is k.0 k.2) in
    let v = verdict_refused c.args.input.now k.0 k.1 c.in_err-counts.field-0.0 found in
    let p = err_from_is_err_and out.result out.ensures.1 in
    let is = p.1 ∙ ap Err p.2 ∙ sym (ap (answer (length old)) v) in
    record {
      answer = is;
      report = sym (ap (written old) v);
      law = IfOk-from_err _ _ out.ensures.0;
      layers = only_too_many c.args.input.now c.in_ok-sheet.ensures.law (length old) out.result is;
    }

pub returns : goal.returns
returns c =
    let k = c.in_ok-sheet.ensures.is in let counts = listed c.in_ok-counts.counts in let old = c.args.report.now in
    let v = verdict_counted c.args.input.now k.0 k.1 counts (sym (c.in_ok-counts.ensures.is k.0 k.2)) in
    let size = c.write_lines-length.ensures.place k.0 k.2 in
    let is = c.fit.ensures ∙ ap (fitting (length old)) size ∙ sym (ap (answer (length old)) v) in
    record {
      answer = is;
      report = c.write_lines-length.ensures.bytes k.0 k.2 ∙ sym (ap (written old) v);
      law = fits_reported c.args.input.now (length old) c.write_lines-length.result c.fit.result c.fit.ensures
          (record {
            contents = k.0;
            counts = counts;
            read = k.1;
            accepted = c.in_ok-counts.ensures.law k.0 k.2;
            text = v;
            size = size;
          });
      layers = only_too_many c.args.input.now c.in_ok-sheet.ensures.law (length old) c.fit.result is;
    }
