use Rattle.std.proofs.Common.{arith, rules}
use Rattle.report.proofs.Overlays.{overlay_puts}
use Rattle.report.proofs.Pieces.{report_fits}
use Rattle.report.proofs.write_report.Goals as goal

pub put_report-requires : goal.put_report-requires
put_report-requires c =
    let few = c.listed-counts.ensures.few in
    let fits = report_fits c.args.order c.args.form c.listed-counts.result.now (omega arith) (omega arith) few
    (λ k less. search rules) in
    omega (arith, fits)

pub returns : goal.returns
returns c = let all = overlay_puts c.put_report.ensures.puts in search rules
