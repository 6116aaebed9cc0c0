use Rattle.std.proofs.Common.{Option, sym, refl, ap, ◌∙◌}
use Rattle.std.specs.Option.{ok_or}
use Rattle.reader.specs.declared.fault.ReadFault.TheVariants.{Flawed}
use Rattle.reader.specs.declared.record.Flaw.TheVariants.{OutOfTurn}
use Rattle.reader.specs.declared.turn.Progress.{Progress}
use Rattle.reader.specs.Sheets.{Contents}
use Rattle.reader.proofs.Knowing.{completed_from}
use Rattle.reader.proofs.draft.Draft.into_sheet.Goals as goal

pub returns-in-Some-Some : goal.returns-in-Some-Some
returns-in-Some-Some c = λ k h. (
  _,
  ap (λ (x : Option Contents). ok_or x (Flawed OutOfTurn c.args.whole))
      (completed_from k c.in-Some-Some.order c.in-Some-Some.question
      (ap (λ (p : Progress). p.order) (sym h.progress) ∙ c.in-Some-Some.is-0)
      (ap (λ (p : Progress). p.asked) (sym h.progress) ∙ c.in-Some-Some.is-1)),
  record {
    progress = h.progress;
    order = refl;
    question = refl;
    filled = h.filled;
    pads = h.pads;
    drawing = h.drawing;
  },
)
