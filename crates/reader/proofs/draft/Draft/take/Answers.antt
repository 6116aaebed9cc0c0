use Rattle.std.proofs.Common.{◌≡◌, Ok, sym, refl, ◌∙◌}
use Rattle.reader.specs.Judging.{judged}
use Rattle.reader.specs.Notes.{noted, standing}
use Rattle.reader.proofs.Taking.{keeps_standing, taken_ok}
use Rattle.reader.proofs.draft.Draft.take.Goals as goal

pub returns : goal.returns
returns c = λ k h.
    let r = c.args.record.now in
    let p = c.in_ok-progress.progress in
    let judgement : judged c.args.self.now.progress r ≡ Ok p =
    sym c.judge.ensures ∙ c.in_ok-progress.was in (
      standing p (noted k r),
      taken_ok k r c.args.self.now.progress h.progress p judgement,
      keeps_standing c.note.new.self _ (noted k r) p (c.note.ensures k h) refl refl refl refl,
    )
