use Rattle.std.proofs.Common.{ap, ◌∙◌}
use Rattle.lists.specs.Working.{kept}
use Rattle.lists.proofs.Holding.{kept_whole}
use Rattle.lists.proofs.working.WorkingList.cells.Goals as goal

pub returns-clause-whole : goal.returns-clause-whole
returns-clause-whole g c = λ cs h few. ap kept c.self.view_is ∙ kept_whole _ cs h few
