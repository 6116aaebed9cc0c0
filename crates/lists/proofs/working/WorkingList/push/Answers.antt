use Rattle.std.proofs.Common.{sym, subst}
use Rattle.lists.specs.Working.{Holds}
use Rattle.lists.proofs.Holding.{holds_last, holds_more}
use Rattle.lists.proofs.working.WorkingList.push.Goals as goal

pub returns-then-self-lt-MOST_CELLS : goal.returns-then-self-lt-MOST_CELLS
returns-then-self-lt-MOST_CELLS g c = λ cs h.
    holds_more _ _ _ c.self.invariant.0 cs (subst (λ w. Holds w cs) (sym c.self.view_is) h) c.args.cell c.if-self-lt-MOST_CELLS.true

pub returns-else-self-lt-MOST_CELLS : goal.returns-else-self-lt-MOST_CELLS
returns-else-self-lt-MOST_CELLS g c = λ cs h.
    holds_last _ _ _ c.self.invariant.0 cs (subst (λ w. Holds w cs) (sym c.self.view_is) h) c.args.cell
    c.if-self-lt-MOST_CELLS.false c.self.invariant.1
