use Rattle.std.proofs.Common.{◌≡◌, true, sym, ap, ◌∙◌}
use Rattle.reader.specs.Turns.{group_of, may_follow}
use Rattle.reader.proofs.Taking.{judged_below}
use Rattle.reader.proofs.turn.Progress.judge.Goals as goal

pub returns-else-stands_below : goal.returns-else-stands_below
returns-else-stands_below c =
    let p = c.args.self.now in
    let r = c.args.record.now in
    let turn : may_follow p.group (group_of r) ≡ true =
    ap (may_follow p.group) (sym c.group.ensures) ∙ sym c.admits.ensures ∙ c.if-not-admits.false in
    sym (judged_below p r c.in_ok-next.next turn (sym c.advanced.ensures ∙ c.in_ok-next.was)
    (sym c.stands_below.ensures ∙ c.if-stands_below.false))
