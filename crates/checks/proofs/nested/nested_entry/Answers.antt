-- The dual holds the cone, and the cone holds the map.
use Rattle.std.proofs.Common.{◌≡◌, IfOk, ap, ◌∙◌, subst}
use Rattle.linear.specs.Cone.{cone}
use Rattle.linear.specs.Dual.{dual}
use Rattle.linear.specs.Tensor.{tensor}
use Rattle.checks.proofs.nested.nested_entry.Goals as goal

pub returns : goal.returns
returns g c =
    let f = g.C.F.Field.codes in let left = g.C.Complex.meaning c.args.left in
    subst
    (λ m. IfOk c.tensor_dual_entry.result (λ e.
    e ≡ (dual (tensor f left (dual (cone f (g.M.ChainMap.meaning m))))).entry c.args.k c.args.i c.args.j))
    (ap (λ x. x.map) c.new-2.ensures.base ∙ c.new.ensures.map) c.tensor_dual_entry.ensures
