-- Each turn keeps what is said of the factor and the rest; at the end the rest is 1, or 0 where `a` is.
use Rattle.std.proofs.Common.{◌≡◌, sym, ◌∙◌, arith}
use Rattle.field.specs.PrimeResidues.{inversion_more, inverse_found, inverse_absent}
use Rattle.field.proofs.MarkedPrimeField.invert.Goals as goal

pub loop-rest-preserved : goal.loop-rest-preserved
loop-rest-preserved g c =
    inversion_more g.row.Q c.args.a c.loop-rest.rest c.loop-rest.factor g.M.Modulus.prime c.loop-rest-test.true
    c.loop-rest.invariant.1 c.loop-rest.invariant.2

pub returns-then-rest-eq0 : goal.returns-then-rest-eq0
returns-then-rest-eq0 g c = sym (inverse_absent g.row.Q c.args.a (c.loop-rest.invariant.3 c.if-rest-eq0.true))

pub returns-else-rest-eq0 : goal.returns-else-rest-eq0
returns-else-rest-eq0 g c =
    let one : c.loop-rest.rest ≡ 1 = omega arith in
    sym (inverse_found g.row.Q c.args.a c.loop-rest.factor c.loop-rest.invariant.0 (c.loop-rest.invariant.2 ∙ one))
