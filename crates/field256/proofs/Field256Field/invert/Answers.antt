-- Zero has no inverse, and the inverse of a power has the opposite exponent.
use Rattle.std.proofs.Common.{Some, sym, ap, ◌∙◌}
use Rattle.field256.specs.Polynomials.{polynomials}
use Rattle.field256.specs.PolynomialField.{inverse_zero, inverse_power}
use Rattle.field256.proofs.Field256Field.invert.Goals as goal

pub returns-then-a-eq0 : goal.returns-then-a-eq0
returns-then-a-eq0 c = sym (ap (λ n. polynomials.inverse n) c.if-a-eq0.true ∙ inverse_zero)

pub returns : goal.returns
returns c =
    ap Some c.read_power.ensures
    ∙ sym (inverse_power c.read_logarithm.result c.args.a
    c.read_logarithm.ensures.below c.read_logarithm.ensures.exponent)
