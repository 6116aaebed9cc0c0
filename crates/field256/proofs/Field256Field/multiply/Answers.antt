-- A product with zero is zero, and any other adds the exponents.
use Rattle.std.proofs.Common.{sym, ap, ◌∙◌, inl, inr}
use Rattle.field256.specs.Polynomials.{polynomial_product}
use Rattle.field256.specs.PolynomialField.{product_zero_left, product_zero_right, product_power}
use Rattle.field256.proofs.Field256Field.multiply.Goals as goal

pub returns-then-a-eq0 : goal.returns-then-a-eq0
returns-then-a-eq0 c =
    elim c.then-a-eq0.either [
      | inl none ↦ sym (ap (λ n. polynomial_product n c.args.b) none ∙ product_zero_left c.args.b)
      | inr none ↦ sym (ap (polynomial_product c.args.a) none.1 ∙ product_zero_right c.args.a)
    ]

pub returns : goal.returns
returns c =
    c.read_power.ensures
    ∙ product_power c.read_logarithm.result c.read_logarithm-2.result c.args.a c.args.b
    c.read_logarithm.ensures.below c.read_logarithm-2.ensures.below
    c.read_logarithm.ensures.exponent c.read_logarithm-2.ensures.exponent
