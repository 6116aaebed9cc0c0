-- The table is the list of the exponents.
use Rattle.std.proofs.Common.{◌≡◌, suc, ◌-◌, ◌∙◌, arith}
use Rattle.field256.specs.Polynomials.{product, remainder, residue_product}
use Rattle.field256.specs.Tables.{powers, logarithms}
use Rattle.field256.specs.Powers.{logarithms_at}
use Rattle.field256.proofs.tables.read_logarithm.Goals as goal

pub returns : goal.returns
unfolding powers logarithms product remainder residue_product
returns c =
    let at = logarithms_at (c.args.a - 1) (omega arith) in
    let same : suc (c.args.a - 1) ≡ c.args.a = omega arith in
    record { below = at.0; exponent = at.1 ∙ same }
