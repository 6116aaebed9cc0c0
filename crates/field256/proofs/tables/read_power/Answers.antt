-- The table is the list of the powers.
use Rattle.field256.specs.Polynomials.{product, remainder, residue_product}
use Rattle.field256.specs.Tables.{powers}
use Rattle.field256.specs.Powers.{powers_at}
use Rattle.field256.proofs.tables.read_power.Goals as goal

pub returns : goal.returns
unfolding powers product remainder residue_product
returns c = powers_at c.args.i c.requires
