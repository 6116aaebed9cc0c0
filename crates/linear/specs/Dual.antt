-- The dual of a complex: the degrees are turned around, and the matrices change rows and columns, with no sign.
--
-- For k up to the top T the entry of degree k is the old entry of degree T - k + 1. Past it T + 1 - k is 0, where a
-- complex has no entries; and for k = 0 it is past the old top, where it has none either.
use Rattle.std.specs.Prelude.{◌+◌, ◌-◌, cond, nat_le}
use Rattle.linear.specs.Complexes.{Meaning}

abbrev pub dual : Meaning → Meaning
dual m = record {
  top = m.top;
  dim = λ k. cond (nat_le k m.top) (m.dim (m.top - k)) 0;
  entry = λ k i j. m.entry (m.top + 1 - k) j i;
}
