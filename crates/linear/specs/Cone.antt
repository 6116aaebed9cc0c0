-- The mapping cone of a chain map.
--
-- Each cell of the source moves up by one degree; in its new degree it is numbered before the target's cells. A moved
-- cell's boundary is its own one with the other sign, less its image under the map; a cell of the target keeps its
-- boundary. Nothing moves into degree 0, so it has the target's cells only.
use Rattle.std.specs.Prelude.{ℕ, zero, suc, ◌+◌, ◌-◌, max, cond, nat_lt}
use Rattle.field.specs.Codes.{Codes}
use Rattle.linear.specs.Complexes.{Meaning}
use Rattle.linear.specs.ChainMaps.{MapMeaning}

-- how many of the cone's cells of degree k are the source's
abbrev pub from_source : MapMeaning → ℕ → ℕ
from_source m zero = 0
from_source m (suc k) = m.source.dim k

-- the entry of degree k at row i and column j
abbrev pub cone_entry : Codes → MapMeaning → ℕ → ℕ → ℕ → ℕ
cone_entry f m zero i j = 0
cone_entry f m (suc k) i j =
    let rows = from_source m k in let columns = m.source.dim k in
    cond (nat_lt j columns)
    (cond (nat_lt i rows) (f.minus (m.source.entry k i j)) (f.minus (m.entry k (i - rows) j)))
    (cond (nat_lt i rows) 0 (m.target.entry (suc k) (i - rows) (j - columns)))

abbrev pub cone : Codes → MapMeaning → Meaning
cone f m = record {
  top = max m.target.top (suc m.source.top);
  dim = λ k. from_source m k + m.target.dim k;
  entry = cone_entry f m;
}
