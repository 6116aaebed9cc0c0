-- What a working list holds: the first 1,024 cells of a list, and whether there were more.
--
-- Nothing is assumed of the cells. A list of exactly 1,024 cells is kept whole.
use Rattle.std.specs.Prelude.{◌≡◌, Bool, List, ◌++◌, length, take, nat_lt}

-- a working list, as it is seen from outside
pub record Working (K : Type 0) : Type 0 where
  pub cells : List K
  pub overfull : Bool

-- the cells that are kept
abbrev pub kept : {K : Type 0} → Working K → List K
kept w = w.cells

-- the cells that came to a working list
pub record Holds {K : Type 0} (w : Working K) (cs : List K) : Type 0 where
  pub cells : kept w ≡ take 1024 cs
  pub overfull : w.overfull ≡ nat_lt 1024 (length cs)

-- more cells came to a working list, after those that came before
abbrev pub Grows : {K : Type 0} → Working K → Working K → List K → Type 0
Grows {K} before after more = (cs : List K) → Holds before cs → Holds after (cs ++ more)
