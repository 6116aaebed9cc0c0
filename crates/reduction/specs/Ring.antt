-- A worked example: the ring of three vertices and three edges over the field of three elements.
--
-- Vertices 0, 1, 2; edges 01, 02, 12 in this order; the boundary of an edge is its last vertex less its first, and
-- -1 is the code 2. Row 0 is cancelled against column 0, then row 1 against column 1; vertex 2 and edge 12 survive.
use Rattle.std.specs.Prelude.{◌≡◌, ℕ, true, false, cond, List, [], ◌∷◌, ◌==◌, nat_lt, slice_index, slice_index_or}
use Rattle.field.specs.Residues.{residues}
use Rattle.linear.specs.Complexes.{Meaning}
use Rattle.reduction.specs.Matrices.{Matrix}
use Rattle.reduction.specs.Reductions.{State, loaded}
use Rattle.reduction.specs.Cancelling.{cancelled}

abbrev pub ring : Meaning
ring = record {
  top = 1;
  dim = λ k. cond (nat_lt k 2) 3 0;
  entry = λ k i j. cond (k == 1)
      (slice_index (slice_index_or ((2 ∷ 2 ∷ 0 ∷ []) ∷ (1 ∷ 0 ∷ 2 ∷ []) ∷ (0 ∷ 1 ∷ 1 ∷ []) ∷ []) i []) j) 0;
}

abbrev pub once : State
once = cancelled (residues 3) 1 0 0 2 (loaded ring)

abbrev pub twice : State
twice = cancelled (residues 3) 1 1 1 2 once

-- the first three of a sequence, and the first three rows and columns of a matrix
abbrev pub three : {X : Type 0} → (ℕ → X) → List X
three g = g 0 ∷ g 1 ∷ g 2 ∷ []

abbrev pub rows : Matrix → List (List ℕ)
rows a = three (λ i. three (a i))

-- the state after each of the two cancels
pub record RingCancels : Type 0 where
  pub once_D : rows (once.D 1) ≡ (0 ∷ 0 ∷ 0 ∷ []) ∷ (0 ∷ 2 ∷ 2 ∷ []) ∷ (0 ∷ 1 ∷ 1 ∷ []) ∷ []
  pub once_F : rows (once.F 0) ≡ (0 ∷ 0 ∷ 0 ∷ []) ∷ (1 ∷ 1 ∷ 0 ∷ []) ∷ (0 ∷ 0 ∷ 1 ∷ []) ∷ []
  pub once_G : rows (once.G 1) ≡ (0 ∷ 2 ∷ 0 ∷ []) ∷ (0 ∷ 1 ∷ 0 ∷ []) ∷ (0 ∷ 0 ∷ 1 ∷ []) ∷ []
  pub once_H : rows (once.H 0) ≡ (2 ∷ 0 ∷ 0 ∷ []) ∷ (0 ∷ 0 ∷ 0 ∷ []) ∷ (0 ∷ 0 ∷ 0 ∷ []) ∷ []
  pub twice_D : rows (twice.D 1) ≡ (0 ∷ 0 ∷ 0 ∷ []) ∷ (0 ∷ 0 ∷ 0 ∷ []) ∷ (0 ∷ 0 ∷ 0 ∷ []) ∷ []
  pub twice_F : rows (twice.F 0) ≡ (0 ∷ 0 ∷ 0 ∷ []) ∷ (0 ∷ 0 ∷ 0 ∷ []) ∷ (1 ∷ 1 ∷ 1 ∷ []) ∷ []
  pub twice_G : rows (twice.G 1) ≡ (0 ∷ 0 ∷ 1 ∷ []) ∷ (0 ∷ 0 ∷ 2 ∷ []) ∷ (0 ∷ 0 ∷ 1 ∷ []) ∷ []
  pub twice_H : rows (twice.H 0) ≡ (0 ∷ 1 ∷ 0 ∷ []) ∷ (2 ∷ 2 ∷ 0 ∷ []) ∷ (0 ∷ 0 ∷ 0 ∷ []) ∷ []
  pub live_vertices : three (twice.live 0) ≡ false ∷ false ∷ true ∷ []
  pub live_edges : three (twice.live 1) ≡ false ∷ false ∷ true ∷ []
