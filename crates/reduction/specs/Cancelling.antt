-- Cancelling a pair of live cells: b of degree k - 1 against a of degree k, at an entry of D k that has an inverse v.
--
-- Each matrix is made from those before the cancel, by one product: a column, the inverse v, a row.
--   D k takes off its column a, v and its row b, so that nothing is left in that row and column. What leads into a and
--   out of b goes as well: row a in the degree above, column b in the degree below.
--   F (k - 1) takes off column a of D k, v and its own row b, which becomes 0; in F k, that of the pair's other cell does.
--   G k takes off its own column a, v and row b of D k; that column becomes 0, and column b in the degree below.
--   H (k - 1) adds column a of G k, v and row b of F (k - 1).
-- Both cells are then dead. In degree 0 there is no pair, since D is 0 there.
use Rattle.std.specs.Prelude.{◌≡◌, ℕ, suc, ◌<◌, Bool, false, cond, ◌&&◌, ◌||◌, ◌⊎◌, Some, ◌==◌}
use Rattle.field.specs.Codes.{Codes}
use Rattle.linear.specs.Complexes.{Meaning}
use Rattle.linear.specs.Sums.{total}
use Rattle.reduction.specs.Reductions.{State}

-- x less y times v times z
abbrev pub minus_product : Codes → ℕ → ℕ → ℕ → ℕ → ℕ
minus_product f x y v z = f.plus x (f.minus (f.times y (f.times v z)))

-- the cell i of degree d is b of degree k - 1 or a of degree k
abbrev pub in_pair : ℕ → ℕ → ℕ → ℕ → ℕ → Bool
in_pair k b a d i = (suc d == k && i == b) || (d == k && i == a)

-- the state after the cancel at row b and column a of D k, whose entry has the inverse v
abbrev pub cancelled : Codes → ℕ → ℕ → ℕ → ℕ → State → State
cancelled f k b a v s = record {
  live = λ d i. cond (in_pair k b a d i) false (s.live d i);
  D = λ d i j. cond (d == k) (minus_product f (s.D k i j) (s.D k i a) v (s.D k b j))
      (cond ((d == suc k && i == a) || (suc d == k && j == b)) 0 (s.D d i j));
  F = λ d i r. cond (in_pair k b a d i) 0
      (cond (suc d == k) (minus_product f (s.F d i r) (s.D k i a) v (s.F d b r)) (s.F d i r));
  G = λ d p j. cond (in_pair k b a d j) 0
      (cond (d == k) (minus_product f (s.G k p j) (s.G k p a) v (s.D k b j)) (s.G d p j));
  H = λ d p r. cond (suc d == k) (f.plus (s.H d p r) (f.times (s.G k p a) (f.times v (s.F d b r))))
      (s.H d p r);
}

-- n cancels at entries that have an inverse lead from one state to another
pub data Cancels (f : Codes) : ℕ → State → State → Type 0 where
  none : {s : State} → Cancels f 0 s s
  more : {n : ℕ} {s t : State} (k b a v : ℕ) → f.inverse (s.D k b a) ≡ Some v →
      Cancels f n (cancelled f k b a v s) t → Cancels f (suc n) s t

-- the number of places below n that pass a test
abbrev pub count : (ℕ → Bool) → ℕ → ℕ
count test n = total n (λ i. cond (test i) 1 0)

-- the number of live cells of all degrees
abbrev pub live_count : Meaning → State → ℕ
live_count m s = total (suc m.top) (λ k. count (s.live k) (m.dim k))

-- D is zero in the degrees below k, and in the rows before row b of degree k
abbrev pub IsZeroBefore : State → ℕ → ℕ → Type 0
IsZeroBefore s k b = (d i j : ℕ) → (d < k) ⊎ ((d ≡ k) × (i < b)) → s.D d i j ≡ 0
