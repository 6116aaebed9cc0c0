-- The cubes that pass a test, rank by rank.
use Rattle.std.proofs.Common.{◌≡◌, ℕ, zero, suc, ◌+◌, ◌≤◌, Bool, List, [], ◌++◌, sym, refl, ap, ◌∙◌, add-one, arith}
use native.Mathlib.Decide.{dec_lt}
use Rattle.std.proofs.lemmas.List.{append_assoc, append-nil}
use Rattle.cell.specs.declared.cube.Cube.{Cube}
use Rattle.lists.specs.Ranks.{block_below, cubes_at}

module _ (test : Cube → Bool) where
  pub block_below_none : block_below test 0 ≡ []
  unfolding block_below
  block_below_none = refl

  pub block_below_more : (n : ℕ) → block_below test (n + 1) ≡ block_below test n ++ cubes_at test n
  unfolding block_below
  block_below_more n = ap (block_below test) (add-one n)

  -- what comes after the cubes of the lower ranks
  pub block_below_grows : (n m : ℕ) → n ≤ m → (more : List Cube) × (block_below test m ≡ block_below test n ++ more)
  block_below_grows n zero h =
      ([], ap (block_below test) (let e : 0 ≡ n = omega arith in e) ∙ sym (append-nil (block_below test n)))
  block_below_grows n (suc m) h = elim (dec_lt m n) [
    | yes l ↦ ([], ap (block_below test) (let e : suc m ≡ n = omega arith in e) ∙ sym (append-nil (block_below test n)))
    | no l ↦ (let r = block_below_grows n m (omega arith) in
        let turn : List Cube = cubes_at test m in (
          r.0 ++ turn,
          ap (block_below test) (sym (add-one m)) ∙ block_below_more m
              ∙ ap (λ (cs : List Cube). cs ++ turn) r.1 ∙ append_assoc (block_below test n) r.0 turn,
        ))
  ]
