-- The numbers of the degrees up to a top, of nine.
use Rattle.std.proofs.Common.{◌≡◌, ℕ, suc, ◌+◌, ◌-◌, ◌≤◌, min, List, length, take, sym, ap, ◌∙◌, inl, inr, arith}
use Rattle.std.proofs.lemmas.List.{take_all, length-take-le}
use Rattle.std.proofs.lemmas.Bool.{cases_lt}

pub take_degrees :
    (xs : List ℕ) (top n : ℕ) → length xs ≡ 9 → n ≡ min top 8 → take (n + 1 - 0) xs ≡ take (suc top) xs
take_degrees xs top n nine is = elim (cases_lt top 9) [
  | inl within ↦ (let all : n + 1 - 0 ≡ suc top = omega arith in ap (λ (m : ℕ). take m xs) all)
  | inr past ↦ take_all (n + 1 - 0) xs (omega arith) ∙ sym (take_all (suc top) xs (omega arith))
]

pub length_degrees : (xs : List ℕ) (m : ℕ) → length xs ≡ 9 → m ≤ 9 → length (take m xs) ≤ 9
length_degrees xs m nine few = omega (arith, length-take-le m xs (omega arith))
