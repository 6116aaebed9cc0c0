-- The counts of a complex that keeps the limits.
use Rattle.std.proofs.Common.{◌≡◌, ℕ, suc, ◌+◌, ◌<◌, List, length, get_or, take, set, Ok, ap, ◌∙◌, rules, arith}
use Rattle.std.proofs.lemmas.List.FromFn.{fill_by_all}
use Rattle.std.proofs.lemmas.List.Edits.{fill_by_more}
use Rattle.std.proofs.lemmas.List.{get_or-take, length-take-le}
use Rattle.linear.specs.Complexes.{Meaning, WithinLimits}
use Rattle.forms.specs.Counts.{dims, measured}

-- the dimension of one degree more is set
pub fill_dims_more :
    (m : Meaning) (xs : List ℕ) (k v : ℕ) → k < length xs → v ≡ m.dim k →
    ((d : ℕ) → d < k → get_or xs d 0 ≡ m.dim d) → (d : ℕ) → d < k + 1 → get_or (set xs k v) d 0 ≡ m.dim d
fill_dims_more m xs k v l is before d below =
    ap (λ (x : ℕ). get_or (set xs k x) d 0) is ∙ fill_by_more m.dim xs k 0 l before d below

-- an array whose first places have the dimensions
pub take_dims :
    (m : Meaning) (xs : List ℕ) → m.top < 9 → length xs ≡ 9 → ((d : ℕ) → d < suc m.top → get_or xs d 0 ≡ m.dim d) →
    take (suc m.top) xs ≡ dims m
take_dims m xs low nine is =
    let n = suc m.top in
    fill_by_all m.dim (take n xs) n 0 (length-take-le n xs (omega arith)) (λ d l. get_or-take n xs d 0 l ∙ is d l)

pub measured_within : (m : Meaning) → WithinLimits m → measured m ≡ Ok (dims m)
measured_within m w = search rules
