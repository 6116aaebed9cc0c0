-- Which cubes are chosen, and where they stand: true of any test of cubes.
use Rattle.std.proofs.Common.{◌≡◌, ℕ, zero, suc, ◌<◌, Bool, true, false, cond, ◌&&◌, ◌||◌, eqb, ltb, List, [], ◌∷◌, ◌++◌, sym, refl, ap, ◌∙◌, subst, inl, inr, add-one, arith}
use Rattle.std.specs.List.{AllByRecursion}
use Rattle.std.proofs.ByRecursion.{All-push, All-weaker}
use Rattle.std.proofs.lemmas.List.{append-nil}
use Rattle.std.proofs.lemmas.Bool.{and_parts, and_left, cases_order, le-ltb, eq-eqb, eqb-true, lt-ltb}
use Rattle.std.proofs.lemmas.Bool.Decides.{nat_tests}
use Rattle.cell.specs.Kind.{Kind}
use Rattle.cell.specs.declared.cube.Cube.{Cube}
use Rattle.cell.specs.Cubes.{cubes}
use Rattle.index.specs.Closed.{held, Ascending}
use Rattle.lists.specs.Ranks.{block_below, chosen, cube_of}
use Rattle.lists.proofs.Below.{block_below_more, block_below_none}

-- a list with one more cell at its end, where b is true
module _ {K : Type 0} (cs : List K) (c : K) where
  all_choice : (P : K → Type 0) (b : Bool) → AllByRecursion P cs → (b ≡ true → P c) → AllByRecursion P (cs ++ cond b (c ∷ []) [])
  all_choice P true all here = All-push P cs c all (here refl)
  all_choice P false all here = subst (AllByRecursion P) (sym (append-nil cs)) all

module _ {K : Type 0} (k : Kind K) where
  ascending_end :
      (cs : List K) (c : K) → Ascending k cs → AllByRecursion (λ d. k.rank d < k.rank c) cs → Ascending k (cs ++ c ∷ [])
  ascending_end [] c asc below = (tt, tt)
  ascending_end (b ∷ cs) c asc below =
      (All-push (λ d. k.rank b < k.rank d) cs c asc.0 below.0, ascending_end cs c asc.1 below.1)

  ascending_choice :
      (cs : List K) (c : K) (b : Bool) → Ascending k cs → (b ≡ true → AllByRecursion (λ d. k.rank d < k.rank c) cs)
      → Ascending k (cs ++ cond b (c ∷ []) [])
  ascending_choice cs c true asc below = ascending_end cs c asc (below refl)
  ascending_choice cs c false asc below = subst (Ascending k) (sym (append-nil cs)) asc

  held_choice :
      (cs : List K) (c : K) (b : Bool) (r : ℕ)
      → held k r (cs ++ cond b (c ∷ []) []) ≡ (held k r cs || (b && eqb (k.rank c) r))
  held_choice [] c true r = elim (eqb (k.rank c) r) as (λ e. cond e true false ≡ e) [ true ↦ refl | false ↦ refl ]
  held_choice [] c false r = refl
  held_choice (d ∷ cs) c b r =
      elim (eqb (k.rank d) r)
      as (λ e.
      cond e true (held k r (cs ++ cond b (c ∷ []) [])) ≡ (cond e true (held k r cs) || (b && eqb (k.rank c) r)))
      [ true ↦ refl | false ↦ held_choice cs c b r ]

-- one more number, if it passes a test
passes_more :
    (test : ℕ → Bool) (n r rank : ℕ) → (test n ≡ true → rank ≡ n)
    → ((ltb r n && test r) || (test n && eqb rank r)) ≡ (ltb r (suc n) && test r)
passes_more test n r rank is = elim (cases_order r n) [
  | inl e ↦ (let s : test r ≡ test n = ap test e in grind (arith, nat_tests))
  | inr (inl l) ↦ grind (arith, nat_tests)
  | inr (inr l) ↦ grind (arith, nat_tests)
]

cube_of_valid : (n : ℕ) → cubes.valid (cube_of n) ≡ true
cube_of_valid n = grind (arith, nat_tests)

pub same_cube : (c d : Cube) → c.x ≡ d.x → c.y ≡ d.y → c.z ≡ d.z → c ≡ d
same_cube c d e f g =
    ap (λ (n : ℕ). record { x = n; y = c.y; z = c.z }) e ∙ ap (λ (n : ℕ). record { x = d.x; y = n; z = c.z }) f
    ∙ ap (λ (n : ℕ). record { x = d.x; y = d.y; z = n }) g

module _ (test : Cube → Bool) where
  chosen_rank : (n : ℕ) → chosen test n ≡ true → cubes.rank (cube_of n) ≡ n
  chosen_rank n h = eqb-true _ n (and_parts (eqb (cubes.rank (cube_of n)) n) (test (cube_of n)) h).0

  chosen_belongs : (n : ℕ) → chosen test n ≡ true → test (cube_of n) ≡ true
  chosen_belongs n h = (and_parts (eqb (cubes.rank (cube_of n)) n) (test (cube_of n)) h).1

  -- what holds of each cube that is chosen below n holds of each cube of the block below n
  all_block_below :
      (P : Cube → Type 0) (n : ℕ) → ((m : ℕ) → m < n → chosen test m ≡ true → P (cube_of m))
      → AllByRecursion P (block_below test n)
  all_block_below P zero each = subst (AllByRecursion P) (sym (block_below_none test)) tt
  all_block_below P (suc n) each =
      subst (AllByRecursion P) (sym (block_below_more test n) ∙ ap (block_below test) (add-one n))
      (all_choice (block_below test n) (cube_of n) P (chosen test n)
      (all_block_below P n (λ m l. each m (omega arith))) (each n (omega arith)))

  rank_below : (n : ℕ) → AllByRecursion (λ c. cubes.rank c < n) (block_below test n)
  rank_below n = all_block_below (λ c. cubes.rank c < n) n (λ m l h. omega (arith, chosen_rank m h))

  pub block_below_valid : (n : ℕ) → AllByRecursion (λ c. cubes.valid c ≡ true) (block_below test n)
  block_below_valid n = all_block_below (λ c. cubes.valid c ≡ true) n (λ m l h. cube_of_valid m)

  pub block_below_belongs :
      (n : ℕ) → AllByRecursion (λ c. (cubes.valid c ≡ true) × (test c ≡ true)) (block_below test n)
  block_below_belongs n =
      all_block_below (λ c. (cubes.valid c ≡ true) × (test c ≡ true)) n
      (λ m l h. (cube_of_valid m, chosen_belongs m h))

  pub block_below_ascending : (n : ℕ) → Ascending cubes (block_below test n)
  block_below_ascending zero = subst (Ascending cubes) (sym (block_below_none test)) tt
  block_below_ascending (suc n) =
      subst (Ascending cubes) (sym (block_below_more test n) ∙ ap (block_below test) (add-one n))
      (ascending_choice cubes (block_below test n) (cube_of n) (chosen test n) (block_below_ascending n)
      (λ h. All-weaker (λ c. cubes.rank c < n) (λ c. cubes.rank c < cubes.rank (cube_of n))
      (λ c l. omega (arith, chosen_rank n h)) (block_below test n) (rank_below n)))

  -- a rank stands in the block below n exactly if it is chosen and below n
  held_block_below : (n r : ℕ) → held cubes r (block_below test n) ≡ (ltb r n && chosen test r)
  held_block_below zero r =
      ap (held cubes r) (block_below_none test) ∙ sym (and_left (ltb r 0) (chosen test r) (le-ltb r 0 (omega arith)))
  held_block_below (suc n) r =
      ap (held cubes r) (sym (ap (block_below test) (add-one n)) ∙ block_below_more test n)
      ∙ held_choice cubes (block_below test n) (cube_of n) (chosen test n) r
      ∙ ap (λ (b : Bool). b || (chosen test n && eqb (cubes.rank (cube_of n)) r)) (held_block_below n r)
      ∙ passes_more (chosen test) n r (cubes.rank (cube_of n)) (chosen_rank n)

-- the cube of the rank of a cube is that cube
module _ (test : Cube → Bool) (c : Cube) (valid : cubes.valid c ≡ true) where
  cube_of_rank : cube_of (cubes.rank c) ≡ c
  cube_of_rank =
      same_cube (cube_of (cubes.rank c)) c (grind (arith, nat_tests)) (grind (arith, nat_tests)) (grind (arith, nat_tests))

  rank_small : cubes.rank c < 19652
  rank_small = grind (arith, nat_tests)

  pub held_block : held cubes (cubes.rank c) (block_below test 19652) ≡ test c
  held_block =
      held_block_below test 19652 (cubes.rank c)
      ∙ ap (λ (b : Bool). b && chosen test (cubes.rank c)) (lt-ltb (cubes.rank c) 19652 rank_small)
      ∙ ap (λ (d : Cube). eqb (cubes.rank d) (cubes.rank c) && test d) cube_of_rank
      ∙ ap (λ (b : Bool). b && test c) (eq-eqb (cubes.rank c) (cubes.rank c) refl)
