-- The powers of t: the product of two adds their exponents modulo 255, and the two tables hold them.
use Rattle.std.specs.Prelude.{◌≡◌, ℕ, zero, suc, ◌+◌, ◌-◌, ◌%◌, ◌<◌, Bool, true, ◌&&◌, ◌==◌, nat_lt, slice_index, slice_index_or, refl}
use Rattle.std.proofs.Common.{sym, ap, ◌∙◌, lit<, arith, mod-eq_of_lt, add-zero, zero-add, suc-add, add-suc, eqb-true, ltb-true}
use Rattle.std.proofs.Math.Decide.{dec_lt}
use Rattle.std.proofs.lemmas.Bool.{and_parts}
use Rattle.field.specs.Below.{all_below, all_below_at}
use Rattle.field256.specs.Polynomials.{product, remainder, residue_product}
use Rattle.field256.specs.Tables.{power, multiples, powers, logarithms}
use Rattle.field256.specs.Products.{residue_comm, residue_assoc, residue_one, residue_below}

pub power_below : (i : ℕ) → power i < 256
unfolding power
power_below zero = lit< tt
power_below (suc i) = residue_below 2 (power i) (lit< tt) (power_below i)

pub power_add : (i j : ℕ) → residue_product (power i) (power j) ≡ power (i + j)
unfolding power
power_add zero j =
    residue_comm 1 (power j) (lit< tt) (power_below j) ∙ residue_one (power j) (power_below j)
    ∙ ap power (sym (zero-add j))
power_add (suc i) j =
    residue_assoc 2 (power i) (power j) (lit< tt) (power_below i) (power_below j)
    ∙ ap (residue_product 2) (power_add i j) ∙ ap power (sym (suc-add i j))

pub power_zero : power 0 ≡ 1
unfolding power
power_zero = refl

power_round : power 255 ≡ 1
unfolding power product remainder residue_product
power_round = refl

power_period : (i : ℕ) → power (i + 255) ≡ power i
power_period i =
    sym (power_add i 255) ∙ ap (residue_product (power i)) power_round ∙ residue_one (power i) (power_below i)

pub power_mod : (i : ℕ) → i < 510 → power (i % 255) ≡ power i
power_mod i h =
    elim (dec_lt i 255) [
      | yes less ↦ ap power (mod-eq_of_lt less)
      | no more ↦ (let round : i % 255 + 255 ≡ i = omega arith in sym (power_period (i % 255)) ∙ ap power round)
    ]

multiples_at : (n j i : ℕ) → i < n → slice_index (multiples n (power j)) i ≡ power (j + i)
unfolding power
multiples_at zero j i h = absurd (omega arith)
multiples_at (suc n) j zero h = ap power (sym (add-zero j))
multiples_at (suc n) j (suc i) h = multiples_at n (suc j) i (omega arith) ∙ ap power (suc-add j i ∙ sym (add-suc j i))

pub powers_at : (i : ℕ) → i < 255 → slice_index powers i ≡ power i
unfolding powers power
powers_at i h = multiples_at 255 0 i h ∙ ap power (zero-add i)

-- the rule of the two tables: the power to the exponent of a code is the code
abbrev pub rule : ℕ → Bool
rule k = nat_lt (slice_index logarithms k) 255 && slice_index powers (slice_index logarithms k) == suc k

tables_test : all_below rule 255 ≡ true
unfolding powers logarithms product remainder residue_product
tables_test = refl

pub logarithms_at : (k : ℕ) → k < 255 → (slice_index logarithms k < 255) × (power (slice_index logarithms k) ≡ suc k)
logarithms_at k h =
    let i : ℕ = slice_index_or logarithms k 0 in
    let parts = and_parts (nat_lt i 255) (slice_index powers i == suc k) (all_below_at rule 255 tables_test k h) in
    let below : i < 255 = ltb-true i 255 parts.0 in
    (below, sym (powers_at i below) ∙ eqb-true (slice_index powers i) (suc k) parts.1)

-- every code but 0 is a power
pub exponent : (a : ℕ) → 0 < a → a < 256 → (i : ℕ) × ((i < 255) × (power i ≡ a))
exponent a positive below =
    let at = logarithms_at (a - 1) (omega arith) in
    let same : suc (a - 1) ≡ a = omega arith in
    (slice_index logarithms (a - 1), (at.0, at.1 ∙ same))
