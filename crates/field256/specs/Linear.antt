-- Functions that keep exclusive ors, and that two of them are equal where they agree on the powers of 2.
use Rattle.std.specs.Prelude.{◌≡◌, ℕ, zero, suc, ◌+◌, ◌-◌, ◌^◌, ◌<◌, Bool, true, bit_xor, nat_eq}
use Rattle.std.proofs.Common.{sym, ap, ◌∙◌, arith, one-mul, eqb-true}
use Rattle.std.specs.Int.Bits.{xor_self, xor_shifted}
use Rattle.std.proofs.Math.Nat.{two-pow-succ, pow-zero}
use Rattle.std.proofs.Math.Decide.{dec_lt}
use Rattle.field.specs.Below.{all_below, all_below_at}

abbrev pub Linear : (ℕ → ℕ) → Type 0
Linear f = (a b : ℕ) → f (bit_xor a b) ≡ bit_xor (f a) (f b)

pub linear_zero : (f : ℕ → ℕ) → Linear f → f 0 ≡ 0
linear_zero f linear = linear 0 0 ∙ xor_self (f 0)

-- the highest power of 2 in a number, and the rest
xor_top : (n a : ℕ) → 2 ^ n < suc a → a < 2 ^ suc n → (b : ℕ) × ((b < 2 ^ n) × (bit_xor (2 ^ n) b ≡ a))
xor_top n a more less =
    let rest : a - 2 ^ n < 2 ^ n = omega (arith, two-pow-succ n) in
    let whole : 2 ^ n + (a - 2 ^ n) ≡ a = omega arith in (
      a - 2 ^ n,
      (
        rest,
        ap (λ m. bit_xor m (a - 2 ^ n)) (sym (one-mul (2 ^ n))) ∙ xor_shifted 1 n (a - 2 ^ n) rest
            ∙ ap (λ m. m + (a - 2 ^ n)) (one-mul (2 ^ n)) ∙ whole,
      ),
    )

module _ (f g : ℕ → ℕ) (linear-f : Linear f) (linear-g : Linear g) where
  pub linear_same : (n : ℕ) → ((m : ℕ) → m < n → f (2 ^ m) ≡ g (2 ^ m)) → (a : ℕ) → a < 2 ^ n → f a ≡ g a
  linear_same zero agree a less =
      let none : a ≡ 0 = omega (arith, pow-zero 2) in
      ap f none ∙ linear_zero f linear-f ∙ sym (ap g none ∙ linear_zero g linear-g)
  linear_same (suc n) agree a less =
      let lower : (b : ℕ) → b < 2 ^ n → f b ≡ g b = linear_same n (λ m h. agree m (omega arith)) in
      elim (dec_lt a (2 ^ n)) [
        | yes small ↦ lower a small
        | no large ↦ (let top = xor_top n a (omega arith) less in
            ap f (sym top.1.1) ∙ linear-f (2 ^ n) top.0
            ∙ ap (λ x. bit_xor x (f top.0)) (agree n (omega arith))
            ∙ ap (bit_xor (g (2 ^ n))) (lower top.0 top.1.0)
            ∙ sym (ap g (sym top.1.1) ∙ linear-g (2 ^ n) top.0))
      ]

-- linear in each of two arguments
pub record Bilinear (f : ℕ → ℕ → ℕ) : Type 0 where
  pub left : (b : ℕ) → Linear (λ a. f a b)
  pub right : (a : ℕ) → Linear (f a)

-- the computed test that two functions agree on the 64 pairs of powers of 2 below 256
abbrev pub agree_on_bits : (f g : ℕ → ℕ → ℕ) → Bool
agree_on_bits f g = all_below (λ m. all_below (λ k. nat_eq (f (2 ^ m) (2 ^ k)) (g (2 ^ m) (2 ^ k))) 8) 8

pub bilinear_same : (f g : ℕ → ℕ → ℕ) → Bilinear f → Bilinear g → agree_on_bits f g ≡ true →
    (a b : ℕ) → a < 256 → b < 256 → f a b ≡ g a b
bilinear_same f g bilinear-f bilinear-g test a b below-a below-b =
    linear_same (λ x. f x b) (λ x. g x b) (bilinear-f.left b) (bilinear-g.left b) 8
    (λ m h. linear_same (f (2 ^ m)) (g (2 ^ m)) (bilinear-f.right (2 ^ m)) (bilinear-g.right (2 ^ m)) 8 (at m h)
    b below-b)
    a below-a where
      at : (m : ℕ) → m < 8 → (k : ℕ) → k < 8 → f (2 ^ m) (2 ^ k) ≡ g (2 ^ m) (2 ^ k)
      at m h k l =
          eqb-true (f (2 ^ m) (2 ^ k)) (g (2 ^ m) (2 ^ k))
          (all_below_at (λ j. nat_eq (f (2 ^ m) (2 ^ j)) (g (2 ^ m) (2 ^ j))) 8
          (all_below_at (λ i. all_below (λ j. nat_eq (f (2 ^ i) (2 ^ j)) (g (2 ^ i) (2 ^ j))) 8) 8 test m h) k l)
