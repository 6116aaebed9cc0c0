-- A reduction with one pair of cells more cancelled, in an algebra of matrices.
use Rattle.std.proofs.Common.{◌≡◌, ℕ, suc}
use mathlib.Core.Path.{fun_ext}
use Rattle.reduction.proofs.Algebra.{Algebra, signs}
use Rattle.reduction.proofs.Composing.{Red, compose}
use Rattle.reduction.proofs.PairLaws.{Pair}
use Rattle.reduction.proofs.PairWords.{next_D, next_F, next_G, next_L, one_pair}

module _ {M : Type 0} (𝓐 : Algebra M) (n : ℕ → ℕ) {D L e c h P : ℕ → M} (p : Pair 𝓐 n D L e c h P)
    {J B F G H : ℕ → M} (r : Red 𝓐 n J B D F G H L) where
  open 𝓐 use {add, neg, mul}

  abbrev pub cancel_F : ℕ → M
  cancel_F k = add (F k) (neg (add (mul (n k) (e k) (F k)) (mul (n (suc k)) (D k) (mul (n k) (h k) (F k)))))

  abbrev pub cancel_G : ℕ → M
  cancel_G k = add (G k) (neg (add (mul (n k) (G k) (c k)) (mul (n k) (G k) (P k))))

  abbrev pub cancel_H : ℕ → M
  cancel_H k = add (H k) (mul (n (suc k)) (G (suc k)) (mul (n k) (h k) (F k)))

  -- a reduction with one pair more cancelled
  pub cancel : Red 𝓐 n J B (next_D 𝓐 n p) cancel_F cancel_G cancel_H (next_L 𝓐 n p)
  cancel =
      let on-F : (λ k. mul (n k) (next_F 𝓐 n p k) (F k)) ≡ cancel_F = fun_ext λ k. simp (r.LF, signs) in
      let on-G : (λ k. mul (n k) (G k) (next_G 𝓐 n p k)) ≡ cancel_G = fun_ext λ k. simp (r.GL, signs) in
      coe 0 1 (t. Red 𝓐 n J B (next_D 𝓐 n p) (on-F t) (on-G t) cancel_H (next_L 𝓐 n p)) (compose 𝓐 n r (one_pair 𝓐 n p))
