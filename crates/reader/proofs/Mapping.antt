-- What comes of a result whose error is mapped to another.
use Rattle.std.proofs.Common.{◌≡◌, ℕ, Ok, Err, Result, sym, refl, ap, ◌∙◌, arith}
use Rattle.std.specs.Result.{IsErrAnd, MatchResult}

module _ {X E D : Type 0} where
  pub mapped_ok : (r : Result X E) (s : Result X D) (P : E → D → Type 0) (x : X) →
      MatchResult r (λ y. s ≡ Ok y) (λ e. IsErrAnd s (P e)) → s ≡ Ok x → r ≡ Ok x
  mapped_ok (Ok y) s P x cases is = let same : y ≡ x = (let both = sym cases ∙ is in cc) in ap Ok same
  mapped_ok (Err e) (Ok y) P x cases is = absurd cases
  mapped_ok (Err e) (Err d) P x cases is = absurd (let z : ◌≡◌ {A = ℕ} 0 1 = cc in omega arith)

  pub mapped_err : (r : Result X E) (s : Result X D) (P : E → D → Type 0) (d : D) →
      MatchResult r (λ y. s ≡ Ok y) (λ e. IsErrAnd s (P e)) → s ≡ Err d → (e : E) × (r ≡ Err e) × P e d
  mapped_err (Ok y) s P d cases is = absurd (let z : ◌≡◌ {A = ℕ} 0 1 = cc in omega arith)
  mapped_err (Err e) (Ok y) P d cases is = absurd cases
  mapped_err (Err e) (Err c) P d cases is = (e, refl, (let same : c ≡ d = cc in rw same at cases))
