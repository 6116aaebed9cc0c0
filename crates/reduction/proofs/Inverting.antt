-- A number has an inverse in a field, or stands for zero.
use Rattle.std.proofs.Common.{◌≡◌, ℕ, ◌%◌, ◌⊎◌, Some, None, Option, refl, inl, inr}
use Rattle.field.specs.Codes.{Codes, IsField}

pub invertible : (f : Codes) → IsField f → (x : ℕ) → ((u : ℕ) × (f.inverse x ≡ Some u)) ⊎ (x % f.order ≡ 0)
invertible f law x = by_inverse (f.inverse x) refl where
  by_inverse : (o : Option ℕ) → f.inverse x ≡ o → ((u : ℕ) × (f.inverse x ≡ Some u)) ⊎ (x % f.order ≡ 0)
  by_inverse (Some u) e = inl (u, e)
  by_inverse None e = inr (law.inverse_none x e)
