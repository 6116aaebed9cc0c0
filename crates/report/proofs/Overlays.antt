-- Pieces of text grow in a buffer.
use Rattle.std.proofs.Common.{◌≡◌, ℕ, zero, suc, ◌+◌, List, [], ◌++◌, length, take, sym, refl, ap, ◌∙◌, add_assoc, zero-add, length-append}
use Rattle.std.proofs.lemmas.List.{append_assoc}
use Rattle.report.specs.Buffers.{overlay}
use Rattle.report.specs.Pens.{Puts}

take_nil : (n : ℕ) → take {A = ℕ} n [] ≡ []
take_nil zero = refl
take_nil (suc n) = refl

overlay_nil : (old : List ℕ) → old ≡ overlay old []
overlay_nil old = ap (λ (ys : List ℕ). ys ++ old) (sym (take_nil (length old)))

-- one piece after another
pub puts_then : {a b c : List ℕ} {i j k : ℕ} {s t : List ℕ} → Puts a b i j s → Puts b c j k t → Puts a c i k (s ++ t)
puts_then {i = i} {s = s} {t = t} p q = record {
  place = q.place ∙ ap (λ (n : ℕ). n + length t) p.place ∙ add_assoc i (length s) (length t)
      ∙ ap (λ (n : ℕ). i + n) (sym (length-append s t));
  bytes = λ old text e is.
      let at = length-append text s ∙ ap (λ (n : ℕ). n + length s) e ∙ sym p.place in
      q.bytes old (text ++ s) at (p.bytes old text e is) ∙ ap (overlay old) (append_assoc text s t);
}

-- a text that is put from the start of a buffer
pub overlay_puts : {a b : List ℕ} {n : ℕ} {s : List ℕ} → Puts a b 0 n s → (n ≡ length s) × (b ≡ overlay a s)
overlay_puts {a} {n = n} {s = s} p = (p.place ∙ zero-add (length s), p.bytes a [] refl (overlay_nil a))
