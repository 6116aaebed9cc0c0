-- Two consecutive boundaries of the cone compose to zero: one lemma for each part of the product.
--
-- The sum over the cells in between has a part over the source's and a part over the target's.
use Rattle.std.proofs.Common.{◌≡◌, ℕ, zero, suc, ◌+◌, ◌<◌, sym, refl, ap, ◌∙◌, subst, inl, inr, add-one}
use Rattle.field.specs.Codes.{Codes, IsField}
use Rattle.linear.specs.ChainMaps.{MapMeaning, IsChainMap}
use Rattle.linear.specs.Complexes.{Meaning, IsComplex}
use Rattle.linear.specs.Cone.{from_source, cone_entry, cone}
use Rattle.linear.specs.Sums.{sum}
use Rattle.linear.proofs.Codes.{plus_both, zero_plus_zero, zero_times, times_zero, times_minus}
use Rattle.linear.proofs.Sums.{sum_ext, sum_zero, sum_split}
use Rattle.linear.proofs.Negatives.{minus_times_minus, sum_minus}
use Rattle.linear.proofs.cone.Entries.{cases_past, source_source_entry, target_source_entry}
use Rattle.linear.proofs.cone.Entries.{source_target_entry, target_target_entry}

times_both : (f : Codes) {a b c d : ℕ} → a ≡ b → c ≡ d → f.times a c ≡ f.times b d
times_both f {b = b} {c = c} p q = ap (λ (x : ℕ). f.times x c) p ∙ ap (f.times b) q

square_suc :
    (f : Codes) (m : Meaning) → IsComplex f m → (k i j : ℕ) →
    sum f (m.dim k) (λ h. f.times (m.entry k i h) (m.entry (suc k) h j)) ≡ 0
square_suc f m complex k i j = rw (add-one k) at (complex.square k i j)

module _ (f : Codes) (law : IsField f) (m : MapMeaning) (map : IsChainMap f m) (k : ℕ) where
  -- the terms over the source's and over the target's cells in between
  abbrev over_source : ℕ → ℕ → ℕ → ℕ
  over_source i j h = f.times (cone_entry f m (suc k) i h) (cone_entry f m (suc (suc k)) h j)

  abbrev over_target : ℕ → ℕ → ℕ → ℕ
  over_target i j h = over_source i j (m.source.dim k + h)

  product_parts :
      (i j a b : ℕ) → sum f (m.source.dim k) (over_source i j) ≡ a →
      sum f (m.target.dim (suc k)) (over_target i j) ≡ b → f.plus a b ≡ 0 →
      sum f ((cone f m).dim (suc k)) (over_source i j) ≡ 0
  product_parts i j a b p q e =
      sum_split f law (m.source.dim k) (m.target.dim (suc k)) (over_source i j) ∙ plus_both f p q ∙ e

  product_source_source :
      (i j : ℕ) → i < from_source m k → j < m.source.dim (suc k) →
      sum f ((cone f m).dim (suc k)) (over_source i j) ≡ 0
  product_source_source i j r c =
      product_parts i j 0 0
      (sum_ext f law (m.source.dim k) (over_source i j) _
      (λ h l.
      times_both f (source_source_entry f m k i h r l) (source_source_entry f m (suc k) h j l c)
      ∙ minus_times_minus f law _ _)
      ∙ square_suc f m.source map.source k i j)
      (sum_zero f law (m.target.dim (suc k)) (over_target i j)
      (λ h l. times_both f (source_target_entry f m k i h r) refl ∙ zero_times f law _))
      (zero_plus_zero f law)

  -- the image of the boundary of the source's cell j, at the target's cell i
  abbrev boundary_mapped : ℕ → ℕ → ℕ
  boundary_mapped i j = sum f (m.source.dim k) (λ h. f.times (m.entry k i h) (m.source.entry (suc k) h j))

  over_source_mapped :
      (i j : ℕ) → j < m.source.dim (suc k) →
      sum f (m.source.dim k) (over_source (from_source m k + i) j) ≡ boundary_mapped i j
  over_source_mapped i j c =
      sum_ext f law (m.source.dim k) (over_source (from_source m k + i) j) _
      (λ h l.
      times_both f (target_source_entry f m k i h l) (source_source_entry f m (suc k) h j l c)
      ∙ minus_times_minus f law _ _)

  over_target_mapped :
      (i j : ℕ) → j < m.source.dim (suc k) →
      sum f (m.target.dim (suc k)) (over_target (from_source m k + i) j) ≡ f.minus (boundary_mapped i j)
  over_target_mapped i j c =
      let then = λ (h : ℕ). f.times (m.target.entry (suc k) i h) (m.entry (suc k) h j) in
      sum_ext f law (m.target.dim (suc k)) (over_target (from_source m k + i) j) (λ h. f.minus (then h))
      (λ h l.
      times_both f (target_target_entry f m k i h) (target_source_entry f m (suc k) h j c) ∙ times_minus f law _ _)
      ∙ sum_minus f law (m.target.dim (suc k)) then ∙ ap f.minus (map.commutes k i j)

  product_target_source :
      (i j : ℕ) → j < m.source.dim (suc k) →
      sum f ((cone f m).dim (suc k)) (over_source (from_source m k + i) j) ≡ 0
  product_target_source i j c =
      product_parts (from_source m k + i) j _ _ (over_source_mapped i j c) (over_target_mapped i j c)
      (law.plus_minus (boundary_mapped i j))

  -- nothing leads from the target back to the source
  over_source_zero :
      (i j : ℕ) → sum f (m.source.dim k) (over_source i (m.source.dim (suc k) + j)) ≡ 0
  over_source_zero i j =
      sum_zero f law (m.source.dim k) (over_source i (m.source.dim (suc k) + j))
      (λ h l. times_both f refl (source_target_entry f m (suc k) h j l) ∙ times_zero f law _)

  product_source_target :
      (i j : ℕ) → i < from_source m k →
      sum f ((cone f m).dim (suc k)) (over_source i (m.source.dim (suc k) + j)) ≡ 0
  product_source_target i j r =
      product_parts i (m.source.dim (suc k) + j) 0 0 (over_source_zero i j)
      (sum_zero f law (m.target.dim (suc k)) _
      (λ h l. times_both f (source_target_entry f m k i h r) refl ∙ zero_times f law _))
      (zero_plus_zero f law)

  product_target_target :
      (i j : ℕ) → sum f ((cone f m).dim (suc k)) (over_source (from_source m k + i) (m.source.dim (suc k) + j)) ≡ 0
  product_target_target i j =
      let row = from_source m k + i in let column = m.source.dim (suc k) + j in
      product_parts row column 0 0 (over_source_zero row j)
      (sum_ext f law (m.target.dim (suc k)) (over_target row column) _
      (λ h l. times_both f (target_target_entry f m k i h) (target_target_entry f m (suc k) h j))
      ∙ square_suc f m.target map.target (suc k) i j)
      (zero_plus_zero f law)

  -- by where the row and the column stand
  product_at : (i j : ℕ) → sum f ((cone f m).dim (suc k)) (over_source i j) ≡ 0
  product_at i j =
      let P = λ (r : ℕ) (c : ℕ). sum f ((cone f m).dim (suc k)) (over_source r c) ≡ 0 in
      elim (cases_past i (from_source m k)) [
        | inl r ↦
            elim (cases_past j (m.source.dim (suc k))) [
              | inl c ↦ product_source_source i j r c
              | inr (d, e) ↦ subst (λ (c : ℕ). P i c) (sym e) (product_source_target i d r)
            ]
        | inr (b, e) ↦
            subst (λ (r : ℕ). P r j) (sym e)
            (elim (cases_past j (m.source.dim (suc k))) [
              | inl c ↦ product_target_source b j c
              | inr (d, e) ↦ subst (λ (c : ℕ). P (from_source m k + b) c) (sym e) (product_target_target b d)
            ])
      ]

module _ (f : Codes) (law : IsField f) (m : MapMeaning) (map : IsChainMap f m) where
  pub cone_square :
      (k i j : ℕ) →
      sum f ((cone f m).dim k) (λ h. f.times (cone_entry f m k i h) (cone_entry f m (k + 1) h j)) ≡ 0
  cone_square zero i j = sum_zero f law _ _ (λ h l. zero_times f law _)
  cone_square (suc k) i j = rw (add-one (suc k)) (product_at f law m map k i j)
