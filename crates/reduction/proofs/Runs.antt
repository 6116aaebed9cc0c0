-- Runs of cancels: each keeps a reduction and removes two live cells.
use Rattle.std.proofs.Common.{◌≡◌, ℕ, zero, suc, ◌<◌, Bool, true, false, cond, ◌&&◌, ◌||◌, eqb, ◌⊎◌, Some, sym, refl, ap, ◌∙◌, inl, inr, arith, eq-eqb, ne_eqb, eqb-true}
use native.Mathlib.Decide.{ℕ_discrete, dec_lt}
use Rattle.std.proofs.lemmas.Bool.Decides.{nat_tests}
use Rattle.field.specs.Codes.{Codes, IsField}
use Rattle.linear.specs.Complexes.{Meaning, IsComplex}
use Rattle.linear.specs.Sums.{total}
use Rattle.linear.proofs.Totals.{total_ext}
use Rattle.reduction.specs.Reductions.{State, cells, IsReduction}
use Rattle.reduction.specs.Cancelling.{cancelled, in_pair, none, more, count, live_count}
use Rattle.reduction.specs.Laws.{LoadedCellsAreLive, CancelsKeep, CancelsEnd, RowsStayZero}
use Rattle.reduction.proofs.Counts.{
  count_below,
  total_one_less,
  total_zero_part,
  count_one_less,
  count_ext,
  count_none,
}
use Rattle.reduction.proofs.Pivots.{Pivot, pivot_of, live_a, live_b}
use Rattle.reduction.proofs.Cancelling.{cancelling_keeps}
use Rattle.reduction.proofs.CancelledShape.{zero_cond, minus_product_left, row_b}

in_pair_not : (q b a d i : ℕ) → (d ≡ q → i ≡ b → ⊥) → (d ≡ suc q → i ≡ a → ⊥) → in_pair (suc q) b a d i ≡ false
in_pair_not q b a d i lower upper = by_tests (eqb (suc d) (suc q)) (eqb i b) (eqb d (suc q)) (eqb i a)
    (λ t u. lower (let e = eqb-true (suc d) (suc q) t in omega arith) (eqb-true i b u))
    (λ t u. upper (eqb-true d (suc q) t) (eqb-true i a u)) where
      by_tests : (t u v w : Bool) → (t ≡ true → u ≡ true → ⊥) → (v ≡ true → w ≡ true → ⊥) →
          ((t && u) || (v && w)) ≡ false
      by_tests true true v w l r = absurd (l refl refl)
      by_tests true false true true l r = absurd (r refl refl)
      by_tests true false true false l r = refl
      by_tests true false false w l r = refl
      by_tests false u true true l r = absurd (r refl refl)
      by_tests false u true false l r = refl
      by_tests false u false w l r = refl

in_pair_b : (q b a : ℕ) → in_pair (suc q) b a q b ≡ true
in_pair_b q b a = grind (arith, nat_tests)

in_pair_a : (q b a : ℕ) → in_pair (suc q) b a (suc q) a ≡ true
in_pair_a q b a = grind (arith, nat_tests)

module _ (f : Codes) (law : IsField f) (m : Meaning) (complex : IsComplex f m) (s : State) (r : IsReduction f m s)
    (q b a v : ℕ) (pivot : Pivot f s q b a v) where
  abbrev after : State
  after = cancelled f (suc q) b a v s

  abbrev old : ℕ → ℕ
  old k = count (s.live k) (m.dim k)

  abbrev new : ℕ → ℕ
  new k = count (after.live k) (m.dim k)

  stays : (d i : ℕ) → (d ≡ q → i ≡ b → ⊥) → (d ≡ suc q → i ≡ a → ⊥) → s.live d i ≡ after.live d i
  stays d i lower upper = sym (ap (λ t. cond t false (s.live d i)) (in_pair_not q b a d i lower upper))

  lower_less : old q ≡ suc (new q)
  lower_less = count_one_less (m.dim q) b (s.live q) (after.live q)
      (r.shape.live_cells q b (live_b f law m complex s r.shape q b a v pivot))
      (live_b f law m complex s r.shape q b a v pivot) (ap (λ t. cond t false (s.live q b)) (in_pair_b q b a))
      (λ i d. stays q i (λ _ e. d e) (λ e _. omega arith))

  upper_less : old (suc q) ≡ suc (new (suc q))
  upper_less = count_one_less (m.dim (suc q)) a (s.live (suc q)) (after.live (suc q))
      (r.shape.live_cells (suc q) a (live_a f law m complex s r.shape q b a v pivot))
      (live_a f law m complex s r.shape q b a v pivot) (ap (λ t. cond t false (s.live (suc q) a)) (in_pair_a q b a))
      (λ i d. stays (suc q) i (λ e _. omega arith) (λ _ e. d e))

  within_top : suc q < suc m.top
  within_top = elim (dec_lt m.top (suc q)) [
    | yes above ↦
        (let none : m.dim (suc q) ≡ 0 = complex.above_top (suc q) above in
        let inside = r.shape.live_cells (suc q) a (live_a f law m complex s r.shape q b a v pivot) in
        absurd (omega arith))
    | no below ↦ omega arith
  ]

  -- the counts with the lower degree already changed
  abbrev half : ℕ → ℕ
  half k = cond (eqb k (suc q)) (old k) (new k)

  pub live_count_cancelled : suc (suc (live_count m after)) ≡ live_count m s
  live_count_cancelled =
      let top : suc q < suc m.top = within_top in
      let first : live_count m s ≡ suc (total (suc m.top) half) =
      total_one_less (suc m.top) q old half (omega arith)
      (lower_less ∙ ap suc (sym (ap (λ t. cond t (old q) (new q)) (ne_eqb q (suc q) (λ e. omega arith)))))
      (λ d apart. by_degree d apart (ℕ_discrete d (suc q))) in
      let second : total (suc m.top) half ≡ suc (live_count m after) =
      total_one_less (suc m.top) (suc q) half new top
      (ap (λ t. cond t (old (suc q)) (new (suc q))) (eq-eqb (suc q) (suc q) refl) ∙ upper_less)
      (λ d apart. ap (λ t. cond t (old d) (new d)) (ne_eqb d (suc q) apart)) in
      omega arith
    where
      by_degree : (d : ℕ) → (d ≡ q → ⊥) → Dec (d ≡ suc q) → old d ≡ half d
      by_degree d apart (yes e) = sym (ap (λ t. cond t (old d) (new d)) (eq-eqb d (suc q) e))
      by_degree d apart (no n) =
          count_ext (m.dim d) (s.live d) (after.live d) (λ i. stays d i (λ e _. apart e) (λ e _. n e))
          ∙ sym (ap (λ t. cond t (old d) (new d)) (ne_eqb d (suc q) n))

pub live_count_less : (f : Codes) → IsField f → (m : Meaning) → IsComplex f m → (s : State) → IsReduction f m s →
    (k b a v : ℕ) → f.inverse (s.D k b a) ≡ Some v → suc (suc (live_count m (cancelled f k b a v s))) ≡ live_count m s
live_count_less f law m complex s r k b a v inverse =
    let (q, e, pivot) = pivot_of f law m s r.shape k b a v inverse in
    ap (λ (w : ℕ). suc (suc (live_count m (cancelled f w b a v s)))) e
    ∙ live_count_cancelled f law m complex s r q b a v pivot

pub loaded_cells_are_live : LoadedCellsAreLive
loaded_cells_are_live m =
    total_ext (suc m.top) (λ k. count (cells m k) (m.dim k)) m.dim (λ k _. count_below (m.dim k))

pub cancels_keep : CancelsKeep
cancels_keep f m zero s t law complex r none = (r, omega arith)
cancels_keep f m (suc n) s t law complex r (more k b a v inverse run) =
    let (kept, counts) = cancels_keep f m n (cancelled f k b a v s) t law complex
    (cancelling_keeps f m s k b a v law complex r inverse) run in
    let two = live_count_less f law m complex s r k b a v inverse in
    (kept, omega arith)

pub cancels_end : CancelsEnd
cancels_end f m n s t law complex r run enough k i j =
    let (kept, counts) = cancels_keep f m n s t law complex r run in
    let gone : live_count m t ≡ 0 = omega arith in
    kept.shape.D_columns k i j (by_live gone (kept.shape.live_cells k j) (t.live k j) refl)
  where
    by_live : live_count m t ≡ 0 → (t.live k j ≡ true → j < m.dim k) → (l : Bool) → t.live k j ≡ l →
        t.live k j ≡ false
    by_live gone inside false e = e
    by_live gone inside true e = elim (dec_lt m.top k) [
      | yes above ↦ (let none : m.dim k ≡ 0 = complex.above_top k above in let l = inside e in absurd (omega arith))
      | no below ↦ count_none (m.dim k) (t.live k)
          (total_zero_part (suc m.top) (λ d. count (t.live d) (m.dim d)) gone k (omega arith)) j (inside e)
    ]

pub rows_stay_zero : RowsStayZero
rows_stay_zero f m s k b a v law r inverse before d i j place = by_place place where
  below : d < k → (cancelled f k b a v s).D d i j ≡ 0
  below l = zero_cond (eqb d k) (λ t. let e = eqb-true d k t in absurd (omega arith))
      (λ _. zero_cond _ (λ _. refl) (λ _. before d i j (inl l)))

  same_row : d ≡ k → i ≡ b → (cancelled f k b a v s).D d i j ≡ 0
  same_row e h =
      let (q, eq, pivot) = pivot_of f law m s r.shape k b a v inverse in
      (λ t. (cancelled f (eq t) b a v s).D ((e ∙ eq) t) (h t) j) ∙ row_b f law m s r.shape q b a v pivot.inverse j

  row_before : d ≡ k → i < b → (cancelled f k b a v s).D d i j ≡ 0
  row_before e l = zero_cond (eqb d k)
      (λ _. minus_product_left f law _ _ v _ (before k i j (inr (refl, l))) (before k i a (inr (refl, l))))
      (λ _. zero_cond _ (λ _. refl) (λ _. before d i j (inr (e, l))))

  by_place : (d < k) ⊎ ((d ≡ k) × (i < suc b)) → (cancelled f k b a v s).D d i j ≡ 0
  by_place (inl l) = below l
  by_place (inr (e, l)) = elim (ℕ_discrete i b) [
    | yes h ↦ same_row e h
    | no apart ↦ row_before e (omega arith)
  ]
