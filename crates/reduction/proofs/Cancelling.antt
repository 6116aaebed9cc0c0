-- A cancel leaves a reduction: the state after it has the families of the cancelled pair.
use Rattle.std.proofs.Common.{◌≡◌, ℕ, suc, sym, subst}
use mathlib.Core.Path.{fun_ext}
use Rattle.field.specs.Codes.{Codes, IsField}
use Rattle.linear.specs.Complexes.{Meaning, IsComplex}
use Rattle.reduction.specs.Reductions.{State, HasShape, IsReduction}
use Rattle.reduction.specs.Cancelling.{cancelled}
use Rattle.reduction.specs.Laws.{CancellingKeeps}
use Rattle.reduction.proofs.Algebra.{Algebra}
use Rattle.reduction.proofs.Codes.{CodeMatrix, matrix_eq, matrices}
use Rattle.reduction.proofs.Composing.{Red}
use Rattle.reduction.proofs.PairLaws.{Pair}
use Rattle.reduction.proofs.PairWords.{next_D, next_L}
use Rattle.reduction.proofs.Pairs.{cancel_F, cancel_G, cancel_H, cancel}
use Rattle.reduction.proofs.Families.{
  unit_family,
  B_family,
  D_family,
  F_family,
  G_family,
  H_family,
  live_family,
  Reduces,
  reduces,
  is_reduction,
}
use Rattle.reduction.proofs.CancelledShape.{cancelled_shape}
use Rattle.reduction.proofs.Pivots.{Pivot, pivot_of, e_family, c_family, h_family, P_family}
use Rattle.reduction.proofs.CancelledEntries.{pairing, D_is, F_is, G_is, H_is, live_is}

module _ (f : Codes) (law : IsField f) (m : Meaning) (complex : IsComplex f m) (s : State) (shape : HasShape f m s)
    (r : Reduces f law m complex s shape) (q b a v : ℕ) (pivot : Pivot f s q b a v) where
  abbrev A : Algebra (CodeMatrix f)
  A = matrices f law

  abbrev after : State
  after = cancelled f (suc q) b a v s

  abbrev paired : Pair A m.dim (D_family f law m complex s shape) (live_family f law m complex s shape)
      (e_family f law m complex s shape q b a v pivot) (c_family f law m complex s shape q b a v pivot)
      (h_family f law m complex s shape q b a v pivot) (P_family f law m complex s shape q b a v pivot)
  paired = pairing f law m complex s shape r q b a v pivot

  abbrev new : HasShape f m after
  new = cancelled_shape f law m s shape q b a v pivot.inverse

  -- families are equal if their entries are
  family_eq : (x y : ℕ → CodeMatrix f) → ((k i j : ℕ) → (x k).0 i j ≡ (y k).0 i j) → x ≡ y
  family_eq x y e = fun_ext λ k. matrix_eq f law (x k) (y k) (e k)

  cancelled_reduces : Reduces f law m complex after new
  cancelled_reduces =
      let D-path : next_D A m.dim paired ≡ D_family f law m complex after new =
      family_eq _ _ (D_is f law m complex s shape r q b a v pivot) in
      let F-path : cancel_F A m.dim paired r ≡ F_family f law m complex after new =
      family_eq _ _ (F_is f law m complex s shape r q b a v pivot) in
      let G-path : cancel_G A m.dim paired r ≡ G_family f law m complex after new =
      family_eq _ _ (G_is f law m complex s shape r q b a v pivot) in
      let H-path : cancel_H A m.dim paired r ≡ H_family f law m complex after new =
      family_eq _ _ (H_is f law m complex s shape r q b a v pivot) in
      let L-path : next_L A m.dim paired ≡ live_family f law m complex after new =
      family_eq _ _ (live_is f law m complex s shape r q b a v pivot) in
      coe 0 1 (t. Red A m.dim (unit_family f law m complex) (B_family f law m complex)
      (D-path t) (F-path t) (G-path t) (H-path t) (L-path t)) (cancel A m.dim paired r)

pub cancelling_keeps : CancellingKeeps
cancelling_keeps f m s k b a v law complex r inverse =
    let (q, e, pivot) = pivot_of f law m s r.shape k b a v inverse in
    let shape = cancelled_shape f law m s r.shape q b a v pivot.inverse in
    let before = reduces f law m complex s r.shape r in
    subst (λ (d : ℕ). IsReduction f m (cancelled f d b a v s)) (sym e)
    (is_reduction f law m complex (cancelled f (suc q) b a v s) shape
    (cancelled_reduces f law m complex s r.shape before q b a v pivot))
