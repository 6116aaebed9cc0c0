-- A fault of the test of one cell tells the truth of the list.
use Rattle.std.proofs.Common.{◌≡◌, ℕ, Bool, true, false, cond, List, [], ◌∷◌, ◌++◌, take, Some, Ok, Err, Option, Result, sym, refl, subst, MatchOption}
use Rattle.std.specs.List.{slice_get}
use Rattle.std.proofs.lemmas.Bool.{both_ways}
use Rattle.cell.specs.Kind.{Kind}
use Rattle.index.specs.Closed.{Ascending, HasFaces, Closed}
use Rattle.index.specs.Test.{above_last, all_held, cell_test}
use Rattle.index.specs.Verdict.{FirstAt, Tells}
use Rattle.index.specs.declared.LeafFault.{LeafFault}
use Rattle.index.specs.declared.LeafFault.TheVariants.{OutOfRange, NotAbove, FaceMissing}
use Rattle.index.proofs.Ascents.{ascending_push, above_last_middle}
use Rattle.index.proofs.Held.{all_held_from_all}
use Rattle.index.proofs.Fits.{never}

module _ {K : Type 0} (k : Kind K) (cs : List K) (n : ℕ) (c : K) (before : Closed k (take n cs))
    (at : slice_get cs n ≡ Some c) where
  first_at : (P : K → Type 0) → P c → FirstAt k n cs P
  first_at P h = (before, subst (λ (o : Option K). MatchOption o ⊥ P) (sym at) h)

  not_above : above_last k (take n cs) c ≡ false → Ascending k (take n cs ++ c ∷ []) → ⊥
  not_above h asc = both_ways (above_last k (take n cs) c) h (above_last_middle k (take n cs) [] c asc)

  face_missing : all_held k (take n cs) (k.faces c) ≡ false → HasFaces k (take n cs) c → ⊥
  face_missing h has =
      both_ways (all_held k (take n cs) (k.faces c)) h (all_held_from_all k (take n cs) (k.faces c) has)

  -- by the three tests of a cell
  telling :
      (v a f : Bool) → k.valid c ≡ v → above_last k (take n cs) c ≡ a → all_held k (take n cs) (k.faces c) ≡ f →
      (e : LeafFault) →
      ◌≡◌ {A = Result (Unit {0}) LeafFault} (Err e)
      (cond v (cond a (cond f (Ok tt) (Err (FaceMissing n))) (Err (NotAbove n))) (Err OutOfRange)) →
      Tells k cs e
  telling false a f hv ha hf e h =
      let is : OutOfRange ≡ e = cc in
      subst (Tells k cs) is (n, first_at (λ d. k.valid d ≡ false) hv)
  telling true false f hv ha hf e h =
      let is : NotAbove n ≡ e = cc in
      subst (Tells k cs) is
      (first_at (λ d. (k.valid d ≡ true) × (Ascending k (take n cs ++ d ∷ []) → ⊥)) (hv, not_above ha))
  telling true true false hv ha hf e h =
      let is : FaceMissing n ≡ e = cc in
      subst (Tells k cs) is
      (first_at
      (λ d. (k.valid d ≡ true) × Ascending k (take n cs ++ d ∷ []) × (HasFaces k (take n cs) d → ⊥))
      (hv, ascending_push k (take n cs) c before.ascending ha, face_missing hf))
  telling true true true hv ha hf e h = never e h

  pub tells_from_err : (e : LeafFault) → Err e ≡ cell_test k (take n cs) n c → Tells k cs e
  tells_from_err =
      telling (k.valid c) (above_last k (take n cs) c) (all_held k (take n cs) (k.faces c)) refl refl refl
