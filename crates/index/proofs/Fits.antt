-- A cell that passes the test after the cells before it.
use Rattle.std.proofs.Common.{◌≡◌, ℕ, Bool, true, false, cond, List, Ok, Err, Result, refl}
use Rattle.cell.specs.Kind.{Kind}
use Rattle.index.specs.Test.{above_last, all_held, cell_test}
use Rattle.index.specs.declared.LeafFault.{LeafFault}
use Rattle.index.specs.declared.LeafFault.TheVariants.{OutOfRange, NotAbove, FaceMissing}

pub never : {X : Type 0} (e : LeafFault) → ◌≡◌ {A = Result (Unit {0}) LeafFault} (Err e) (Ok tt) → X
never e h = cc

passing :
    (valid above faces : Bool) (n : ℕ) →
    ◌≡◌ {A = Result (Unit {0}) LeafFault}
    (cond valid (cond above (cond faces (Ok tt) (Err (FaceMissing n))) (Err (NotAbove n))) (Err OutOfRange)) (Ok tt) →
    (valid ≡ true) × (above ≡ true) × (faces ≡ true)
passing true true true n e = (refl, refl, refl)
passing true true false n e = never (FaceMissing n) e
passing true false f n e = never (NotAbove n) e
passing false a f n e = never OutOfRange e

pub record Fits {K : Type 0} (k : Kind K) (before : List K) (c : K) : Type 0 where
  pub valid : k.valid c ≡ true
  pub above : above_last k before c ≡ true
  pub faces : all_held k before (k.faces c) ≡ true

module _ {K : Type 0} (k : Kind K) (before : List K) (n : ℕ) (c : K) where
  pub fits_from_ok : cell_test k before n c ≡ Ok tt → Fits k before c
  fits_from_ok e =
      let p = passing (k.valid c) (above_last k before c) (all_held k before (k.faces c)) n e in
      record { valid = p.0; above = p.1; faces = p.2 }

  pub cell_test_ok : Fits k before c → cell_test k before n c ≡ Ok tt
  cell_test_ok f = rw (f.valid, f.above, f.faces)
