-- The turns of the test of a list: one cell more, the cell that does not pass, the end, and the list that is too long.
use Rattle.std.proofs.Common.{◌≡◌, ℕ, ◌+◌, ◌<◌, ◌≤◌, List, [], ◌∷◌, ◌++◌, length, get_or, take, drop, Some, Ok, Err, Result, sym, refl, ap, ◌∙◌, subst, arith}
use Rattle.std.proofs.lemmas.List.{at_drop_more, drop_more, take_more, take-append-drop, length-take-le}
use Rattle.std.proofs.lemmas.Option.{slice_get-get_or}
use Rattle.std.proofs.lemmas.Bool.{cond_above}
use Rattle.cell.specs.Kind.{Kind, IsKind}
use Rattle.index.specs.Closed.{Closed}
use Rattle.index.specs.Test.{and_then, cell_test, cells_test, list_test}
use Rattle.index.specs.Verdict.{Verdict}
use Rattle.index.specs.declared.LeafFault.{LeafFault}
use Rattle.index.specs.declared.LeafFault.TheVariants.{TooMany}
use Rattle.index.proofs.Fits.{fits_from_ok, cell_test_ok, never}
use Rattle.index.proofs.Closing.{closed_push, fits_middle}
use Rattle.index.proofs.Telling.{tells_from_err}

-- the cells before the number n have passed, and the others decide
pub record Passed {K : Type 0} (k : Kind K) (cs : List K) (n : ℕ) : Type 0 where
  pub closed : Closed k (take n cs)
  pub rest : cells_test k (take n cs) n (drop n cs) ≡ cells_test k [] 0 cs

-- r is the answer of the test, and says of the list what it should
pub record Answer {K : Type 0} (k : Kind K) (cs : List K) (r : Result (Unit {0}) LeafFault) : Type 0 where
  pub is : r ≡ list_test k cs
  pub closed : Verdict k cs r

module _ {K : Type 0} (k : Kind K) (law : IsKind k) (cs : List K) where
  pub passed_none : Passed k cs 0
  passed_none = record { closed = record { few = omega arith; valid = tt; ascending = tt; faces = tt }; rest = refl }

  module _ (few : length cs ≤ 1024) (n : ℕ) (p : Passed k cs n) where
    list_test_is : (r : Result (Unit {0}) LeafFault) → r ≡ cells_test k [] 0 cs → r ≡ list_test k cs
    list_test_is r e = cond_above 1024 (length cs) (Err TooMany) (cells_test k [] 0 cs) r few e

    module _ (c : K) (w : n < length cs) (read : c ≡ get_or cs n c) where
      take_push : take (n + 1) cs ≡ take n cs ++ c ∷ []
      take_push = take_more cs n c w ∙ ap (λ x. take n cs ++ x ∷ []) (sym read)

      split : cs ≡ take n cs ++ c ∷ drop (n + 1) cs
      split =
          sym (take-append-drop n cs) ∙ ap (λ x. take n cs ++ x) (drop_more cs n c w)
          ∙ ap (λ x. take n cs ++ x ∷ drop (n + 1) cs) (sym read)

      cells_test_drop :
          and_then (cell_test k (take n cs) n c) (cells_test k (take (n + 1) cs) (n + 1) (drop (n + 1) cs))
          ≡ cells_test k [] 0 cs
      cells_test_drop =
          rw take_push
          (ap (λ x. cells_test k (take n cs) n (x ∷ drop (n + 1) cs)) read
          ∙ sym (at_drop_more (cells_test k (take n cs) n) cs n c w) ∙ p.rest)

      pub passed_more : Ok tt ≡ cell_test k (take n cs) n c → Passed k cs (n + 1)
      passed_more e =
          let short : length (take n cs) < 1024 = omega (arith, length-take-le n cs (omega arith)) in
          let fits = fits_from_ok k (take n cs) n c (sym e) in
          record {
            closed = rw take_push (closed_push k (take n cs) c short p.closed fits);
            rest = rw (sym e) at cells_test_drop;
          }

      -- a closed list has no cell that does not pass
      not_closed : (e : LeafFault) → Err e ≡ cell_test k (take n cs) n c → Closed k cs → ⊥
      not_closed e h closed =
          let fits = fits_middle k law (take n cs) (drop (n + 1) cs) c (subst (Closed k) split closed) in
          never e (h ∙ cell_test_ok k (take n cs) n c fits)

      pub answer_stop : (e : LeafFault) → Err e ≡ cell_test k (take n cs) n c → Answer k cs (Err e)
      answer_stop e h = record {
        is = list_test_is (Err e) (rw (sym h) at cells_test_drop);
        closed = record {
          accepts = λ closed. absurd (not_closed e h closed);
          tells = tells_from_err k cs n c p.closed (slice_get-get_or cs n c w ∙ ap Some (sym read)) e h;
        };
      }
