-- What the test of an inclusion answers, and what its answer says.
use Rattle.std.proofs.Common.{◌≡◌, ℕ, zero, suc, ◌+◌, ◌≤◌, sym, true, false, ◌⊎◌, List, [], ◌∷◌, length, take, Some, Ok, Err, Result, refl, ap, ◌∙◌, subst, inl, inr, arith}
use Rattle.std.specs.List.{slice_get}
use Rattle.std.proofs.ByRecursion.{All-push}
use Rattle.std.proofs.lemmas.List.{take_more, take_all}
use Rattle.std.proofs.lemmas.Option.{slice_get_within, get_or_from_slice_get}
use Rattle.std.proofs.lemmas.Bool.{cases_Bool, cond-true, cond-false}
use Rattle.cell.specs.Kind.{Kind}
use Rattle.index.specs.Closed.{held}
use Rattle.complex.specs.declared.fault.PileFault.{PileFault}
use Rattle.complex.specs.declared.fault.PileFault.TheVariants.{NotIncluded}
use Rattle.maps.specs.Inclusion.{Included}
use Rattle.maps.specs.InclusionTest.{included_from, inclusion_test, FirstMissing, TellsInclusion}

module _ {K : Type 0} (k : Kind K) (cs : List K) where
  included_or_missing : (bs : List K) → Included k bs cs ⊎ ((n : ℕ) × FirstMissing k bs cs n)
  included_or_missing [] = inl tt
  included_or_missing (b ∷ bs) =
      elim (cases_Bool (held k (k.rank b) cs)) [
        | inl there ↦
            elim (included_or_missing bs) [
              | inl all ↦ inl (there, all)
              | inr (n, first) ↦ inr (suc n, ((there, first.0), first.1))
            ]
        | inr gone ↦ inr (0, (tt, gone))
      ]

  from_included : (bs : List K) (n : ℕ) → Included k bs cs → included_from k n cs bs ≡ Ok tt
  from_included [] n all = refl
  from_included (b ∷ bs) n all =
      cond-true (held k (k.rank b) cs) _ _ all.0 ∙ from_included bs (n + 1) all.1

  from_missing :
      (bs : List K) (i n : ℕ) → FirstMissing k bs cs i → included_from k n cs bs ≡ Err (NotIncluded (n + i))
  from_missing [] i n first = absurd first.1
  from_missing (b ∷ bs) zero n first =
      let here : n ≡ n + 0 = omega arith in
      cond-false (held k (k.rank b) cs) _ _ first.1 ∙ ap (λ (m : ℕ). Err (NotIncluded m)) here
  from_missing (b ∷ bs) (suc i) n first =
      let further : n + 1 + i ≡ n + suc i = omega arith in
      cond-true (held k (k.rank b) cs) _ _ first.0.0 ∙ from_missing bs i (n + 1) (first.0.1, first.1)
      ∙ ap (λ (m : ℕ). Err (NotIncluded m)) further

  pub test_included : (bs : List K) → Included k bs cs → inclusion_test k bs cs ≡ Ok tt
  test_included bs all = from_included bs 0 all

  pub test_missing : (bs : List K) (n : ℕ) → FirstMissing k bs cs n → inclusion_test k bs cs ≡ Err (NotIncluded n)
  test_missing bs n first =
      let same : 0 + n ≡ n = omega arith in from_missing bs n 0 first ∙ ap (λ (m : ℕ). Err (NotIncluded m)) same

  module _ (bs : List K) (r : Result (Unit {0}) PileFault) (is : r ≡ inclusion_test k bs cs) where
    accepted_included : r ≡ Ok tt → Included k bs cs
    accepted_included e =
        elim (included_or_missing bs) [
          | inl all ↦ all
          | inr (n, first) ↦ (let m = test_missing bs n first in cc)
        ]

    refused_missing : (n : ℕ) → r ≡ Err (NotIncluded n) → FirstMissing k bs cs n
    refused_missing n e =
        elim (included_or_missing bs) [
          | inl all ↦ (let a = test_included bs all in cc)
          | inr (m, first) ↦
              (let t = test_missing bs m first in let same : m ≡ n = cc in
              subst (λ (i : ℕ). FirstMissing k bs cs i) same first)
        ]

    pub tells_inclusion : TellsInclusion k bs cs r
    tells_inclusion = record {
      accepted = (accepted_included, λ all. is ∙ test_included bs all);
      refused = λ n. (refused_missing n, λ first. is ∙ test_missing bs n first);
    }

  -- the cells before the number n stand in the larger list
  module _ (bs : List K) (n : ℕ) (before : Included k (take n bs) cs) where
    -- and so does the cell b with that number
    pub included_more :
        (b : K) → slice_get bs n ≡ Some b → held k (k.rank b) cs ≡ true → Included k (take (n + 1) bs) cs
    included_more b at there =
        let w = slice_get_within bs n b at in
        rw (take_more bs n b w, get_or_from_slice_get bs n b b at)
        (All-push (λ c. held k (k.rank c) cs ≡ true) (take n bs) b before there)

    -- and the cell b with that number does not
    module _ (b : K) (at : slice_get bs n ≡ Some b) (gone : held k (k.rank b) cs ≡ false) where
      first_missing : FirstMissing k bs cs n
      first_missing = (before, rw at gone)

      pub answer_missing : Err (NotIncluded n) ≡ inclusion_test k bs cs
      answer_missing = sym (test_missing bs n first_missing)

      pub tells_missing : TellsInclusion k bs cs (Err (NotIncluded n))
      tells_missing = tells_inclusion bs (Err (NotIncluded n)) answer_missing

    -- and there is none after them
    module _ (end : length bs ≤ n) where
      pub answer_included : Ok tt ≡ inclusion_test k bs cs
      answer_included = sym (test_included bs (subst (λ xs. Included k xs cs) (take_all n bs end) before))

      pub tells_included : TellsInclusion k bs cs (Ok tt)
      tells_included = tells_inclusion bs (Ok tt) answer_included

pub ruleset answers = (included_more, answer_missing, tells_missing, answer_included, tells_included)
