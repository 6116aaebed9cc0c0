-- One step of the walk through a job, and the walk's end.
use Rattle.std.proofs.Common.{◌≡◌, ℕ, zero, suc, ◌-◌, ◌<◌, ◌≤◌, false, eqb, ltb, List, [], ◌∷◌, length, Ok, Err, Result, sym, refl, ap, ◌∙◌, arith}
use Rattle.std.proofs.lemmas.Bool.{cond-false, cond-true, eqb-false, le-ltb, lt-ltb}
use Rattle.reader.specs.declared.fault.ReadFault.TheVariants.{Flawed, TooLong}
use Rattle.reader.specs.declared.record.Flaw.{Flaw}
use Rattle.reader.specs.declared.record.Record.{Record}
use Rattle.reader.specs.Records.{Split, split}
use Rattle.reader.proofs.Fronts.{rest_of, split_left}
use Rattle.reader.specs.Notes.{Notes, blank, taken}
use Rattle.reader.specs.Reading.{finished, flawed, read_from, read_job, step, then}

-- the end of a step, once the record is taken or refused, and once it is split off
abbrev ending : List ℕ → Result Notes Flaw → Result (Notes × List ℕ) Flaw
ending rest t = then t (λ next. Ok (next, rest))

abbrev going : Notes → Split → Result (Notes × List ℕ) Flaw
going k s = then s (λ front. ending front.1 (taken k front.0))

module _ (k : Notes) (bytes : List ℕ) where
  pub step_broken : (f : Flaw) → split bytes ≡ Err f → step k bytes ≡ Err f
  unfolding step
  step_broken f e = ap (going k) e

  pub step_refused : (r : Record) (rest : List ℕ) (f : Flaw) → split bytes ≡ Ok (r, rest) → taken k r ≡ Err f →
      step k bytes ≡ Err f
  unfolding step
  step_refused r rest f e t = ap (going k) e ∙ ap (ending rest) t

  pub step_taken : (r : Record) (rest : List ℕ) (next : Notes) → split bytes ≡ Ok (r, rest) → taken k r ≡ Ok next →
      step k bytes ≡ Ok (next, rest)
  unfolding step
  step_taken r rest next e t = ap (going k) e ∙ ap (ending rest) t

-- the bytes that a step leaves
abbrev left : Result (Notes × List ℕ) Flaw → List ℕ
left r = elim r [ Ok p ↦ p.1 | Err e ↦ [] ]

ending_left : (rest : List ℕ) (t : Result Notes Flaw) → length (left (ending rest t)) ≤ length rest
ending_left rest (Ok next) = omega arith
ending_left rest (Err f) = omega arith

going_left : (k : Notes) (s : Split) → length (left (going k s)) ≤ length (rest_of s)
going_left k (Ok p) = ending_left p.1 (taken k p.0)
going_left k (Err f) = omega arith

pub step_shorter : (k next : Notes) (bytes rest : List ℕ) → 0 < length bytes → step k bytes ≡ Ok (next, rest) →
    length rest < length bytes
unfolding step
step_shorter k next bytes rest some e =
    omega (arith, split_left bytes some, going_left k (split bytes), ap (λ r. length (left r)) e)

pub some_left : (n : ℕ) → false ≡ eqb n 0 → 0 < n
some_left n e = grind (arith, eqb-false n 0 (sym e))

-- a walk that goes on, that stops at a fault, and that ends
pub read_more : (n whole : ℕ) (k next : Notes) (bytes rest : List ℕ) → 0 < length bytes → length bytes ≤ n →
    step k bytes ≡ Ok (next, rest) → read_from n whole k bytes ≡ read_from (n - 1) whole next rest
unfolding read_from
read_more n whole k next [] rest some fuel e = absurd (omega arith)
read_more zero whole k next (b ∷ bytes) rest some fuel e = absurd (omega arith)
read_more (suc n) whole k next (b ∷ bytes) rest some fuel e =
    ap (λ r. then (flawed (whole - length (b ∷ bytes)) r) (λ p. read_from n whole p.0 p.1)) e
    ∙ ap (λ (m : ℕ). read_from m whole next rest) (let same : n ≡ suc n - 1 = omega arith in same)

pub read_stopped : (n whole : ℕ) (k : Notes) (bytes : List ℕ) (f : Flaw) → 0 < length bytes → length bytes ≤ n →
    step k bytes ≡ Err f → read_from n whole k bytes ≡ Err (Flawed f (whole - length bytes))
unfolding read_from
read_stopped n whole k [] f some fuel is = absurd (omega arith)
read_stopped zero whole k (b ∷ bytes) f some fuel is = absurd (omega arith)
read_stopped (suc n) whole k (b ∷ bytes) f some fuel is =
    ap (λ r. then (flawed (whole - length (b ∷ bytes)) r) (λ p. read_from n whole p.0 p.1)) is

pub read_ended : (n whole : ℕ) (k : Notes) (bytes : List ℕ) → length bytes ≡ 0 →
    read_from n whole k bytes ≡ finished whole k
unfolding read_from
read_ended n whole k [] none = refl
read_ended n whole k (b ∷ bytes) none = absurd (omega arith)

pub read_job_long : (job : List ℕ) → 16384 < length job → read_job job ≡ Err TooLong
unfolding read_job
read_job_long job long = cond-true (ltb 16384 (length job)) _ _ (lt-ltb 16384 (length job) long)

pub read_job_walk : (job : List ℕ) → length job ≤ 16384 → read_job job ≡ read_from (length job) (length job) blank job
unfolding read_job
read_job_walk job short = cond-false (ltb 16384 (length job)) _ _ (le-ltb 16384 (length job) short)
