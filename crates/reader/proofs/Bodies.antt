-- A body that is long enough is taken from the front of the bytes; where none is, the byte of kind says what is wrong.
use Rattle.std.proofs.Common.{◌≡◌, ℕ, suc, ◌-◌, ◌<◌, ◌≤◌, Bool, true, false, cond, eqb, leb, List, [], ◌∷◌, length, get_or, take, drop, Ok, Err, sym, refl, ap, ◌∙◌, arith}
use Rattle.std.specs.List.{AllByRecursion}
use Rattle.std.proofs.lemmas.List.{take_rest}
use Rattle.std.proofs.lemmas.Bool.{cond-false, cond-true, eqb-true, le-leb, lt-leb}
use Rattle.reader.specs.declared.record.Flaw.{Flaw}
use Rattle.reader.specs.declared.record.Flaw.TheVariants.{CutShort}
use Rattle.reader.specs.declared.record.Record.{Record}
use Rattle.reader.specs.Records.{Kind, Split, body, body_of, kinds, split}
use Rattle.reader.specs.Steps.{front_flaw}

module _ (n : ℕ) (make : (ℕ → ℕ) → Record) (xs : List ℕ) where
  pub body_taken : n ≤ length xs → body_of n make xs ≡ Ok (make (λ i. get_or xs i 0), drop n xs)
  body_taken h = cond-true (leb n (length xs)) _ _ (le-leb n (length xs) h)

  pub body_short : length xs < n → body_of n make xs ≡ Err CutShort
  body_short h = cond-false (leb n (length xs)) _ _ (lt-leb n (length xs) h)

-- a record of a kind whose body is there; the rest is as a slice pattern gives it
pub split_taken :
    (kind n : ℕ) (make : (ℕ → ℕ) → Record) → ((bytes : List ℕ) → body kinds kind bytes ≡ body_of n make bytes) →
    (xs : List ℕ) → suc n ≤ length xs → get_or xs 0 0 ≡ kind →
    split xs ≡ Ok (make (λ i. get_or xs (suc i) 0), take (length xs - suc n) (drop (suc n) xs))
split_taken kind n make is [] h k = absurd (omega arith)
split_taken kind n make is (a ∷ xs) h k =
    ap (λ (m : ℕ). body kinds m xs) k ∙ is xs ∙ body_taken n make xs (omega arith)
    ∙ ap (λ (ys : List ℕ). Ok (make (λ i. get_or xs i 0), ys)) (sym (take_rest (a ∷ xs) (suc n)))

here_or_on : (b : Bool) (s t : Split) (e : Flaw) → (b ≡ true → s ≡ Err CutShort) → t ≡ Err e →
    cond b s t ≡ Err (cond b CutShort e)
here_or_on true s t e here on = here refl
here_or_on false s t e here on = on

-- the bytes, with the byte of kind so many, are no longer than the body of that kind
abbrev pub Shorter : List Kind → ℕ → ℕ → Type 0
Shorter ks byte size = AllByRecursion (λ k. byte ≡ k.byte → size ≤ k.size) ks

body_fails : (ks : List Kind) (byte : ℕ) (bytes : List ℕ) → Shorter ks byte (suc (length bytes)) →
    body ks byte bytes ≡ Err (front_flaw ks byte)
body_fails [] byte bytes h = refl
body_fails (k ∷ ks) byte bytes h =
    here_or_on (eqb byte k.byte) (body_of k.size k.make bytes) (body ks byte bytes) (front_flaw ks byte)
    (λ e. body_short k.size k.make bytes (h.0 (eqb-true byte k.byte e))) (body_fails ks byte bytes h.1)

pub split_short : (xs : List ℕ) → 1 ≤ length xs → Shorter kinds (get_or xs 0 0) (length xs) →
    split xs ≡ Err (front_flaw kinds (get_or xs 0 0))
split_short [] h s = absurd (omega arith)
split_short (a ∷ xs) h s = body_fails kinds a xs s
