-- What is left after the first record is shorter than the bytes that it was taken off.
use Rattle.std.proofs.Common.{ℕ, ◌<◌, ◌≤◌, Bool, true, false, cond, eqb, leb, List, [], ◌∷◌, length, get_or, drop, Ok, Err, arith, length-drop}
use Rattle.reader.specs.declared.record.Flaw.TheVariants.{CutShort}
use Rattle.reader.specs.declared.record.Record.{Record}
use Rattle.reader.specs.Records.{Kind, Split, body, body_of, kinds, split}

-- the bytes after a record
abbrev pub rest_of : Split → List ℕ
rest_of s = elim s [ Ok p ↦ p.1 | Err f ↦ [] ]

either_left : (b : Bool) (s t : Split) (n : ℕ) → length (rest_of s) ≤ n → length (rest_of t) ≤ n →
    length (rest_of (cond b s t)) ≤ n
either_left true s t n h k = h
either_left false s t n h k = k

body_of_left : (n : ℕ) (make : (ℕ → ℕ) → Record) (xs : List ℕ) → length (rest_of (body_of n make xs)) ≤ length xs
body_of_left n make xs = either_left (leb n (length xs)) (Ok (make (λ i. get_or xs i 0), drop n xs)) (Err CutShort) (length xs)
    (omega (arith, length-drop n xs)) (omega arith)

body_left : (ks : List Kind) (byte : ℕ) (xs : List ℕ) → length (rest_of (body ks byte xs)) ≤ length xs
body_left [] byte xs = omega arith
body_left (k ∷ ks) byte xs =
    either_left (eqb byte k.byte) (body_of k.size k.make xs) (body ks byte xs) (length xs)
    (body_of_left k.size k.make xs) (body_left ks byte xs)

pub split_left : (xs : List ℕ) → 0 < length xs → length (rest_of (split xs)) < length xs
split_left [] h = absurd (omega arith)
split_left (a ∷ xs) h = omega (arith, body_left kinds a xs)
