-- The pieces of a report: numbers, each after a space, and how long they are.
use Rattle.std.proofs.Common.{◌≡◌, ℕ, zero, suc, ◌+◌, ◌*◌, ◌^◌, ◌<◌, ◌≤◌, List, [], ◌∷◌, ◌++◌, length, get_or, take, codes, decimal, sym, ap, ◌∙◌, arith, length-append}
use Rattle.std.proofs.lemmas.Fmt.{length-decimal-le}
use Rattle.std.proofs.lemmas.List.{append_assoc, append-nil, take_more}
use Rattle.report.specs.Lines.{line, numbers, report_text}

numbers_push : (ns : List ℕ) (n : ℕ) → numbers ns ++ 32 ∷ decimal n ≡ numbers (ns ++ n ∷ [])
numbers_push [] n = ap (λ (ds : List ℕ). 32 ∷ ds) (sym (append-nil (decimal n)))
numbers_push (m ∷ ns) n =
    ap (λ (ds : List ℕ). 32 ∷ ds)
    (append_assoc (decimal m) (numbers ns) (32 ∷ decimal n) ∙ ap (λ (ds : List ℕ). decimal m ++ ds) (numbers_push ns n))

pub numbers_more : (ns : List ℕ) (i : ℕ) → i < length ns →
    numbers (take i ns) ++ 32 ∷ decimal (get_or ns i 0) ≡ numbers (take (i + 1) ns)
numbers_more ns i less = numbers_push (take i ns) (get_or ns i 0) ∙ ap numbers (sym (take_more ns i 0 less))

-- the numbers so far and one more are no longer than all
pub numbers_within : (ns : List ℕ) (i : ℕ) → i < length ns →
    length (numbers (take i ns)) + (1 + length (decimal (get_or ns i 0))) ≤ length (numbers ns)
numbers_within [] i less = absurd (omega arith)
numbers_within (n ∷ ns) zero less = omega (arith, length-append (decimal n) (numbers ns))
numbers_within (n ∷ ns) (suc i) less =
    omega (
      arith,
      numbers_within ns i (omega arith),
      length-append (decimal n) (numbers ns),
      length-append (decimal n) (numbers (take i ns)),
    )

-- a number of the machine has at most 20 digits
pub length_numbers : (ns : List ℕ) → ((k : ℕ) → k < length ns → get_or ns k 0 < 2 ^ 64) →
    length (numbers ns) ≤ 21 * length ns
length_numbers [] fit = omega arith
length_numbers (n ∷ ns) fit =
    let first : n < 2 ^ 64 = fit 0 (omega arith) in
    omega (
      arith,
      length-append (decimal n) (numbers ns),
      length-decimal-le 20 n (omega arith) (omega arith) first,
      length_numbers ns (λ k less. fit (suc k) (omega arith)),
    )

length_line : (word ns : List ℕ) → length (line word ns) ≡ length word + length (numbers ns) + 1
length_line word ns =
    omega (arith, length-append word (numbers ns ++ 10 ∷ []), length-append (numbers ns) (10 ∷ []))

length_one : (n : ℕ) → n < 2 ^ 64 → length (numbers (n ∷ [])) ≤ 21
length_one n fits =
    omega (arith, length-append (decimal n) [], length-decimal-le 20 n (omega arith) (omega arith) fits)

-- so the place after a report is one, too
pub report_fits : (order form : ℕ) (cells : List ℕ) → order < 2 ^ 64 → form < 2 ^ 64 → length cells ≤ 9 →
    ((k : ℕ) → k < length cells → get_or cells k 0 < 2 ^ 64) → length (report_text order form cells) < 2 ^ 64
report_fits order form cells o f few fit =
    let field = line (codes "field") (order ∷ []) in let form_line = line (codes "form") (form ∷ []) in
    let last = line (codes "cells") cells in
    omega (
      arith,
      length-append field (form_line ++ last),
      length-append form_line last,
      length_line (codes "field") (order ∷ []),
      length_line (codes "form") (form ∷ []),
      length_line (codes "cells") cells,
      length_one order o,
      length_one form f,
      length_numbers cells fit,
    )
