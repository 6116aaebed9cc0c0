-- The numbers of the degrees before k stand in their places.
use Rattle.std.proofs.Common.{◌≡◌, ℕ, ◌<◌, length, get_or}
use Rattle.forms.proofs.measure.dims_of.Given as goal

abbrev pub invariant-loop-k : goal.invariant-loop-k
invariant-loop-k g l =
    (length l.numbers ≡ 9) × ((d : ℕ) → d < l.k → get_or l.numbers d 0 ≡ (g.C.Complex.meaning l.c).dim d)
