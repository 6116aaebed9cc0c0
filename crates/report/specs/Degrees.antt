-- Numbers by degree: those of the degrees 0 to a top, of which at most nine are kept.
use Rattle.std.specs.Prelude.{ℕ, suc, List, take}
use Rattle.report.specs.declared.ByDegree.{ByDegree}

abbrev pub listed : ByDegree → List ℕ
listed n = take (suc n.top) n.numbers
