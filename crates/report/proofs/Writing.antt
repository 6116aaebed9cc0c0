-- A pen writes one piece after another.
use Rattle.std.proofs.Common.{ℕ, List, ◌++◌, ◌∙◌}
use Rattle.report.specs.declared.Pen.{Pen}
use Rattle.report.specs.Pens.{Writes}
use Rattle.report.proofs.Overlays.{puts_then}

pub writes_then : {p q r : Pen} {s t : List ℕ} → Writes p q s → Writes q r t → Writes p r (s ++ t)
writes_then a b = record { same_buffer = b.same_buffer ∙ a.same_buffer; puts = puts_then a.puts b.puts }
