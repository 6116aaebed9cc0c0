-- Where both pairs are there, the entry goes by them.
use Rattle.std.proofs.Common.{arith}
use Rattle.linear.proofs.tensor.Entries.{tensor_entry_between}
use Rattle.tensor.proofs.TensorComplex.entry.Goals as goal

pub returns-in-Some-Some : goal.returns-in-Some-Some
returns-in-Some-Some g c =
    let s = c.args.self.now in let both = c.in-Some-Some in
    let is = tensor_entry_between g.C.F.Field.codes (g.C.Complex.meaning s.left) (g.D.Complex.meaning s.right)
    c.args.k c.args.i c.args.j (omega arith) in
    rw (is, ← c.pair_at.ensures, ← c.pair_at-2.ensures, both.is-0, both.is-1) c.entry_at.ensures
