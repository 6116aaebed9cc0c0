-- One degree more, and the end.
use Rattle.std.proofs.Common.{◌≡◌, ℕ, suc, set, take, Ok, sym, ap, ◌∙◌, arith, length-set}
use Rattle.forms.specs.Counts.{dims}
use Rattle.forms.proofs.Counting.{fill_dims_more, measured_within, take_dims}
use Rattle.forms.proofs.measure.dims_of.Goals as goal

pub loop-k-preserved : goal.loop-k-preserved
loop-k-preserved g c =
    let m = g.C.Complex.meaning c.args.c.now in let l = c.loop-k in (
      length-set l.numbers l.k c.dim.result ∙ l.invariant.0,
      fill_dims_more m l.numbers l.k c.dim.result (omega (arith, c.law.ensures.limits.top))
          c.dim.ensures l.invariant.1,
    )

pub returns-2 : goal.returns-2
returns-2 g c =
    let m = g.C.Complex.meaning c.args.c.now in let l = c.loop-k in
    let xs = set l.numbers l.k c.dim.result in let limits = c.law.ensures.limits in
    let nine = length-set l.numbers l.k c.dim.result ∙ l.invariant.0 in
    let filled = fill_dims_more m l.numbers l.k c.dim.result (omega (arith, limits.top)) c.dim.ensures l.invariant.1 in
    let is : take (suc c.top-top.result) xs ≡ dims m =
    ap (λ (n : ℕ). take (suc n) xs) c.top-top.ensures
    ∙ take_dims m xs (omega (arith, limits.top)) nine (λ d below. filled d (omega (arith, c.top-top.ensures))) in
    record { is = is; measured = ap Ok is ∙ sym (measured_within m limits) }
