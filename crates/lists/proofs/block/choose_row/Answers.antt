-- Two places more, the end of a row, and a row with no cube.
use Rattle.std.proofs.Common.{◌≡◌, ℕ, ◌+◌, ◌*◌, min, sym, subst, arith}
use Rattle.lists.specs.Block.{belongs}
use Rattle.lists.specs.Ranks.{block_below, row}
use Rattle.lists.specs.Working.{Holds}
use Rattle.lists.proofs.Rows.{below_none, below_one}
use Rattle.lists.proofs.block.choose_row.Goals as goal

pub loop-half-preserved : goal.loop-half-preserved
loop-half-preserved c =
    let a = c.args in let within = c.requires.within in let parity = c.in-Some.ensures.some in
    let half = c.loop-half.half in
    subst (Holds c.choose.new.list)
    (sym (below_one (belongs a.voxels.now) a.degree a.y a.z within.0 within.1 (min (2 * half) 17)
    (2 * half + c.in-Some.parity) (min (2 * (half + 1)) 17) (omega (arith, parity)) (omega (arith, parity))
    (omega arith) (omega arith) (omega (arith, parity))))
    (c.choose.ensures _ c.loop-half.invariant)

pub returns-after-loop-half : goal.returns-after-loop-half
returns-after-loop-half c =
    let a = c.args in let within = c.requires.within in let parity = c.in-Some.ensures.some in
    subst (Holds c.loop-half.list)
    (sym (below_none (belongs a.voxels.now) a.degree a.y a.z within.0 within.1 (min (2 * c.loop-half.half) 17) 17
    (omega arith) (omega arith) (λ m first last is. omega (arith, parity))))
    c.loop-half.invariant

pub returns-in_default : goal.returns-in_default
returns-in_default c =
    let a = c.args in let within = c.requires.within in
    let begin : row a.degree a.y a.z ≡ row a.degree a.y a.z + 0 = omega arith in
    subst (Holds a.list.now)
    (sym (below_none (belongs a.voxels.now) a.degree a.y a.z within.0 within.1 0 17 (omega arith) (omega arith)
    (λ m first last is. c.in_default.ensures.none m is)))
    (subst (λ (n : ℕ). Holds a.list.now (block_below (belongs a.voxels.now) n)) begin c.requires.before)
