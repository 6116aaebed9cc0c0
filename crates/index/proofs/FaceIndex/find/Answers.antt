-- The three ways of a turn, and the end, by what the search knows of the cells outside the part that is left.
use Rattle.std.proofs.Common.{ℕ, ◌+◌, ◌-◌, ◌/◌, arith}
use Rattle.index.proofs.Halves.{between_upper, between_lower, rank_from_mid, finds_some, finds_none}
use Rattle.index.proofs.FaceIndex.find.Goals as goal

pub returns-then-have-want : goal.returns-then-have-want
returns-then-have-want g c =
    let k = g.K.Cell.kind in let cs = c.args.self.now.cells.now in let x = c.args.c.now in
    let l = c.loop-low in let want = c.rank-want.result in
    let mid : ℕ = l.low + (l.high - l.low) / 2 in
    finds_some k g.met.K.Cell.cell cs x want c.rank-want.ensures mid
    (rank_from_mid k cs x want l.low l.high mid c.rank-have.result c.index-self-mid.result l.invariant
    (omega arith) (omega arith) c.rank-have.ensures c.if-have-want.true)

pub loop-low-preserved-then-have-want-2 : goal.loop-low-preserved-then-have-want-2
loop-low-preserved-then-have-want-2 g c =
    let l = c.loop-low in
    let mid : ℕ = l.low + (l.high - l.low) / 2 in
    between_upper g.K.Cell.kind c.args.self.now.cells.now c.args.c.now c.rank-want.result l.low
    l.high mid c.rank-have.result c.index-self-mid.result l.invariant
    (omega arith) (omega arith) c.rank-have.ensures c.if-have-want-2.true

pub loop-low-preserved : goal.loop-low-preserved
loop-low-preserved g c =
    let l = c.loop-low in
    let mid : ℕ = l.low + (l.high - l.low) / 2 in
    between_lower g.K.Cell.kind c.args.self.now.cells.now c.args.c.now c.rank-want.result l.low
    l.high mid c.rank-have.result c.index-self-mid.result l.invariant
    (omega arith) (omega arith) c.rank-have.ensures (omega arith)

pub returns : goal.returns
returns g c =
    let l = c.loop-low in
    finds_none g.K.Cell.kind g.met.K.Cell.cell c.args.self.now.cells.now c.args.c.now
    c.rank-want.result c.rank-want.ensures l.low l.high l.invariant (omega arith)
