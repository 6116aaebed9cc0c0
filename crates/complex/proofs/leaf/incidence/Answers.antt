-- The faces by their numbers, and the first of them that is the cell.
use Rattle.std.proofs.Common.{rules, tests, arith}
use Rattle.std.specs.List.{slice_get}
use Rattle.std.proofs.lemmas.Iterator.{YieldsList-from_range}
use Rattle.std.proofs.lemmas.Iterator.Consumers.{YieldsList-from_filter_map}
use Rattle.std.proofs.lemmas.Iterator.Search.{find_from_yields_List}
use Rattle.complex.proofs.leaf.Steps.{is_cell, incidence_found}
use Rattle.complex.proofs.leaf.incidence.Goals as goal

pub returns : goal.returns
returns g c =
    let f = g.F.Field.codes in let k = g.K.Cell.kind in let x = c.args.g.now in
    let fs = k.faces c.args.c.now in let n = c.face_count.result in
    let found =
    find_from_yields_List (is_cell f k x) _ _ c.find.result c.find.ensures.ran
    (YieldsList-from_filter_map _ (slice_get fs) (YieldsList-from_range 0 n n (cc) (omega arith))
    c.filter_map.ensures.closure (λ i r q h. search (rules, tests)))
    (λ y b q h. search (rules, tests))
    in
    incidence_found f k x fs n c.map_or.result c.find.result c.face_count.ensures found (search rules)
