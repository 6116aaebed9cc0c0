use Rattle.std.proofs.Common.{◌≡◌, ◌-◌, ◌≤◌, length, get_or, take, drop, Ok, sym, refl, ap, ◌∙◌, rules}
use Rattle.cell.specs.declared.simplex.Simplex.TheVariants.{Vertex, Edge}
use Rattle.reader.specs.declared.record.Record.TheVariants.{Field, Filled, Drawn, Question, First}
use Rattle.reader.specs.declared.record.Term.{Term}
use Rattle.reader.specs.Records.{term_of, voxel}
use Rattle.reader.proofs.Bodies.{split_taken}
use Rattle.reader.proofs.split.next_record.Goals as goal

pub returns-in-70 : goal.returns-in-70
returns-in-70 c =
    let xs = c.args.job.now in
    let long : 2 ≤ length xs = search rules in
    let kind : get_or xs 0 0 ≡ 0x46 = search rules in
    split_taken 0x46 1 (λ b. Field (b 0)) (λ bytes. refl) xs long kind

pub returns-in-86 : goal.returns-in-86
returns-in-86 c =
    let xs = c.args.job.now in
    let long : 4 ≤ length xs = search rules in
    let kind : get_or xs 0 0 ≡ 0x56 = search rules in
    split_taken 0x56 3 (λ b. Filled (voxel (b 0) (b 1) (b 2))) (λ bytes. refl) xs long kind

pub returns-in-97 : goal.returns-in-97
returns-in-97 c =
    let xs = c.args.job.now in
    let long : 2 ≤ length xs = search rules in
    let kind : get_or xs 0 0 ≡ 0x61 = search rules in
    split_taken 0x61 1 (λ b. Drawn (Vertex (b 0))) (λ bytes. refl) xs long kind

pub returns-in-98 : goal.returns-in-98
returns-in-98 c =
    let xs = c.args.job.now in
    let long : 3 ≤ length xs = search rules in
    let kind : get_or xs 0 0 ≡ 0x62 = search rules in
    split_taken 0x62 2 (λ b. Drawn (Edge (b 0) (b 1))) (λ bytes. refl) xs long kind

pub returns-in-81 : goal.returns-in-81
returns-in-81 c =
    let xs = c.args.job.now in
    let long : 3 ≤ length xs = search rules in
    let kind : get_or xs 0 0 ≡ 0x51 = search rules in
    split_taken 0x51 2 (λ b. Question (b 0) (b 1)) (λ bytes. refl) xs long kind

pub returns-in-90 : goal.returns-in-90
returns-in-90 c =
    let xs = c.args.job.now in
    let long : 4 ≤ length xs = search rules in
    let kind : get_or xs 0 0 ≡ 0x5a = search rules in
    split_taken 0x5a 3 (λ b. First (term_of (b 0) (b 1) (b 2))) (λ bytes. refl) xs long kind
    ∙ ap (λ (t : Term). Ok (First t, take (length xs - 4) (drop 4 xs))) (sym c.term.ensures)
