-- How a record is judged by numbers: the order of the field is any number, and the numbers of a question any two.
--
-- The turns, the keys and the other ranges are those of a job. Before the first record the order is 0, of which no
-- coefficient is in range.
use Rattle.std.specs.Prelude.{ℕ, Bool, true, cond, ◌&&◌, Ok, Err, Result, is_ok, ◌==◌, nat_lt}
use Rattle.cell.specs.Simplices.{simplices}
use Rattle.reader.specs.declared.numbers.Progress.{Progress}
use Rattle.reader.specs.declared.record.Flaw.{Flaw}
use Rattle.reader.specs.declared.record.Flaw.TheVariants.{OutOfTurn, OutOfRange, NotAbove}
use Rattle.reader.specs.declared.record.Group.TheVariants as group
use Rattle.reader.specs.declared.record.Record.{Record}
use Rattle.reader.specs.declared.record.Record.TheVariants.{Field, Filled, Pad, Drawn, Question, First, Second}
use Rattle.reader.specs.declared.record.Term.{Term}
use Rattle.reader.specs.Keys.{key_of}
use Rattle.reader.specs.Named.{order_named, question_named}
use Rattle.reader.specs.Turns.{group_of, may_follow, place}
use Rattle.reader.specs.Values.{voxel_in_range}

-- the order that a byte says; 0 says 256
abbrev pub order_of : ℕ → ℕ
order_of b = cond (b == 0) 256 b

-- a coefficient is below the order, and not 0
abbrev pub term_in_range : ℕ → Term → Bool
term_in_range order t = nat_lt 0 t.coefficient && nat_lt t.coefficient order

-- whether the values of a record are in range, in a job over a field of the given order
abbrev pub in_range : ℕ → Record → Bool
in_range order (Field b) = is_ok (order_named b)
in_range order (Filled v) = voxel_in_range v
in_range order (Pad v) = voxel_in_range v
in_range order (Drawn s) = simplices.valid s
in_range order (Question form degree) = is_ok (question_named form degree)
in_range order (First t) = term_in_range order t
in_range order (Second t) = term_in_range order t

-- whether a record stands above the one before it; the first of its group does
abbrev pub above : Progress → Record → Bool
above p r = cond (place p.group == place (group_of r)) (nat_lt p.key (key_of r)) true

-- the order of the field after a record
abbrev pub order_after : ℕ → Record → ℕ
order_after order (Field b) = order_of b
order_after order _ = order

-- the form and the degree then
abbrev pub asked_after : ℕ × ℕ → Record → ℕ × ℕ
asked_after asked (Question form degree) = (form, degree)
asked_after asked _ = asked

-- where the job stands after a record
abbrev pub advanced : Progress → Record → Progress
advanced p r =
    record { group = group_of r; key = key_of r; order = order_after p.order r; asked = asked_after p.asked r }

-- before the first record
abbrev pub started : Progress
started = record { group = group.Start; key = 0; order = 0; asked = (0, 0) }

-- a record after the ones before it: what is wrong with it first, or where the job stands after it
abbrev pub judged : Progress → Record → Result Progress Flaw
judged p r =
    cond (may_follow p.group (group_of r))
    (cond (in_range p.order r) (cond (above p r) (Ok (advanced p r)) (Err NotAbove)) (Err OutOfRange))
    (Err OutOfTurn)
