-- How each record of a job is judged after the ones before it: by its turn, then by its values, then by its
-- place in the order of its group.
use Rattle.std.specs.Prelude.{Bool, true, cond, None, Ok, Err, Option, Result, ◌==◌, nat_lt}
use Rattle.std.specs.Result.{result_ok}
use Rattle.reader.specs.declared.order.FieldOrder.{FieldOrder}
use Rattle.reader.specs.declared.question.Question.{Question}
use Rattle.reader.specs.declared.record.Flaw.{Flaw}
use Rattle.reader.specs.declared.record.Flaw.TheVariants.{OutOfTurn, OutOfRange, NotAbove}
use Rattle.reader.specs.declared.record.Group.TheVariants as group
use Rattle.reader.specs.declared.record.Record.{Record}
use Rattle.reader.specs.declared.record.Record.TheVariants as kind
use Rattle.reader.specs.declared.turn.Progress.{Progress}
use Rattle.reader.specs.Keys.{key_of}
use Rattle.reader.specs.Named.{order_named, question_named}
use Rattle.reader.specs.Turns.{group_of, may_follow, place}
use Rattle.reader.specs.Values.{in_range}

-- whether a record stands above the one before it; the first of its group does
abbrev pub above : Progress → Record → Bool
above p r = cond (place p.group == place (group_of r)) (nat_lt p.key (key_of r)) true

-- the field that is known after a record
abbrev pub order_after : Option FieldOrder → Record → Option FieldOrder
order_after order (kind.Field b) = result_ok (order_named b)
order_after order _ = order

-- the question that is known then
abbrev pub asked_after : Option Question → Record → Option Question
asked_after asked (kind.Question form degree) = result_ok (question_named form degree)
asked_after asked _ = asked

-- where the job stands after a record
abbrev pub advanced : Progress → Record → Progress
advanced p r =
    record { group = group_of r; key = key_of r; order = order_after p.order r; asked = asked_after p.asked r }

-- before the first record
abbrev pub started : Progress
started = record { group = group.Start; key = 0; order = None; asked = None }

-- a record after the ones before it: what is wrong with it first, or where the job stands after it
abbrev pub judged : Progress → Record → Result Progress Flaw
judged p r =
    cond (may_follow p.group (group_of r))
    (cond (in_range p.order r) (cond (above p r) (Ok (advanced p r)) (Err NotAbove)) (Err OutOfRange))
    (Err OutOfTurn)
