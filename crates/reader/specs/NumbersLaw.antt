-- The law of the judge by numbers: where its numbers are those of a field and a question, it says of each record what is
-- said by the field and the question.
use Rattle.std.specs.Prelude.{ℕ, Some, None, Ok, Err, Option, Result}
use Rattle.reader.specs.declared.numbers.Progress.{Progress}
use Rattle.reader.specs.declared.order.FieldOrder.{FieldOrder}
use Rattle.reader.specs.declared.question.Question.{Question}
use Rattle.reader.specs.declared.record.Flaw.{Flaw}
use Rattle.reader.specs.declared.turn.Progress as typed
use Rattle.reader.specs.Named.{elements, form_number}

-- the order of the field that is known, if one is
abbrev pub order_number : Option FieldOrder → ℕ
order_number (Some order) = elements order
order_number None = 0

-- the form and the degree of the question that is known, if one is
abbrev pub asked_numbers : Option Question → ℕ × ℕ
asked_numbers (Some question) = (form_number question.form, question.degree)
asked_numbers None = (0, 0)

-- the numbers of where a job stands
abbrev pub numbers_of : typed.Progress → Progress
numbers_of p = record { group = p.group; key = p.key; order = order_number p.order; asked = asked_numbers p.asked }

-- the same of a verdict
abbrev pub in_numbers : Result typed.Progress Flaw → Result Progress Flaw
in_numbers (Ok p) = Ok (numbers_of p)
in_numbers (Err f) = Err f
