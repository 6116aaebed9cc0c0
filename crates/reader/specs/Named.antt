-- What the bytes of a job name: a field by its order, and a question by the number of a form and a degree.
use Rattle.std.specs.Prelude.{ℕ, cond, Some, None, Ok, Err, Option, Result, ◌==◌, nat_le}
use Rattle.reader.specs.declared.order.FieldOrder.{FieldOrder}
use Rattle.reader.specs.declared.order.FieldOrder.TheVariants.{Two, Three, Five, Seven, TwoFiftyOne, TwoFiftySix}
use Rattle.reader.specs.declared.question.Form.{Form}
use Rattle.reader.specs.declared.question.Form.TheVariants.{Block, PadCone, PadConeDual}
use Rattle.reader.specs.declared.question.Form.TheVariants.{Drawing, DrawingTensorBlock, BlockCone}
use Rattle.reader.specs.declared.question.Question.{Question}
use Rattle.reader.specs.declared.record.Flaw.{Flaw}
use Rattle.reader.specs.declared.record.Flaw.TheVariants.{OutOfRange}

-- how many elements the field has
abbrev pub elements : FieldOrder → ℕ
elements Two = 2
elements Three = 3
elements Five = 5
elements Seven = 7
elements TwoFiftyOne = 251
elements TwoFiftySix = 256

-- the field that a byte names: by its order, and that of 256 by 0
abbrev pub order_named : ℕ → Result FieldOrder Flaw
order_named b =
    cond (b == 2) (Ok Two) (cond (b == 3) (Ok Three) (cond (b == 5) (Ok Five) (cond (b == 7) (Ok Seven)
    (cond (b == 251) (Ok TwoFiftyOne) (cond (b == 0) (Ok TwoFiftySix) (Err OutOfRange))))))

-- the number of a form
abbrev pub form_number : Form → ℕ
form_number Block = 1
form_number PadCone = 2
form_number PadConeDual = 3
form_number Drawing = 4
form_number DrawingTensorBlock = 5
form_number BlockCone = 6

-- the form that a number names
abbrev pub form_named : ℕ → Result Form Flaw
form_named n =
    cond (n == 1) (Ok Block) (cond (n == 2) (Ok PadCone) (cond (n == 3) (Ok PadConeDual) (cond (n == 4) (Ok Drawing)
    (cond (n == 5) (Ok DrawingTensorBlock) (cond (n == 6) (Ok BlockCone) (Err OutOfRange))))))

-- the top degree of the complex that a form names: the block, the cone of the pads in the block, the dual of that
-- cone, the drawing, the drawing tensor the block, the cone of the scalar 1 on the block
abbrev pub top : Form → ℕ
top Block = 3
top PadCone = 4
top PadConeDual = 4
top Drawing = 3
top DrawingTensorBlock = 6
top BlockCone = 4

-- the top of the form with a number, if there is such a form
abbrev pub top_of : ℕ → Option ℕ
top_of n = elim (form_named n) [ Ok form ↦ Some (top form) | Err f ↦ None ]

-- a question whose degree is at most the top of its form
abbrev pub asked_of : Form → ℕ → Result Question Flaw
asked_of form degree = cond (nat_le degree (top form)) (Ok (record { form = form; degree = degree })) (Err OutOfRange)

-- the question that the number of a form and a degree ask
abbrev pub question_named : ℕ → ℕ → Result Question Flaw
question_named n degree = elim (form_named n) [ Ok form ↦ asked_of form degree | Err f ↦ Err f ]
