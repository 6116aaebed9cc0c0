-- A byte names the field with as many elements as the byte says, where 0 says 256; a number names the form that has it,
-- and with a degree the question of that form and that degree.
use Rattle.std.proofs.Common.{◌≡◌, ℕ, Bool, true, false, cond, eqb, leb, Ok, Err, Result, sym, refl, ap, arith}
use Rattle.std.proofs.lemmas.Bool.{eqb-true}
use Rattle.reader.specs.declared.order.FieldOrder.{FieldOrder}
use Rattle.reader.specs.declared.order.FieldOrder.TheVariants.{Two, Three, Five, Seven, TwoFiftyOne, TwoFiftySix}
use Rattle.reader.specs.declared.question.Form.{Form}
use Rattle.reader.specs.declared.question.Form.TheVariants.{Block, PadCone, PadConeDual}
use Rattle.reader.specs.declared.question.Form.TheVariants.{Drawing, DrawingTensorBlock, BlockCone}
use Rattle.reader.specs.declared.question.Question.{Question}
use Rattle.reader.specs.declared.record.Flaw.{Flaw}
use Rattle.reader.specs.declared.record.Flaw.TheVariants.{OutOfRange}
use Rattle.reader.specs.Named.{asked_of, elements, form_named, form_number, order_named, question_named, top}

-- what is named by a row of a table, or by the rows after it
row : {X : Type 0} (P : X → Type 0) (t : Bool) (x : X) (rest : Result X Flaw) → (t ≡ true → P x) →
    ((y : X) → rest ≡ Ok y → P y) → (y : X) → cond t (Ok x) rest ≡ Ok y → P y
row P true x rest here on y e = let same : x ≡ y = cc in rw same at (here refl)
row P false x rest here on y e = on y e

no_row : {X : Type 0} (P : X → Type 0) (f : Flaw) (y : X) → Err f ≡ Ok y → P y
no_row P f y e = absurd (let z : ◌≡◌ {A = ℕ} 0 1 = cc in omega arith)

module _ (b : ℕ) where
  abbrev Says : FieldOrder → Type 0
  Says order = elements order ≡ cond (eqb b 0) 256 b

  pub elements_named : (order : FieldOrder) → order_named b ≡ Ok order → Says order
  elements_named =
      row Says (eqb b 2) Two _ (λ e. rw (eqb-true b 2 e) refl)
      (row Says (eqb b 3) Three _ (λ e. rw (eqb-true b 3 e) refl)
      (row Says (eqb b 5) Five _ (λ e. rw (eqb-true b 5 e) refl)
      (row Says (eqb b 7) Seven _ (λ e. rw (eqb-true b 7 e) refl)
      (row Says (eqb b 251) TwoFiftyOne _ (λ e. rw (eqb-true b 251 e) refl)
      (row Says (eqb b 0) TwoFiftySix _ (λ e. rw (eqb-true b 0 e) refl) (no_row Says OutOfRange))))))

module _ (n : ℕ) where
  abbrev Has : Form → Type 0
  Has form = form_number form ≡ n

  pub number_named : (form : Form) → form_named n ≡ Ok form → Has form
  number_named =
      row Has (eqb n 1) Block _ (λ e. rw (eqb-true n 1 e) refl)
      (row Has (eqb n 2) PadCone _ (λ e. rw (eqb-true n 2 e) refl)
      (row Has (eqb n 3) PadConeDual _ (λ e. rw (eqb-true n 3 e) refl)
      (row Has (eqb n 4) Drawing _ (λ e. rw (eqb-true n 4 e) refl)
      (row Has (eqb n 5) DrawingTensorBlock _ (λ e. rw (eqb-true n 5 e) refl)
      (row Has (eqb n 6) BlockCone _ (λ e. rw (eqb-true n 6 e) refl) (no_row Has OutOfRange))))))

module _ (n degree : ℕ) where
  abbrev Asks : Question → Type 0
  Asks question = ◌≡◌ {A = ℕ × ℕ} (n, degree) (form_number question.form, question.degree)

  asks : (named : Result Form Flaw) → form_named n ≡ named → (question : Question) →
      ◌≡◌ {A = Result Question Flaw} (elim named [ Ok form ↦ asked_of form degree | Err f ↦ Err f ]) (Ok question) →
      Asks question
  asks (Ok form) is =
      row Asks (leb degree (top form)) (record { form = form; degree = degree }) _
      (λ e. ap (λ (m : ℕ). (m, degree)) (sym (number_named n form is))) (no_row Asks OutOfRange)
  asks (Err f) is = no_row Asks f

  pub numbers_asked : (question : Question) → question_named n degree ≡ Ok question → Asks question
  numbers_asked = asks (form_named n) refl
