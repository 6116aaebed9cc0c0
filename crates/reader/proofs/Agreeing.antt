-- A record is judged by the numbers of a field and a question as by the field and the question.
use Rattle.std.proofs.Common.{◌≡◌, ℕ, Bool, true, false, cond, ◌&&◌, ltb, Some, None, Option, Ok, Err, Result, sym, refl, ap, ◌∙◌, arith}
use Rattle.std.specs.Prelude.{is_ok}
use Rattle.std.specs.Result.{result_ok}
use Rattle.std.proofs.lemmas.Bool.{false≢true, le-ltb}
use Rattle.reader.specs.declared.numbers.Progress.{Progress}
use Rattle.reader.specs.declared.order.FieldOrder.{FieldOrder}
use Rattle.reader.specs.declared.question.Question as question
use Rattle.reader.specs.declared.record.Flaw.{Flaw}
use Rattle.reader.specs.declared.record.Flaw.TheVariants.{OutOfTurn, OutOfRange, NotAbove}
use Rattle.reader.specs.declared.record.Record.{Record}
use Rattle.reader.specs.declared.record.Record.TheVariants.{Field, Filled, Pad, Drawn, Question, First, Second}
use Rattle.reader.specs.declared.record.Term.{Term}
use Rattle.reader.specs.declared.turn.Progress as typed
use Rattle.reader.specs.Judging as judging
use Rattle.reader.specs.Named.{order_named, question_named}
use Rattle.reader.specs.Numbers.{above, advanced, in_range, judged, order_of, term_in_range}
use Rattle.reader.specs.NumbersLaw.{asked_numbers, in_numbers, numbers_of, order_number}
use Rattle.reader.specs.Turns.{group_of, may_follow}
use Rattle.reader.specs.Values as values
use Rattle.reader.proofs.Naming.{elements_named, numbers_asked}

none_below : (b : Bool) (n : ℕ) → (b && ltb n 0) ≡ false
none_below true n = le-ltb n 0 (omega arith)
none_below false n = refl

term_agrees : (o : Option FieldOrder) (t : Term) → term_in_range (order_number o) t ≡ values.term_in_field o t
term_agrees (Some order) t = refl
term_agrees None t = none_below (ltb 0 t.coefficient) t.coefficient

range_agrees : (o : Option FieldOrder) (r : Record) → in_range (order_number o) r ≡ values.in_range o r
range_agrees o (First t) = term_agrees o t
range_agrees o (Second t) = term_agrees o t
range_agrees o (Field b) = refl
range_agrees o (Filled v) = refl
range_agrees o (Pad v) = refl
range_agrees o (Drawn s) = refl
range_agrees o (Question n degree) = refl

order_agrees : (b : ℕ) (named : Result FieldOrder Flaw) → order_named b ≡ named → is_ok named ≡ true →
    order_of b ≡ order_number (result_ok named)
order_agrees b (Ok order) is known = sym (elements_named b order is)
order_agrees b (Err f) is known = absurd (false≢true known)

asked_agrees : (n degree : ℕ) (named : Result question.Question Flaw) → question_named n degree ≡ named →
    is_ok named ≡ true → ◌≡◌ {A = ℕ × ℕ} (n, degree) (asked_numbers (result_ok named))
asked_agrees n degree (Ok q) is known = numbers_asked n degree q is
asked_agrees n degree (Err f) is known = absurd (false≢true known)

-- after a record that stands alone in its group
abbrev alone : Record → ℕ → ℕ × ℕ → Progress
alone r n pair = record { group = group_of r; key = 0; order = n; asked = pair }

-- where a job stands after a record whose values are in range
advance_agrees : (p : typed.Progress) (r : Record) → values.in_range p.order r ≡ true →
    advanced (numbers_of p) r ≡ numbers_of (judging.advanced p r)
advance_agrees p (Field b) ranged =
    ap (λ (n : ℕ). alone (Field b) n (asked_numbers p.asked)) (order_agrees b (order_named b) refl ranged)
advance_agrees p (Question n degree) ranged =
    ap (alone (Question n degree) (order_number p.order))
    (asked_agrees n degree (question_named n degree) refl ranged)
advance_agrees p (Filled v) ranged = refl
advance_agrees p (Pad v) ranged = refl
advance_agrees p (Drawn s) ranged = refl
advance_agrees p (First t) ranged = refl
advance_agrees p (Second t) ranged = refl

-- the verdict by the three tests
verdict_agrees : (a b c : Bool) (p : Progress) (q : typed.Progress) → (b ≡ true → p ≡ numbers_of q) →
    cond a (cond b (cond c (Ok p) (Err NotAbove)) (Err OutOfRange)) (Err OutOfTurn)
    ≡ in_numbers (cond a (cond b (cond c (Ok q) (Err NotAbove)) (Err OutOfRange)) (Err OutOfTurn))
verdict_agrees true true true p q e = ap Ok (e refl)
verdict_agrees true true false p q e = refl
verdict_agrees true false c p q e = refl
verdict_agrees false b c p q e = refl

pub judged_agrees : (p : typed.Progress) (r : Record) → judged (numbers_of p) r ≡ in_numbers (judging.judged p r)
judged_agrees p r =
    let turn = may_follow p.group (group_of r) in
    let past = above (numbers_of p) r in
    let next : Result Progress Flaw = cond past (Ok (advanced (numbers_of p) r)) (Err NotAbove) in
    ap (λ (b : Bool). cond turn (cond b next (Err OutOfRange)) (Err OutOfTurn)) (range_agrees p.order r)
    ∙ verdict_agrees turn (values.in_range p.order r) past (advanced (numbers_of p) r) (judging.advanced p r)
    (advance_agrees p r)
