-- Which of the field and the question is known where a job stands: the field from its record on, and the question.
use Rattle.std.proofs.Common.{◌≡◌, ℕ, ◌≤◌, true, List, [], ◌∷◌, Some, None, Option, Ok, Err, Result, sym, refl, ap, ◌∙◌, subst, inl, inr, arith}
use Rattle.std.specs.Prelude.{is_ok, is_some}
use Rattle.std.specs.Result.{result_ok}
use Rattle.std.proofs.lemmas.Bool.{cases_lt, false≢true}
use Rattle.reader.specs.declared.order.FieldOrder.{FieldOrder}
use Rattle.reader.specs.declared.question.Question as question
use Rattle.reader.specs.declared.record.Record.{Record}
use Rattle.reader.specs.declared.record.Record.TheVariants.{Field, Filled, Pad, Drawn, Question, First, Second}
use Rattle.reader.specs.declared.turn.Progress.{Progress}
use Rattle.reader.specs.JobLaw.{Follows}
use Rattle.reader.specs.Judging.{advanced, started}
use Rattle.reader.specs.Named.{order_named, question_named}
use Rattle.reader.specs.Notes.{Notes}
use Rattle.reader.specs.Sheets.{Contents, completed, completed_by}
use Rattle.reader.specs.Turns.{group_of, place, turns}
use Rattle.reader.specs.Values.{in_range}
use Rattle.reader.proofs.Singles.{turn}
use Rattle.reader.proofs.Taking.{Passes, place_earliest, taken_passes, turn_places}

pub record Known (p : Progress) : Type 0 where
  pub order_known : 1 ≤ place p.group → is_some p.order ≡ true
  pub asked_known : 4 ≤ place p.group → is_some p.asked ≡ true
  pub asked_late : is_some p.asked ≡ true → 4 ≤ place p.group

pub known_start : Known started
known_start = record {
  order_known = λ h. absurd (omega arith);
  asked_known = λ h. absurd (omega arith);
  asked_late = λ e. absurd (false≢true e);
}

named : {X E : Type 0} (r : Result X E) → is_ok r ≡ true → is_some (result_ok r) ≡ true
named (Ok x) e = refl
named (Err f) e = absurd (false≢true e)

-- after a record of the group at the place m, which comes in its turn
module _ (p : Progress) (known : Known p) (m : ℕ) (low : (turns p.group).0 ≤ m) (high : m ≤ (turns p.group).1) where
  field_before : 2 ≤ m → is_some p.order ≡ true
  field_before later = elim (cases_lt (place p.group) 1) [
    | inl early ↦ absurd (let most = (turn p.group).past_field early in omega arith)
    | inr on ↦ known.order_known on
  ]

  asked_before : 5 ≤ m → is_some p.asked ≡ true
  asked_before later = elim (cases_lt (place p.group) 4) [
    | inl early ↦ absurd (let most = (turn p.group).past_question early in omega arith)
    | inr on ↦ known.asked_known on
  ]

  late_before : is_some p.asked ≡ true → 4 ≤ m
  late_before e = omega (arith, known.asked_late e, place_earliest p.group)

  known_silent : (q : Progress) → place q.group ≡ m → q.order ≡ p.order → q.asked ≡ p.asked → 2 ≤ m →
      (4 ≤ m → 5 ≤ m) → Known q
  known_silent q at o a later past = record {
    order_known = λ h. ap (λ (x : Option FieldOrder). is_some x) o ∙ field_before later;
    asked_known = λ h. ap (λ (x : Option question.Question). is_some x) a
        ∙ asked_before (past (subst (λ (n : ℕ). 4 ≤ n) at h));
    asked_late = λ e. subst (λ (n : ℕ). 4 ≤ n) (sym at)
        (late_before (ap (λ (x : Option question.Question). is_some x) (sym a) ∙ e));
  }

known_advanced : (p : Progress) (r : Record) → Known p → (turns p.group).0 ≤ place (group_of r) →
    place (group_of r) ≤ (turns p.group).1 → in_range p.order r ≡ true → Known (advanced p r)
known_advanced p (Field b) known low high ranged = record {
  order_known = λ h. named (order_named b) ranged;
  asked_known = λ h. absurd (omega arith);
  asked_late = λ e. absurd (let late = late_before p known 1 low high e in omega arith);
}
known_advanced p (Question form degree) known low high ranged = record {
  order_known = λ h. field_before p known 4 low high (omega arith);
  asked_known = λ h. named (question_named form degree) ranged;
  asked_late = λ e. omega arith;
}
known_advanced p (Filled v) known low high ranged =
    known_silent p known 2 low high (advanced p (Filled v)) refl refl refl (omega arith) (λ h. absurd (omega arith))
known_advanced p (Pad v) known low high ranged =
    known_silent p known 2 low high (advanced p (Pad v)) refl refl refl (omega arith) (λ h. absurd (omega arith))
known_advanced p (Drawn s) known low high ranged =
    known_silent p known 3 low high (advanced p (Drawn s)) refl refl refl (omega arith) (λ h. absurd (omega arith))
known_advanced p (First t) known low high ranged =
    known_silent p known 5 low high (advanced p (First t)) refl refl refl (omega arith) (λ h. omega arith)
known_advanced p (Second t) known low high ranged =
    known_silent p known 6 low high (advanced p (Second t)) refl refl refl (omega arith) (λ h. omega arith)

pub known_next : (k next : Notes) (r : Record) → Passes k r next → Known k.progress → Known next.progress
known_next k next r p known =
    let t = turn_places k r next p in
    subst (λ (c : Notes). Known c.progress) (sym p.leads)
    (known_advanced k.progress r known t.0 t.1 p.ranged)

pub known_follow : (records : List Record) (k end : Notes) → Follows k records end → Known k.progress →
    Known end.progress
known_follow [] k end f known = subst (λ (c : Notes). Known c.progress) f known
known_follow (r ∷ records) k end f known =
    known_follow records f.0 end f.2 (known_next k f.0 r (taken_passes k r f.0 f.1) known)

-- what the contents have of the notes that they come from
pub record Completed (k : Notes) (c : Contents) : Type 0 where
  pub progress : k.progress ≡ c.progress
  pub order : k.progress.order ≡ Some c.order
  pub question : k.progress.asked ≡ Some c.question
  pub filled : k.filled ≡ c.filled
  pub pads : k.pads ≡ c.pads
  pub drawing : k.drawing ≡ c.drawing

completed_parts : (k : Notes) (c : Contents) (order : Option FieldOrder) (asked : Option question.Question) →
    k.progress.order ≡ order → k.progress.asked ≡ asked → completed_by order asked k ≡ Some c → Completed k c
completed_parts k c (Some order) (Some asked) o a e = record {
  progress = cc;
  order = o ∙ (let z : order ≡ c.order = cc in ap Some z);
  question = a ∙ (let z : asked ≡ c.question = cc in ap Some z);
  filled = cc;
  pads = cc;
  drawing = cc;
}
completed_parts k c (Some order) None o a e = absurd (let z : ◌≡◌ {A = ℕ} 0 1 = cc in omega arith)
completed_parts k c None asked o a e = absurd (let z : ◌≡◌ {A = ℕ} 0 1 = cc in omega arith)

pub completed_has : (k : Notes) (c : Contents) → completed k ≡ Some c → Completed k c
completed_has k c e = completed_parts k c k.progress.order k.progress.asked refl refl e

pub completed_from : (k : Notes) (order : FieldOrder) (asked : question.Question) → k.progress.order ≡ Some order →
    k.progress.asked ≡ Some asked →
    completed k ≡ Some (record {
      progress = k.progress;
      order = order;
      question = asked;
      filled = k.filled;
      pads = k.pads;
      drawing = k.drawing;
    })
completed_from k order asked o a =
    ap (λ (x : Option FieldOrder). completed_by x k.progress.asked k) o
    ∙ ap (λ (x : Option question.Question). completed_by (Some order) x k) a

pub completed_late : (k : Notes) (c : Contents) → Known k.progress → completed k ≡ Some c → 4 ≤ place k.progress.group
completed_late k c known e =
    known.asked_late (ap (λ (x : Option question.Question). is_some x) (completed_has k c e).question)

some_completed : (k : Notes) (order : Option FieldOrder) (asked : Option question.Question) →
    is_some order ≡ true → is_some asked ≡ true → (c : Contents) × (completed_by order asked k ≡ Some c)
some_completed k (Some order) (Some asked) o a = (_, refl)
some_completed k (Some order) None o a = absurd (false≢true a)
some_completed k None asked o a = absurd (false≢true o)

pub late_completed : (k : Notes) → Known k.progress → 4 ≤ place k.progress.group →
    (c : Contents) × (completed k ≡ Some c)
late_completed k known late =
    some_completed k k.progress.order k.progress.asked (known.order_known (omega arith)) (known.asked_known late)

-- nothing was asked exactly where the notes are not complete
none_asked : (k : Notes) → Known k.progress → (asked : Option question.Question) → k.progress.asked ≡ asked →
    completed k ≡ None → asked ≡ None
none_asked k known None a e = refl
none_asked k known (Some q) a e =
    let late = known.asked_late (ap (λ (x : Option question.Question). is_some x) a) in
    let some = late_completed k known late in
    absurd (let z : ◌≡◌ {A = ℕ} 0 1 = cc in omega arith)

pub not_asked : (k : Notes) → Known k.progress → completed k ≡ None → k.progress.asked ≡ None
not_asked k known e = none_asked k known k.progress.asked refl e

none_completed : (k : Notes) (order : Option FieldOrder) → completed_by order None k ≡ None
none_completed k (Some order) = refl
none_completed k None = refl

pub not_completed : (k : Notes) → k.progress.asked ≡ None → completed k ≡ None
not_completed k e =
    ap (λ (x : Option question.Question). completed_by k.progress.order x k) e ∙ none_completed k k.progress.order
