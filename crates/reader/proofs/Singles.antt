-- The records that a job has exactly one of, the field and the question: what they say is what the job says.
use Rattle.std.proofs.Common.{◌≡◌, ℕ, ◌<◌, ◌≤◌, ◌⊎◌, List, [], ◌∷◌, ◌++◌, sym, refl, ap, ◌∙◌, subst, inl, inr, arith}
use Rattle.std.specs.List.{flat_map}
use Rattle.reader.specs.declared.record.Group.{Group}
use Rattle.reader.specs.declared.record.Group.TheVariants.{Start}
use Rattle.reader.specs.declared.record.Record.{Record}
use Rattle.reader.specs.declared.record.Record.TheVariants as kind
use Rattle.reader.specs.declared.turn.Progress.{Progress}
use Rattle.reader.specs.JobLaw.{Follows}
use Rattle.reader.specs.Saying.{orders_by, questions_by}
use Rattle.reader.proofs.Taking.{Passes, taken_passes, turn_places}
use Rattle.reader.specs.Judging.{advanced}
use Rattle.reader.specs.Notes.{Notes, blank}
use Rattle.reader.specs.Turns.{group_of, place, turns}

-- a record of the group at a place says something new, and any other nothing
abbrev pub Speaks : {A : Type 0} → ℕ → (Record → List A) → (Progress → A) → Record → Type 0
Speaks m by said r =
    ((place (group_of r) ≡ m) × ((p : Progress) → by r ≡ said (advanced p r) ∷ []))
    ⊎ ((place (group_of r) ≡ m → ⊥) × (by r ≡ []) × ((p : Progress) → said (advanced p r) ≡ said p))

-- no group comes again after the one at the place m, and none is reached past it without it
record Once (m : ℕ) : Type 0 where
  again : (g : Group) → m ≤ place g → m < (turns g).0
  past : (g : Group) → place g < m → (turns g).1 ≤ m

module _ {A : Type 0} (m : ℕ) (by : Record → List A) (said : Progress → A) (speaks : (r : Record) → Speaks m by said r)
    (once : Once m) where
  silent : (records : List Record) (k end : Notes) → Follows k records end → m ≤ place k.progress.group →
      (flat_map by records ≡ []) × (said end.progress ≡ said k.progress)
  silent [] k end f late = (refl, ap (λ (c : Notes). said c.progress) (sym f))
  silent (r ∷ records) k end f late =
      let p = taken_passes k r f.0 f.1 in
      let places = turn_places k r f.0 p in
      let later = once.again k.progress.group late in
      let next : m ≤ place f.0.progress.group =
      subst (λ (c : Notes). m ≤ place c.progress.group) (sym p.leads) (omega arith) in
      let on = silent records f.0 end f.2 next in
      elim (speaks r) [
        | inl s ↦ absurd (let same = s.0 in omega arith)
        | inr s ↦ (
          ap (λ l. l ++ flat_map by records) s.1 ∙ on.0,
          on.1 ∙ ap (λ (c : Notes). said c.progress) p.leads ∙ s.2 k.progress,
        )
      ]

  -- after one more record, which is not the one, or is the one
  told_later : (k next end : Notes) (r : Record) (records : List Record) → Passes k r next →
      (place (group_of r) < m → flat_map by records ≡ said end.progress ∷ []) →
      (place (group_of r) ≡ m → (flat_map by records ≡ []) × (said end.progress ≡ said next.progress)) →
      place (group_of r) ≤ m → flat_map by (r ∷ records) ≡ said end.progress ∷ []
  told_later k next end r records p before here most = elim (speaks r) [
    | inl s ↦ (let on = here s.0 in
        let same = ap (λ (c : Notes). said c.progress) (sym p.leads) ∙ sym on.1 in
        ap (λ l. l ++ flat_map by records) (s.1 k.progress)
        ∙ ap (λ l. said (advanced k.progress r) ∷ l) on.0 ∙ ap (λ a. a ∷ []) same)
    | inr s ↦ ap (λ l. l ++ flat_map by records) s.1
        ∙ before (let other = s.0 in let less : place (group_of r) < m = grind arith in less)
  ]

  told_once : (records : List Record) (k end : Notes) → Follows k records end → m ≤ place end.progress.group →
      place k.progress.group < m → flat_map by records ≡ said end.progress ∷ []
  told_once [] k end f done early =
      absurd (let same = ap (λ (c : Notes). place c.progress.group) f in omega arith)
  told_once (r ∷ records) k end f done early =
      let p = taken_passes k r f.0 f.1 in
      let places = turn_places k r f.0 p in
      let most = once.past k.progress.group early in
      let same = ap (λ (c : Notes). place c.progress.group) p.leads in
      told_later k f.0 end r records p
      (λ less. told_once records f.0 end f.2 done (omega arith))
      (λ here. silent records f.0 end f.2 (omega arith))
      (omega arith)

-- the turns about the field, at place 1, and about the question, at place 4
pub record Turn (g : Group) : Type 0 where
  pub again_field : 1 ≤ place g → 1 < (turns g).0
  pub past_field : place g < 1 → (turns g).1 ≤ 1
  pub again_question : 4 ≤ place g → 4 < (turns g).0
  pub past_question : place g < 4 → (turns g).1 ≤ 4

pub turn : (g : Group) → Turn g
turn Start = record {
  again_field = λ h. omega arith;
  past_field = λ h. omega arith;
  again_question = λ h. omega arith;
  past_question = λ h. omega arith;
}
turn _ = record {
  again_field = λ h. omega arith;
  past_field = λ h. omega arith;
  again_question = λ h. omega arith;
  past_question = λ h. omega arith;
}

pub orders_speak : (r : Record) → Speaks 1 orders_by (λ p. p.order) r
orders_speak (kind.Field b) = inl (refl, λ p. refl)
orders_speak _ = inr ((λ e. omega arith), refl, λ p. refl)

questions_speak : (r : Record) → Speaks 4 questions_by (λ p. p.asked) r
questions_speak (kind.Question form degree) = inl (refl, λ p. refl)
questions_speak _ = inr ((λ e. omega arith), refl, λ p. refl)

field_once : Once 1
field_once = record { again = λ g. (turn g).again_field; past = λ g. (turn g).past_field }

-- after the field its order stays
pub order_kept : (records : List Record) (k end : Notes) → Follows k records end → 1 ≤ place k.progress.group →
    end.progress.order ≡ k.progress.order
order_kept records k end f late = (silent 1 orders_by (λ p. p.order) orders_speak field_once records k end f late).1

module _ (records : List Record) (end : Notes) (f : Follows blank records end)
    (late : 4 ≤ place end.progress.group) where
  pub field_told : flat_map orders_by records ≡ end.progress.order ∷ []
  field_told = told_once 1 orders_by (λ p. p.order) orders_speak field_once records blank end f
      (omega (arith, late)) (omega arith)

  pub question_told : flat_map questions_by records ≡ end.progress.asked ∷ []
  question_told = told_once 4 questions_by (λ p. p.asked) questions_speak
      (record { again = λ g. (turn g).again_question; past = λ g. (turn g).past_question }) records blank end f
      late (omega arith)
