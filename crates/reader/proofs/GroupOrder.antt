-- The groups of records that follow one another come in the order of the format.
use Rattle.std.proofs.Common.{◌≡◌, ℕ, suc, ◌≤◌, ◌⊎◌, List, [], ◌∷◌, ◌++◌, map, get_or, replicate, sym, refl, ap, ◌∙◌, subst, inl, inr, arith}
use Rattle.reader.specs.declared.record.Group.{Group}
use Rattle.reader.specs.declared.record.Group.TheVariants.{Start, Field, Voxels, Drawing, Question, First, Second}
use Rattle.reader.specs.declared.record.Record.{Record}
use Rattle.reader.specs.Format.{InOrder}
use Rattle.reader.specs.JobLaw.{Follows}
use Rattle.reader.proofs.Taking.{taken_passes, turn_places}
use Rattle.reader.specs.Notes.{Notes, blank}
use Rattle.reader.specs.Turns.{group_of, place, turns}

-- the groups that come after a group, up to the end of an accepted job
abbrev pub terms : ℕ → ℕ → List Group
terms c d = replicate c First ++ replicate d Second

abbrev pub drawing_on : ℕ → ℕ → ℕ → List Group
drawing_on b c d = replicate b Drawing ++ (Question ∷ terms c d)

abbrev pub Rests : Group → List Group → Type 0
Rests Start gs = InOrder gs
Rests Field gs = (a : ℕ) × (b : ℕ) × (c : ℕ) × (d : ℕ) × (gs ≡ replicate a Voxels ++ drawing_on b c d)
Rests Voxels gs = (a : ℕ) × (b : ℕ) × (c : ℕ) × (d : ℕ) × (gs ≡ replicate a Voxels ++ drawing_on b c d)
Rests Drawing gs = (b : ℕ) × (c : ℕ) × (d : ℕ) × (gs ≡ drawing_on b c d)
Rests Question gs = (c : ℕ) × (d : ℕ) × (gs ≡ terms c d)
Rests First gs = (c : ℕ) × (d : ℕ) × (gs ≡ terms c d)
Rests Second gs = (d : ℕ) × (gs ≡ replicate d Second)

-- a group by its place
abbrev pub groups : List Group
groups = Start ∷ Field ∷ Voxels ∷ Drawing ∷ Question ∷ First ∷ Second ∷ []

pub is_placed : (h : Group) → h ≡ get_or groups (place h) Start
is_placed Start = refl
is_placed _ = refl

module _ (gs : List Group) where
  -- one group more at the front
  abbrev More : Group → Group → Type 0
  More g h = Rests h gs → Rests g (h ∷ gs)

  start_more : More Start Field
  start_more r = (r.0, r.1, r.2, r.3, ap (λ l. Field ∷ l) r.4)

  voxels_more : More Voxels Voxels
  voxels_more r = (suc r.0, r.1, r.2, r.3, ap (λ l. Voxels ∷ l) r.4)

  voxels_drawing : More Voxels Drawing
  voxels_drawing r = (0, suc r.0, r.1, r.2, ap (λ l. Drawing ∷ l) r.3)

  voxels_question : More Voxels Question
  voxels_question r = (0, 0, r.0, r.1, ap (λ l. Question ∷ l) r.2)

  drawing_more : More Drawing Drawing
  drawing_more r = (suc r.0, r.1, r.2, ap (λ l. Drawing ∷ l) r.3)

  drawing_question : More Drawing Question
  drawing_question r = (0, r.0, r.1, ap (λ l. Question ∷ l) r.2)

  first_more : More First First
  first_more r = (suc r.0, r.1, ap (λ l. First ∷ l) r.2)

  first_second : More First Second
  first_second r = (0, suc r.0, ap (λ l. Second ∷ l) r.1)

  second_more : More Second Second
  second_more r = (suc r.0, ap (λ l. Second ∷ l) r.1)

  -- from the place of the group at the front
  at_place : (g h : Group) (n : ℕ) → More g (get_or groups n Start) → place h ≡ n → More g h
  at_place g h n more e = subst (More g) (sym (is_placed h ∙ ap (λ m. get_or groups m Start) e)) more

  after_voxels : (h : Group) → 2 ≤ place h → place h ≤ 4 → More Voxels h
  after_voxels h low high =
      let cases : (place h ≡ 2) ⊎ ((place h ≡ 3) ⊎ (place h ≡ 4)) = grind arith in
      elim cases [
        | inl e ↦ at_place Voxels h 2 voxels_more e
        | inr s ↦ elim s [
          | inl e ↦ at_place Voxels h 3 voxels_drawing e
          | inr e ↦ at_place Voxels h 4 voxels_question e
        ]
      ]

  after_drawing : (h : Group) → 3 ≤ place h → place h ≤ 4 → More Drawing h
  after_drawing h low high =
      let cases : (place h ≡ 3) ⊎ (place h ≡ 4) = grind arith in
      elim cases [
        | inl e ↦ at_place Drawing h 3 drawing_more e
        | inr e ↦ at_place Drawing h 4 drawing_question e
      ]

  after_first : (h : Group) → 5 ≤ place h → place h ≤ 6 → More First h
  after_first h low high =
      let cases : (place h ≡ 5) ⊎ (place h ≡ 6) = grind arith in
      elim cases [
        | inl e ↦ at_place First h 5 first_more e
        | inr e ↦ at_place First h 6 first_second e
      ]

  rests_more : (g h : Group) → (turns g).0 ≤ place h → place h ≤ (turns g).1 → More g h
  rests_more Start h low high = at_place Start h 1 start_more (omega arith)
  rests_more Field h low high = after_voxels h low high
  rests_more Voxels h low high = after_voxels h low high
  rests_more Drawing h low high = after_drawing h low high
  rests_more Question h low high = after_first h low high
  rests_more First h low high = after_first h low high
  rests_more Second h low high = at_place Second h 6 second_more (omega arith)

rests_none : (g : Group) → 4 ≤ place g → Rests g []
rests_none Question e = (0, 0, refl)
rests_none First e = (0, 0, refl)
rests_none Second e = (0, refl)
rests_none _ e = absurd (omega arith)

rests_after : (records : List Record) (k end : Notes) → Follows k records end → 4 ≤ place end.progress.group →
    Rests k.progress.group (map group_of records)
rests_after [] k end f late =
    rests_none k.progress.group (subst (λ (c : Notes). 4 ≤ place c.progress.group) (sym f) late)
rests_after (r ∷ records) k end f late =
    let p = taken_passes k r f.0 f.1 in
    let on = rests_after records f.0 end f.2 late in
    let t = turn_places k r f.0 p in
    rests_more (map group_of records) k.progress.group (group_of r) t.0 t.1
    (subst (λ (c : Notes). Rests c.progress.group (map group_of records)) p.leads on)

pub in_order : (records : List Record) (end : Notes) → Follows blank records end → 4 ≤ place end.progress.group →
    InOrder (map group_of records)
in_order records end f late = rests_after records blank end f late
