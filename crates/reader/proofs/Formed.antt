-- Well-formed records follow one another.
use Rattle.std.proofs.Common.{◌≡◌, ℕ, zero, suc, ◌<◌, ◌≤◌, true, eqb, ltb, leb, ◌⊎◌, List, [], ◌∷◌, ◌++◌, map, get_or, replicate, Some, Option, Ok, Err, sym, refl, ap, ◌∙◌, subst, inl, inr, arith}
use Rattle.std.specs.List.{flat_map, AllByRecursion}
use Rattle.std.proofs.lemmas.Bool.{and_from, cond_both, cond-false, cond-true, eqb-true, le-leb, lt-ltb, ne_eqb}
use Rattle.reader.specs.declared.record.Flaw.TheVariants.{OutOfTurn, OutOfRange, NotAbove}
use Rattle.reader.specs.declared.record.Group.{Group}
use Rattle.reader.specs.declared.record.Group.TheVariants.{Start, Field, Voxels, Drawing, Question, First, Second}
use Rattle.reader.specs.declared.record.Record.{Record}
use Rattle.reader.specs.declared.turn.Progress.{Progress}
use Rattle.reader.specs.Format.{InOrder}
use Rattle.reader.specs.JobLaw.{Follows}
use Rattle.reader.specs.Saying.{orders_by}
use Rattle.reader.specs.Telling.{Ascend, WellFormed}
use Rattle.reader.proofs.GroupOrder.{Rests, drawing_on, groups, is_placed, terms}
use Rattle.reader.proofs.RecordOrder.{in_range_field}
use Rattle.reader.proofs.Singles.{orders_speak, turn}
use Rattle.reader.proofs.Taking.{taken_ok}
use Rattle.reader.specs.Judging.{above, advanced, started}
use Rattle.reader.specs.Keys.{key_of}
use Rattle.reader.specs.Notes.{Notes, blank, noted, standing, taken}
use Rattle.reader.specs.Sheets.{Contents, completed}
use Rattle.reader.specs.declared.order.FieldOrder.{FieldOrder}
use Rattle.reader.proofs.Knowing.{known_follow, known_start, late_completed}
use Rattle.reader.specs.Turns.{group_of, may_follow, place, turns}
use Rattle.reader.specs.Values.{in_range}

-- a group in its turn, and the groups after it
record Turned (g h : Group) (gs : List Group) : Type 0 where
  low : (turns g).0 ≤ place h
  high : place h ≤ (turns g).1
  on : Rests h gs

module _ (h : Group) (gs : List Group) where
  at_head : (g x : Group) (xs : List Group) → h ∷ gs ≡ x ∷ xs → Turned g x xs → Turned g h gs
  at_head g x xs e t =
      let head : x ≡ h = cc in
      let tail : xs ≡ gs = cc in
      subst (λ y. Turned g y gs) head (subst (Turned g x) tail t)

  nothing_left : {P : Type 0} → h ∷ gs ≡ [] → P
  nothing_left e = absurd (let z : ◌≡◌ {A = ℕ} 0 1 = cc in omega arith)

  after_voxels : (g : Group) → (turns g).0 ≡ 2 → (turns g).1 ≡ 4 → Rests Voxels (h ∷ gs) → Turned g h gs
  after_voxels g low high (suc a, b, c, d, e) = at_head g Voxels (replicate a Voxels ++ drawing_on b c d) e
      (record { low = omega arith; high = omega arith; on = (a, b, c, d, refl) })
  after_voxels g low high (zero, suc b, c, d, e) = at_head g Drawing (drawing_on b c d) e
      (record { low = omega arith; high = omega arith; on = (b, c, d, refl) })
  after_voxels g low high (zero, zero, c, d, e) = at_head g Question (terms c d) e
      (record { low = omega arith; high = omega arith; on = (c, d, refl) })

  after_terms : (g : Group) → (turns g).0 ≡ 5 → (turns g).1 ≡ 6 → Rests First (h ∷ gs) → Turned g h gs
  after_terms g low high (suc c, d, e) = at_head g First (terms c d) e
      (record { low = omega arith; high = omega arith; on = (c, d, refl) })
  after_terms g low high (zero, suc d, e) = at_head g Second (replicate d Second) e
      (record { low = omega arith; high = omega arith; on = (d, refl) })
  after_terms g low high (zero, zero, e) = nothing_left e

  turned : (g : Group) → Rests g (h ∷ gs) → Turned g h gs
  turned Start (a, b, c, d, e) = at_head Start Field (replicate a Voxels ++ drawing_on b c d) e
      (record { low = omega arith; high = omega arith; on = (a, b, c, d, refl) })
  turned Field r = after_voxels Field refl refl r
  turned Voxels r = after_voxels Voxels refl refl r
  turned Drawing (suc b, c, d, e) = at_head Drawing Drawing (drawing_on b c d) e
      (record { low = omega arith; high = omega arith; on = (b, c, d, refl) })
  turned Drawing (zero, c, d, e) = at_head Drawing Question (terms c d) e
      (record { low = omega arith; high = omega arith; on = (c, d, refl) })
  turned Question r = after_terms Question refl refl r
  turned First r = after_terms First refl refl r
  turned Second (suc d, e) = at_head Second Second (replicate d Second) e
      (record { low = omega arith; high = omega arith; on = (d, refl) })
  turned Second (zero, e) = nothing_left e

nothing_more : {P : Type 0} (g : Group) (gs : List Group) → [] ≡ g ∷ gs → P
nothing_more g gs e = absurd (let z : ◌≡◌ {A = ℕ} 0 1 = cc in omega arith)

not_in_voxels : {P : Type 0} → Rests Voxels [] → P
not_in_voxels (suc a, b, c, d, e) = nothing_more Voxels _ e
not_in_voxels (zero, suc b, c, d, e) = nothing_more Drawing _ e
not_in_voxels (zero, zero, c, d, e) = nothing_more Question _ e

-- where the groups may end
ends_asked : (g : Group) → Rests g [] → 4 ≤ place g
ends_asked Start (a, b, c, d, e) = nothing_more Field _ e
ends_asked Field r = not_in_voxels r
ends_asked Voxels r = not_in_voxels r
ends_asked Drawing (suc b, c, d, e) = nothing_more Drawing _ e
ends_asked Drawing (zero, c, d, e) = nothing_more Question _ e
ends_asked _ r = omega arith

same_group : (g h : Group) → place g ≡ place h → g ≡ h
same_group g h e = is_placed g ∙ ap (λ (n : ℕ). get_or groups n Start) e ∙ sym (is_placed h)

-- the record s after the record r of the same group stands above it
above_after : (p : Progress) (r s : Record) → (group_of r ≡ group_of s → key_of r < key_of s) →
    above (advanced p r) s ≡ true
above_after p r s ascends =
    let test = eqb (place (group_of r)) (place (group_of s)) in
    cond_both test (ltb (key_of r) (key_of s)) true (λ b. b ≡ true)
    (λ e. lt-ltb (key_of r) (key_of s)
    (ascends (same_group (group_of r) (group_of s) (eqb-true (place (group_of r)) (place (group_of s)) e))))
    (λ e. refl)

-- what the first record is judged by, besides its turn
abbrev Above : Progress → List Record → Type 0
Above p [] = Unit {0}
Above p (r ∷ records) = above p r ≡ true

above_next : (p : Progress) (r : Record) (records : List Record) → Ascend (r ∷ records) → Above (advanced p r) records
above_next p r [] a = tt
above_next p r (s ∷ records) a = above_after p r s a.0

ascend_next : (r : Record) (records : List Record) → Ascend (r ∷ records) → Ascend records
ascend_next r [] a = tt
ascend_next r (s ∷ records) a = a.1

earliest_some : (g : Group) → 1 ≤ (turns g).0
earliest_some Start = omega arith
earliest_some _ = omega arith

-- the order of the field: it is known, or the records name it
abbrev Ordered : FieldOrder → Progress → List Record → Type 0
Ordered order p records =
    ((1 ≤ place p.group) × (p.order ≡ Some order)) ⊎ ((place p.group < 1) × (flat_map orders_by records ≡ Some order ∷ []))

module _ (order : FieldOrder) (p : Progress) (r : Record) (records : List Record)
    (low : (turns p.group).0 ≤ place (group_of r)) (high : place (group_of r) ≤ (turns p.group).1) where
  range_now : in_range (Some order) r ≡ true → Ordered order p (r ∷ records) → in_range p.order r ≡ true
  range_now e (inl o) = ap (λ (x : Option FieldOrder). in_range x r) o.1 ∙ e
  range_now e (inr o) =
      let most = (turn p.group).past_field o.0 in
      let least = earliest_some p.group in
      in_range_field r p.order (Some order) (omega arith) ∙ e

  ordered_next : Ordered order p (r ∷ records) → Ordered order (advanced p r) records
  ordered_next (inl o) =
      let later = (turn p.group).again_field o.0 in
      let on : 1 ≤ place (group_of r) = omega arith in
      elim (orders_speak r) [
        | inl s ↦ absurd (let same = s.0 in omega arith)
        | inr s ↦ inl (on, s.2 p ∙ o.1)
      ]
  ordered_next (inr o) =
      let most = (turn p.group).past_field o.0 in
      let least = earliest_some p.group in
      let on : 1 ≤ place (group_of r) = omega arith in
      elim (orders_speak r) [
        | inl s ↦ inl (
          on,
          (let front = ap (λ l. l ++ flat_map orders_by records) (sym (s.1 p)) ∙ o.1 in cc),
        )
        | inr s ↦ absurd (s.0 (omega arith))
      ]

-- a record that passes the three tests is taken
taken_tested : (k : Notes) (r : Record) → may_follow k.progress.group (group_of r) ≡ true →
    in_range k.progress.order r ≡ true → above k.progress r ≡ true →
    taken k r ≡ Ok (standing (advanced k.progress r) (noted k r))
taken_tested k r a b c =
    taken_ok k r k.progress refl (advanced k.progress r)
    (cond-true (may_follow k.progress.group (group_of r)) _ (Err OutOfTurn) a
    ∙ cond-true (in_range k.progress.order r) _ (Err OutOfRange) b
    ∙ cond-true (above k.progress r) (Ok (advanced k.progress r)) (Err NotAbove) c)

formed_follow : (records : List Record) (order : FieldOrder) (k : Notes) → Rests k.progress.group (map group_of records) →
    Ordered order k.progress records → AllByRecursion (λ r. in_range (Some order) r ≡ true) records → Above k.progress records →
    Ascend records → (end : Notes) × Follows k records end × (4 ≤ place end.progress.group)
formed_follow [] order k rests ordered ranged above_last ascend =
    (k, refl, ends_asked k.progress.group rests)
formed_follow (r ∷ records) order k rests ordered ranged above_last ascend =
    let p = k.progress in
    let t = turned (group_of r) (map group_of records) p.group rests in
    let in-turn = and_from (leb (turns p.group).0 (place (group_of r)))
    (leb (place (group_of r)) (turns p.group).1)
    (le-leb (turns p.group).0 (place (group_of r)) t.low)
    (le-leb (place (group_of r)) (turns p.group).1 t.high) in
    let next = standing (advanced p r) (noted k r) in
    let rest = formed_follow records order next t.on (ordered_next order p r records t.low t.high ordered)
    ranged.1 (above_next p r records ascend) (ascend_next r records ascend) in (
      rest.0,
      (
        next,
        taken_tested k r in-turn (range_now order p r records t.low t.high ranged.0 ordered) above_last,
        rest.1,
      ),
      rest.2,
    )

-- the first record stands after no other
above_start : (r : Record) → 1 ≤ place (group_of r) → above started r ≡ true
above_start r some =
    cond-false (eqb 0 (place (group_of r))) (ltb 0 (key_of r)) true (ne_eqb 0 (place (group_of r)) (λ e. omega arith))

above_first : (records : List Record) → InOrder (map group_of records) → Above started records
above_first [] w = tt
above_first (r ∷ records) w = above_start r (turned (group_of r) (map group_of records) Start w).low

-- and they lead to some contents
pub formed_follows : (records : List Record) (order : FieldOrder) → WellFormed order records →
    (end : Notes) × Follows blank records end × (k : Contents) × (completed end ≡ Some k)
formed_follows records order w =
    let ends = formed_follow records order blank w.groups (inr (omega arith, w.field)) w.ranged
    (above_first records w.groups) w.ascend in
    let some = late_completed ends.0 (known_follow records blank ends.0 ends.1 known_start) ends.2 in
    (ends.0, ends.1, some.0, some.1)
