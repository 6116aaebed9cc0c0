-- Records that follow one another are in range of the job's field, and those of a group ascend by their keys.
use Rattle.std.proofs.Common.{◌≡◌, ℕ, ◌<◌, ◌≤◌, true, eqb, ltb, Option, None, List, [], ◌∷◌, sym, refl, ap, ◌∙◌, subst, arith}
use Rattle.std.specs.List.{AllByRecursion}
use Rattle.std.proofs.lemmas.Bool.{cond-true, eq-eqb, ltb-true}
use Rattle.reader.specs.declared.order.FieldOrder.{FieldOrder}
use Rattle.reader.specs.declared.record.Record.{Record}
use Rattle.reader.specs.declared.record.Record.TheVariants.{Field}
use Rattle.reader.specs.JobLaw.{Follows}
use Rattle.reader.specs.Telling.{Ascend}
use Rattle.reader.proofs.Singles.{order_kept}
use Rattle.reader.proofs.Taking.{Passes, place_earliest, taken_passes, turn_places}
use Rattle.reader.specs.Keys.{key_of}
use Rattle.reader.specs.Notes.{Notes, blank}
use Rattle.reader.specs.Turns.{group_of, place}
use Rattle.reader.specs.Values.{in_range}

-- a record after one of its own group stands above it
key_above : (k next end : Notes) (r s : Record) → Passes k r next → Passes next s end →
    group_of r ≡ group_of s → key_of r < key_of s
key_above k next end r s p q same =
    let at = ap (λ (c : Notes). c.progress) p.leads in
    let g = next.progress.group in
    let is : place g ≡ place (group_of s) = ap (λ q. place q.group) at ∙ ap place same in
    let test = ltb next.progress.key (key_of s) in
    let above = ltb-true next.progress.key (key_of s)
    (sym (cond-true (eqb (place g) (place (group_of s))) test true (eq-eqb (place g) (place (group_of s)) is))
    ∙ q.above_last) in
    subst (λ (n : ℕ). n < key_of s) (ap (λ q. q.key) at) above

pub ascend_follow : (records : List Record) (k end : Notes) → Follows k records end → Ascend records
ascend_follow [] k end f = tt
ascend_follow (r ∷ []) k end f = tt
ascend_follow (r ∷ s ∷ records) k end f = (
  key_above k f.0 f.2.0 r s (taken_passes k r f.0 f.1) (taken_passes f.0 s f.2.0 f.2.1),
  ascend_follow (s ∷ records) f.0 end f.2,
)

-- the field is in range of any order
pub in_range_field : (r : Record) (p q : Option FieldOrder) → place (group_of r) ≡ 1 → in_range p r ≡ in_range q r
in_range_field (Field b) p q e = refl
in_range_field _ p q e = absurd (omega arith)

ranged_later : (records : List Record) (k end : Notes) → Follows k records end → 1 ≤ place k.progress.group →
    AllByRecursion (λ r. in_range end.progress.order r ≡ true) records
ranged_later [] k end f late = tt
ranged_later (r ∷ records) k end f late =
    let p = taken_passes k r f.0 f.1 in
    let places = turn_places k r f.0 p in
    let same = ap (λ (c : Notes). place c.progress.group) p.leads in
    let kept = order_kept (r ∷ records) k end f late in
    let after = place_earliest k.progress.group in (
      ap (λ (o : Option FieldOrder). in_range o r) kept ∙ p.ranged,
      ranged_later records f.0 end f.2 (omega arith),
    )

pub ranged_follow : (records : List Record) (end : Notes) → Follows blank records end →
    AllByRecursion (λ r. in_range end.progress.order r ≡ true) records
ranged_follow [] end f = tt
ranged_follow (r ∷ records) end f =
    let p = taken_passes blank r f.0 f.1 in
    let places = turn_places blank r f.0 p in
    let same = ap (λ (c : Notes). place c.progress.group) p.leads in (
      in_range_field r end.progress.order None (omega arith) ∙ p.ranged,
      ranged_later records f.0 end f.2 (omega arith),
    )
