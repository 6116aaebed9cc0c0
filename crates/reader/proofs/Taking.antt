-- A record that is taken, or refused, after the ones before it.
use Rattle.std.proofs.Common.{◌≡◌, ℕ, ◌≤◌, Bool, true, false, cond, leb, Ok, Err, Result, sym, refl, ap, ◌∙◌, subst, arith}
use Rattle.std.proofs.lemmas.Bool.{and_parts, cond-false, cond-true, leb-true}
use Rattle.lists.specs.Working.{Holds}
use Rattle.reader.specs.declared.record.Flaw.{Flaw}
use Rattle.reader.specs.declared.record.Flaw.TheVariants.{OutOfTurn, OutOfRange, NotAbove}
use Rattle.reader.specs.declared.record.Group.{Group}
use Rattle.reader.specs.declared.record.Group.TheVariants as group
use Rattle.reader.specs.declared.record.Record.{Record}
use Rattle.reader.specs.declared.draft.Draft.{Draft}
use Rattle.reader.specs.declared.turn.Progress.{Progress}
use Rattle.reader.specs.Judging.{above, advanced, judged}
use Rattle.reader.specs.Notes.{Notes, noted, standing, taken}
use Rattle.reader.specs.Steps.{Keeps, advanced_in_range}
use Rattle.reader.specs.Turns.{group_of, may_follow, place, turns}
use Rattle.reader.specs.Values.{in_range}

below_range : (b : Bool) (s t : Result Progress Flaw) (next : Progress) → cond b s (Err OutOfRange) ≡ Ok next →
    cond b t (Err OutOfRange) ≡ t
below_range true s t next e = refl
below_range false s t next e = absurd (let z : ◌≡◌ {A = ℕ} 0 1 = cc in omega arith)

-- a record in its turn and in range that does not stand above the one before it
pub judged_below : (p : Progress) (r : Record) (next : Progress) → may_follow p.group (group_of r) ≡ true →
    advanced_in_range p r ≡ Ok next → above p r ≡ false →
    judged p r ≡ Err NotAbove
judged_below p r next turn ranged below =
    cond-true (may_follow p.group (group_of r)) _ (Err OutOfTurn) turn
    ∙ below_range (in_range p.order r) (Ok (advanced p r)) (cond (above p r) (Ok (advanced p r)) (Err NotAbove)) next ranged
    ∙ cond-false (above p r) (Ok (advanced p r)) (Err NotAbove) below

abbrev after : Notes → Record → Result Progress Flaw → Result Notes Flaw
after k r j = elim j [ Ok p ↦ Ok (standing p (noted k r)) | Err f ↦ Err f ]

module _ (k : Notes) (r : Record) (q : Progress) (same : q ≡ k.progress) where
  at_progress : (j : Result Progress Flaw) → judged q r ≡ j → taken k r ≡ after k r j
  at_progress j e = ap (λ (p : Progress). after k r (judged p r)) (sym same) ∙ ap (after k r) e

  pub taken_ok : (p : Progress) → judged q r ≡ Ok p → taken k r ≡ Ok (standing p (noted k r))
  taken_ok p e = at_progress (Ok p) e

  pub taken_err : (f : Flaw) → judged q r ≡ Err f → taken k r ≡ Err f
  taken_err f e = at_progress (Err f) e

-- what refuses a record that is not taken
judged_from_after : (k : Notes) (r : Record) (f : Flaw) (j : Result Progress Flaw) → after k r j ≡ Err f → j ≡ Err f
judged_from_after k r f (Ok p) e = absurd (let z : ◌≡◌ {A = ℕ} 0 1 = cc in omega arith)
judged_from_after k r f (Err g) e = cc

pub judged_err : (k : Notes) (r : Record) (f : Flaw) → taken k r ≡ Err f → judged k.progress r ≡ Err f
judged_err k r f e = judged_from_after k r f (judged k.progress r) e

-- the draft with another progress
pub keeps_standing : (d e : Draft) (k : Notes) (p : Progress) → Keeps d k → e.progress ≡ p →
    e.filled ≡ d.filled → e.pads ≡ d.pads → e.drawing ≡ d.drawing → Keeps e (standing p k)
keeps_standing d e k p h a b c s = record {
  progress = a;
  filled = b ∙ h.filled;
  pads = c ∙ h.pads;
  drawing = subst (λ w. Holds w k.drawing) (sym s) h.drawing;
}

-- what a record has passed that is taken, and where that leads
pub record Passes (k : Notes) (r : Record) (next : Notes) : Type 0 where
  pub turn : may_follow k.progress.group (group_of r) ≡ true
  pub ranged : in_range k.progress.order r ≡ true
  pub above_last : above k.progress r ≡ true
  pub leads : next ≡ standing (advanced k.progress r) (noted k r)

module _ (k : Notes) (r : Record) (p : Progress) (next : Notes) where
  -- the three tests of a record, one after another
  abbrev tested : Bool → Bool → Bool → Result Notes Flaw
  tested a b c = after k r (cond a (cond b (cond c (Ok p) (Err NotAbove)) (Err OutOfRange)) (Err OutOfTurn))

  tested_ok : (a b c : Bool) → tested a b c ≡ Ok next →
      (a ≡ true) × (b ≡ true) × (c ≡ true) × (next ≡ standing p (noted k r))
  tested_ok true true true e = (refl, refl, refl, cc)
  tested_ok true true false e = absurd (let z : ◌≡◌ {A = ℕ} 0 1 = cc in omega arith)
  tested_ok true false c e = absurd (let z : ◌≡◌ {A = ℕ} 0 1 = cc in omega arith)
  tested_ok false b c e = absurd (let z : ◌≡◌ {A = ℕ} 0 1 = cc in omega arith)

pub taken_passes : (k : Notes) (r : Record) (next : Notes) → taken k r ≡ Ok next → Passes k r next
taken_passes k r next e =
    let t = tested_ok k r (advanced k.progress r) next (may_follow k.progress.group (group_of r))
    (in_range k.progress.order r) (above k.progress r) e in
    record { turn = t.0; ranged = t.1; above_last = t.2; leads = t.3 }

-- where the group of a record stands that comes in its turn
pub turn_places : (k : Notes) (r : Record) (next : Notes) → Passes k r next →
    ((turns k.progress.group).0 ≤ place (group_of r)) × (place (group_of r) ≤ (turns k.progress.group).1)
turn_places k r next p =
    let g = k.progress.group in
    let h = group_of r in
    let t = and_parts (leb (turns g).0 (place h)) (leb (place h) (turns g).1) p.turn in
    (leb-true (turns g).0 (place h) t.0, leb-true (place h) (turns g).1 t.1)

pub place_earliest : (g : Group) → place g ≤ (turns g).0
place_earliest group.Start = omega arith
place_earliest _ = omega arith
