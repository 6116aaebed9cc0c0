-- The simplices that records draw which follow one another are valid, and ascend.
use Rattle.std.proofs.Common.{◌≡◌, ℕ, ◌<◌, ◌≤◌, true, eqb, ltb, List, [], ◌∷◌, ◌++◌, sym, refl, ◌∙◌, subst, arith}
use Rattle.std.specs.List.{flat_map, AllByRecursion}
use Rattle.std.proofs.ByRecursion.{All-weaker}
use Rattle.std.proofs.lemmas.Bool.{cond-true, eq-eqb, ltb-true}
use Rattle.cell.specs.declared.simplex.Simplex.{Simplex}
use Rattle.cell.specs.Simplices.{simplices}
use Rattle.index.specs.Closed.{Ascending}
use Rattle.reader.specs.declared.record.Record.{Record}
use Rattle.reader.specs.declared.record.Record.TheVariants as kind
use Rattle.reader.specs.declared.turn.Progress.{Progress}
use Rattle.reader.specs.JobLaw.{Follows}
use Rattle.reader.specs.Saying.{drawn_by}
use Rattle.reader.proofs.Taking.{Passes, place_earliest, taken_passes, turn_places}
use Rattle.reader.specs.Judging.{advanced}
use Rattle.reader.specs.Notes.{Notes}
use Rattle.reader.specs.Turns.{group_of, place}

-- the simplices that come after a job stands at p
pub record Ascents (p : Progress) (ss : List Simplex) : Type 0 where
  pub valid : AllByRecursion (λ s. simplices.valid s ≡ true) ss
  pub ascending : Ascending simplices ss
  pub above_key : place p.group ≡ 3 → AllByRecursion (λ s. p.key < simplices.rank s) ss
  pub ended : 4 ≤ place p.group → ss ≡ []

module _ (k next : Notes) (ss : List Simplex) where
  not_before : (r : Record) → Passes k r next → place k.progress.group ≤ place (group_of r)
  not_before r p = omega (arith, (turn_places k r next p).0, place_earliest k.progress.group)

  above_before : (n : ℕ) → k.progress.key < n → AllByRecursion (λ s. n < simplices.rank s) ss →
      AllByRecursion (λ s. k.progress.key < simplices.rank s) ss
  above_before n less above =
      All-weaker (λ s. n < simplices.rank s) (λ s. k.progress.key < simplices.rank s) (λ s h. omega arith) ss above

  ascents_drawn : (s : Simplex) → Passes k (kind.Drawn s) next → Ascents (advanced k.progress (kind.Drawn s)) ss →
      Ascents k.progress (s ∷ ss)
  ascents_drawn s p a =
      let g = k.progress.group in
      let test = ltb k.progress.key (simplices.rank s) in
      let less : place g ≡ 3 → k.progress.key < simplices.rank s = λ e.
      ltb-true k.progress.key (simplices.rank s)
      (sym (cond-true (eqb (place g) 3) test true (eq-eqb (place g) 3 e)) ∙ p.above_last) in
      record {
        valid = (p.ranged, a.valid);
        ascending = (a.above_key refl, a.ascending);
        above_key = λ e. (less e, above_before (simplices.rank s) (less e) (a.above_key refl));
        ended = λ late. absurd (let early = not_before (kind.Drawn s) p in omega arith);
      }

  ascents_other : (r : Record) → Passes k r next → (place (group_of r) ≡ 3 → ⊥) →
      Ascents (advanced k.progress r) ss → Ascents k.progress ss
  ascents_other r p other a =
      let early = not_before r p in
      record {
        valid = a.valid;
        ascending = a.ascending;
        above_key = λ e. subst (AllByRecursion (λ s. k.progress.key < simplices.rank s))
            (sym (a.ended (let late : 4 ≤ place (group_of r) = grind arith in late))) tt;
        ended = λ late. a.ended (let on : 4 ≤ place (group_of r) = omega arith in on);
      }

  ascents_more : (r : Record) → Passes k r next → Ascents (advanced k.progress r) ss →
      Ascents k.progress (drawn_by r ++ ss)
  ascents_more (kind.Drawn s) p a = ascents_drawn s p a
  ascents_more r p a = ascents_other r p (λ e. omega arith) a

pub ascents_follow : (records : List Record) (k end : Notes) → Follows k records end →
    Ascents k.progress (flat_map drawn_by records)
ascents_follow [] k end f = record { valid = tt; ascending = tt; above_key = λ e. tt; ended = λ late. refl }
ascents_follow (r ∷ records) k end f =
    let p = taken_passes k r f.0 f.1 in
    ascents_more k f.0 (flat_map drawn_by records) r p
    (subst (λ (c : Notes). Ascents c.progress (flat_map drawn_by records)) p.leads
    (ascents_follow records f.0 end f.2))
