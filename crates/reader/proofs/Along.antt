-- A walk along the bytes of records that follow one another comes to what stands after them.
use Rattle.std.proofs.Common.{◌≡◌, ℕ, ◌-◌, ◌<◌, ◌≤◌, List, [], ◌∷◌, ◌++◌, length, Option, Ok, Err, sym, refl, ap, ◌∙◌, subst, inl, inr, arith}
use Rattle.std.specs.List.{flat_map}
use Rattle.std.proofs.lemmas.List.{append_assoc}
use Rattle.std.specs.Option.{ok_or}
use Rattle.reader.specs.declared.fault.ReadFault.TheVariants.{Flawed}
use Rattle.reader.specs.declared.record.Flaw.{Flaw}
use Rattle.reader.specs.declared.record.Flaw.TheVariants.{OutOfTurn}
use Rattle.reader.specs.declared.record.Record.{Record}
use Rattle.reader.specs.Format.{bytes_of}
use Rattle.reader.specs.JobLaw.{Follows, Wrong}
use Rattle.reader.specs.Records.{split}
use Rattle.reader.proofs.Fronts.{rest_of, split_left}
use Rattle.reader.proofs.RecordBytes.{split_bytes_of}
use Rattle.reader.proofs.Taking.{taken_err}
use Rattle.reader.proofs.Walks.{read_ended, read_more, read_stopped, step_broken, step_refused, step_taken}
use Rattle.reader.specs.Notes.{Notes, taken}
use Rattle.reader.specs.Reading.{read_from}
use Rattle.reader.specs.Sheets.{Contents}
use Rattle.reader.proofs.Knowing.{not_completed}

some_front : (bytes : List ℕ) (r : Record) (rest : List ℕ) → split bytes ≡ Ok (r, rest) → 0 < length bytes
some_front [] r rest e = absurd (let z : ◌≡◌ {A = ℕ} 0 1 = cc in omega arith)
some_front (b ∷ bytes) r rest e = omega arith

-- from n records to go the walk comes to the rest, with enough records to go
pub record Comes (n whole : ℕ) (k : Notes) (bytes : List ℕ) (end : Notes) (rest : List ℕ) : Type 0 where
  pub left : ℕ
  pub enough : length rest ≤ left
  pub walk : read_from n whole k bytes ≡ read_from left whole end rest

module _ (n whole : ℕ) (k next end : Notes) (bytes rest left : List ℕ) where
  comes_more : (r : Record) → split bytes ≡ Ok (r, rest) → taken k r ≡ Ok next → length bytes ≤ n →
      (length rest ≤ n - 1 → Comes (n - 1) whole next rest end left) → Comes n whole k bytes end left
  comes_more r front is-taken fuel on =
      let some = some_front bytes r rest front in
      let less : length rest < length bytes =
      subst (λ s. length (rest_of s) < length bytes) front (split_left bytes some) in
      let goes = on (omega arith) in
      record {
        left = goes.left;
        enough = goes.enough;
        walk = read_more n whole k next bytes rest some fuel
            (step_taken k bytes r rest next front is-taken)
            ∙ goes.walk;
      }

pub comes_along : (records : List Record) (n whole : ℕ) (k end : Notes) (rest : List ℕ) → Follows k records end →
    length (flat_map bytes_of records ++ rest) ≤ n → Comes n whole k (flat_map bytes_of records ++ rest) end rest
comes_along [] n whole k end rest f fuel =
    record { left = n; enough = fuel; walk = ap (λ (c : Notes). read_from n whole c rest) f }
comes_along (r ∷ records) n whole k end rest f fuel =
    let on = flat_map bytes_of records ++ rest in
    let front = ap split (append_assoc (bytes_of r) (flat_map bytes_of records) rest) ∙ split_bytes_of r on in
    comes_more n whole k f.0 end (flat_map bytes_of (r ∷ records) ++ rest) on rest r front f.1 fuel
    (comes_along records (n - 1) whole f.0 end rest f.2)

-- and there it stops, if what stands there is wrong
pub stops_wrong : (n whole : ℕ) (k : Notes) (rest : List ℕ) (f : Flaw) → length rest ≤ n → Wrong k rest f →
    read_from n whole k rest ≡ Err (Flawed f (whole - length rest))
stops_wrong n whole k [] f fuel w =
    let at-end : whole ≡ whole - 0 = omega arith in
    read_ended n whole k [] refl
    ∙ ap (λ (o : Option Contents). ok_or o (Flawed OutOfTurn whole)) (not_completed k w.0)
    ∙ ap (λ (g : Flaw). Err (Flawed g whole)) (sym w.1) ∙ ap (λ (m : ℕ). Err (Flawed f m)) at-end
stops_wrong n whole k (b ∷ rest) f fuel w =
    read_stopped n whole k (b ∷ rest) f (omega arith) fuel
    (elim w [
      | inl e ↦ step_broken k (b ∷ rest) f e
      | inr t ↦ step_refused k (b ∷ rest) t.0 t.1 f t.2 (taken_err k t.0 k.progress refl f t.3)
    ])
