-- A walk through a job goes along records that follow one another, to the end or to the first fault.
use Rattle.std.proofs.Common.{◌≡◌, ℕ, zero, suc, ◌-◌, ◌<◌, ◌≤◌, ◌⊎◌, List, [], ◌∷◌, ◌++◌, length, Some, None, Option, Ok, Err, Result, sym, refl, ap, ◌∙◌, subst, inl, inr, arith}
use Rattle.std.specs.List.{flat_map}
use Rattle.std.specs.Option.{ok_or}
use Rattle.std.proofs.lemmas.List.{append_assoc}
use Rattle.reader.specs.declared.fault.ReadFault.{ReadFault}
use Rattle.reader.specs.declared.fault.ReadFault.TheVariants.{Flawed}
use Rattle.reader.specs.declared.record.Flaw.{Flaw}
use Rattle.reader.specs.declared.record.Flaw.TheVariants.{OutOfTurn}
use Rattle.reader.specs.declared.record.Record.{Record}
use Rattle.reader.specs.Format.{bytes_of}
use Rattle.reader.specs.JobLaw.{Follows, Wrong}
use Rattle.reader.specs.Records.{Split, split}
use Rattle.reader.proofs.Fronts.{rest_of, split_left}
use Rattle.reader.proofs.RecordBytes.{AllBytes, all_rest, split_bytes}
use Rattle.reader.proofs.Taking.{judged_err, taken_passes}
use Rattle.reader.proofs.Walks.{read_more, read_stopped, step_broken, step_refused, step_taken}
use Rattle.reader.specs.Judging.{judged}
use Rattle.reader.specs.Notes.{Notes, taken}
use Rattle.reader.specs.Reading.{read_from}
use Rattle.reader.specs.Sheets.{Contents, completed}
use Rattle.reader.proofs.Knowing.{Known, known_next, not_asked}

-- the bytes begin with records that lead from one contents to another
pub record Leads (k : Notes) (bytes : List ℕ) (end : Notes) (rest : List ℕ) : Type 0 where
  pub records : List Record
  pub bytes_are : bytes ≡ flat_map bytes_of records ++ rest
  pub follow : Follows k records end

-- what a walk that began at k says of the bytes, in a job of the given length
pub record Stops (whole : ℕ) (k : Notes) (bytes : List ℕ) (e : ReadFault) : Type 0 where
  pub flaw : Flaw
  pub end : Notes
  pub rest : List ℕ
  pub fault : e ≡ Flawed flaw (whole - length rest)
  pub leads : Leads k bytes end rest
  pub wrong : Wrong end rest flaw

abbrev pub Outcome : ℕ → Notes → List ℕ → Result Contents ReadFault → Type 0
Outcome whole k bytes (Ok c) = (end : Notes) × Leads k bytes end [] × (completed end ≡ Some c)
Outcome whole k bytes (Err e) = Stops whole k bytes e

leads_none : (k : Notes) (bytes : List ℕ) → Leads k bytes k bytes
leads_none k bytes = record { records = []; bytes_are = refl; follow = refl }

module _ (k next : Notes) (r : Record) (bytes rest : List ℕ)
    (is-taken : taken k r ≡ Ok next) (front : bytes ≡ bytes_of r ++ rest) where
  leads_more : (end : Notes) (left : List ℕ) → Leads next rest end left → Leads k bytes end left
  leads_more end left l = record {
    records = r ∷ l.records;
    bytes_are = front ∙ ap (λ ys. bytes_of r ++ ys) l.bytes_are
        ∙ sym (append_assoc (bytes_of r) (flat_map bytes_of l.records) left);
    follow = (next, is-taken, l.follow);
  }

  outcome_more : (whole : ℕ) (o : Result Contents ReadFault) → Outcome whole next rest o → Outcome whole k bytes o
  outcome_more whole (Ok c) h = (h.0, leads_more h.0 [] h.1, h.2)
  outcome_more whole (Err e) h = record {
    flaw = h.flaw;
    end = h.end;
    rest = h.rest;
    fault = h.fault;
    leads = leads_more h.end h.rest h.leads;
    wrong = h.wrong;
  }

-- at the end
outcome_none : (whole : ℕ) (k : Notes) → Known k.progress → (o : Option Contents) → completed k ≡ o →
    Outcome whole k [] (ok_or o (Flawed OutOfTurn whole))
outcome_none whole k known (Some c) e = (k, leads_none k [], e)
outcome_none whole k known None e = record {
  flaw = OutOfTurn;
  end = k;
  rest = [];
  fault = ap (Flawed OutOfTurn) (omega arith);
  leads = leads_none k [];
  wrong = (not_asked k known e, refl);
}

wrong_front : (k : Notes) (bytes : List ℕ) (f : Flaw) → 0 < length bytes →
    (split bytes ≡ Err f)
    ⊎ ((r : Record) × (rest : List ℕ) × (split bytes ≡ Ok (r, rest)) × (judged k.progress r ≡ Err f)) →
    Wrong k bytes f
wrong_front k [] f some h = absurd (omega arith)
wrong_front k (b ∷ bytes) f some h = h

module _ (n whole : ℕ) (k : Notes) (bytes : List ℕ) (some : 0 < length bytes) (fuel : length bytes ≤ suc n)
    (small : AllBytes bytes) (known : Known k.progress)
    (on : (next : Notes) (rest : List ℕ) → length rest ≤ n → AllBytes rest → Known next.progress →
    Outcome whole next rest (read_from n whole next rest)) where
  abbrev Walked : Type 0
  Walked = Outcome whole k bytes (read_from (suc n) whole k bytes)

  at_stop : (f : Flaw) → read_from (suc n) whole k bytes ≡ Err (Flawed f (whole - length bytes)) →
      Wrong k bytes f → Walked
  at_stop f is w = subst (Outcome whole k bytes) (sym is) (record {
    flaw = f;
    end = k;
    rest = bytes;
    fault = refl;
    leads = leads_none k bytes;
    wrong = w;
  })

  at_record : (r : Record) (rest : List ℕ) → split bytes ≡ Ok (r, rest) → (t : Result Notes Flaw) →
      taken k r ≡ t → Walked
  at_record r rest e (Err f) t =
      at_stop f
      (read_stopped (suc n) whole k bytes f some fuel (step_refused k bytes r rest f e t))
      (wrong_front k bytes f some (inr (r, rest, e, judged_err k r f t)))
  at_record r rest e (Ok next) t =
      let front = split_bytes bytes r rest small e in
      let less : length rest < length bytes =
      subst (λ s. length (rest_of s) < length bytes) e (split_left bytes some) in
      let same : suc n - 1 ≡ n = omega arith in
      let goes = read_more (suc n) whole k next bytes rest some fuel
      (step_taken k bytes r rest next e t)
      ∙ ap (λ (m : ℕ). read_from m whole next rest) same in
      subst (Outcome whole k bytes) (sym goes)
      (outcome_more k next r bytes rest t front whole (read_from n whole next rest)
      (on next rest (omega arith) (all_rest bytes (bytes_of r) rest front small)
      (known_next k next r (taken_passes k r next t) known)))

  at_front : (s : Split) → split bytes ≡ s → Walked
  at_front (Ok p) e = at_record p.0 p.1 e (taken k p.0) refl
  at_front (Err f) e =
      at_stop f
      (read_stopped (suc n) whole k bytes f some fuel (step_broken k bytes f e))
      (wrong_front k bytes f some (inl e))

pub walk_outcome : (n whole : ℕ) (k : Notes) (bytes : List ℕ) → length bytes ≤ n → AllBytes bytes →
    Known k.progress → Outcome whole k bytes (read_from n whole k bytes)
unfolding read_from
walk_outcome n whole k [] fuel small known = outcome_none whole k known (completed k) refl
walk_outcome zero whole k (b ∷ bytes) fuel small known = absurd (omega arith)
walk_outcome (suc n) whole k (b ∷ bytes) fuel small known =
    at_front n whole k (b ∷ bytes) (omega arith) fuel small known (λ next rest. walk_outcome n whole next rest)
    (split (b ∷ bytes)) refl
