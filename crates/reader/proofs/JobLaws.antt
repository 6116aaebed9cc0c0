-- The law of a job.
use Rattle.std.proofs.Common.{◌≡◌, ℕ, ◌-◌, ◌<◌, ◌≤◌, ◌⊎◌, List, [], ◌++◌, length, get_or, Option, Ok, Err, Result, sym, refl, ap, ◌∙◌, subst, inl, inr, arith, w8, Fits}
use Rattle.std.specs.List.{flat_map}
use Rattle.std.proofs.ByRecursion.{All-from_get_or}
use Rattle.std.proofs.lemmas.List.{append-nil, length-append}
use Rattle.std.proofs.lemmas.Bool.{cases_lt}
use Rattle.reader.specs.declared.fault.ReadFault.{ReadFault}
use Rattle.reader.specs.declared.fault.ReadFault.TheVariants.{Flawed, TooLong}
use Rattle.reader.specs.declared.record.Flaw.{Flaw}
use Rattle.reader.specs.declared.record.Flaw.TheVariants.{OutOfTurn}
use Rattle.reader.specs.declared.record.Record.{Record}
use Rattle.reader.specs.Format.{bytes_of}
use Rattle.reader.specs.JobLaw.{Begins, Fails, JobLaw, Says}
use Rattle.reader.specs.Telling.{IsFormed}
use Rattle.reader.proofs.Along.{Comes, comes_along, stops_wrong}
use Rattle.reader.proofs.Following.{Leads, Outcome, walk_outcome}
use Rattle.reader.proofs.Formed.{formed_follows}
use Rattle.reader.proofs.RecordBytes.{AllBytes}
use Rattle.reader.proofs.Tellings.{tells, tells_formed}
use Rattle.reader.proofs.Walks.{read_ended, read_job_long, read_job_walk}
use Rattle.reader.specs.Notes.{Notes, blank}
use Rattle.reader.specs.Reading.{read_job}
use Rattle.reader.specs.Sheets.{Contents}
use Rattle.std.specs.Option.{ok_or}
use Rattle.reader.proofs.Knowing.{known_start}

begins : (job : List ℕ) (k : Notes) (rest : List ℕ) (l : Leads blank job k rest) → Begins job l.records k rest
begins job k rest l = record { bytes = l.bytes_are; follow = l.follow }

module _ (job : List ℕ) where
  -- what the walk says, unless the job is too long
  job_outcome : AllBytes job → (r : Result Contents ReadFault) → read_job job ≡ r → length job ≤ 16384 →
      Outcome (length job) blank job r
  job_outcome small r e short =
      subst (Outcome (length job) blank job) (sym (read_job_walk job short) ∙ e)
      (walk_outcome (length job) (length job) blank job (omega arith) small known_start)

  not_long : (r : Result Contents ReadFault) → read_job job ≡ r → (r ≡ Err TooLong → ⊥) → length job ≤ 16384
  not_long r e never =
      elim (cases_lt 16384 (length job)) [
        | inl long ↦ absurd (never (sym e ∙ read_job_long job long))
        | inr short ↦ short
      ]

  -- the walk along the records at the front
  comes_to : (records : List Record) (k : Notes) (rest : List ℕ) → Begins job records k rest →
      Comes (length job) (length job) blank job k rest
  comes_to records k rest b =
      subst (λ ys. Comes (length job) (length job) blank ys k rest) (sym b.bytes)
      (comes_along records (length job) (length job) blank k rest b.follow
      (let same = ap length b.bytes in omega (arith, same)))

  says_from : AllBytes job → (k : Contents) → read_job job ≡ Ok k → Says job k
  says_from small k e =
      let short = not_long (Ok k) e (λ w. let z : ◌≡◌ {A = ℕ} 0 1 = cc in omega arith) in
      let o = job_outcome small (Ok k) e short in
      record {
        short = short;
        records = o.1.records;
        notes = o.0;
        whole = begins job o.0 [] o.1;
        complete = o.2;
      }

  accepted_from : (k : Contents) → Says job k → read_job job ≡ Ok k
  accepted_from k s =
      let goes = comes_to s.records s.notes [] s.whole in
      read_job_walk job s.short ∙ goes.walk ∙ read_ended goes.left (length job) s.notes [] refl
      ∙ ap (λ (o : Option Contents). ok_or o (Flawed OutOfTurn (length job))) s.complete

  -- the bytes before the rest
  before_rest : (front rest : List ℕ) → job ≡ front ++ rest → length job - length rest ≡ length front
  before_rest front rest e = omega (arith, ap length e, length-append front rest)

  fails_from : AllBytes job → (f : Flaw) (at : ℕ) → read_job job ≡ Err (Flawed f at) → Fails job f at
  fails_from small f at e =
      let short = not_long (Err (Flawed f at)) e (λ w. let z : ◌≡◌ {A = ℕ} 0 1 = cc in omega arith) in
      let o = job_outcome small (Err (Flawed f at)) e short in
      let same : o.flaw ≡ f = let g = o.fault in cc in
      let here : at ≡ length job - length o.rest = let g = o.fault in cc in
      record {
        short = short;
        records = o.leads.records;
        notes = o.end;
        rest = o.rest;
        begins = begins job o.end o.rest o.leads;
        place = here ∙ before_rest (flat_map bytes_of o.leads.records) o.rest o.leads.bytes_are;
        wrong = rw same at o.wrong;
      }

  flawed_from : (f : Flaw) (at : ℕ) → Fails job f at → read_job job ≡ Err (Flawed f at)
  flawed_from f at s =
      let goes = comes_to s.records s.notes s.rest s.begins in
      read_job_walk job s.short ∙ goes.walk
      ∙ stops_wrong goes.left (length job) s.notes s.rest f goes.enough s.wrong
      ∙ ap (λ (m : ℕ). Err (Flawed f m))
      (before_rest (flat_map bytes_of s.records) s.rest s.begins.bytes ∙ sym s.place)

  long_from : AllBytes job → read_job job ≡ Err TooLong → 16384 < length job
  long_from small e = elim (cases_lt 16384 (length job)) [
    | inl long ↦ long
    | inr short ↦ absurd (let g = (job_outcome small (Err TooLong) e short).fault in
        let z : ◌≡◌ {A = ℕ} 0 1 = cc in omega arith)
  ]

  formed_from : (k : Contents) → Says job k → IsFormed job
  formed_from k s = record {
    short = s.short;
    order = k.order;
    records = s.records;
    bytes = s.whole.bytes ∙ append-nil (flat_map bytes_of s.records);
    formed = tells_formed s.records s.notes s.whole.follow k s.complete;
  }

  says_formed : IsFormed job → (k : Contents) × Says job k
  says_formed w =
      let ends = formed_follows w.records w.order w.formed in (
        ends.2,
        record {
          short = w.short;
          records = w.records;
          notes = ends.0;
          whole = record { bytes = w.bytes ∙ sym (append-nil (flat_map bytes_of w.records)); follow = ends.1 };
          complete = ends.3;
        },
      )

  -- a job that is not too long
  decided_from : AllBytes job → length job ≤ 16384 → (r : Result Contents ReadFault) → read_job job ≡ r →
      ((k : Contents) × Says job k) ⊎ (((f : Flaw) × (at : ℕ) × Fails job f at) ⊎ (16384 < length job))
  decided_from small short (Ok k) e = inl (k, says_from small k e)
  decided_from small short (Err fault) e =
      let o = job_outcome small (Err fault) e short in
      let at = length job - length o.rest in
      inr (inl (o.flaw, at, fails_from small o.flaw at (e ∙ ap Err o.fault)))

  job_law : AllBytes job → JobLaw job
  job_law small = record {
    accepted = λ k. (says_from small k, accepted_from k);
    formed = ((λ w. formed_from w.0 w.1), says_formed);
    flawed = λ f at. (fails_from small f at, flawed_from f at);
    too_long = (long_from small, read_job_long job);
    decided = elim (cases_lt 16384 (length job)) [
      | inl long ↦ inr (inr long)
      | inr short ↦ decided_from small short (read_job job) refl
    ];
    told = λ k s. tells s.records s.notes s.whole.follow k s.complete;
  }

  -- of the bytes that a program holds
  pub read_law : ((i : ℕ) → Fits w8 (get_or job i 0)) → JobLaw job
  read_law small = job_law (All-from_get_or (λ b. b < 256) job 0 (λ i h. (small i).fits))
