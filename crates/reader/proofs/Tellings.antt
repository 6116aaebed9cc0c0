-- What records that follow one another tell.
use Rattle.std.proofs.Common.{◌≡◌, ℕ, ◌<◌, Bool, true, false, ◌&&◌, leb, ◌≤◌, Some, Option, ◌↔◌, List, [], ◌∷◌, ◌++◌, get_or, replicate, sym, refl, ap, ◌∙◌, subst, inl, inr, arith}
use Rattle.std.specs.List.{ContainsAt, flat_map, AllByRecursion}
use Rattle.std.proofs.ByRecursion.{All-append}
use Rattle.std.proofs.lemmas.List.{append_assoc, append-nil, get_or_past, get_or-replicate, length-replicate}
use Rattle.std.proofs.lemmas.Bool.{and_parts, both_ways, cases_lt, leb-true}
use Rattle.cell.specs.Simplices.{simplices}
use Rattle.index.specs.Closed.{Ascending}
use Rattle.reader.specs.declared.record.Record.{Record}
use Rattle.reader.specs.declared.record.Record.TheVariants.{Filled, Pad, Drawn}
use Rattle.reader.specs.declared.record.Voxel.{Voxel}
use Rattle.reader.specs.declared.turn.Progress.{Progress}
use Rattle.reader.specs.JobLaw.{Follows}
use Rattle.reader.specs.Saying.{drawn_by, filled_by, pads_by, questions_by}
use Rattle.reader.specs.Telling.{Tells, WellFormed}
use Rattle.reader.proofs.DrawnOrder.{ascents_follow}
use Rattle.reader.proofs.GroupOrder.{in_order}
use Rattle.reader.proofs.Marks.{marked, marked_append, marked_flag}
use Rattle.reader.proofs.NumbersTold.{numbers_told, size_told}
use Rattle.reader.proofs.RecordOrder.{ascend_follow, ranged_follow}
use Rattle.reader.proofs.Singles.{field_told, question_told}
use Rattle.reader.proofs.Taking.{Passes, taken_passes}
use Rattle.reader.specs.Keys.{voxel_key}
use Rattle.reader.specs.Notes.{Notes, blank, noted}
use Rattle.reader.specs.Sheets.{Contents, completed}
use Rattle.reader.specs.declared.order.FieldOrder.{FieldOrder}
use Rattle.reader.specs.declared.question.Question as question
use Rattle.reader.specs.Turns.{place}
use Rattle.reader.proofs.Knowing.{Completed, completed_has, completed_late, known_follow, known_start}
use Rattle.reader.specs.Values.{in_range, voxel_in_range}

voxel_below : (v : Voxel) → voxel_in_range v ≡ true → voxel_key v < 512
voxel_below v e =
    let yz = and_parts (leb v.x 7) (leb v.y 7 && leb v.z 7) e in
    let z = and_parts (leb v.y 7) (leb v.z 7) yz.1 in
    omega (arith, leb-true v.x 7 yz.0, leb-true v.y 7 z.0, leb-true v.z 7 z.1)

filled_below : (order : Option FieldOrder) (r : Record) → in_range order r ≡ true → AllByRecursion (λ m. m < 512) (filled_by r)
filled_below order (Filled v) e = (voxel_below v e, tt)
filled_below order (Pad v) e = (voxel_below v e, tt)
filled_below order _ e = tt

pads_below : (order : Option FieldOrder) (r : Record) → in_range order r ≡ true → AllByRecursion (λ m. m < 512) (pads_by r)
pads_below order (Pad v) e = (voxel_below v e, tt)
pads_below order _ e = tt

noted_filled : (k : Notes) (r : Record) → (noted k r).filled ≡ marked k.filled (filled_by r)
noted_filled k (Filled v) = refl
noted_filled k _ = refl

noted_pads : (k : Notes) (r : Record) → (noted k r).pads ≡ marked k.pads (pads_by r)
noted_pads k (Pad v) = refl
noted_pads k _ = refl

noted_drawing : (k : Notes) (r : Record) → (noted k r).drawing ≡ k.drawing ++ drawn_by r
noted_drawing k (Drawn s) = refl
noted_drawing k _ = sym (append-nil k.drawing)

none_set : (size n : ℕ) → get_or (replicate size false) n false ≡ true → ⊥
none_set size n e = elim (cases_lt n size) [
  | inl less ↦ both_ways (get_or (replicate size false) n false) (get_or-replicate size n false false less) e
  | inr past ↦ both_ways (get_or (replicate size false) n false)
      (get_or_past (replicate size false) n false (let l = length-replicate size false in omega arith)) e
]

-- one of the two lists of flags, with the voxels that a record sets in it
module _ (flags : Notes → List Bool) (by : Record → List ℕ)
    (below : (order : Option FieldOrder) (r : Record) → in_range order r ≡ true → AllByRecursion (λ m. m < 512) (by r))
    (steps : (k next : Notes) (r : Record) → Passes k r next → flags next ≡ marked (flags k) (by r)) where
  flags_follow : (records : List Record) (k end : Notes) → Follows k records end →
      flags end ≡ marked (flags k) (flat_map by records)
  flags_follow [] k end f = ap flags (sym f)
  flags_follow (r ∷ records) k end f =
      flags_follow records f.0 end f.2
      ∙ ap (λ l. marked l (flat_map by records)) (steps k f.0 r (taken_passes k r f.0 f.1))
      ∙ sym (marked_append (flags k) (by r) (flat_map by records))

  places_below : (records : List Record) (k end : Notes) → Follows k records end →
      AllByRecursion (λ m. m < 512) (flat_map by records)
  places_below [] k end f = tt
  places_below (r ∷ records) k end f =
      All-append (λ m. m < 512) (by r) (flat_map by records)
      (below k.progress.order r (taken_passes k r f.0 f.1).ranged)
      (places_below records f.0 end f.2)

  flag_set : flags blank ≡ replicate 512 false → (records : List Record) (end : Notes) → Follows blank records end →
      (n : ℕ) → (get_or (flags end) n false ≡ true) ↔ ContainsAt (flat_map by records) n
  flag_set none records end f n =
      let places = flat_map by records in
      let is : flags end ≡ marked (replicate 512 false) places =
      flags_follow records blank end f ∙ ap (λ l. marked l places) none in
      let at = ap (λ l. get_or l n false) is in
      let flag = marked_flag places (replicate 512 false) n
      (subst (λ (size : ℕ). AllByRecursion (λ m. m < size) places) (sym (length-replicate 512 false))
      (places_below records blank end f)) in (
        (λ h. elim (flag.0 (sym at ∙ h)) [ inl e ↦ absurd (none_set 512 n e) | inr w ↦ w ]),
        (λ w. at ∙ flag.1 (inr w)),
      )

drawing_follow : (records : List Record) (k end : Notes) → Follows k records end →
    end.drawing ≡ k.drawing ++ flat_map drawn_by records
drawing_follow [] k end f = ap (λ (c : Notes). c.drawing) (sym f) ∙ sym (append-nil k.drawing)
drawing_follow (r ∷ records) k end f =
    drawing_follow records f.0 end f.2
    ∙ ap (λ l. l ++ flat_map drawn_by records)
    (ap (λ (c : Notes). c.drawing) (taken_passes k r f.0 f.1).leads ∙ noted_drawing k r)
    ∙ append_assoc k.drawing (drawn_by r) (flat_map drawn_by records)

module _ (records : List Record) (end : Notes) (f : Follows blank records end) (k : Contents)
    (complete : completed end ≡ Some k) where
  has : Completed end k
  has = completed_has end k complete

  late : 4 ≤ place end.progress.group
  late = completed_late end k (known_follow records blank end f known_start) complete

  drawn : k.drawing ≡ flat_map drawn_by records
  drawn = sym has.drawing ∙ drawing_follow records blank end f

  pub tells_formed : WellFormed k.order records
  tells_formed = record {
    groups = in_order records end f late;
    field = field_told records end f late ∙ ap (λ (o : Option FieldOrder). o ∷ []) has.order;
    ranged = subst (λ (o : Option FieldOrder). AllByRecursion (λ r. in_range o r ≡ true) records) has.order
        (ranged_follow records end f);
    ascend = ascend_follow records blank end f;
  }

  asked : flat_map questions_by records ≡ Some k.question ∷ []
  asked = question_told records end f late ∙ ap (λ (q : Option question.Question). q ∷ []) has.question

  pub tells : Tells records k
  tells = record {
    formed = tells_formed;
    order_known = ap (λ (p : Progress). p.order) (sym has.progress) ∙ has.order;
    question_known = ap (λ (p : Progress). p.asked) (sym has.progress) ∙ has.question;
    size = size_told records k.order tells_formed.field;
    question = asked;
    asked = numbers_told records k.question asked;
    filled = subst (λ (flags : List Bool). (n : ℕ) → (get_or flags n false ≡ true) ↔
        ContainsAt (flat_map filled_by records) n) has.filled
        (flag_set (λ k. k.filled) filled_by filled_below
        (λ k next r p. ap (λ (c : Notes). c.filled) p.leads ∙ noted_filled k r) refl records end f);
    pads = subst (λ (flags : List Bool). (n : ℕ) → (get_or flags n false ≡ true) ↔
        ContainsAt (flat_map pads_by records) n) has.pads
        (flag_set (λ k. k.pads) pads_by pads_below
        (λ k next r p. ap (λ (c : Notes). c.pads) p.leads ∙ noted_pads k r) refl records end f);
    drawing = drawn;
    valid = subst (AllByRecursion (λ s. simplices.valid s ≡ true)) (sym drawn)
        (ascents_follow records blank end f).valid;
    ascending = subst (Ascending simplices) (sym drawn) (ascents_follow records blank end f).ascending;
  }
