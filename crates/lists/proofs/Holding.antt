-- A working list and the list whose cells came to it.
use Rattle.std.proofs.Common.{◌≡◌, ℕ, ◌+◌, ◌<◌, ◌≤◌, Bool, true, List, [], ◌∷◌, ◌++◌, length, min, take, set, sym, ap, ◌∙◌, arith, length-take, length-take-le}
use Rattle.std.proofs.lemmas.List.{length_push, take_all, take-append-le, take_more_set}
use Rattle.std.proofs.lemmas.Bool.{le-ltb, lt-ltb, ltb-true}
use Rattle.lists.specs.Working.{Holds, Working, kept}

module _ {K : Type 0} (w : Working K) (cs : List K) (h : Holds w cs) where
  pub kept_whole : length cs ≤ 1024 → kept w ≡ cs
  kept_whole few = h.cells ∙ take_all 1024 cs few

  -- past 1,024 cells a working list stays as it is, whatever comes after
  pub holds_past :
      (more : List K) → 1024 ≤ length cs → 1024 < length (cs ++ more)
      → Holds (record { cells = kept w; overfull = true }) (cs ++ more)
  holds_past more past many = record {
    cells = h.cells ∙ sym (take-append-le 1024 cs more past);
    overfull = sym (lt-ltb 1024 (length (cs ++ more)) many);
  }

  pub many_if_overfull : w.overfull ≡ true → 1024 < length cs
  many_if_overfull e = ltb-true 1024 (length cs) (sym h.overfull ∙ e)

-- the first cells of an array of 1,024
module _ {K : Type 0} (items : List K) (count : ℕ) (overfull : Bool) (room : length items ≡ 1024) (cs : List K)
    (h : Holds (record { cells = take count items; overfull = overfull }) cs) (c : K) where
  size : count ≤ 1024 → min 1024 (length cs) ≡ count
  size within =
      sym (length-take 1024 cs) ∙ ap length (sym h.cells) ∙ length-take-le count items (omega (arith, room))

  pub holds_more :
      count < 1024
      → Holds (record { cells = take (count + 1) (set items count c); overfull = overfull }) (cs ++ c ∷ [])
  holds_more free =
      let few : length cs < 1024 = omega (arith, size (omega arith)) in
      let longer = length_push cs c in
      record {
        cells = take_more_set items count c (omega (arith, room))
            ∙ ap (λ (xs : List K). xs ++ c ∷ []) (h.cells ∙ take_all 1024 cs (omega arith))
            ∙ sym (take_all 1024 (cs ++ c ∷ []) (omega arith));
        overfull = h.overfull ∙ le-ltb 1024 (length cs) (omega arith)
            ∙ sym (le-ltb 1024 (length (cs ++ c ∷ [])) (omega arith));
      }

  pub holds_last :
      1024 ≤ count → count ≤ 1024 → Holds (record { cells = take count items; overfull = true }) (cs ++ c ∷ [])
  holds_last full within =
      let past : 1024 ≤ length cs = omega (arith, size within) in
      holds_past _ cs h (c ∷ []) past (omega (arith, length_push cs c))
