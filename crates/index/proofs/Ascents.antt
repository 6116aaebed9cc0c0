-- Ascending lists: by places, at their end, and in the middle.
use Rattle.std.proofs.Common.{◌≡◌, ℕ, zero, suc, ◌<◌, true, List, [], ◌∷◌, ◌++◌, length, get_or, refl, arith}
use Rattle.std.specs.List.{AllByRecursion}
use Rattle.std.proofs.ByRecursion.{All-get_or, All-push}
use Rattle.std.proofs.lemmas.Bool.{ltb-true, lt-ltb}
use Rattle.cell.specs.Kind.{Kind}
use Rattle.index.specs.Closed.{Ascending}
use Rattle.index.specs.Test.{above_last}

all_last : {K : Type 0} (P : K → Type 0) (cs : List K) (c : K) → AllByRecursion P (cs ++ c ∷ []) → P c
all_last P [] c h = h.0
all_last P (b ∷ cs) c h = all_last P cs c h.1

module _ {K : Type 0} (k : Kind K) where
  -- a cell of an ascending list stands above each cell before it
  pub rank_get_or_lt :
      (cs : List K) (i j : ℕ) (d : K) → Ascending k cs → i < j → j < length cs →
      k.rank (get_or cs i d) < k.rank (get_or cs j d)
  rank_get_or_lt [] i j d asc l w = absurd (omega arith)
  rank_get_or_lt (c ∷ cs) i zero d asc l w = absurd (omega arith)
  rank_get_or_lt (c ∷ cs) zero (suc j) d asc l w =
      All-get_or (λ e. k.rank c < k.rank e) cs j d (omega arith) asc.0
  rank_get_or_lt (c ∷ cs) (suc i) (suc j) d asc l w = rank_get_or_lt cs i j d asc.1 (omega arith) (omega arith)

  -- an ascending list goes on with a cell above its last one
  pub ascending_push : (cs : List K) (c : K) → Ascending k cs → above_last k cs c ≡ true → Ascending k (cs ++ c ∷ [])
  ascending_push [] c asc h = (tt, tt)
  ascending_push (b ∷ []) c asc h = ((ltb-true (k.rank b) (k.rank c) h, tt), (tt, tt))
  ascending_push (b ∷ d ∷ cs) c asc h =
      let rest = ascending_push (d ∷ cs) c asc.1 h in
      let above : k.rank d < k.rank c = all_last (λ e. k.rank d < k.rank e) cs c rest.0 in
      (All-push (λ e. k.rank b < k.rank e) (d ∷ cs) c asc.0 (omega (arith, asc.0.0)), rest)

  -- a cell in the middle of an ascending list stands above the last one before it
  pub above_last_middle :
      (before after : List K) (c : K) → Ascending k (before ++ c ∷ after) → above_last k before c ≡ true
  above_last_middle [] after c asc = refl
  above_last_middle (b ∷ []) after c asc = lt-ltb (k.rank b) (k.rank c) asc.0.0
  above_last_middle (b ∷ d ∷ before) after c asc = above_last_middle (d ∷ before) after c asc.1
