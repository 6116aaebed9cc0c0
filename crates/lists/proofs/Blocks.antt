-- When a block is listed early: where the list is overfull, and where no voxel is filled.
use Rattle.std.proofs.Common.{◌≡◌, ℕ, zero, suc, ◌+◌, ◌*◌, ◌<◌, ◌≤◌, Bool, true, false, cond, eqb, List, [], ◌∷◌, ◌++◌, length, sym, ap, ◌∙◌, subst, add-one, arith, length-append}
use Rattle.std.proofs.lemmas.Bool.{and_right, or_from}
use Rattle.cell.specs.declared.cube.Cube.{Cube}
use Rattle.cell.specs.Cubes.{cubes}
use Rattle.lists.specs.Block.{Blank, belongs, block, either, high, low}
use Rattle.lists.specs.Ranks.{block_below, cube_of, cubes_at}
use Rattle.lists.specs.Working.{Holds, Working}
use Rattle.lists.proofs.Below.{block_below_grows, block_below_more, block_below_none}
use Rattle.lists.proofs.Holding.{holds_past, many_if_overfull}

-- a list that is overfull before the last rank is overfull at the end
pub overfull_early : (flags : List Bool) (n : ℕ) → n ≤ 19652 → (w : Working Cube) →
    Holds w (block_below (belongs flags) n) → w.overfull ≡ true → Holds w (block flags)
overfull_early flags n h w holds full =
    let r = block_below_grows (belongs flags) n 19652 h in
    let cs : List Cube = block_below (belongs flags) n in
    let many : 1024 < length cs = many_if_overfull w cs holds full in
    subst (Holds w) (sym r.1) (rw full (holds_past w cs holds r.0 (omega arith) (omega (arith, length-append cs r.0))))

-- where no voxel is filled no cube belongs to the block
either_none : (test : ℕ → Bool) (n : ℕ) → ((m : ℕ) → test m ≡ false) → either test n ≡ false
either_none test n none = or_from (test (low n)) (test (high n)) (none (low n)) (none (high n))

belongs_blank : (flags : List Bool) (c : Cube) → Blank flags → belongs flags c ≡ false
belongs_blank flags c none =
    either_none _ c.z (λ k. either_none _ c.y (λ j. either_none _ c.x (λ i. none (64 * k + 8 * j + i))))

block_below_blank : (test : Cube → Bool) (n : ℕ) → ((c : Cube) → test c ≡ false) → block_below test n ≡ []
block_below_blank test zero none = block_below_none test
block_below_blank test (suc n) none =
    ap (block_below test) (sym (add-one n)) ∙ block_below_more test n
    ∙ ap (λ (cs : List Cube). cs ++ cubes_at test n) (block_below_blank test n none)
    ∙ ap (λ (b : Bool). cond b (cube_of n ∷ []) [])
    (and_right (eqb (cubes.rank (cube_of n)) n) (test (cube_of n)) (none (cube_of n)))

pub block_blank : (flags : List Bool) → Blank flags → [] ≡ block flags
block_blank flags none = sym (block_below_blank (belongs flags) 19652 (λ c. belongs_blank flags c none))

-- the same rank, written in another way
pub holds_same :
    (test : Cube → Bool) (m n : ℕ) (w : Working Cube) → m ≡ n → Holds w (block_below test m) → Holds w (block_below test n)
holds_same test m n w same holds = subst (λ (r : ℕ). Holds w (block_below test r)) same holds
