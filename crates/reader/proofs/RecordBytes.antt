-- A record and its bytes: what is split off the front of a job is the bytes of the record, and the other way round.
--
-- The bytes of a job are below 256; of a term only the low byte of the cell's number has to be.
use Rattle.std.proofs.Common.{◌≡◌, ℕ, zero, suc, ◌+◌, ◌*◌, ◌/◌, ◌%◌, ◌<◌, ◌≤◌, Bool, true, false, cond, eqb, leb, List, [], ◌∷◌, ◌++◌, length, get_or, take, drop, Ok, Err, sym, refl, ap, ◌∙◌, subst, arith}
use Rattle.std.specs.List.{AllByRecursion}
use Rattle.std.proofs.lemmas.Nat.{div-add-mod', div-mul-add, mod-mul-add}
use Rattle.std.proofs.ByRecursion.{All-drop}
use Rattle.std.proofs.lemmas.List.{drop_at, take-append-drop}
use Rattle.std.proofs.lemmas.Bool.{eqb-true, leb-true}
use Rattle.cell.specs.declared.simplex.Simplex.TheVariants.{Vertex, Edge, Triangle, Tetrahedron}
use Rattle.reader.specs.declared.record.Flaw.TheVariants.{CutShort}
use Rattle.reader.specs.declared.record.Record.{Record}
use Rattle.reader.specs.declared.record.Record.TheVariants.{Field, Filled, Pad, Drawn, Question, First, Second}
use Rattle.reader.specs.declared.record.Term.{Term}
use Rattle.reader.specs.Format.{bytes_of}
use Rattle.reader.specs.Records.{Kind, Split, body, body_of, kinds, split, term_of, voxel}
use Rattle.reader.proofs.Bodies.{body_taken}

abbrev pub AllBytes : List ℕ → Type 0
AllBytes = AllByRecursion (λ b. b < 256)

-- the bytes are those of the record at their front, and the rest
abbrev Fronted : List ℕ → Split → Type 0
Fronted bytes (Ok p) = bytes ≡ bytes_of p.0 ++ p.1
Fronted bytes (Err f) = Unit {0}

-- the first n bytes by their places
abbrev listed : ℕ → (ℕ → ℕ) → List ℕ
listed zero b = []
listed (suc n) b = b 0 ∷ listed n (λ i. b (suc i))

listed_take : (n : ℕ) (xs : List ℕ) → n ≤ length xs → listed n (λ i. get_or xs i 0) ≡ take n xs
listed_take zero xs h = refl
listed_take (suc n) [] h = absurd (omega arith)
listed_take (suc n) (x ∷ xs) h = ap (λ (ys : List ℕ). x ∷ ys) (listed_take n xs (omega arith))

byte_at : (xs : List ℕ) → AllBytes xs → (i : ℕ) → get_or xs i 0 < 256
byte_at [] h i = omega arith
byte_at (x ∷ xs) h zero = h.0
byte_at (x ∷ xs) h (suc i) = byte_at xs h.1 i

-- a kind of record whose bytes are its byte and its body; the second byte of a body may have to be one
abbrev Spells : Kind → Type 0
Spells k = (b : ℕ → ℕ) → b 1 < 256 → bytes_of (k.make b) ≡ k.byte ∷ listed k.size b

kind_fronted : (k : Kind) (xs : List ℕ) → Spells k → AllBytes xs → Fronted (k.byte ∷ xs) (body_of k.size k.make xs)
kind_fronted k xs is h = go (leb k.size (length xs)) refl where
  go : (t : Bool) → leb k.size (length xs) ≡ t →
      Fronted (k.byte ∷ xs) (cond t (Ok (k.make (λ i. get_or xs i 0), drop k.size xs)) (Err CutShort))
  go true e = sym (
      ap (λ (ys : List ℕ). ys ++ drop k.size xs) (is (λ i. get_or xs i 0) (byte_at xs h 1))
      ∙ ap (λ (ys : List ℕ). k.byte ∷ (ys ++ drop k.size xs)) (listed_take k.size xs (leb-true k.size (length xs) e))
      ∙ ap (λ (ys : List ℕ). k.byte ∷ ys) (take-append-drop k.size xs))
  go false e = tt

either_fronted : (b : Bool) (bytes : List ℕ) (s t : Split) → (b ≡ true → Fronted bytes s) → Fronted bytes t →
    Fronted bytes (cond b s t)
either_fronted true bytes s t here on = here refl
either_fronted false bytes s t here on = on

body_fronted : (ks : List Kind) (byte : ℕ) (xs : List ℕ) → AllByRecursion Spells ks → AllBytes xs →
    Fronted (byte ∷ xs) (body ks byte xs)
body_fronted [] byte xs is h = tt
body_fronted (k ∷ ks) byte xs is h =
    either_fronted (eqb byte k.byte) (byte ∷ xs) (body_of k.size k.make xs) (body ks byte xs)
    (λ e. rw (eqb-true byte k.byte e) (kind_fronted k xs is.0 h)) (body_fronted ks byte xs is.1 h)

-- the two bytes of a cell's number
number_bytes : (kind high low code : ℕ) → low < 256 →
    kind ∷ (high * 256 + low) / 256 ∷ (high * 256 + low) % 256 ∷ code ∷ [] ≡ kind ∷ high ∷ low ∷ code ∷ []
number_bytes kind high low code h =
    ap (λ (n : ℕ). kind ∷ n ∷ (high * 256 + low) % 256 ∷ code ∷ []) (div-mul-add high 256 low h)
    ∙ ap (λ (n : ℕ). kind ∷ high ∷ n ∷ code ∷ []) (mod-mul-add high 256 low h)

kinds_spell : AllByRecursion Spells kinds
kinds_spell = (
  λ b h. refl,
  (
    λ b h. refl,
    (
      λ b h. refl,
      (
        λ b h. refl,
        (
          λ b h. refl,
          (
            λ b h. refl,
            (
              λ b h. refl,
              (
                λ b h. refl,
                (λ b h. number_bytes 0x5a (b 0) (b 1) (b 2) h, (λ b h. number_bytes 0x59 (b 0) (b 1) (b 2) h, tt)),
              ),
            ),
          ),
        ),
      ),
    ),
  ),
)

split_fronted : (xs : List ℕ) → AllBytes xs → Fronted xs (split xs)
split_fronted [] h = tt
split_fronted (kind ∷ xs) h = body_fronted kinds kind xs kinds_spell h.1

pub split_bytes : (xs : List ℕ) (r : Record) (rest : List ℕ) → AllBytes xs → split xs ≡ Ok (r, rest) →
    xs ≡ bytes_of r ++ rest
split_bytes xs r rest h e = rw e at (split_fronted xs h)

-- a cell's number from its two bytes
term_again : (t : Term) → term_of (t.cell / 256) (t.cell % 256) t.coefficient ≡ t
term_again t = ap (λ (n : ℕ). record { cell = n; coefficient = t.coefficient }) (div-add-mod' t.cell 256)

pub split_bytes_of : (r : Record) (rest : List ℕ) → split (bytes_of r ++ rest) ≡ Ok (r, rest)
split_bytes_of (Field b) rest = body_taken 1 (λ c. Field (c 0)) (b ∷ rest) (omega arith)
split_bytes_of (Filled v) rest =
    body_taken 3 (λ c. Filled (voxel (c 0) (c 1) (c 2))) (v.x ∷ v.y ∷ v.z ∷ rest) (omega arith)
split_bytes_of (Pad v) rest = body_taken 3 (λ c. Pad (voxel (c 0) (c 1) (c 2))) (v.x ∷ v.y ∷ v.z ∷ rest) (omega arith)
split_bytes_of (Drawn (Vertex a)) rest = body_taken 1 (λ c. Drawn (Vertex (c 0))) (a ∷ rest) (omega arith)
split_bytes_of (Drawn (Edge a b)) rest = body_taken 2 (λ c. Drawn (Edge (c 0) (c 1))) (a ∷ b ∷ rest) (omega arith)
split_bytes_of (Drawn (Triangle a b d)) rest =
    body_taken 3 (λ c. Drawn (Triangle (c 0) (c 1) (c 2))) (a ∷ b ∷ d ∷ rest) (omega arith)
split_bytes_of (Drawn (Tetrahedron a b d e)) rest =
    body_taken 4 (λ c. Drawn (Tetrahedron (c 0) (c 1) (c 2) (c 3))) (a ∷ b ∷ d ∷ e ∷ rest) (omega arith)
split_bytes_of (Question f d) rest = body_taken 2 (λ c. Question (c 0) (c 1)) (f ∷ d ∷ rest) (omega arith)
split_bytes_of (First t) rest =
    body_taken 3 (λ c. First (term_of (c 0) (c 1) (c 2))) (t.cell / 256 ∷ t.cell % 256 ∷ t.coefficient ∷ rest) (omega arith)
    ∙ ap (λ (u : Term). Ok (First u, rest)) (term_again t)
split_bytes_of (Second t) rest =
    body_taken 3 (λ c. Second (term_of (c 0) (c 1) (c 2))) (t.cell / 256 ∷ t.cell % 256 ∷ t.coefficient ∷ rest) (omega arith)
    ∙ ap (λ (u : Term). Ok (Second u, rest)) (term_again t)

pub all_rest : (xs front rest : List ℕ) → xs ≡ front ++ rest → AllBytes xs → AllBytes rest
all_rest xs front rest e h = subst AllBytes (ap (drop (length front)) e ∙ drop_at front rest (length front) refl)
    (All-drop (λ b. b < 256) (length front) xs h)
