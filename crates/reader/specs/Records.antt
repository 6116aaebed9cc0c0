-- The records of a job: one byte says of which kind a record is, and so how many bytes of body come after it.
use Rattle.std.specs.Prelude.{◌≡◌, ℕ, ◌+◌, ◌*◌, cond, List, [], ◌∷◌, length, drop, Ok, Err, Result, ◌==◌, nat_le, slice_index}
use Rattle.std.specs.Borrow.{Bor}
use Rattle.cell.specs.declared.simplex.Simplex.TheVariants.{Vertex, Edge, Triangle, Tetrahedron}
use Rattle.reader.specs.declared.record.Flaw.{Flaw}
use Rattle.reader.specs.declared.record.Flaw.TheVariants.{UnknownKind, CutShort}
use Rattle.reader.specs.declared.record.Record.{Record}
use Rattle.reader.specs.declared.record.Record.TheVariants.{Field, Filled, Pad, Drawn, Question, First, Second}
use Rattle.reader.specs.declared.record.Term.{Term}
use Rattle.reader.specs.declared.record.Voxel.{Voxel}

-- a record and the bytes after it
abbrev pub Split : Type 0
Split = Result (Record × List ℕ) Flaw

-- a body of n bytes, and the record that is made of the bytes at its places
abbrev pub body_of : ℕ → ((ℕ → ℕ) → Record) → List ℕ → Split
body_of n make bytes = cond (nat_le n (length bytes)) (Ok (make (λ i. slice_index bytes i), drop n bytes)) (Err CutShort)

abbrev pub voxel : ℕ → ℕ → ℕ → Voxel
voxel a b c = record { x = a; y = b; z = c }

-- a cell's number in two bytes, high first, and a coefficient
abbrev pub term_of : ℕ → ℕ → ℕ → Term
term_of high low code = record { cell = high * 256 + low; coefficient = code }

-- a kind of record: its byte, how many bytes its body has, and the record that these make
pub record Kind : Type 0 where
  pub byte : ℕ
  pub size : ℕ
  pub make : (ℕ → ℕ) → Record

abbrev pub kinds : List Kind
kinds =
    record { byte = 0x46; size = 1; make = λ b. Field (b 0) }
    ∷ record { byte = 0x56; size = 3; make = λ b. Filled (voxel (b 0) (b 1) (b 2)) }
    ∷ record { byte = 0x50; size = 3; make = λ b. Pad (voxel (b 0) (b 1) (b 2)) }
    ∷ record { byte = 0x61; size = 1; make = λ b. Drawn (Vertex (b 0)) }
    ∷ record { byte = 0x62; size = 2; make = λ b. Drawn (Edge (b 0) (b 1)) }
    ∷ record { byte = 0x63; size = 3; make = λ b. Drawn (Triangle (b 0) (b 1) (b 2)) }
    ∷ record { byte = 0x64; size = 4; make = λ b. Drawn (Tetrahedron (b 0) (b 1) (b 2) (b 3)) }
    ∷ record { byte = 0x51; size = 2; make = λ b. Question (b 0) (b 1) }
    ∷ record { byte = 0x5a; size = 3; make = λ b. First (term_of (b 0) (b 1) (b 2)) }
    ∷ record { byte = 0x59; size = 3; make = λ b. Second (term_of (b 0) (b 1) (b 2)) }
    ∷ []

-- the body of the kind that a byte names, taken from the bytes after it
abbrev pub body : List Kind → ℕ → List ℕ → Split
body [] byte bytes = Err UnknownKind
body (k ∷ ks) byte bytes = cond (byte == k.byte) (body_of k.size k.make bytes) (body ks byte bytes)

-- the first record of a job; none stands in an empty one
abbrev pub split : List ℕ → Split
split [] = Err CutShort
split (kind ∷ bytes) = body kinds kind bytes

-- a record and the rest of the bytes, as they are handed over
abbrev pub Gives : Split → Result (Record × Bor (List ℕ)) Flaw → Type 0
Gives s (Ok p) = s ≡ Ok (p.0, p.1.now)
Gives s (Err e) = s ≡ Err e
