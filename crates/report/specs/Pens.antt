-- The steps of a pen, which is a buffer and the place of the next byte: what each method of it writes, and which pieces
-- it takes.
use Rattle.std.specs.Prelude.{◌≡◌, ℕ, ◌+◌, ◌^◌, ◌<◌, List, ◌++◌, length}
use Rattle.report.specs.declared.Pen.{Pen}
use Rattle.report.specs.Buffers.{overlay}

-- a piece of text is put at a place, and ends at another: a buffer that shows the text so far shows it with
-- the piece after it
pub record Puts (before after : List ℕ) (at end : ℕ) (piece : List ℕ) : Type 0 where
  pub place : end ≡ at + length piece
  pub bytes : (old text : List ℕ) → length text ≡ at → before ≡ overlay old text → after ≡ overlay old (text ++ piece)

-- a pen puts a piece into its buffer at its place, and stands after it
pub record Writes (before after : Pen) (piece : List ℕ) : Type 0 where
  pub same_buffer : after.out.ghost_name ≡ before.out.ghost_name
  pub puts : Puts before.out.now after.out.now before.at after.at piece

-- the place after a piece is a number of the machine
abbrev pub Fits : Pen → List ℕ → Type 0
Fits pen piece = pen.at + length piece < 2 ^ 64
