-- What a text leaves in a buffer: its bytes from the front on, as far as they fit; bytes past it stay as they were.
use Rattle.std.specs.Prelude.{ℕ, List, ◌++◌, length, take, drop}

abbrev pub overlay : List ℕ → List ℕ → List ℕ
overlay old text = take (length old) text ++ drop (length text) old
