-- The printed form of a refusal: the word refused, its number, the word of its layer and its place, parted by single
-- spaces. The numbers are decimal, with no zeros before them. Nothing ends the line.
use Rattle.std.specs.Prelude.{ℕ, List, ◌++◌, codes, decimal}
use Rattle.refusal.specs.declared.Layer.{Layer}
use Rattle.refusal.specs.declared.Layer.TheVariants.{Leaf, Pile, Table, Job}
use Rattle.refusal.specs.declared.Refusal.{Refusal}

abbrev pub layer_word : Layer → List ℕ
layer_word Leaf = codes "leaf"
layer_word Pile = codes "pile"
layer_word Table = codes "table"
layer_word Job = codes "job"

abbrev pub refusal_text : Refusal → List ℕ
refusal_text r =
    codes "refused " ++ (decimal r.number
    ++ (codes " " ++ (layer_word r.layer ++ (codes " " ++ decimal r.place))))
