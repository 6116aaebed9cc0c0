-- Simplices: the cells with up to four vertices, numbers from 0 to 63 that ascend.
use Rattle.std.specs.Prelude.{ℕ, Bool, ◌&&◌, List, [], ◌∷◌, nat_lt}
use Rattle.cell.specs.declared.Sign.{Sign}
use Rattle.cell.specs.declared.Sign.TheVariants.{Plus, Minus}
use Rattle.cell.specs.declared.Face.{Face}
use Rattle.cell.specs.declared.simplex.Simplex.{Simplex}
use Rattle.cell.specs.declared.simplex.Simplex.TheVariants.{Vertex, Edge, Triangle, Tetrahedron}
use Rattle.cell.specs.Digits.{numeral}
use Rattle.cell.specs.Kind.{Kind, product}

abbrev pub vertices : Simplex → List ℕ
vertices (Vertex a) = a ∷ []
vertices (Edge a b) = a ∷ b ∷ []
vertices (Triangle a b c) = a ∷ b ∷ c ∷ []
vertices (Tetrahedron a b c d) = a ∷ b ∷ c ∷ d ∷ []

-- the vertices ascend, and the last is below 64
abbrev pub simplex_valid : Simplex → Bool
simplex_valid (Vertex a) = nat_lt a 64
simplex_valid (Edge a b) = nat_lt a b && nat_lt b 64
simplex_valid (Triangle a b c) = nat_lt a b && nat_lt b c && nat_lt c 64
simplex_valid (Tetrahedron a b c d) = nat_lt a b && nat_lt b c && nat_lt c d && nat_lt d 64

-- the number of vertices less 1
abbrev pub simplex_degree : Simplex → ℕ
simplex_degree (Vertex a) = 0
simplex_degree (Edge a b) = 1
simplex_degree (Triangle a b c) = 2
simplex_degree (Tetrahedron a b c d) = 3

-- by degree, then the vertices from the first
abbrev pub simplex_rank : Simplex → ℕ
simplex_rank s = numeral 64 (simplex_degree s) (vertices s)

-- the signs alternate, from s on
abbrev pub alternate : Sign → List Simplex → List (Face Simplex)
alternate s [] = []
alternate s (c ∷ cs) = record { cell = c; sign = s } ∷ alternate (product Minus s) cs

-- each face drops one vertex, the first vertex first; the signs alternate from plus
abbrev pub simplex_faces : Simplex → List (Face Simplex)
simplex_faces (Vertex a) = []
simplex_faces (Edge a b) = alternate Plus (Vertex b ∷ Vertex a ∷ [])
simplex_faces (Triangle a b c) = alternate Plus (Edge b c ∷ Edge a c ∷ Edge a b ∷ [])
simplex_faces (Tetrahedron a b c d) =
    alternate Plus (Triangle b c d ∷ Triangle a c d ∷ Triangle a b d ∷ Triangle a b c ∷ [])

abbrev pub simplices : Kind Simplex
simplices =
    record { valid = simplex_valid; degree = simplex_degree; rank = simplex_rank; faces = simplex_faces }
