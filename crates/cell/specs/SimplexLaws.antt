-- Simplices are a kind of cells, and they ascend by degree and then by their vertices from the first.
--
-- A rank tells the degree by where it lies, since cells of different degrees have differently many vertices.
use Rattle.std.specs.Prelude.{◌≡◌, ℕ, suc, ◌<◌, ◌≤◌, true, cond, List, [], ◌∷◌, length, nat_lt, refl}
use Rattle.std.proofs.Common.{arith}
use Rattle.std.proofs.lemmas.Bool.Decides.{nat_tests}
use Rattle.cell.specs.declared.Sign.TheVariants.{Plus, Minus}
use Rattle.cell.specs.declared.simplex.Simplex.{Simplex}
use Rattle.cell.specs.declared.simplex.Simplex.TheVariants.{Vertex, Edge, Triangle, Tetrahedron}
use Rattle.cell.specs.Kind.{IsKind, Faces, ways}
use Rattle.cell.specs.Orders.{SimplicesAscend}
use Rattle.cell.specs.Simplices.{simplices, vertices}
use Rattle.cell.specs.Numerals.{Digits}
use Rattle.cell.specs.Ranks.{Ranked, rank_ascends, rank_apart}

-- the degree that a rank tells
abbrev level : ℕ → ℕ
level r = cond (nat_lt r 64) 0 (cond (nat_lt r 8192) 1 (cond (nat_lt r 786432) 2 3))

level_rank : (s : Simplex) → simplices.valid s ≡ true → level (simplices.rank s) ≡ simplices.degree s
level_rank (Vertex a) v = grind (arith, nat_tests)
level_rank (Edge a b) v = grind (arith, nat_tests)
level_rank (Triangle a b c) v = grind (arith, nat_tests)
level_rank (Tetrahedron a b c d) v = grind (arith, nat_tests)

simplex_lower_first :
    (s t : Simplex) → simplices.valid s ≡ true → simplices.valid t ≡ true
    → simplices.degree s < simplices.degree t → simplices.rank s < simplices.rank t
simplex_lower_first s t v w l =
    let e = level_rank s v in let f = level_rank t w in grind (arith, nat_tests)

simplex_degree_small : (s : Simplex) → simplices.valid s ≡ true → simplices.degree s ≤ 3
simplex_degree_small s v = let e = level_rank s v in grind (arith, nat_tests)

vertices_small : (s : Simplex) → simplices.valid s ≡ true → Digits 64 (vertices s)
vertices_small (Vertex a) v = grind (arith, nat_tests)
vertices_small (Edge a b) v = grind (arith, nat_tests)
vertices_small (Triangle a b c) v = grind (arith, nat_tests)
vertices_small (Tetrahedron a b c d) v = grind (arith, nat_tests)

vertices_length : (s : Simplex) → length (vertices s) ≡ suc (simplices.degree s)
vertices_length (Vertex a) = refl
vertices_length (Edge a b) = refl
vertices_length (Triangle a b c) = refl
vertices_length (Tetrahedron a b c d) = refl

-- the simplex with the vertices of a list, of which there are from one to four
abbrev spanned : List ℕ → Simplex
spanned [] = Vertex 0
spanned (a ∷ []) = Vertex a
spanned (a ∷ b ∷ []) = Edge a b
spanned (a ∷ b ∷ c ∷ []) = Triangle a b c
spanned (a ∷ b ∷ c ∷ d ∷ vs) = Tetrahedron a b c d

spanned_vertices : (s : Simplex) → spanned (vertices s) ≡ s
spanned_vertices (Vertex a) = refl
spanned_vertices (Edge a b) = refl
spanned_vertices (Triangle a b c) = refl
spanned_vertices (Tetrahedron a b c d) = refl

simplex_faces_below :
    (s : Simplex) → simplices.valid s ≡ true → Faces simplices (simplices.degree s) (simplices.faces s)
simplex_faces_below (Vertex a) v = tt
simplex_faces_below (Edge a b) v = grind (arith, nat_tests)
simplex_faces_below (Triangle a b c) v = grind (arith, nat_tests)
simplex_faces_below (Tetrahedron a b c d) v = grind (arith, nat_tests)

simplex_signs_cancel :
    (s g : Simplex) → simplices.valid s ≡ true
    → ways simplices Plus g (simplices.faces s) ≡ ways simplices Minus g (simplices.faces s)
simplex_signs_cancel (Vertex a) g v = refl
simplex_signs_cancel (Edge a b) g v = refl
simplex_signs_cancel (Triangle a b c) g v = omega arith
simplex_signs_cancel (Tetrahedron a b c d) g v = omega arith

simplices_ranked : Ranked simplices 64 vertices spanned
simplices_ranked =
    record {
      rank = λ s. refl;
      small = vertices_small;
      sized = λ s t e. omega (arith, vertices_length s, vertices_length t);
      cell = spanned_vertices;
      lower_first = simplex_lower_first;
    }

pub simplices_ascend : SimplicesAscend
simplices_ascend = rank_ascends simplices 64 vertices spanned simplices_ranked

pub simplices_kind : IsKind simplices
simplices_kind =
    record {
      degree_small = simplex_degree_small;
      apart = rank_apart simplices 64 vertices spanned simplices_ranked;
      lower_first = simplex_lower_first;
      faces_below = simplex_faces_below;
      signs_cancel = simplex_signs_cancel;
    }
