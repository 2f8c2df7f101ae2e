-- What is copied of a component's pieces.
use Rattle.std.specs.Prelude.{◌≡◌, List, [], ◌∷◌, ℕ, ◌<◌, ℤ, pos, length, get_or}
use Rattle.plan.specs.declared.Piece.{Piece}
use Rattle.plan.specs.Rule7.{piece_places, no_piece}
use Rattle.mapping.specs.declared.copies.Polynomial.{Polynomial}
use Rattle.mapping.specs.inner.Mapped.{order_by}

abbrev pub coef : List ℤ → ℕ → ℤ
coef row i = get_or row i (pos 0)

-- the coefficients of a row that a polynomial can have
abbrev pub kept : List ℤ → List ℤ
kept row = coef row 0 ∷ coef row 1 ∷ coef row 2 ∷ []

abbrev pub copied : Piece → Polynomial
copied q = record { row = kept q.row; order = order_by q.idc q.order }

-- what stands past the last one
abbrev pub no_polynomial : Polynomial
no_polynomial = record { row = []; order = 0 }

abbrev pub polynomial_of : List Polynomial → ℕ → Polynomial
polynomial_of polynomials p = get_or polynomials p no_polynomial

abbrev pub row_of : List Polynomial → ℕ → List ℤ
row_of polynomials p = (polynomial_of polynomials p).row

-- the pieces up to p are copied
pub record Copied (pieces : List Piece) (polynomials : List Polynomial) (p : ℕ) : Type 0 where
  pub long : length polynomials ≡ piece_places
  pub each : (j : ℕ) → j < p → polynomial_of polynomials j ≡ copied (get_or pieces j no_piece)
