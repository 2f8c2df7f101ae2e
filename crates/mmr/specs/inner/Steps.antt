-- The mapped sample of one chroma component, by its pieces and what kind each of them is.
use Rattle.std.specs.Prelude.{List, ℕ, ◌+◌, ◌*◌, ◌^◌, ℤ, pos, ◌+ℤ◌, ◌*ℤ◌, get_or}
use Rattle.runs.specs.inner.Loops.{at}
use Rattle.standard.specs.Mapping.{pivot_idx, cut}
use Rattle.plan.specs.declared.Piece.{Piece}
use Rattle.plan.specs.declared.Component.{Component}
use Rattle.plan.specs.Rule7.{no_piece}
use Rattle.mmr.specs.declared.kind.Kind.{Kind}
use Rattle.mmr.specs.declared.kind.Kind.TheVariants.{Polynomial, Mmr, Broken}
use Rattle.mmr.specs.declared.ready.Ready.{Ready}
use Rattle.mmr.specs.inner.Apart.{coef, whole_sum}
use Rattle.mmr.specs.inner.Terms.{high_of}

-- a polynomial's sum of three, at a sample that is raised to 20 bits
abbrev pub three_of : List ℤ → ℕ → ℤ
three_of row t = coef row 0 *ℤ pos (2 ^ 20) +ℤ coef row 1 *ℤ pos t +ℤ coef row 2 *ℤ pos (high_of t t)

-- the mapped sample of a piece of a kind; MMR of at most so high an order
unfoldable pub piece_value : ℕ → ℕ → Kind → List ℤ → ℕ → List ℕ → ℕ
piece_value order d Polynomial row t ts = cut d (three_of row t)
piece_value order d (Mmr width) row t ts = cut d (whole_sum (coef row) (at ts) (7 * order + 1))
piece_value order d Broken row t ts = 0

abbrev pub piece_at : Component → ℕ → Piece
piece_at c p = get_or c.pieces p no_piece

-- of a component that was made ready
abbrev pub row_of : Ready → ℕ → List ℤ
row_of c p = (piece_at c.component.now p).row

abbrev pub kind_at : Ready → ℕ → Kind
kind_at c p = get_or c.kinds p Polynomial

unfoldable pub mapped_side : ℕ → ℕ → Ready → ℕ → ℕ → List ℕ → ℕ
mapped_side order d c s t ts =
    let p = pivot_idx (at c.pivots) c.component.now.n s in
    piece_value order d (kind_at c p) (row_of c p) t ts
