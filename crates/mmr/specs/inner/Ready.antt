-- A chroma component made ready: the kind of each of its pieces, whatever they hold, and their rows.
use Rattle.std.specs.Prelude.{◌≡◌, Bool, cond, List, ℕ, ◌+◌, ◌<◌, ◌≤◌, min, leb, ltb, eqb, ℤ, nat_abs, length, get_or}
use Rattle.runs.specs.inner.Loops.{at}
use Rattle.standard.specs.Mapping.{pivot_idx}
use Rattle.plan.specs.declared.Piece.{Piece}
use Rattle.plan.specs.declared.Component.{Component}
use Rattle.plan.specs.Rule7.{every, is_zero, piece_places, row_places, coefficients_used}
use Rattle.steps.specs.inner.Steps.{pivot_table}
use Rattle.mmr.specs.inner.Apart.{coef, narrow_most, wide_most}
use Rattle.mmr.specs.declared.kind.Kind.{Kind}
use Rattle.mmr.specs.declared.kind.Kind.TheVariants.{Polynomial, Mmr, Broken}
use Rattle.mmr.specs.declared.kind.Width.TheVariants.{Narrow, Wide}
use Rattle.mmr.specs.inner.Steps.{piece_value, piece_at}

-- the first places of a row are at most so far from 0, and the others are 0
unfoldable pub row_within : ℕ → ℕ → List ℤ → Bool
row_within most used row =
    every row_places (λ i. cond (ltb i used) (leb (nat_abs (coef row i)) most) (is_zero (coef row i)))

unfoldable pub kind_by : ℕ → ℕ → ℕ → List ℤ → Kind
kind_by d idc order row =
    let used = coefficients_used idc order in
    cond (eqb idc 0) (cond (row_within narrow_most used row) Polynomial Broken)
    (cond (eqb idc 1)
    (cond (row_within narrow_most used row) (Mmr Narrow) (cond (row_within (wide_most d) used row) (Mmr Wide) Broken))
    Broken)

abbrev pub kind_of : ℕ → Piece → Kind
kind_of d q = kind_by d q.idc q.order q.row

-- the order of an MMR piece, of which at most 3 has coefficients
abbrev pub order_of : Piece → ℕ
order_of q = min (q.order + 1) 3

-- the mapped sample of a component, over all terms
unfoldable pub mapped_chroma : ℕ → Component → ℕ → ℕ → List ℕ → ℕ
mapped_chroma d c s t ts =
    let q = piece_at c (pivot_idx (at (pivot_table c.preds)) c.n s) in
    piece_value 3 d (kind_of d q) q.row t ts

-- the kinds of the pieces that are used; in the other places the kind of a broken one
pub record Kinds (d : ℕ) (c : Component) (k : ℕ) (kinds : List Kind) : Type 0 where
  pub long : length kinds ≡ piece_places
  pub done : (p : ℕ) → p < k → get_or kinds p Polynomial ≡ kind_of d (piece_at c p)
  pub rest : (p : ℕ) → k ≤ p → p < piece_places → get_or kinds p Polynomial ≡ Broken

-- an order that no MMR piece exceeds
pub record Highest (c : Component) (k order : ℕ) : Type 0 where
  pub some : 1 ≤ order
  pub most : order ≤ 3
  pub mmr : (p : ℕ) → p < k → (piece_at c p).idc ≡ 1 → order_of (piece_at c p) ≤ order
