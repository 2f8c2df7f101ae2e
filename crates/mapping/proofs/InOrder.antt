-- Codes in order: what those below the first pivot, those of a piece and those from the last pivot on are mapped to. Assumes nothing.
use mathlib.Core.Path.{◌≡◌, ap, ap₂, ◌∙◌}
use mathlib.Core.List.{List}
use Prim.Native.Nat.{ℕ, ◌+◌, ◌<◌, ◌≤◌}
use native.Mathlib.Nat.{le_trans, lt_irrefl}
use native.Mathlib.Omega.{arith}
use Rattle.runs.specs.inner.Loops.{at}
use Rattle.runs.proofs.Tables.{at_table}
use Rattle.standard.specs.Mapping.{pivot_value, pivot_idx, clamped}
use Rattle.standard.proofs.Pieces.{is_idx}
use Rattle.standard.proofs.Pivots.{rising}
use Rattle.plan.specs.Ranges.{most_n}
use Rattle.plan.specs.Rule7.{pivot_places}
use Rattle.mapping.specs.inner.Steps.{by_row, mapped_by, pivots_by}
use Rattle.mapping.specs.inner.Copies.{row_of}
use Rattle.mapping.specs.declared.copies.Polynomial.{Polynomial}

module _ (preds : List ℕ) {pivots : List ℕ} (sums : pivots ≡ pivots_by preds) where
  pivot_is : (i : ℕ) → i < pivot_places → at pivots i ≡ pivot_value (at preds) i
  pivot_is i b = ap (λ (l : List ℕ). at l i) sums ∙ at_table pivot_places (pivot_value (at preds)) i b

  -- the first pivot is the first prediction
  pub lowest : at pivots 0 ≡ at preds 0
  unfolding pivot_value
  lowest = pivot_is 0 (omega arith)

  pub rises : (i k : ℕ) → i ≤ k → k < pivot_places → at pivots i ≤ at pivots k
  rises i k h b = rw (pivot_is i (omega arith), pivot_is k b) (rising (at preds) i k h)

  module _ (depth d n : ℕ) (polynomials : List Polynomial) (few : n ≤ most_n) where
    -- by the piece and the clamped code
    mapped_as : {p t : ℕ} (j : ℕ) → p ≡ pivot_idx (at pivots) n j → t ≡ clamped (at pivots 0) (at pivots (n + 1)) j → by_row depth d (row_of polynomials p) t ≡ mapped_by depth d n pivots polynomials j
    unfolding mapped_by
    mapped_as j e f = ap₂ (λ (p t : ℕ). by_row depth d (row_of polynomials p) t) e f

    pub below_first : (j : ℕ) → j < at pivots 0 → by_row depth d (row_of polynomials 0) (at pivots 0) ≡ mapped_by depth d n pivots polynomials j
    below_first j b =
        mapped_as j
        (is_idx (at pivots) j n 0 (omega arith) (λ i k. absurd (omega arith)) (λ k. omega (arith, rises 0 1 (omega arith) (omega arith))))
        (omega (arith, rises 0 (n + 1) (omega arith) (omega arith)))

    pub in_piece : (p j : ℕ) → p ≤ n → at pivots p ≤ j → j < at pivots (p + 1) → by_row depth d (row_of polynomials p) j ≡ mapped_by depth d n pivots polynomials j
    in_piece p j h a b =
        mapped_as j
        (is_idx (at pivots) j n p (omega arith) (λ i k. le_trans (rises (i + 1) p (omega arith) (omega arith)) a) (λ k. b))
        (omega (arith, rises 0 p (omega arith) (omega arith), rises (p + 1) (n + 1) (omega arith) (omega arith)))

    pub from_last : (j : ℕ) → at pivots (n + 1) ≤ j → by_row depth d (row_of polynomials (n + 1)) (at pivots (n + 1)) ≡ mapped_by depth d n pivots polynomials j
    from_last j a =
        mapped_as j
        (is_idx (at pivots) j n (n + 1) (omega arith) (λ i k. le_trans (rises (i + 1) (n + 1) (omega arith) (omega arith)) a) (λ k. absurd (lt_irrefl (n + 1) k)))
        (omega arith)
