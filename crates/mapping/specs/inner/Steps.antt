-- What the private functions of the mapping ask and give, and nothing that another crate cites.
use Rattle.std.specs.Prelude.{true, List, ℕ, ◌+◌, ◌-◌, ◌*◌, ◌^◌, ◌<◌, ◌≤◌, ℤ, pos, nat_abs, ◌+ℤ◌, ◌*ℤ◌}
use Rattle.runs.specs.inner.Loops.{at}
use Rattle.runs.specs.inner.Tables.{table, coded}
use Rattle.standard.specs.Mapping.{pivot_value, pivot_idx, clamped, poly_sum, cut}
use Rattle.plan.specs.Ranges.{most_n}
use Rattle.plan.specs.Rule7.{pivot_places, pieces_used}
use Rattle.mapping.specs.declared.copies.Polynomial.{Polynomial}
use Rattle.mapping.specs.inner.Copies.{coef, row_of}

-- what a sample that is clamped comes to by one row
abbrev pub by_row : ℕ → ℕ → List ℤ → ℕ → ℕ
by_row depth d row s = cut d (poly_sum depth s (coef row) 2)

-- by how much the sum grows from s to the sample after it, and by how much that grows
abbrev pub growth : ℕ → List ℤ → ℕ → ℤ
growth depth row s = coef row 1 *ℤ pos (2 ^ (20 - depth)) +ℤ coef row 2 *ℤ pos ((2 * s + 1) * 2 ^ (20 - 2 * depth))

abbrev pub bend : ℕ → List ℤ → ℤ
bend depth row = coef row 2 *ℤ pos (2 * 2 ^ (20 - 2 * depth))

-- a sample, or the number of codes, and a row of coefficients, in slack bounds, the same for every depth and every d
pub record RowRanges (depth s : ℕ) (row : List ℤ) : Type 0 where
  pub shallow : depth ≤ 10
  pub sample : s ≤ 2 ^ depth
  pub coefficient : (i : ℕ) → nat_abs (coef row i) ≤ 2 ^ 38

-- codes that go by one row
pub record StretchGiven (depth from to : ℕ) (row : List ℤ) : Type 0 where
  pub ordered : from ≤ to
  pub codes : to ≤ 2 ^ depth
  pub coefficient : (i : ℕ) → nat_abs (coef row i) ≤ 2 ^ 38

-- the predictions of pivots and the rows of the pieces that are used, in the same bounds
pub record ByRows (depth n : ℕ) (preds : List ℕ) (polynomials : List Polynomial) : Type 0 where
  pub count : n ≤ most_n
  pub pivot : (i : ℕ) → at preds i < 2 ^ depth
  pub coefficient : (p i : ℕ) → p < pieces_used n → nat_abs (coef (row_of polynomials p) i) ≤ 2 ^ 38

-- a mapped sample by pivots that are summed up and rows of always three coefficients: one that the order does not use is 0
unfoldable pub mapped_by : ℕ → ℕ → ℕ → List ℕ → List Polynomial → ℕ → ℕ
mapped_by depth d n pivots polynomials s =
    by_row depth d (row_of polynomials (pivot_idx (at pivots) n s)) (clamped (at pivots 0) (at pivots (n + 1)) s)

abbrev pub pivots_by : List ℕ → List ℕ
pivots_by preds = table pivot_places (pivot_value (at preds))

abbrev pub table_by : ℕ → ℕ → ℕ → List ℕ → List Polynomial → List ℕ
table_by depth d n preds polynomials = table 1024 (coded true (2 ^ depth) (mapped_by depth d n (pivots_by preds) polynomials))
