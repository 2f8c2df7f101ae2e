-- Row pairs of both chroma planes, painted one after the other. Assumes nothing.
use mathlib.Core.Path.{◌≡◌, refl, sym, ap, ap₂, ◌∙◌}
use mathlib.Core.Bool.{Bool, true, false, ◌||◌}
use mathlib.Core.List.{List}
use Prim.Native.Nat.{ℕ, ◌+◌, ◌-◌, ◌*◌, ◌/◌, ◌%◌, ◌<◌, ◌≤◌}
use native.Mathlib.Nat.{mul_comm, mul-le-mul_left, mul-add}
use native.Mathlib.Omega.{arith}
use lib.Arith.{digits_div, digits_mod}
use lib.Dec.{eqb}
use borrow.Author.Tests.{lt-ltb, le-ltb}
use Rattle.runs.specs.Runs.{painted, between}
use Rattle.runs.proofs.Between.{between_true}
use Rattle.runs.proofs.Painting.{painted_none, painted-over, painted_cong}
use Rattle.picture.specs.declared.Plane.{Plane}
use Rattle.picture.specs.declared.Planes.{Planes}
use Rattle.picture.specs.inner.Planes.{row_start, in_rows}
use Rattle.picture.proofs.Rows.{rows_none, rows_same, rows_beside}
use Rattle.mmr.specs.declared.both.Both.{Both}
use Rattle.mmr.specs.declared.inputs.Inputs.{Inputs}
use Rattle.mmr.specs.inner.Columns.{cb_column, cr_column, row_value, two_rows}
use Rattle.mmr.specs.inner.Rows.{place_of, of_both, plane_value, RowsGiven}

-- the place of an index in a plane, by the row pair where it lies
module _ (p : Plane) (k j : ℕ) (lo : row_start p k ≤ j) (hi : j < row_start p k + p.row) where
  split : j - p.start ≡ k * p.row + (j - row_start p k)
  split = omega (arith, mul_comm k p.row)

  within : j - row_start p k < p.row
  within = omega arith

  pair_of : (j - p.start) / p.row ≡ k
  pair_of = ap (λ (n : ℕ). n / p.row) split ∙ digits_div k within

  column_of : (j - p.start) % p.row ≡ j - row_start p k
  column_of = ap (λ (n : ℕ). n % p.row) split ∙ digits_mod k within

-- where row pair k + 1 begins
pub next_start : (p : Plane) (k : ℕ) → row_start p k + p.row ≡ row_start p (k + 1)
next_start p k = omega (arith, mul-add p.row k 1)

-- the samples of row pair k of a plane, and of both
abbrev row_at : Plane → ℕ → ℕ → Bool
row_at p k = between (row_start p k) (row_start p (k + 1))

abbrev rows_at : Planes → ℕ → ℕ → Bool
rows_at p k j = row_at p.cb k j || row_at p.cr k j

module _ {p : Planes} {first last n : ℕ} (g : RowsGiven p first last n) where
  -- row pair k of those that are named
  pub one_pair : (k : ℕ) → k < last → RowsGiven p k (k + 1) n
  one_pair k h =
      record {
        some_columns = g.some_columns;
        same_columns = g.same_columns;
        luma_columns = g.luma_columns;
        forward = omega arith;
        apart = omega (arith, mul-le-mul_left p.cb.row h, mul-add p.cb.row k 1, g.apart);
        luma = omega (arith, mul-le-mul_left p.y.row h, mul-add p.y.row k 1, g.luma);
        inside = omega (arith, mul-le-mul_left p.cr.row h, mul-add p.cr.row k 1, g.inside);
      }

module _ (b : Both) (v : Inputs) (p : Planes) where
  -- a value by its row pair is the plane's
  cb_value : (k j : ℕ) → row_start p.cb (k + 1) ≤ p.cr.start → row_start p.cb k ≤ j → j < row_start p.cb k + p.cb.row → row_value b v (place_of p k) j ≡ plane_value b v p j
  unfolding row_value plane_value
  cb_value k j apart lo hi =
      let before : j < p.cr.start = omega (arith, next_start p.cb k) in
      let inner : j < row_start p.cr k = omega arith in
      rw (lt-ltb j p.cr.start before, lt-ltb j (row_start p.cr k) inner)
      (sym (ap₂ (λ (m i : ℕ). cb_column b.format b.cb v (place_of p m) i) (pair_of p.cb k j lo hi) (column_of p.cb k j lo hi)))

  cr_value : (k j : ℕ) → row_start p.cr k ≤ j → j < row_start p.cr k + p.cr.row → row_value b v (place_of p k) j ≡ plane_value b v p j
  unfolding row_value plane_value
  cr_value k j lo hi =
      let after : p.cr.start ≤ j = omega arith in
      rw (le-ltb j p.cr.start after, le-ltb j (row_start p.cr k) lo)
      (sym (ap₂ (λ (m i : ℕ). cr_column b.format b.cr v (place_of p m) i) (pair_of p.cr k j lo hi) (column_of p.cr k j lo hi)))

  module _ (l : List ℕ) where
    pub no_pairs : (s : ℕ → Bool) → ((j : ℕ) → s j ≡ false) → l ≡ painted (of_both p s) (plane_value b v p) l
    no_pairs s none = sym (painted_none _ _ l (λ i h. ap₂ ◌||◌ (rows_none p.cb s i none) (rows_none p.cr s i none)))

    module _ (s t : ℕ → Bool) (now : List ℕ) (is : now ≡ painted (of_both p s) (plane_value b v p) l) where
      -- the same row pairs
      pub pairs_kept : ((j : ℕ) → s j ≡ t j) → now ≡ painted (of_both p t) (plane_value b v p) l
      pairs_kept same = is ∙ painted_cong _ _ _ _ l (λ i h. ap₂ ◌||◌ (rows_same p.cb s i t same) (rows_same p.cr s i t same)) (λ i h u. refl)

      -- one row pair more
      pub pair_more : (k : ℕ) {n : ℕ} {after : List ℕ} → ((j : ℕ) → (s j || eqb j k) ≡ t j) → RowsGiven p k (k + 1) n → after ≡ painted (two_rows (place_of p k) p.cb.row) (row_value b v (place_of p k)) now → after ≡ painted (of_both p t) (plane_value b v p) l
      pair_more k {n} {after} more g q =
          q
          ∙ painted_cong (two_rows (place_of p k) p.cb.row) (rows_at p k) _ _ now (λ j m. same j) (λ j m u. value j u)
          ∙ ap (painted (rows_at p k) (plane_value b v p)) is
          ∙ painted-over (of_both p s) (rows_at p k) (plane_value b v p) l
          ∙ painted_cong _ _ (plane_value b v p) (plane_value b v p) l (λ j m. joined j) (λ j m u. refl)
        where
          ends : row_start p.cr k + p.cb.row ≡ row_start p.cr (k + 1)
          ends = omega (arith, next_start p.cr k, g.same_columns)

          same : (j : ℕ) → two_rows (place_of p k) p.cb.row j ≡ rows_at p k j
          same j = ap₂ (λ (x y : ℕ). between (row_start p.cb k) x j || between (row_start p.cr k) y j) (next_start p.cb k) ends

          either : (x y : Bool) {P : Type 0} → (x ≡ true → P) → (y ≡ true → P) → (x || y) ≡ true → P
          either true y u v t = u refl
          either false y u v t = v t

          value : (j : ℕ) → rows_at p k j ≡ true → row_value b v (place_of p k) j ≡ plane_value b v p j
          value j u =
              either (row_at p.cb k j) (row_at p.cr k j)
              (λ v. let w = between_true (row_start p.cb k) (row_start p.cb (k + 1)) j v in cb_value k j g.apart w.0 (omega (arith, w.1, next_start p.cb k)))
              (λ v. let w = between_true (row_start p.cr k) (row_start p.cr (k + 1)) j v in cr_value k j w.0 (omega (arith, w.1, next_start p.cr k)))
              u

          turned : (a b c d : Bool) → ((a || b) || (c || d)) ≡ ((a || c) || (b || d))
          turned true b c d = refl
          turned false true true d = refl
          turned false true false d = refl
          turned false false c d = refl

          joined : (j : ℕ) → (of_both p s j || rows_at p k j) ≡ of_both p t j
          joined j =
              turned (in_rows p.cb s j) (in_rows p.cr s j) _ _
              ∙ ap₂ ◌||◌ (rows_beside p.cb s j t k g.some_columns more) (rows_beside p.cr s j t k (omega (arith, g.some_columns, g.same_columns)) more)
