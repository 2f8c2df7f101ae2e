-- Row pairs of both chroma planes: what is written at each index, by the row pair and the column where it lies.
use Rattle.std.specs.Prelude.{◌≡◌, Bool, cond, ◌||◌, List, ℕ, ◌-◌, ◌*◌, ◌/◌, ◌%◌, ◌≤◌, ltb}
use Rattle.marks.specs.inner.Marks.{not_full}
use Rattle.picture.specs.declared.Planes.{Planes}
use Rattle.picture.specs.inner.Planes.{row_start, in_rows}
use Rattle.mmr.specs.declared.both.Both.{Both}
use Rattle.mmr.specs.declared.inputs.Inputs.{Inputs}
use Rattle.mmr.specs.declared.columns.Place.{Place}
use Rattle.mmr.specs.inner.Columns.{cb_column, cr_column}

-- where the rows of row pair k lie
abbrev pub place_of : Planes → ℕ → Place
place_of p k = record { columns = p.cb.row; upper = row_start p.y k; cb = row_start p.cb k; cr = row_start p.cr k }

-- the selected row pairs of Cb and of Cr
abbrev pub of_both : Planes → (ℕ → Bool) → ℕ → Bool
of_both p selected j = in_rows p.cb selected j || in_rows p.cr selected j

-- those from `first` up to, but not including, `last` that are not full by the marks
abbrev pub chroma_rows : Planes → ℕ → ℕ → List ℕ → ℕ → Bool
chroma_rows p first last marks = of_both p (not_full first last marks)

-- at an index: Cb lies before Cr, and of an index within a plane the row pair and the column are quotient and remainder
unfoldable pub plane_value : Both → Inputs → Planes → ℕ → ℕ
plane_value b v p j =
    cond (ltb j p.cr.start)
    (let m = j - p.cb.start in cb_column b.format b.cb v (place_of p (m / p.cb.row)) (m % p.cb.row))
    (let m = j - p.cr.start in cr_column b.format b.cr v (place_of p (m / p.cr.row)) (m % p.cr.row))

-- row pairs of a picture that is a run of n samples
pub record RowsGiven (p : Planes) (first last n : ℕ) : Type 0 where
  pub some_columns : 1 ≤ p.cb.row
  pub same_columns : p.cr.row ≡ p.cb.row
  pub luma_columns : p.y.row ≡ 4 * p.cb.row
  pub forward : first ≤ last
  pub apart : row_start p.cb last ≤ p.cr.start
  pub luma : row_start p.y last ≤ n
  pub inside : row_start p.cr last ≤ n
