-- Where the functions find the row pairs of a plane: each is one stretch of the run. What a picture is stands in Picture.
use Rattle.std.specs.Prelude.{◌≡◌, Bool, ◌&&◌, ℕ, ◌+◌, ◌-◌, ◌*◌, ◌/◌, ◌≤◌, leb}
use Rattle.picture.specs.declared.Extent.{Extent}
use Rattle.picture.specs.declared.Plane.{Plane}
use Rattle.picture.specs.declared.Planes.{Planes}
use Rattle.picture.specs.Picture.{chroma_size, picture_size}

-- with n samples in a chroma plane: luma has 4n samples, Cb starts at 4n and Cr at 5n
abbrev pub luma_plane : Extent → Plane
luma_plane e = record { start = 0; row = 4 * e.columns }

abbrev pub cb_plane : Extent → Plane
cb_plane e = record { start = 4 * chroma_size e; row = e.columns }

abbrev pub cr_plane : Extent → Plane
cr_plane e = record { start = 5 * chroma_size e; row = e.columns }

abbrev pub planes : Extent → Planes
planes e = record { y = luma_plane e; cb = cb_plane e; cr = cr_plane e }

-- where row pair k begins, which is where row pair k - 1 ends
abbrev pub row_start : Plane → ℕ → ℕ
row_start p k = p.start + p.row * k

-- the sample at index i lies in a row pair of the plane, and that one is selected
unfoldable pub in_rows : Plane → (ℕ → Bool) → ℕ → Bool
in_rows p selected i = leb p.start i && selected ((i - p.start) / p.row)

-- row pairs from `first` up to `last` lie within a run of n samples
unfoldable pub lies : Plane → ℕ → ℕ → ℕ → Bool
lies p first last n = leb 1 p.row && (leb first last && leb (row_start p last) n)

-- row pairs from `first` up to `last` of a plane that lies within a run of n samples, and of a picture that is the run
pub record InPlane (p : Plane) (first last n : ℕ) : Type 0 where
  pub some_columns : 1 ≤ p.row
  pub forward : first ≤ last
  pub within : row_start p last ≤ n

pub record InPicture (e : Extent) (first last n : ℕ) : Type 0 where
  pub some_columns : 1 ≤ e.columns
  pub forward : first ≤ last
  pub within : last ≤ e.pairs
  pub whole : n ≡ picture_size e
