-- A picture in memory (the house rules): one run of samples, luma by rows, then Cb, then Cr; and its row pairs.
use Rattle.std.specs.Prelude.{Bool, cond, ℕ, ◌+◌, ◌-◌, ◌*◌, ◌/◌, ltb}
use Rattle.runs.specs.Runs.{between}
use Rattle.picture.specs.declared.Extent.{Extent}

-- W and H
abbrev pub width : Extent → ℕ
width e = 2 * e.columns

abbrev pub height : Extent → ℕ
height e = 2 * e.pairs

-- luma has W x H samples; Cb and Cr have (W/2) x (H/2) each
abbrev pub luma_size : Extent → ℕ
luma_size e = width e * height e

abbrev pub chroma_size : Extent → ℕ
chroma_size e = e.columns * e.pairs

-- 3WH/2
abbrev pub picture_size : Extent → ℕ
picture_size e = luma_size e + chroma_size e + chroma_size e

-- of three things, luma's, Cb's and Cr's, the one of the plane in which the sample at index i of a run lies
unfoldable pub of_plane : {A : Type 0} → Extent → ℕ → A → A → A → A
of_plane e i y cb cr = cond (ltb i (luma_size e)) y (cond (ltb i (luma_size e + chroma_size e)) cb cr)

-- its row pair: row pair k is luma rows 2k and 2k + 1 with row k of Cb and of Cr
unfoldable pub pair_at : Extent → ℕ → ℕ
pair_at e i =
    of_plane e i (i / width e / 2) ((i - luma_size e) / e.columns) ((i - (luma_size e + chroma_size e)) / e.columns)

-- the sample at index i lies in a row pair from `first` up to, but not including, `last`
abbrev pub in_pairs : Extent → ℕ → ℕ → ℕ → Bool
in_pairs e first last i = between first last (pair_at e i)
