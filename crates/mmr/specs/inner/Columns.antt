-- A row of Cb and of Cr samples: what is written at each column, from the two luma rows beside it.
use Rattle.std.specs.Prelude.{Bool, cond, ◌||◌, List, ℕ, ◌+◌, ◌-◌, ◌*◌, ◌≤◌, ltb}
use Rattle.runs.specs.Runs.{between}
use Rattle.runs.specs.inner.Loops.{at}
use Rattle.spans.specs.inner.Spans.{entry}
use Rattle.sums.specs.declared.Cut.{Cut}
use Rattle.sums.specs.inner.Sums.{cut_of}
use Rattle.standard.specs.Mapping.{clamped}
use Rattle.standard.specs.Mmr.{terms}
use Rattle.mmr.specs.declared.format.Ends.{Ends}
use Rattle.mmr.specs.declared.format.Format.{Format}
use Rattle.mmr.specs.declared.columns.Place.{Place}
use Rattle.mmr.specs.declared.ready.Ready.{Ready}
use Rattle.mmr.specs.declared.both.Both.{Both}
use Rattle.mmr.specs.declared.inputs.Inputs.{Inputs}
use Rattle.mmr.specs.inner.Luma.{luma_beside}
use Rattle.mmr.specs.inner.Steps.{mapped_side}

-- a sample clamped to its component's pivots; one that is no code is 0
abbrev pub code_of : ℕ → Ends → ℕ → ℕ
code_of codes e s = let t = clamped e.first e.last s in cond (ltb t codes) t 0

-- the terms of column i
unfoldable pub column_terms : Format → Place → List ℕ → ℕ → List ℕ
column_terms f p base i =
    terms f.depth
    (code_of f.codes f.y (luma_beside base (2 * p.columns) p.upper i))
    (code_of f.codes f.cb (at base (p.cb + i)))
    (code_of f.codes f.cr (at base (p.cr + i)))

-- the HDR sample at index j of a component: a mapped sample, with the raised residual added, and cut
unfoldable pub finished_by : Cut → ℕ → List ℕ → List ℕ → ℕ → ℕ
finished_by cut v raised enhancement j = cut_of cut (v + entry raised (at enhancement j))

-- the HDR samples of column i
unfoldable pub cb_column : Format → Ready → Inputs → Place → ℕ → ℕ
cb_column f c v p i =
    let ts = column_terms f p v.base.now i in
    let j = p.cb + i in
    finished_by v.cut (mapped_side f.order f.d c (at v.base.now j) (at ts 2) ts) v.cb_raised.now v.enhancement.now j

unfoldable pub cr_column : Format → Ready → Inputs → Place → ℕ → ℕ
cr_column f c v p i =
    let ts = column_terms f p v.base.now i in
    let j = p.cr + i in
    finished_by v.cut (mapped_side f.order f.d c (at v.base.now j) (at ts 3) ts) v.cr_raised.now v.enhancement.now j

-- and at the index of the output where they belong: Cb lies before Cr
unfoldable pub row_value : Both → Inputs → Place → ℕ → ℕ
row_value b v p j = cond (ltb j p.cr) (cb_column b.format b.cb v p (j - p.cb)) (cr_column b.format b.cr v p (j - p.cr))

-- the first i columns of both rows
abbrev pub two_rows : Place → ℕ → ℕ → Bool
two_rows p i j = between p.cb (p.cb + i) j || between p.cr (p.cr + i) j

-- the rows lie within a run of n samples
pub record PlaceGiven (p : Place) (n : ℕ) : Type 0 where
  pub luma : p.upper + 2 * (2 * p.columns) ≤ n
  pub apart : p.cb + p.columns ≤ p.cr
  pub inside : p.cr + p.columns ≤ n
