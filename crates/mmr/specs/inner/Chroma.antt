-- Row pairs of Cb and Cr composed by a plan of which a component has MMR pieces, whatever plan, samples and tables are handed over.
use Rattle.std.specs.Prelude.{◌≡◌, Bool, true, ◌&&◌, cond, List, ℕ, ◌+◌, ◌-◌, ◌/◌, ◌%◌, ◌^◌, ◌≤◌, leb, ltb, eqb, length}
use Rattle.runs.specs.Runs.{painted}
use Rattle.runs.specs.inner.Loops.{at}
use Rattle.spans.specs.inner.Spans.{entry}
use Rattle.picture.specs.Picture.{picture_size}
use Rattle.picture.specs.inner.Planes.{planes, row_start}
use Rattle.sums.specs.declared.Cut.{Cut}
use Rattle.sums.specs.inner.Sums.{cut_of}
use Rattle.plan.specs.declared.Header.{Header}
use Rattle.plan.specs.declared.Component.{Component}
use Rattle.plan.specs.declared.Plan.{Plan}
use Rattle.plan.specs.Ranges.{most_n, bl_depth, header_fits, count_fits}
use Rattle.plan.specs.Rule7.{pieces_used}
use Rattle.plan.specs.inner.Facts.{Arrays}
use Rattle.rules.specs.Rules.{extent}
use Rattle.steps.specs.inner.Steps.{pivot_table}
use Rattle.mmr.specs.declared.format.Ends.{Ends}
use Rattle.mmr.specs.declared.format.Format.{Format}
use Rattle.mmr.specs.declared.ready.Ready.{Ready}
use Rattle.mmr.specs.inner.Columns.{column_terms}
use Rattle.mmr.specs.inner.Rows.{place_of, chroma_rows}
use Rattle.mmr.specs.inner.Ready.{mapped_chroma, Kinds, Highest}

abbrev pub ends_of : Component → Ends
ends_of c = let pivots = pivot_table c.preds in record { first = at pivots 0; last = at pivots (c.n + 1) }

-- of an order
abbrev pub format_of : Plan → ℕ → Format
format_of p order =
    let h = p.header in
    record { depth = bl_depth h; codes = 2 ^ bl_depth h; d = h.d; order = order; y = ends_of p.y; cb = ends_of p.cb; cr = ends_of p.cr }

-- the HDR sample at index j of a component, by the terms of its column, of which its own is t
unfoldable pub composed_chroma : ℕ → Component → List ℕ → Cut → List ℕ → List ℕ → ℕ → ℕ → List ℕ → ℕ
composed_chroma d c raised cut base enhancement j t ts = cut_of cut (mapped_chroma d c (at base j) t ts + entry raised (at enhancement j))

-- at each index of both planes
unfoldable pub chroma_value : Plan → List ℕ → List ℕ → Cut → List ℕ → List ℕ → ℕ → ℕ
chroma_value p raised1 raised2 cut base enhancement j =
    let s = planes (extent p.header) in
    let d = p.header.d in
    cond (ltb j s.cr.start)
    (let m = j - s.cb.start in
    let k = m / s.cb.row in
    let i = m % s.cb.row in
    let ts = column_terms (format_of p 3) (place_of s k) base i in
    composed_chroma d p.cb raised1 cut base enhancement (row_start s.cb k + i) (at ts 2) ts)
    (let m = j - s.cr.start in
    let k = m / s.cr.row in
    let i = m % s.cr.row in
    let ts = column_terms (format_of p 3) (place_of s k) base i in
    composed_chroma d p.cr raised2 cut base enhancement (row_start s.cr k + i) (at ts 3) ts)

-- the plan's numbers can be computed with, and the row pairs are the picture's
abbrev pub numbers_fit : Header → ℕ → ℕ → ℕ → Bool
numbers_fit h n0 n1 n2 = header_fits h && (count_fits n0 && (count_fits n1 && count_fits n2))

abbrev pub pairs_fit : Header → ℕ → ℕ → Bool
pairs_fit h first last = leb first last && leb last h.pairs

abbrev pub runs_fit : Header → ℕ → ℕ → ℕ → Bool
runs_fit h base enhancement output =
    let size = picture_size (extent h) in
    eqb base size && (eqb enhancement size && eqb output size)

abbrev pub chroma_fits : Plan → ℕ → ℕ → ℕ → ℕ → ℕ → Bool
chroma_fits p first last base enhancement output =
    numbers_fit p.header p.y.n p.cb.n p.cr.n && (pairs_fit p.header first last && runs_fit p.header base enhancement output)

-- row pairs that are full by the marks are kept
unfoldable pub chroma_painted : Plan → ℕ → ℕ → List ℕ → List ℕ → Cut → List ℕ → List ℕ → List ℕ → List ℕ → List ℕ
chroma_painted p first last raised1 raised2 cut marks base enhancement output =
    painted (chroma_rows (planes (extent p.header)) first last marks) (chroma_value p raised1 raised2 cut base enhancement) output

unfoldable pub chroma_after : Plan → ℕ → ℕ → List ℕ → List ℕ → Cut → List ℕ → List ℕ → List ℕ → List ℕ → List ℕ
chroma_after p first last raised1 raised2 cut marks base enhancement output =
    cond (chroma_fits p first last (length base) (length enhancement) (length output))
    (chroma_painted p first last raised1 raised2 cut marks base enhancement output)
    output

abbrev pub PlanReady : Plan → Type 0
PlanReady p = numbers_fit p.header p.y.n p.cb.n p.cr.n ≡ true

-- a format of the plan, of an order that no piece of Cb and of Cr exceeds
pub record FormatFor (p : Plan) (f : Format) : Type 0 where
  pub is : f ≡ format_of p f.order
  pub cb : Highest p.cb (pieces_used p.cb.n) f.order
  pub cr : Highest p.cr (pieces_used p.cr.n) f.order

-- a component as it was made ready
pub record ReadySide (d : ℕ) (c : Component) (s : Ready) : Type 0 where
  pub arrays : Arrays c
  pub few : c.n ≤ most_n
  pub component : s.component.now ≡ c
  pub pivots : s.pivots ≡ pivot_table c.preds
  pub kinds : Kinds d c (pieces_used c.n) s.kinds
