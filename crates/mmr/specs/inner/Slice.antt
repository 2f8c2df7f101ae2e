-- A slice through the mapping of Cb or of Cr: luma and the other chroma sample are at the middle code.
use Rattle.std.specs.Prelude.{Bool, cond, List, ℕ, ◌/◌, ◌^◌}
use Rattle.runs.specs.inner.Loops.{at}
use Rattle.runs.specs.inner.Tables.{table, coded}
use Rattle.standard.specs.Mmr.{terms}
use Rattle.plan.specs.declared.Component.{Component}
use Rattle.plan.specs.declared.Plan.{Plan}
use Rattle.plan.specs.Ranges.{bl_depth}
use Rattle.mmr.specs.declared.format.Format.{Format}
use Rattle.mmr.specs.declared.both.Both.{Both}
use Rattle.mmr.specs.inner.Steps.{mapped_side}
use Rattle.mmr.specs.inner.Columns.{code_of}
use Rattle.mmr.specs.inner.Ready.{mapped_chroma}
use Rattle.mmr.specs.inner.Chroma.{format_of, numbers_fit}

-- the component that goes through its codes, Cr or Cb, and which of the terms is its own
abbrev pub sliced : Plan → Bool → Component
sliced p cr = cond cr p.cr p.cb

abbrev pub own : Bool → ℕ
own cr = cond cr 3 2

-- the terms where its sample is s
unfoldable pub slice_terms : Format → Bool → ℕ → List ℕ
slice_terms f cr s =
    let middle = f.codes / 2 in
    terms f.depth
    (code_of f.codes f.y middle)
    (code_of f.codes f.cb (cond cr middle s))
    (code_of f.codes f.cr (cond cr s middle))

-- what s is mapped to
unfoldable pub slice_of : Format → Component → Bool → ℕ → ℕ
slice_of f c cr s = let ts = slice_terms f cr s in mapped_chroma f.d c s (at ts (own cr)) ts

-- a sample has at most 10 bits; 0 past the codes, and where the plan's numbers cannot be computed with
unfoldable pub slice_table : Plan → Bool → List ℕ
slice_table p cr =
    table 1024
    (coded (numbers_fit p.header p.y.n p.cb.n p.cr.n) (2 ^ bl_depth p.header) (slice_of (format_of p 3) (sliced p cr) cr))

-- what s is mapped to by components that were made ready
unfoldable pub slice_by : Both → Bool → ℕ → ℕ
slice_by b cr s = let ts = slice_terms b.format cr s in mapped_side b.format.order b.format.d (cond cr b.cr b.cb) s (at ts (own cr)) ts
