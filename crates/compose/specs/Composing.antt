-- The composing process (5.4) over a picture: what stands at each index of the output after a call, and what it answers.
use Rattle.std.specs.Prelude.{Bool, not, ◌&&◌, ◌||◌, cond, List, [], ℕ, ◌+◌, ◌-◌, ◌*◌, ◌/◌, ◌%◌, ◌^◌, eqb, ℤ, pos, Result, length, get_or}
use Rattle.runs.specs.Runs.{painted}
use Rattle.refusals.specs.declared.Refusal.{Refusal}
use Rattle.refusals.specs.Refusals.{Outcome, outcome, says as answer_says}
use Rattle.standard.specs.Mapping.{mapped}
use Rattle.standard.specs.Mmr.{down_sampled, chroma_mapped}
use Rattle.standard.specs.Residual.{residual, reconstructed}
use Rattle.picture.specs.declared.Extent.{Extent}
use Rattle.picture.specs.Picture.{width, luma_size, chroma_size, of_plane, pair_at}
use Rattle.plan.specs.declared.Header.{Header}
use Rattle.plan.specs.declared.Component.{Component}
use Rattle.plan.specs.declared.Plan.{Plan}
use Rattle.plan.specs.Ranges.{bl_depth, el_depth, hdr_depth}
use Rattle.plan.specs.Parameters.{mapping, quantization}
use Rattle.marks.specs.Marks.{full_at}
use Rattle.rules.specs.Rules.{Source, by_plan, by_table, Given, extent, names, used, refusal}

-- the component of the sample at index i
abbrev pub component_at : Plan → ℕ → Component
component_at p i = of_plane (extent p.header) i p.y p.cb p.cr

-- row y of luma, by its columns
abbrev pub luma_row : Extent → List ℕ → ℕ → ℕ → ℕ
luma_row e base y x = get_or base (width e * y + x) 0

-- 5.4.2: the mapped sample of a sample s of chroma component c, at index j of its plane: it may go by the luma beside it, and by Cb and
-- Cr at the same index of theirs
unfoldable pub chroma_at : Plan → List ℕ → Component → ℕ → ℕ → ℕ
chroma_at p base c s j =
    let h = p.header in
    let e = extent h in
    let k = j / e.columns in
    chroma_mapped (bl_depth h) h.d (mapping p.y) (mapping p.cb) (mapping p.cr) (mapping c) s
    (down_sampled (width e) (luma_row e base (2 * k)) (luma_row e base (2 * k + 1)) (j % e.columns))
    (get_or base (luma_size e + j) 0)
    (get_or base (luma_size e + chroma_size e + j) 0)

-- 5.4.2: the mapped sample at index i
unfoldable pub mapped_at : Plan → List ℕ → ℕ → ℕ
mapped_at p base i =
    let h = p.header in
    let e = extent h in
    let s = get_or base i 0 in
    of_plane e i
    (mapped (bl_depth h) h.d (mapping p.y) s)
    (chroma_at p base p.cb s (i - luma_size e))
    (chroma_at p base p.cr s (i - (luma_size e + chroma_size e)))

-- 5.4.3.2: the residual at index i; 0 where the flag disables it, or where there is no enhancement picture (5.3.2)
unfoldable pub residual_at : Plan → List ℕ → ℕ → ℤ
residual_at p enhancement i =
    cond (used p.header (length enhancement))
    (residual (el_depth p.header) p.header.d (quantization (component_at p i).nlq) (get_or enhancement i 0))
    (pos 0)

-- the mapped sample at index i as a lent table has it: by the plane and by the sample, whatever the table holds
unfoldable pub looked_up_at : Header → List ℕ → List ℕ → ℕ → ℕ
looked_up_at h table base i =
    let codes = 2 ^ bl_depth h in
    get_or table (of_plane (extent h) i 0 codes (2 * codes) + get_or base i 0) 0

abbrev pub mapped_by : Source → Plan → List ℕ → ℕ → ℕ
mapped_by by_plan p base i = mapped_at p base i
mapped_by (by_table t) p base i = looked_up_at p.header t base i

-- 5.4.3.3: the composed sample at index i, of mapped samples from either source
unfoldable pub composed_by : Source → Plan → List ℕ → List ℕ → ℕ → ℕ
composed_by s p base enhancement i = reconstructed (hdr_depth p.header) (mapped_by s p base i) (residual_at p enhancement i)

-- and where it is worked out by the plan alone
abbrev pub composed_at : Plan → List ℕ → List ℕ → ℕ → ℕ
composed_at p base enhancement i = composed_by by_plan p base enhancement i

-- R-6: a call makes full row pairs where the flag is 1 or an enhancement picture is used; otherwise they are base only
unfoldable pub makes_full : Header → ℕ → Bool
makes_full h enhancement-length = eqb h.disabled 1 || used h enhancement-length

-- the row pairs that a call composes, by the marks that it sees: where it makes full ones all that it names, and otherwise those of
-- them that are not full
unfoldable pub composes : Given → List ℕ → ℕ → Bool
composes g marks k = names g k && (makes_full g.plan.header (length g.enhancement) || not (full_at marks k))

-- the output after the call: the row pairs that it composes, and every other sample as it was
unfoldable pub output_after : Given → List ℕ → List ℕ → List ℕ
output_after g marks output =
    cond (eqb (refusal g (length output)) 0)
    (painted (λ i. composes g marks (pair_at (extent g.plan.header) i)) (composed_by g.source g.plan g.base g.enhancement) output)
    output

-- what the answer says, which holds no values, and what the call answers
abbrev pub says : Result (Unit {0}) Refusal → Outcome
says done = answer_says (λ u. []) done

abbrev pub answer : Given → ℕ → Outcome
answer g output-length = outcome (refusal g output-length) []
