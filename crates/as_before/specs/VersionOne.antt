-- R-2 gave a block the piece above the last pivot. What it left as it was: a block of version 1 is read as before, and every sample of it
-- is mapped as before, so that no picture changes. The definitions from before it stand here, and nothing else uses them.
use Rattle.std.specs.Prelude.{◌≡◌, cond, List, ℕ, ◌+◌, min, eqb, set}
use Rattle.standard.specs.Parameters.{Mapping}
use Rattle.standard.specs.Mapping.{pivot_value, pivot_idx, clamped, polynomial, mapped}
use Rattle.standard.specs.Mmr.{mmr_mapped, chroma_mapped}
use Rattle.plan.specs.declared.Header.{Header}
use Rattle.plan.specs.declared.Component.{Component}
use Rattle.plan.specs.declared.Plan.{Plan}
use Rattle.plan.specs.Parameters.{mapping}
use Rattle.plan.specs.Ranges.{bl_depth, count_fits}
use Rattle.plan.specs.Rule7.{pivot_places, piece_places, pivots_used, zero_piece}
use Rattle.fields.specs.declared.kinds.Kind.TheVariants.{LeftOver, NumPivotsMinus2}
use Rattle.fields.specs.declared.Width.TheVariants.{One}
use Rattle.fields.specs.Fields.{Read, got, ◌then◌, repeated, padded, ended}
use Rattle.section_fields.specs.Fields.{asked, ranged}
use Rattle.sections.specs.Sections.{piece, pivot, nlq, section}
use Rattle.frame.specs.Frame.{trailer}
use Rattle.block.specs.Reading.{tail}
use Rattle.round_trips.specs.RoundTrips.{ReadCall, bytes_read, read_answer}

-- 5.4.2 before R-2: there was no piece n + 1, and the last one, n, stood in for it
unfoldable pub mapped_before_r2 : ℕ → ℕ → Mapping → ℕ → ℕ
mapped_before_r2 depth d m s =
    let pivot = pivot_value m.pred_pivot_value in
    let n = m.num_pivots_minus2 in
    let p = min (pivot_idx pivot n s) n in
    polynomial depth d (m.fp_poly_coef p) (m.poly_order_minus1 p) (clamped (pivot 0) (pivot (n + 1)) s)

-- the same of a chroma sample, by the method of its piece
unfoldable pub chroma_before_r2 : ℕ → ℕ → Mapping → Mapping → Mapping → Mapping → ℕ → ℕ → ℕ → ℕ → ℕ
chroma_before_r2 depth d y cb cr m s s0 s1 s2 =
    let n = m.num_pivots_minus2 in
    let p = min (pivot_idx (pivot_value m.pred_pivot_value) n s) n in
    cond (eqb (m.mapping_idc p) 1) (mmr_mapped depth d (m.mmr p) y cb cr s0 s1 s2) (mapped_before_r2 depth d m s)

-- a section before R-2: n + 1 pieces, and 0 in every place after them
unfoldable pub section_before_r2 : Header → ℕ → List ℕ → Read Component
section_before_r2 h k bytes =
    ranged (asked NumPivotsMinus2 k 0 0 One) count_fits bytes then λ n rest.
    repeated 0 (pivots_used n) (pivot h k) rest then λ pivots rest.
    repeated 0 (n + 1) (piece h k) rest then λ pieces rest.
    nlq h k rest then λ q rest.
    ended (asked LeftOver k 0 0 One).name 3 (record { n = n; preds = padded pivot_places 0 pivots; pieces = padded piece_places zero_piece pieces; nlq = q }) rest

-- a component as it was held before: without piece n + 1
abbrev pub without_last : Component → Component
without_last c = record { n = c.n; preds = c.preds; pieces = set c.pieces (c.n + 1) zero_piece; nlq = c.nlq }

-- a luma sample is mapped as before
abbrev pub SameLuma : Plan → ℕ → Type 0
SameLuma p s =
    let h = p.header in
    mapped (bl_depth h) h.d (mapping p.y) s ≡ mapped_before_r2 (bl_depth h) h.d (mapping (without_last p.y)) s

-- a sample s of a chroma component, beside a down-sampled luma sample s0, a Cb sample s1 and a Cr sample s2, is mapped as before
abbrev pub SameChroma : Plan → Component → ℕ → ℕ → ℕ → ℕ → Type 0
SameChroma p c s s0 s1 s2 =
    let h = p.header in
    chroma_mapped (bl_depth h) h.d (mapping p.y) (mapping p.cb) (mapping p.cr) (mapping c) s s0 s1 s2
    ≡ chroma_before_r2 (bl_depth h) h.d (mapping (without_last p.y)) (mapping (without_last p.cb)) (mapping (without_last p.cr)) (mapping (without_last c)) s s0 s1 s2

pub record VersionOneAsBefore : Type 0 where
  -- any bytes: refused by the same number, in the same field and at the same byte, or read to the same component, piece n + 1 apart
  pub sections : (h : Header) (k : ℕ) (bytes : List ℕ) → section_before_r2 h k bytes ≡ (section 1 h k bytes then λ c rest. got (without_last c) rest)
  -- of a block of version 1 that is accepted every sample is mapped as before, in each component
  pub samples : (r : ReadCall) → (read_answer r).number ≡ 0 → (trailer (tail (bytes_read r))).version ≡ 1 → (s s0 s1 s2 : ℕ)
      → let p = (read_answer r).plan in
      SameLuma p s × (SameChroma p p.cb s s0 s1 s2 × SameChroma p p.cr s s0 s1 s2)
