-- R-3 gave chroma the MMR mapping. What it left as it was: bytes of a section that were not refused 6, for a mapping_idc 1, are read or
-- refused as before. The definitions from before it stand here, and nothing else uses them.
use Rattle.std.specs.Prelude.{◌≡◌, cond, ◌||◌, List, map, ℕ, ◌+◌, leb, ltb, eqb, ℤ, pos, ◌-ℤ◌, replicate}
use Rattle.standard.specs.Parameters.{fp}
use Rattle.plan.specs.declared.Header.{Header}
use Rattle.plan.specs.declared.Piece.{Piece}
use Rattle.plan.specs.declared.Component.{Component}
use Rattle.plan.specs.Ranges.{within, count_fits, fraction_fits}
use Rattle.plan.specs.Rule7.{pivot_places, piece_places, row_places, pivots_used}
use Rattle.plan.specs.Versions.{pieces_carried, pieces_read}
use Rattle.fields.specs.declared.kinds.Kind.TheVariants.{LeftOver, MappingIdc, NumPivotsMinus2, PolyCoef, PolyCoefInt, PolyOrderMinus1}
use Rattle.fields.specs.declared.Width.TheVariants.{One, Four}
use Rattle.fields.specs.Fields.{Read, refused, got, ◌then◌, field, repeated, padded, ended}
use Rattle.section_fields.specs.Fields.{asked, ranged}
use Rattle.sections.specs.Sections.{pivot, nlq, section}

-- a coefficient before R-3: a signed byte -64 to 63, and a fraction of 4 bytes
unfoldable pub coefficient_before_r3 : Header → ℕ → ℕ → ℕ → List ℕ → Read ℤ
coefficient_before_r3 h k p i bytes =
    ranged (asked PolyCoefInt k p i One) (λ b. ltb b 64 || within 192 255 b) bytes then λ n rest.
    ranged (asked PolyCoef k p i Four) (fraction_fits h) rest then λ f rest.
    got (fp h.d (cond (ltb n 128) (pos n) (pos n -ℤ pos 256)) f) rest

-- mapping_idc before R-3: 0 passed; 1 was refused 6 in sections 1 and 2; all else was refused 5
abbrev pub idc_before_r3 : ℕ → ℕ → List ℕ → Read ℕ
idc_before_r3 k p = field (asked MappingIdc k p 0 One) (λ v. eqb v 0) (λ v. cond (eqb v 1) (cond (eqb k 0) 5 6) 5)

-- a piece before R-3: a row had 3 places
unfoldable pub piece_before_r3 : Header → ℕ → ℕ → List ℕ → Read Piece
piece_before_r3 h k p bytes =
    idc_before_r3 k p bytes then λ m rest.
    ranged (asked PolyOrderMinus1 k p 0 One) (λ v. leb v 1) rest then λ o rest.
    repeated 0 (o + 2) (coefficient_before_r3 h k p) rest then λ row rest.
    got (record { idc = m; order = o; row = padded 3 (pos 0) row }) rest

abbrev pub zero_before_r3 : Piece
zero_before_r3 = record { idc = 0; order = 0; row = replicate 3 (pos 0) }

-- a section before R-3
unfoldable pub section_before_r3 : ℕ → Header → ℕ → List ℕ → Read Component
section_before_r3 version h k bytes =
    ranged (asked NumPivotsMinus2 k 0 0 One) count_fits bytes then λ n rest.
    repeated 0 (pivots_used n) (pivot h k) rest then λ pivots rest.
    repeated 0 (pieces_carried version n) (piece_before_r3 h k) rest then λ pieces rest.
    nlq h k rest then λ q rest.
    ended (asked LeftOver k 0 0 One).name 3 (record { n = n; preds = padded pivot_places 0 pivots; pieces = padded piece_places zero_before_r3 (pieces_read version n pieces); nlq = q }) rest

-- a component as it is held now: its rows have more places, which hold 0
abbrev pub longer_row : Piece → Piece
longer_row q = record { idc = q.idc; order = q.order; row = padded row_places (pos 0) q.row }

abbrev pub longer_rows : Component → Component
longer_rows c = record { n = c.n; preds = c.preds; pieces = map longer_row c.pieces; nlq = c.nlq }

-- by which number bytes are refused, and 0 where they are read
abbrev pub refusal_of : {A : Type 0} → Read A → ℕ
refusal_of (refused k name rest) = k
refusal_of (got a rest) = 0

pub record PolynomialsAsBefore : Type 0 where
  -- any bytes that were not refused 6: refused by the same number, in the same field and at the same byte, or read to the same component
  pub sections : (version : ℕ) (h : Header) (k : ℕ) (bytes : List ℕ) → (refusal_of (section_before_r3 version h k bytes) ≡ 6 → ⊥)
      → section version h k bytes ≡ (section_before_r3 version h k bytes then λ c rest. got (longer_rows c) rest)
