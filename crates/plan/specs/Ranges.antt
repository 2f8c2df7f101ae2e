-- The ranges of the house rules' tables, one definition a field, for the reader's rules 4 and 5 and for rule 7 alike.
use Rattle.std.specs.Prelude.{Bool, true, cond, ◌&&◌, ◌||◌, List, [], ◌∷◌, ℕ, ◌+◌, ◌*◌, ◌^◌, leb, ltb, eqb, ℤ, pos, neg_ℤ}
use Rattle.std.specs.Int.Signed.{le_z, lt_z}
use Rattle.plan.specs.declared.Header.{Header}

-- every test of a table's rows holds
abbrev pub all : List Bool → Bool
all [] = true
all (t ∷ ts) = t && all ts

-- a ≤ x ≤ b
abbrev pub within : ℕ → ℕ → ℕ → Bool
within a b x = leb a x && leb x b

-- house: the largest W/2 and H/2, and the largest num_pivots_minus2
abbrev pub most_columns : ℕ
most_columns = 2048

abbrev pub most_pairs : ℕ
most_pairs = 1152

abbrev pub most_n : ℕ
most_n = 15

-- BL_bit_depth, EL_bit_depth and hdr_bit_depth of a header, which carries each less 8
abbrev pub bl_depth : Header → ℕ
bl_depth h = h.bl + 8

abbrev pub el_depth : Header → ℕ
el_depth h = h.el + 8

abbrev pub hdr_depth : Header → ℕ
hdr_depth h = h.hdr + 8

-- Annex A lists ccm_profile 1, 3 and 4
abbrev pub listed_profile : ℕ → Bool
listed_profile v = eqb v 1 || (eqb v 3 || eqb v 4)

-- header bytes 0 to 6: profile and level, of which Annex A lists 0, d from EL_bit_depth + 5 to 32, the depths, the flag
abbrev pub format_tests : Header → List Bool
format_tests h =
    listed_profile h.profile ∷ eqb h.level 0
    ∷ (eqb h.bl 0 || eqb h.bl 2) ∷ (eqb h.el 0 || eqb h.el 2) ∷ eqb h.bl h.el
    ∷ within (el_depth h + 5) 32 h.d
    ∷ (eqb h.hdr 2 || eqb h.hdr 4) ∷ leb h.disabled 1 ∷ []

unfoldable pub format_fits : Header → Bool
format_fits h = all (format_tests h)

-- header bytes 8 to 19: the size, and the mastering luminances, compared in units of 0.0001 cd/m2
abbrev pub size_tests : Header → List Bool
size_tests h =
    within 1 most_columns h.columns ∷ within 1 most_pairs h.pairs
    ∷ leb h.brightest 10000 ∷ ltb h.darkest (10000 * h.brightest) ∷ []

unfoldable pub size_fits : Header → Bool
size_fits h = all (size_tests h)

abbrev pub header_fits : Header → Bool
header_fits h = format_fits h && size_fits h

-- a section's fields: num_pivots_minus2, a pred_pivot_value, nlq_offset, a fraction
abbrev pub count_fits : ℕ → Bool
count_fits n = leb n most_n

abbrev pub pivot_fits : Header → ℕ → Bool
pivot_fits h v = ltb v (2 ^ bl_depth h)

abbrev pub offset_fits : Header → ℕ → Bool
offset_fits h v = ltb v (2 ^ el_depth h)

abbrev pub fraction_fits : Header → ℕ → Bool
fraction_fits h v = ltb v (2 ^ h.d)

-- mapping_idc of component k: 0, the polynomial, and for Cb and Cr also 1, MMR
abbrev pub idc_fits : ℕ → ℕ → Bool
idc_fits k v = leb v (cond (eqb k 0) 0 1)

-- by mapping_idc: poly_order_minus1 0 or 1, mmr_order_minus1 0 to 2
abbrev pub order_fits : ℕ → ℕ → Bool
order_fits idc v = leb v (cond (eqb idc 1) 2 1)

-- by mapping_idc: a coefficient's integer part is -64 to 63, or -65,536 to 65,535
abbrev pub integer_limit : ℕ → ℕ
integer_limit idc = cond (eqb idc 1) 65536 64

-- an integer part from -m to m - 1 and a fraction below 2 ^ d make a coefficient from -m x 2 ^ d up to m x 2 ^ d
abbrev pub coefficient_fits : Header → ℕ → ℤ → Bool
coefficient_fits h idc z = le_z (neg_ℤ (pos (integer_limit idc * 2 ^ h.d))) z && lt_z z (pos (integer_limit idc * 2 ^ h.d))

-- an integer part 0 or 1 and a fraction below 2 ^ d make a number below 2 x 2 ^ d
abbrev pub unsigned_fits : Header → ℕ → Bool
unsigned_fits h v = ltb v (2 * 2 ^ h.d)
