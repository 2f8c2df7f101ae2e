-- The fields of a section of the composing block, which have the standard's names.
use Rattle.std.specs.Prelude.{Bool, cond, ◌||◌, List, ℕ, ◌-◌, ◌/◌, ◌^◌, ltb, eqb, ℤ, pos, ◌-ℤ◌}
use Rattle.plan.specs.Ranges.{within, integer_limit}
use Rattle.refusals.specs.declared.Refusal.TheVariants.{Length}
use Rattle.fields.specs.declared.Width.{Width}
use Rattle.fields.specs.declared.Width.TheVariants.{One, Four}
use Rattle.fields.specs.declared.kinds.Kind.{Kind}
use Rattle.fields.specs.declared.kinds.Kind.TheVariants.{PolyOrderMinus1, PolyCoefInt, PolyCoef, HdrInMaxInt, HdrInMax, SlopeInt, Slope, ThresholdInt, Threshold, MmrOrderMinus1, MmrConstantInt, MmrConstant, MmrCoefInt, MmrCoef}
use Rattle.fields.specs.declared.Ask.{Ask}
use Rattle.fields.specs.Fields.{Read, wide, field}

-- what is asked of a field of section k, with its indices: rule 3 where it runs past its section
abbrev pub asked : Kind → ℕ → ℕ → ℕ → Width → Ask
asked kind k i j width = record { name = record { kind = kind; first = k; second = i; third = j }; width = width; past = Length }

-- a field that is refused 5 where it is outside its range
abbrev pub ranged : Ask → (ℕ → Bool) → List ℕ → Read ℕ
ranged a fits = field a fits (λ v. 5)

-- by mapping_idc: the kind of a piece's order
abbrev pub order_kind : ℕ → Kind
order_kind idc = cond (eqb idc 1) MmrOrderMinus1 PolyOrderMinus1

-- by mapping_idc: the kind of the integer part in place i of a row, where MMR has its constant in place 0
abbrev pub integer_kind : ℕ → ℕ → Kind
integer_kind idc i = cond (eqb idc 1) (cond (eqb i 0) MmrConstantInt MmrCoefInt) PolyCoefInt

-- the kind of a number's fraction, by its integer part's
abbrev pub fraction_kind : Kind → Kind
fraction_kind PolyCoefInt = PolyCoef
fraction_kind HdrInMaxInt = HdrInMax
fraction_kind SlopeInt = Slope
fraction_kind ThresholdInt = Threshold
fraction_kind MmrConstantInt = MmrConstant
fraction_kind MmrCoefInt = MmrCoef
fraction_kind kind = kind

-- by mapping_idc: an integer part has 1 byte, or 4
abbrev pub integer_width : ℕ → Width
integer_width idc = cond (eqb idc 1) Four One

-- how many numbers a width has
abbrev pub numbers : Width → ℕ
numbers w = 256 ^ wide w

-- a number of a width as a signed one: the upper half is negative
abbrev pub signed : Width → ℕ → ℤ
signed w v = cond (ltb v (numbers w / 2)) (pos v) (pos v -ℤ pos (numbers w))

-- by mapping_idc: an integer part from -m to m - 1, as its bytes stand
abbrev pub integer_fits : ℕ → ℕ → Bool
integer_fits idc v =
    let m = integer_limit idc in
    let top = numbers (integer_width idc) in
    ltb v m || within (top - m) (top - 1) v
