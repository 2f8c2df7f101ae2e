-- The MMR mapping of one chroma sample: clauses 5.3.3.3 and 5.4.2.3.3, line by line as the pseudo-code has it, over unbounded integers.
use Rattle.std.specs.Prelude.{cond, List, [], ◌∷◌, ℕ, zero, suc, ◌+◌, ◌-◌, ◌*◌, ◌/◌, ◌^◌, min, eqb, ℤ, pos, ◌+ℤ◌, ◌-ℤ◌, ◌*ℤ◌, get_or}
use Rattle.standard.specs.Parameters.{Mapping, Mmr}
use Rattle.standard.specs.Mapping.{pivot_value, pivot_idx, clamped, from_zero, cut, mapped}

-- 3.2.2, of numbers that are not negative
infixl 5 ◌<<◌
abbrev pub ◌<<◌ : ℕ → ℕ → ℕ
x << y = x * 2 ^ y

infixl 5 ◌>>◌
abbrev pub ◌>>◌ : ℕ → ℕ → ℕ
x >> y = x / 2 ^ y

-- a column beside a picture of w columns is the one at its edge
abbrev pub inside : ℕ → ℤ → ℕ
inside w x = min (from_zero x) (w - 1)

-- what a luma row gives to the chroma column i: its sum with its 2 is shifted by 2 (house), before the two rows are added
unfoldable pub row_sum : ℕ → (ℕ → ℕ) → ℕ → ℕ
row_sum w s i =
    let x = pos (2 * i) in
    (s (inside w (x -ℤ pos 1)) + 2 * s (inside w x) + s (inside w (x +ℤ pos 1)) + 2) >> 2

-- the down-sampled luma sample of chroma column i, between the luma rows 2j and 2j + 1, which are never beside the picture
unfoldable pub down_sampled : ℕ → (ℕ → ℕ) → (ℕ → ℕ) → ℕ → ℕ
down_sampled w upper lower i = (row_sum w upper i + row_sum w lower i + 1) >> 1

-- tt[0] to tt[21] of three clamped samples; no order changes what a lower one has
unfoldable pub terms : ℕ → ℕ → ℕ → ℕ → List ℕ
terms depth s0 s1 s2 =
    let t1 = s0 << (20 - depth) in
    let t2 = s1 << (20 - depth) in
    let t3 = s2 << (20 - depth) in
    let t4 = (s0 * s1) << (20 - 2 * depth) in
    let t5 = (s0 * s2) << (20 - 2 * depth) in
    let t6 = (s1 * s2) << (20 - 2 * depth) in
    let t7 = (t4 * t3) >> 20 in
    let t8 = (s0 * s0) << (20 - 2 * depth) in
    let t9 = (s1 * s1) << (20 - 2 * depth) in
    let t10 = (s2 * s2) << (20 - 2 * depth) in
    let t11 = (t4 * t4) >> 20 in
    let t12 = (t5 * t5) >> 20 in
    let t13 = (t6 * t6) >> 20 in
    let t14 = (t7 * t7) >> 20 in
    let t15 = (t1 * t8) >> 20 in
    let t16 = (t2 * t9) >> 20 in
    let t17 = (t3 * t10) >> 20 in
    let t18 = (t4 * t11) >> 20 in
    let t19 = (t5 * t12) >> 20 in
    let t20 = (t6 * t13) >> 20 in
    let t21 = (t7 * t14) >> 20 in
    (1 << 20) ∷ t1 ∷ t2 ∷ t3 ∷ t4 ∷ t5 ∷ t6 ∷ t7 ∷ t8 ∷ t9 ∷ t10 ∷ t11 ∷ t12 ∷ t13 ∷ t14 ∷ t15 ∷ t16 ∷ t17 ∷ t18 ∷ t19 ∷ t20 ∷ t21 ∷ []

-- cnt, where coefficient [i][j] meets its term
abbrev pub cnt : ℕ → ℕ → ℕ
cnt i j = 7 * (i - 1) + j + 1

-- the inner loop: rr after j turns of order i
unfoldable pub inner_sum : (ℕ → ℕ → ℤ) → (ℕ → ℕ) → ℕ → ℤ → ℕ → ℤ
inner_sum coef tt i rr zero = rr
inner_sum coef tt i rr (suc j) = inner_sum coef tt i rr j +ℤ coef i j *ℤ pos (tt (cnt i j))

-- the outer loop: rr after the orders 1 to i
unfoldable pub mmr_sum : ℤ → (ℕ → ℕ → ℤ) → (ℕ → ℕ) → ℕ → ℤ
mmr_sum constant coef tt zero = constant *ℤ pos (tt 0)
mmr_sum constant coef tt (suc i) = inner_sum coef tt (suc i) (mmr_sum constant coef tt i) 7

-- v of three clamped samples; the sum is cut as the polynomial's
unfoldable pub mmr : ℕ → ℕ → Mmr → ℕ → ℕ → ℕ → ℕ
mmr depth d m s0 s1 s2 =
    let tt : ℕ → ℕ = λ k. get_or (terms depth s0 s1 s2) k 0 in
    cut d (mmr_sum m.fp_mmr_constant m.fp_mmr_coef tt (m.mmr_order_minus1 + 1))

-- s is raised to the first pivot of a component, then lowered to its last
abbrev pub to_pivots : Mapping → ℕ → ℕ
to_pivots m s = let pivot = pivot_value m.pred_pivot_value in clamped (pivot 0) (pivot (m.num_pivots_minus2 + 1)) s

-- v of a down-sampled luma sample, a Cb and a Cr sample, each clamped with the pivots of its own component
unfoldable pub mmr_mapped : ℕ → ℕ → Mmr → Mapping → Mapping → Mapping → ℕ → ℕ → ℕ → ℕ
mmr_mapped depth d m y cb cr s0 s1 s2 = mmr depth d m (to_pivots y s0) (to_pivots cb s1) (to_pivots cr s2)

-- 5.4.2: the mapped sample v of a chroma sample s of component m, by the method of its piece; the piece goes by s before it is clamped
unfoldable pub chroma_mapped : ℕ → ℕ → Mapping → Mapping → Mapping → Mapping → ℕ → ℕ → ℕ → ℕ → ℕ
chroma_mapped depth d y cb cr m s s0 s1 s2 =
    let p = pivot_idx (pivot_value m.pred_pivot_value) m.num_pivots_minus2 s in
    cond (eqb (m.mapping_idc p) 1) (mmr_mapped depth d (m.mmr p) y cb cr s0 s1 s2) (mapped depth d m s)
