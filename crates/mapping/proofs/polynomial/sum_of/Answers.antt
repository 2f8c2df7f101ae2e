-- Every number on the way is a word that holds it, within a bound. Assumes nothing.
use mathlib.Core.Path.{sym, ap, ◌∙◌}
use borrow.Author.Rules.{rules}
use Prim.Native.Nat.{ℕ, ◌-◌, ◌*◌, ◌^◌, ◌≤◌}
use native.Mathlib.Nat.{le_trans, le_of_eq, mul-le-mul}
use native.Mathlib.Omega.{arith}
use lib.IntN.{nat_abs}
use mir.Syntax.{w64}
use mir.Val.{of_z}
use Rattle.standard.proofs.Weights.{weight_le, weight_one, weight_two}
use Rattle.standard.proofs.Polynomials.{three-terms}
use Rattle.words.proofs.Holding.{Holds, bounded, result, literal, add, add_asked, mul, mul_asked}
use Rattle.mapping.specs.inner.Copies.{coef}
use Rattle.mapping.proofs.polynomial.sum_of.Goals.{After-shifted-linear, After-shifted-square, Start}
use Rattle.mapping.proofs.polynomial.sum_of.Goals as goal

-- the two weights are at most 2 ^ 20
one_le : (st : Start) → st.args.s * 2 ^ (20 - st.args.depth) ≤ 2 ^ 20
one_le st = le_trans (le_of_eq (sym (weight_one st.args.depth st.args.s))) (weight_le st.args.depth st.args.s 1 st.requires.sample (omega arith))

two_le : (st : Start) → st.args.s * st.args.s * 2 ^ (20 - 2 * st.args.depth) ≤ 2 ^ 20
two_le st = le_trans (le_of_eq (sym (weight_two st.args.depth st.args.s))) (weight_le st.args.depth st.args.s 2 st.requires.sample (omega arith))

-- each number on the way, and its bound
row : (st : Start) (i : ℕ) → Holds (of_z w64 (coef st.args.row i)) (coef st.args.row i) (2 ^ 38)
row st i = bounded (st.requires.coefficient i) tt

linear : (c : After-shifted-linear) → Holds (of_z w64 c.shifted-linear.result) c.shifted-linear.result (2 ^ 20)
linear c = let st : Start = search rules in
    result c.shifted-linear.type_inv (le_trans (le_of_eq (ap nat_abs c.shifted-linear.ensures)) (one_le st))

square : (c : After-shifted-square) → Holds (of_z w64 c.shifted-square.result) c.shifted-square.result (2 ^ 20)
square c = let st : Start = search rules in
    result c.shifted-square.type_inv (le_trans (le_of_eq (ap nat_abs c.shifted-square.ensures)) (two_le st))

pub overflow_mul-wide : goal.overflow_mul-wide
overflow_mul-wide c =
    let h : c.args.s ≤ 2 ^ 16 = omega arith in
    let k : c.args.s * c.args.s ≤ 2 ^ 16 * 2 ^ 16 = mul-le-mul h h in
    omega arith

pub overflow_mul-result : goal.overflow_mul-result
overflow_mul-result c = let st : Start = search rules in
    mul_asked (row st 0) (literal 1048576 tt) tt

pub overflow_mul-result-2 : goal.overflow_mul-result-2
overflow_mul-result-2 c =
    let st : Start = search rules in
    let l : After-shifted-linear = search rules in
    mul_asked (row st 1) (linear l) tt

pub overflow_add-result : goal.overflow_add-result
overflow_add-result c =
    let st : Start = search rules in
    let l : After-shifted-linear = search rules in
    add_asked (mul (row st 0) (literal 1048576 tt) tt) (mul (row st 1) (linear l) tt) tt

pub overflow_mul-result-3 : goal.overflow_mul-result-3
overflow_mul-result-3 c =
    let st : Start = search rules in
    let q : After-shifted-square = search rules in
    mul_asked (row st 2) (square q) tt

pub overflow_add-result-2 : goal.overflow_add-result-2
overflow_add-result-2 c =
    let st : Start = search rules in
    let l : After-shifted-linear = search rules in
    let q : After-shifted-square = search rules in
    add_asked (add (mul (row st 0) (literal 1048576 tt) tt) (mul (row st 1) (linear l) tt) tt) (mul (row st 2) (square q) tt) tt

pub returns : goal.returns
returns c =
    let st : Start = search rules in
    let l : After-shifted-linear = search rules in
    let q : After-shifted-square = search rules in
    (add (add (mul (row st 0) (literal 1048576 tt) tt) (mul (row st 1) (linear l) tt) tt) (mul (row st 2) (square q) tt) tt).is
    ∙ three-terms c.args.depth c.args.s (coef c.args.row) c.shifted-linear.result c.shifted-square.result c.shifted-linear.ensures c.shifted-square.ensures

pub shifted-linear-requires : goal.shifted-linear-requires
shifted-linear-requires c =
    let st : Start = search rules in
    (omega arith, omega (arith, one_le st))

pub shifted-square-requires : goal.shifted-square-requires
shifted-square-requires c =
    let st : Start = search rules in
    (omega arith, omega (arith, two_le st))
