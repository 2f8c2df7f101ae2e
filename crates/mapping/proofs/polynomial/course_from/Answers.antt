-- `mapping::polynomial::course_from` meets its contract: every number on the way is a word that holds it. Assumes nothing.
use borrow.Author.Rules.{rules, sfits_of}
use mathlib.Core.Path.{ap, ap₂, ◌∙◌}
use Prim.Native.Nat.{ℕ, ◌^◌, ◌-◌}
use native.Mathlib.Nat.{le_trans, le_of_eq, one-mul}
use lib.IntN.{ℤ, pos, nat_abs, ◌+ℤ◌, ◌*ℤ◌}
use mir.Syntax.{w64}
use mir.Val.{of_z}
use mir.Facts.{to_z-of_z}
use Rattle.words.proofs.Holding.{Holds, bounded, result, add, add_asked, mul, mul_asked}
use Rattle.mapping.specs.inner.Copies.{coef}
use Rattle.mapping.proofs.Differences.{unit_fits, two_fits, odd_fits}
use Rattle.mapping.proofs.polynomial.course_from.Goals.{After-shifted-odd, After-shifted-two, After-shifted-unit, Start}
use Rattle.mapping.proofs.polynomial.course_from.Goals as goal

-- each number on the way, and its bound
row : (st : Start) (i : ℕ) → Holds (of_z w64 (coef st.args.row i)) (coef st.args.row i) (2 ^ 38)
row st i = bounded (st.requires.coefficient i) tt

unit : (c : After-shifted-unit) → Holds (of_z w64 c.shifted-unit.result) c.shifted-unit.result (2 ^ 22)
unit c = result c.shifted-unit.type_inv (le_trans (le_of_eq (ap nat_abs c.shifted-unit.ensures)) (unit_fits c.requires).1)

odd : (c : After-shifted-odd) → Holds (of_z w64 c.shifted-odd.result) c.shifted-odd.result (2 ^ 22)
odd c = result c.shifted-odd.type_inv (le_trans (le_of_eq (ap nat_abs c.shifted-odd.ensures)) (odd_fits c.requires).1)

two : (c : After-shifted-two) → Holds (of_z w64 c.shifted-two.result) c.shifted-two.result (2 ^ 22)
two c = result c.shifted-two.type_inv (le_trans (le_of_eq (ap nat_abs c.shifted-two.ensures)) (two_fits c.requires).1)

pub overflow_mul-result : goal.overflow_mul-result
overflow_mul-result c =
    let st : Start = search rules in
    let u : After-shifted-unit = search rules in
    mul_asked (row st 1) (unit u) tt

pub overflow_mul-result-2 : goal.overflow_mul-result-2
overflow_mul-result-2 c =
    let st : Start = search rules in
    let o : After-shifted-odd = search rules in
    mul_asked (row st 2) (odd o) tt

pub overflow_add-result : goal.overflow_add-result
overflow_add-result c =
    let st : Start = search rules in
    let u : After-shifted-unit = search rules in
    let o : After-shifted-odd = search rules in
    add_asked (mul (row st 1) (unit u) tt) (mul (row st 2) (odd o) tt) tt

pub overflow_mul-result-3 : goal.overflow_mul-result-3
overflow_mul-result-3 c =
    let st : Start = search rules in
    let t : After-shifted-two = search rules in
    mul_asked (row st 2) (two t) tt

pub returns : goal.returns
returns c =
    let st : Start = search rules in
    let u : After-shifted-unit = search rules in
    let o : After-shifted-odd = search rules in
    let t : After-shifted-two = search rules in
    let k = coef c.args.row in (
      to_z-of_z (sfits_of {w = w64} {z = c.sum_of.result} c.sum_of.type_inv) ∙ c.sum_of.ensures,
      (add (mul (row st 1) (unit u) tt) (mul (row st 2) (odd o) tt) tt).is ∙ ap₂ (λ (x y : ℤ). k 1 *ℤ x +ℤ k 2 *ℤ y) (c.shifted-unit.ensures ∙ ap pos (one-mul (2 ^ (20 - c.args.depth)))) c.shifted-odd.ensures,
      (mul (row st 2) (two t) tt).is ∙ ap (λ (x : ℤ). k 2 *ℤ x) c.shifted-two.ensures,
    )

pub shifted-unit-requires : goal.shifted-unit-requires
shifted-unit-requires c =
    unit_fits c.requires

pub shifted-odd-requires : goal.shifted-odd-requires
shifted-odd-requires c =
    odd_fits c.requires

pub shifted-two-requires : goal.shifted-two-requires
shifted-two-requires c =
    two_fits c.requires
