-- `mmr::step::polynomial_step` meets its contract: every number on the way is a word that holds it, within a bound. Assumes nothing.
use mathlib.Core.Path.{ap, ◌∙◌}
use Prim.Native.Nat.{ℕ, ◌^◌}
use lib.IntN.{pos, ◌+ℤ◌, ◌*ℤ◌}
use mir.Syntax.{w64}
use mir.Val.{of_z}
use Rattle.words.proofs.Holding.{Holds, bounded, number, literal, add, add_asked, mul}
use Rattle.steps.specs.inner.Steps.{cut_by}
use Rattle.steps.proofs.Small.{is_cut}
use Rattle.mmr.specs.inner.Apart.{coef, narrow_most}
use Rattle.mmr.specs.inner.Steps.{three_of}
use Rattle.mmr.proofs.step.polynomial_step.Goals.{After-high-square, Start}
use Rattle.mmr.proofs.step.polynomial_step.Goals as goal

-- each number on the way, and its bound
row : (st : Start) (i : ℕ) → Holds (of_z w64 (coef st.args.row.now i)) (coef st.args.row.now i) narrow_most
row st i = bounded (st.requires.by_index i) tt

linear : (st : Start) → Holds st.args.t (pos st.args.t) (2 ^ 20)
linear st = number st.requires.d_bound.1 tt

square : (c : After-high-square) → Holds c.high-square.result (pos c.high-square.result) (2 ^ 20)
square c = number c.high-square.ensures.1 tt

pub overflow_add-row-2 : goal.overflow_add-row-2
overflow_add-row-2 c =
    let st : Start = c.before.before.before.before in
    let q : After-high-square = c.before.before.before in
    add_asked (add (mul (row st 0) (literal 1048576 tt) tt) (mul (row st 1) (linear st) tt) tt) (mul (row st 2) (square q) tt) tt

pub returns : goal.returns
returns c =
    let st : Start = c.before.before.before.before.before in
    let q : After-high-square = c.before.before.before.before in
    let sum = add (add (mul (row st 0) (literal 1048576 tt) tt) (mul (row st 1) (linear st) tt) tt) (mul (row st 2) (square q) tt) tt in
    let r = c.args.row.now in
    c.cut_at.ensures
    ∙ ap (cut_by c.args.d)
    (sum.is ∙ ap (λ (n : ℕ). coef r 0 *ℤ pos (2 ^ 20) +ℤ coef r 1 *ℤ pos c.args.t +ℤ coef r 2 *ℤ pos n) c.high-square.ensures.0)
    ∙ is_cut c.args.d c.requires.d_bound.0 (three_of r c.args.t)
