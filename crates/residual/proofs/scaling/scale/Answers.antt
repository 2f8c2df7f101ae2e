-- Every number on the way is a word that holds it, within a bound. Assumes nothing.
use mathlib.Core.Path.{◌≡◌, ap, ◌∙◌}
use Prim.Native.Nat.{ℕ, ◌+◌, ◌-◌, ◌^◌}
use native.Mathlib.Omega.{arith}
use lib.IntN.{pos}
use Rattle.standard.proofs.Residuals.{scaled_by}
use Rattle.words.proofs.Holding.{Holds, held, number, literal, fit, add, add_asked, sub, sub_asked, mul, mul_asked}
use Rattle.residual.proofs.Words.{as_power}
use Rattle.residual.proofs.scaling.scale.Goals as goal

-- each power, and its bound
f : (el : ℕ) {p : ℕ} → p ≡ 2 ^ (10 - el) → Holds p (pos p) (2 ^ 10)
f el e = as_power (10 - el) 10 (omega arith) tt e

g : (el : ℕ) {p : ℕ} → p ≡ 2 ^ (10 - el + 1) → Holds p (pos p) (2 ^ 11)
g el e = as_power (10 - el + 1) 11 (omega arith) tt e

pub overflow_cast-f : goal.overflow_cast-f
overflow_cast-f c = fit (f _ c.power-f.ensures) tt

pub overflow_cast-g : goal.overflow_cast-g
overflow_cast-g c = fit (g _ c.power-g.ensures) tt

pub overflow_mul-result : goal.overflow_mul-result
overflow_mul-result c = mul_asked (held c.ranges.rr c.requires.3) (literal 2 tt) tt

pub overflow_sub-result : goal.overflow_sub-result
overflow_sub-result c = sub_asked (mul (held c.ranges.rr c.requires.3) (literal 2 tt) tt) (held c.ranges.sign c.requires.4) tt

pub overflow_mul-result-2 : goal.overflow_mul-result-2
overflow_mul-result-2 c =
    mul_asked (sub (mul (held c.ranges.rr c.requires.3) (literal 2 tt) tt) (held c.ranges.sign c.requires.4) tt) (f _ c.power-f.ensures) tt

pub overflow_cast-result : goal.overflow_cast-result
overflow_cast-result c = fit (number c.requires.1 tt) tt

pub overflow_mul-result-3 : goal.overflow_mul-result-3
overflow_mul-result-3 c =
    mul_asked (mul (sub (mul (held c.ranges.rr c.requires.3) (literal 2 tt) tt) (held c.ranges.sign c.requires.4) tt) (f _ c.power-f.ensures) tt) (number c.requires.1 tt) tt

pub overflow_cast-result-2 : goal.overflow_cast-result-2
overflow_cast-result-2 c = fit (number c.requires.2 tt) tt

pub overflow_mul-result-4 : goal.overflow_mul-result-4
overflow_mul-result-4 c = mul_asked (number c.requires.2 tt) (g _ c.power-g.ensures) tt

pub overflow_mul-result-5 : goal.overflow_mul-result-5
overflow_mul-result-5 c = mul_asked (mul (number c.requires.2 tt) (g _ c.power-g.ensures) tt) (held c.ranges.sign c.requires.4) tt

pub overflow_add-result : goal.overflow_add-result
overflow_add-result c =
    add_asked
    (mul (mul (sub (mul (held c.ranges.rr c.requires.3) (literal 2 tt) tt) (held c.ranges.sign c.requires.4) tt) (f _ c.power-f.ensures) tt) (number c.requires.1 tt) tt)
    (mul (mul (number c.requires.2 tt) (g _ c.power-g.ensures) tt) (held c.ranges.sign c.requires.4) tt)
    tt

pub returns : goal.returns
returns c =
    (add
    (mul (mul (sub (mul (held c.ranges.rr c.requires.3) (literal 2 tt) tt) (held c.ranges.sign c.requires.4) tt) (f _ c.power-f.ensures) tt) (number c.requires.1 tt) tt)
    (mul (mul (number c.requires.2 tt) (g _ c.power-g.ensures) tt) (held c.ranges.sign c.requires.4) tt)
    tt).is
    ∙ scaled_by c.args.el c.args.slope c.args.threshold c.args.rr c.args.sign (pos c.power-f.result) (pos c.power-g.result) (ap pos c.power-f.ensures) (ap pos c.power-g.ensures)
