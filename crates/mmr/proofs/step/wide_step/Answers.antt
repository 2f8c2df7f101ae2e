-- `mmr::step::wide_step` meets its contract: a floor that is cut is the sum cut. Assumes nothing.
use borrow.Author.Rules.{sfits_of}
use mathlib.Core.Path.{◌≡◌, ap, ap₂, ◌∙◌}
use mathlib.Core.List.{List}
use Prim.Native.Nat.{ℕ, ◌+◌, ◌*◌, ◌^◌}
use native.Mathlib.Omega.{arith}
use lib.IntN.{ℤ}
use lib.Signed.{shr_z}
use mir.Syntax.{w64}
use mir.Val.{SFits, to_z, of_z}
use mir.Facts.{to_z-of_z}
use Rattle.runs.specs.inner.Loops.{at}
use Rattle.standard.specs.Mapping.{cut}
use Rattle.steps.specs.inner.Steps.{cut_by}
use Rattle.steps.proofs.Small.{is_cut}
use Rattle.mmr.specs.inner.Apart.{coef, whole_sum}
use Rattle.mmr.proofs.Ring.{cut_floor}
use Rattle.mmr.proofs.step.wide_step.Goals as goal

-- from the floor's word to the cut of the sum
cut_sum : {b d : ℕ} → b ≡ d → {z : ℤ} (row : List ℤ) (ts : List ℕ) (k n : ℕ) {r : ℕ} → SFits w64 z → r ≡ cut_by 0 (to_z w64 (of_z w64 z)) → z ≡ shr_z (whole_sum (coef row) (at ts) k) (2 ^ b) → k ≡ n → r ≡ cut d (whole_sum (coef row) (at ts) n)
cut_sum {b} {d} same {z} row ts k n f e s q = e ∙ is_cut 0 (omega arith) (to_z w64 (of_z w64 z)) ∙ ap (cut 0) (to_z-of_z f ∙ s) ∙ cut_floor (whole_sum (coef row) (at ts) k) b ∙ ap₂ (λ (c m : ℕ). cut c (whole_sum (coef row) (at ts) m)) same q

pub returns-in-1 : goal.returns-in-1
returns-in-1 c =
    cut_sum c.from-bits.ensures c.args.row.now c.args.ts.now.tt 8 (7 * c.args.ts.now.order + 1) (sfits_of {w = w64} {z = c.floor_sum.result} c.floor_sum.type_inv) c.cut_at.ensures c.floor_sum.ensures (omega (arith, c.in-1.is))

pub returns-in-2 : goal.returns-in-2
returns-in-2 c =
    cut_sum c.from-bits.ensures c.args.row.now c.args.ts.now.tt 15 (7 * c.args.ts.now.order + 1) (sfits_of {w = w64} {z = c.floor_sum-in-2.result} c.floor_sum-in-2.type_inv) c.cut_at-in-2.ensures c.floor_sum-in-2.ensures (omega (arith, c.in-2.is))

pub returns-in_default : goal.returns-in_default
returns-in_default c =
    let ts = c.args.ts.now in
    let e : 22 ≡ 7 * ts.order + 1 = omega (arith, ts.some_order, ts.few_orders) in
    cut_sum c.from-bits.ensures c.args.row.now ts.tt 22 (7 * ts.order + 1) (sfits_of {w = w64} {z = c.floor_sum-in_default.result} c.floor_sum-in_default.type_inv) c.cut_at-in_default.ensures c.floor_sum-in_default.ensures e
