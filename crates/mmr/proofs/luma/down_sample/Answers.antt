use mathlib.Core.Path.{◌≡◌, refl, ap₂, ◌∙◌}
use Prim.Native.Nat.{ℕ, ◌+◌, ◌*◌}
use native.Mathlib.Omega.{arith}
use Rattle.standard.specs.Mmr.{◌>>◌, down_sampled}
use Rattle.mmr.specs.inner.Luma.{luma_beside}
use lib.IntN.{pos, ◌-ℤ◌}
use Rattle.standard.specs.Mapping.{from_zero}
use Rattle.mmr.proofs.Beside.{before, row_sum_is}
use Rattle.mmr.proofs.luma.down_sample.Goals as goal

pub returns : goal.returns
unfolding luma_beside down_sampled
returns c =
    let a = c.args in
    let left = a.upper + c.saturating_sub.result in
    let middle = a.upper + 2 * a.i in
    let first : c.saturating_sub.result ≡ from_zero (pos (2 * a.i) -ℤ pos 1) = c.saturating_sub.ensures ∙ before (2 * a.i) in
    let said = row_sum_is a.run.now a.w in
    ap₂ (λ (x y : ℕ). (x + y + 1) >> 1)
    (c.row_of-above.ensures.0 ∙ said a.upper a.i c.saturating_sub.result left middle c.requires.0 first (omega arith) refl refl)
    (c.row_of-below.ensures.0 ∙ said (a.upper + a.w) a.i c.saturating_sub.result (left + a.w) (middle + a.w) c.requires.0 first (omega arith) (omega arith) (omega arith))
