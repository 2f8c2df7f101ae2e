-- `mmr::ready::wide_most` meets its contract: nothing is shifted out. Assumes nothing.
use mathlib.Core.Path.{◌≡◌}
use Prim.Native.Nat.{◌%◌, ◌^◌, ◌≤◌}
use native.Mathlib.Nat.{mod-eq_of_lt, le_trans, le_of_eq, mul-le-mul_left}
use native.Mathlib.Omega.{arith}
use lib.Pow.{pow_mono}
use Rattle.mmr.specs.inner.Apart.{wide_most}
use Rattle.mmr.proofs.ready.wide_most.Goals as goal

pub returns : goal.returns
returns c =
    let d = c.args.d in
    let low : wide_most d ≤ 2 ^ 48 = mul-le-mul_left 65536 (pow_mono {j = 32} c.requires) in
    let exact : wide_most d % 2 ^ 64 ≡ wide_most d = mod-eq_of_lt (omega arith) in
    (exact, le_trans (le_of_eq exact) low)
