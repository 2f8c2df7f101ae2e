use mathlib.Core.Path.{◌≡◌}
use Prim.Native.Nat.{◌-◌, ◌*◌, ◌%◌, ◌^◌, ◌≤◌}
use native.Mathlib.Nat.{mod-eq_of_lt, le_trans, le_of_eq}
use native.Mathlib.Omega.{arith}
use Rattle.mmr.proofs.Sizes.{raised_le}
use Rattle.mmr.proofs.terms.raise.Goals as goal

pub returns : goal.returns
returns c =
    let a = c.args in
    let low : a.x * 2 ^ (20 - a.k) ≤ 2 ^ 20 = raised_le a.k a.x c.requires.0 c.requires.1 in
    let exact : (a.x * 2 ^ (20 - a.k)) % 2 ^ 64 ≡ a.x * 2 ^ (20 - a.k) = mod-eq_of_lt (omega arith) in
    (exact, le_trans (le_of_eq exact) low)
