-- A word that holds a power of two, a bound as a number, and a result that is read back. Assumes nothing.
use mathlib.Core.Path.{◌≡◌}
use Prim.Native.Nat.{ℕ, ◌+◌, ◌^◌, ◌<◌, ◌≤◌}
use native.Mathlib.Nat.{le_trans, le_of_eq}
use native.Mathlib.Omega.{arith}
use lib.IntN.{ℤ, pos}
use lib.Pow.{pow_mono}
use lib.Signed.{mag}
use mir.Syntax.{w64}
use mir.Val.{to_z, of_z}
use mir.Facts.{to_z-of_z}
use Rattle.words.proofs.Holding.{Holds, Small, number}

-- a call's result that is a power of two
pub as_power : (k n : ℕ) {p : ℕ} → k ≤ n → Small (2 ^ n) → p ≡ 2 ^ k → Holds p (pos p) (2 ^ n)
as_power k n h t e = number (le_trans (le_of_eq e) (pow_mono h)) t

-- a bound that goes with d, as a number
pub within : {n d : ℕ} → n ≤ 2 ^ (d + 1) → d ≤ 32 → n ≤ 2 ^ 33
within {d = d} h l = le_trans h (pow_mono {i = d + 1} {j = 33} (omega arith))

-- a call's result, as the next one reads it
pub read_back : (z : ℤ) → mag z < 2 ^ 63 → to_z w64 (of_z w64 z) ≡ z
read_back z h = to_z-of_z {w = w64} {z = z} (record { sfits = h })
