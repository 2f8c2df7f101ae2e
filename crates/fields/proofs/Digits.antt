-- Big-endian numbers read byte by byte: what is left to read after i of the bytes. Assumes nothing.
use mathlib.Core.Path.{◌≡◌}
use mathlib.Core.List.{List}
use Prim.Native.Nat.{ℕ, ◌+◌, ◌*◌, ◌-◌, ◌^◌, ◌≤◌, ◌<◌}
use native.Mathlib.Nat.{pow-suc, pow-le-pow_right}
use native.Mathlib.Numerals.{add-one}
use native.Mathlib.Omega.{arith}
use lib.ListN.{length, get_or, take, drop, length-drop, drop_of_length-le}
use lib.Seq.{drop-cons, length-take-le}
use Rattle.fields.specs.Fields.{number_after, number}

-- v is the number of the first i bytes, and the others are to follow
pub record After (bytes : List ℕ) (v i : ℕ) : Type 0 where
  pub is : number_after v (drop i bytes) ≡ number bytes
  pub small : v < 256 ^ i

pub more : {bytes : List ℕ} {v i b : ℕ} → i < length bytes → b ≡ get_or bytes i 0 → After bytes v i → v * 256 + b < 256 ^ i * 256 → After bytes (v * 256 + b) (i + 1)
unfolding number_after
more {bytes} {v} {i} {b} h e a small = rw add-one (record { is = rw e (rw (drop-cons bytes i 0 h) at a.is); small = rw (pow-suc 256 i) small })

pub ended : {bytes : List ℕ} {v i : ℕ} → i ≡ length bytes → After bytes v i → (v ≡ number bytes) × (v < 256 ^ length bytes)
unfolding number_after
ended {bytes} {v} {i} e a =
    let l : length bytes ≤ i = omega arith in
    (rw (drop_of_length-le bytes l) at a.is, rw e at a.small)

-- the part of the w bytes from `at` on
pub part-number : (s : List ℕ) (at w : ℕ) {v : ℕ} → let part = take (at + w - at) (drop at s) in at + w ≤ length s → (v ≡ number part) × (v < 256 ^ length part) → (v ≡ number (take w (drop at s))) × (v < 256 ^ w)
part-number s at w h p =
    let e : at + w - at ≡ w = omega arith in
    let l : w ≤ length (drop at s) = rw (length-drop at s) (omega arith) in
    rw (e, length-take-le w (drop at s) l) at p

pub power_top : {i : ℕ} → i < 4 → 256 ^ i ≤ 256 ^ 3
power_top {i} h = pow-le-pow_right {n = 256} (omega arith) {i = i} {j = 3} (omega arith)
