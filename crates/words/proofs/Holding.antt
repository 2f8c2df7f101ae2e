-- A machine word of 64 bits that holds an integer within a bound. A bound is a number that antt computes, so that each step is shown by `tt`. Assumes nothing.
use mathlib.Core.Path.{◌≡◌, ap, ◌∙◌}
use Prim.Native.Nat.{ℕ, ◌+◌, ◌*◌, ◌^◌, ◌<◌, ◌≤◌}
use native.Mathlib.Nat.{le_trans, le_refl, le_of_eq}
use native.Mathlib.Omega.{arith}
use lib.Pow.{pow_mono}
use lib.Dec.{T, ltb, ltb→lt}
use lib.IntN.{ℤ, pos, nat_abs, ◌+ℤ◌, ◌-ℤ◌, ◌*ℤ◌}
use lib.Signed.{mag, shr_z}
use mir.Syntax.{w64}
use mir.Val.{SFits, to_z, of_z}
use mir.Facts.{to_z-of_z, to_z_pos}
use Rattle.words.proofs.Bounds.{add_in, sub_in, mul_in, shr_in, fits}

-- the word m reads as x, whose absolute value is at most a
pub record Holds (m : ℕ) (x : ℤ) (a : ℕ) : Type 0 where
  pub is : to_z w64 m ≡ x
  pub le : nat_abs x ≤ a

abbrev pub Small : ℕ → Type 0
Small a = T (ltb a (2 ^ 63))

-- a signed parameter or a call's result, by its fits or its ok
pub held : {x : ℤ} {a : ℕ} → SFits w64 x → nat_abs x ≤ a → Holds (of_z w64 x) x a
held f h = record { is = to_z-of_z f; le = h }

pub result : {x : ℤ} {a : ℕ} → mag x < 2 ^ 63 → nat_abs x ≤ a → Holds (of_z w64 x) x a
result f h = held (record { sfits = f }) h

-- a call's result that is a power of two
pub power : (k n : ℕ) {z : ℤ} → k ≤ n → Small (2 ^ n) → mag z < 2 ^ 63 → z ≡ pos (2 ^ k) → Holds (of_z w64 z) z (2 ^ n)
power k n h t f e = result f (le_trans (le_of_eq (ap nat_abs e)) (pow_mono h))

-- an element of an array, by its bound
pub bounded : {x : ℤ} {a : ℕ} → nat_abs x ≤ a → Small a → Holds (of_z w64 x) x a
bounded {x} {a} h t = held (fits x h (ltb→lt a (2 ^ 63) t)) h

-- an unsigned number that was cast
pub number : {n : ℕ} {a : ℕ} → n ≤ a → Small a → Holds n (pos n) a
number {n} {a} h t = record { is = to_z_pos w64 (omega (arith, ltb→lt a (2 ^ 63) t)); le = h }

-- a literal
pub literal : (n : ℕ) → Small n → Holds n (pos n) n
literal n t = number (le_refl n) t

pub fit : {m : ℕ} {x : ℤ} {a : ℕ} → Holds m x a → Small a → SFits w64 x
fit {x = x} {a = a} h t = fits x h.le (ltb→lt a (2 ^ 63) t)

module _ {m n : ℕ} {x y : ℤ} {a b : ℕ} (h : Holds m x a) (k : Holds n y b) where
  pub add_asked : Small (a + b) → SFits w64 (to_z w64 m +ℤ to_z w64 n)
  add_asked t = rw (h.is, k.is) (fits (x +ℤ y) (add_in x y h.le k.le) (ltb→lt (a + b) (2 ^ 63) t))

  pub add : Small (a + b) → Holds (of_z w64 (to_z w64 m +ℤ to_z w64 n)) (x +ℤ y) (a + b)
  add t = record { is = to_z-of_z (add_asked t) ∙ rw (h.is, k.is); le = add_in x y h.le k.le }

  pub sub_asked : Small (a + b) → SFits w64 (to_z w64 m -ℤ to_z w64 n)
  sub_asked t = rw (h.is, k.is) (fits (x -ℤ y) (sub_in x y h.le k.le) (ltb→lt (a + b) (2 ^ 63) t))

  pub sub : Small (a + b) → Holds (of_z w64 (to_z w64 m -ℤ to_z w64 n)) (x -ℤ y) (a + b)
  sub t = record { is = to_z-of_z (sub_asked t) ∙ rw (h.is, k.is); le = sub_in x y h.le k.le }

  pub mul_asked : Small (a * b) → SFits w64 (to_z w64 m *ℤ to_z w64 n)
  mul_asked t = rw (h.is, k.is) (fits (x *ℤ y) (mul_in x y h.le k.le) (ltb→lt (a * b) (2 ^ 63) t))

  pub mul : Small (a * b) → Holds (of_z w64 (to_z w64 m *ℤ to_z w64 n)) (x *ℤ y) (a * b)
  mul t = record { is = to_z-of_z (mul_asked t) ∙ rw (h.is, k.is); le = mul_in x y h.le k.le }

pub shr : {m : ℕ} {x : ℤ} {a : ℕ} (n : ℕ) → Holds m x a → Small a → Holds (of_z w64 (shr_z (to_z w64 m) n)) (shr_z x n) a
shr {x = x} {a = a} n h t =
    let k : nat_abs (shr_z x n) ≤ a = le_trans (shr_in x n) h.le in
    record { is = rw h.is (to_z-of_z (fits (shr_z x n) k (ltb→lt a (2 ^ 63) t))); le = k }
