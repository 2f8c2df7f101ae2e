-- Bytes put at a place: where they fit, and where they do not. Assumes nothing.
use mathlib.Core.Path.{◌≡◌, refl, sym, ap, ◌∙◌}
use mathlib.Core.Bool.{Bool}
use mathlib.Core.List.{List, [], ◌∷◌, ◌++◌}
use Prim.Native.Nat.{ℕ, zero, suc, ◌+◌, ◌-◌, ◌/◌, ◌%◌, ◌^◌, ◌≤◌, ◌<◌}
use native.Mathlib.Nat.{add-zero}
use native.Mathlib.Omega.{arith}
use lib.ListN.{length, set, take, drop, length-append}
use lib.Seq.{sets, sets-eq, length-sets, take-length}
use lib.IntN.{ℤ}
use borrow.Author.Tests.{lt-leb, le-leb}
use borrow.Rule.Slice.PartMut.{put_mid}
use Rattle.std.specs.Int.{w16, w32, to_be_bytes}
use Rattle.std.proofs.lemmas.Slice.{put_mid-paste}
use Rattle.pen.specs.Bytes.{bytes_of, signed_number, integer_part, fraction_part, number_bytes}
use Rattle.pen.specs.inner.Putting.{put_at, integer_bytes, put_number}

-- how many bytes there are
pub bytes_length : (w v : ℕ) → length (bytes_of w v) ≡ w
unfolding bytes_of
bytes_length zero v = refl
bytes_length (suc w) v = ap suc (bytes_length w (v % 256 ^ w))

pub number-length : (w d : ℕ) (z : ℤ) → length (number_bytes w d z) ≡ w + 4
unfolding number_bytes
number-length w d z =
    let a = bytes_of w (signed_number w (integer_part d z)) in
    let b = bytes_of 4 (fraction_part d z) in
    omega (arith, length-append a b, bytes_length w (signed_number w (integer_part d z)), bytes_length 4 (fraction_part d z))

-- the bytes of a number, as they are written
last : (v : ℕ) → v / 1 ≡ v
last v = omega arith

pub one_byte : (v : ℕ) → v ∷ [] ≡ bytes_of 1 v
unfolding bytes_of
one_byte v = rw (last v)

pub two_bytes : (v : ℕ) → v < 2 ^ 16 → to_be_bytes w16 v ≡ bytes_of 2 v
unfolding bytes_of
two_bytes v h =
    let high : v / 256 % 256 ≡ v / 256 = omega arith in
    rw (last (v % 256), high)

pub four_bytes : (v : ℕ) → v < 2 ^ 32 → to_be_bytes w32 v ≡ bytes_of 4 v
unfolding bytes_of
four_bytes v h =
    let a : v / 16777216 % 256 ≡ v / 16777216 = omega arith in
    let b : v / 65536 % 256 ≡ v % 16777216 / 65536 = omega arith in
    let c : v / 256 % 256 ≡ v % 16777216 % 65536 / 256 = omega arith in
    let d : v % 256 ≡ v % 16777216 % 65536 % 256 = omega arith in
    rw (last (v % 16777216 % 65536 % 256), a, b, c, d)

module _ (s : List ℕ) (at : ℕ) {l bytes : List ℕ} (e : bytes ≡ l) where
  -- they do not fit
  pub put_none : length s < at + length l → s ≡ put_at s at bytes
  unfolding put_at
  put_none h = rw (e, lt-leb (at + length l) (length s) h)

  -- they fit
  pub put_all : at + length l ≤ length s → sets s at l ≡ put_at s at bytes
  unfolding put_at
  put_all h = rw (e, le-leb (at + length l) (length s) h)

-- a part of the slice was written
pub put_part : (s l : List ℕ) (at n : ℕ) → length l ≡ n → at + n ≤ length s → put_mid at (at + n - at) s l ≡ put_at s at l
put_part s l at n e h =
    let m : at + length l ≤ length s = omega arith in
    put_mid-paste at (at + n - at) s l l (length l) refl (omega arith) refl
    ∙ ap (λ (b : List ℕ). take at s ++ b ++ drop (at + length l) s) (take-length l)
    ∙ sym (sets-eq l s at m)
    ∙ put_all s at refl m

-- bytes that follow each other
pub sets_on : (a b s : List ℕ) (at : ℕ) → sets (sets s at a) (at + length a) b ≡ sets s at (a ++ b)
sets_on [] b s at = rw (add-zero at)
sets_on (x ∷ a) b s at =
    let e : at + suc (length a) ≡ suc at + length a = omega arith in
    rw e (sets_on a b (set s at x) (suc at))

pub put_on : (s : List ℕ) (at : ℕ) (a b : List ℕ) → at + length a + length b ≤ length s → put_at (put_at s at a) (at + length a) b ≡ put_at s at (a ++ b)
put_on s at a b h =
    let l : at + length (a ++ b) ≤ length s = omega (arith, length-append a b) in
    let first : at + length a ≤ length s = omega arith in
    let second : at + length a + length b ≤ length (sets s at a) = omega (arith, length-sets s at a) in
    rw (← put_all s at {l = a} refl first, ← put_all (sets s at a) (at + length a) {l = b} refl second, ← put_all s at {l = a ++ b} refl l) (sets_on a b s at)

-- a number with a fraction
module _ (s : List ℕ) (at : ℕ) (long : Bool) (d : ℕ) (z : ℤ) where
  pub number_deep : 32 < d → s ≡ put_number s at long d z
  number_deep h = rw (lt-leb d 32 h)

  module _ (h : d ≤ 32) where
    pub number_none : {w : ℕ} → w ≡ integer_bytes long → length s < at + (w + 4) → s ≡ put_number s at long d z
    number_none e k = rw (le-leb d 32 h) (put_none s at refl (rw (number-length (integer_bytes long) d z, ← e) k))

    pub number_put : {w x y : ℕ} {bytes : List ℕ} → w ≡ integer_bytes long → at + (w + 4) ≤ length s → x ≡ signed_number (integer_bytes long) (integer_part d z) → y ≡ fraction_part d z → bytes ≡ bytes_of 4 y
        → put_at (put_at s at (bytes_of (integer_bytes long) x)) (at + w) bytes ≡ put_number s at long d z
    unfolding number_bytes
    number_put {w} {x} {y} e k f g i =
        let l = bytes_length (integer_bytes long) x in
        let m = bytes_length 4 y in
        rw (le-leb d 32 h, ← f, ← g, e, i)
        (ap (λ (n : ℕ). put_at (put_at s at (bytes_of (integer_bytes long) x)) (at + n) (bytes_of 4 y)) (sym l)
        ∙ put_on s at (bytes_of (integer_bytes long) x) (bytes_of 4 y) (omega (arith, l, m, e, k)))
