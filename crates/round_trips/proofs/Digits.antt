-- A number and its bytes, both ways. Assumes nothing.
use mathlib.Core.Path.{◌≡◌, refl, ap, ◌∙◌}
use mathlib.Core.Bool.{true}
use mathlib.Core.List.{List, [], ◌∷◌}
use Prim.Native.Nat.{ℕ, zero, suc, ◌+◌, ◌*◌, ◌/◌, ◌%◌, ◌^◌, ◌≤◌, ◌<◌}
use native.Mathlib.Nat.{add-mul, mul_assoc, mul_comm, mul-le-mul_right, mod-lt, mod-eq_of_lt, div-add-mod', mul-add-div_right, mul-add-mod_self_right, div-eq_of_lt, one-le-pow, pow-suc}
use native.Mathlib.Omega.{arith}
use lib.Dec.{ltb}
use lib.ListN.{length}
use lib.Pow.{are_bytes}
use borrow.Author.Tests.{ltb-true}
use Rattle.plan.proofs.Truths.{both}
use Rattle.fields.specs.Fields.{number_after, number}
use Rattle.pen.specs.Bytes.{bytes_of}

some : (w : ℕ) → 0 < 256 ^ w
some w = one-le-pow w 256 (omega arith)

-- one digit more
shifted : (a b w : ℕ) → (a * 256 + b) * 256 ^ w ≡ a * 256 ^ suc w + b * 256 ^ w
shifted a b w = add-mul (a * 256) b (256 ^ w) ∙ rw (mul_assoc a 256 (256 ^ w), mul_comm 256 (256 ^ w), ← pow-suc 256 w)

-- after the number a
after : (w a v : ℕ) → v < 256 ^ w → number_after a (bytes_of w v) ≡ a * 256 ^ w + v
unfolding bytes_of number_after
after zero a v h = omega arith
after (suc w) a v h =
    after w (a * 256 + v / 256 ^ w) (v % 256 ^ w) (mod-lt v (some w))
    ∙ omega (arith, shifted a (v / 256 ^ w) w, div-add-mod' v (256 ^ w))

pub spelled_back : (w v : ℕ) → v < 256 ^ w → number (bytes_of w v) ≡ v
spelled_back w v h = after w 0 v h ∙ omega arith

-- ---- bytes that are read
joined : (l : List ℕ) (a : ℕ) → number_after a l ≡ a * 256 ^ length l + number_after 0 l
unfolding number_after
joined [] a = omega arith
joined (b ∷ l) a =
    joined l (a * 256 + b) ∙ omega (arith, shifted a b (length l), joined l (0 * 256 + b))

below : (l : List ℕ) → are_bytes l ≡ true → number_after 0 l < 256 ^ length l
unfolding number_after
below [] h = omega arith
below (b ∷ l) h =
    let p = both (ltb b 256) (are_bytes l) h in
    let few : 0 + b ≤ 255 = omega (arith, ltb-true b 256 p.0) in
    omega (arith, below l p.1, joined l (0 + b), mul-le-mul_right (256 ^ length l) few, pow-suc 256 (length l))

pub read_back : (l : List ℕ) → are_bytes l ≡ true → bytes_of (length l) (number l) ≡ l
unfolding bytes_of number_after
read_back [] h = refl
read_back (b ∷ l) h =
    let p = both (ltb b 256) (are_bytes l) h in
    let x = below l p.1 in
    let B = 256 ^ length l in
    let high : (b * B + number_after 0 l) / B ≡ b = mul-add-div_right (some (length l)) b (number_after 0 l) ∙ omega (arith, div-eq_of_lt x) in
    let low : (b * B + number_after 0 l) % B ≡ number_after 0 l = mul-add-mod_self_right b B (number_after 0 l) ∙ mod-eq_of_lt x in
    let e : 0 + b ≡ b = omega arith in
    rw (e, joined l b, high, low) (ap (λ (r : List ℕ). b ∷ r) (read_back l p.1))

-- the same by its width
pub read_as : (w : ℕ) (l : List ℕ) → length l ≡ w → are_bytes l ≡ true → bytes_of w (number l) ≡ l
read_as w l e h = rw (← e) (read_back l h)
