-- Scaled distances on one side of the offset: from code to code they grow evenly, how large they are, and which residual each
-- comes to. Assumes nothing.
use mathlib.Core.Path.{◌≡◌, refl, sym, ap, ◌∙◌}
use Prim.Native.Nat.{ℕ, zero, suc, ◌+◌, ◌-◌, ◌*◌, ◌^◌, ◌<◌, ◌≤◌}
use native.Mathlib.Nat.{le_refl, le_trans, le_of_eq, mul_comm, mul_assoc, mul-le-mul_right}
use native.Mathlib.Omega.{arith}
use lib.IntN.{ℤ, pos, negsuc, nat_abs, neg_ℤ, ◌+ℤ◌, ◌-ℤ◌, ◌*ℤ◌, +ℤ_assoc, +ℤ_comm, +ℤ_invr}
use lib.Pow.{pow-add}
use borrow.Author.Tests.{lt-ltb, le-ltb}
use Rattle.words.proofs.Bounds.{add_in, sub_in, mul_in}
use Rattle.words.proofs.Integers.{distrib}
use Rattle.standard.specs.Residual.{scaled, limit, residual}
use Rattle.standard.proofs.Residuals.{none, steps}
use Rattle.plan.specs.declared.Nlq.{Nlq}
use Rattle.plan.specs.Parameters.{quantization}
use Rattle.residual.specs.inner.Raising.{raised}
use Rattle.residual.specs.inner.Steps.{far_of, growth, limited_by, raised_by, raised_code, Beside}

-- the scaled distance of a code, by the sign of its side
abbrev pub course : ℕ → Nlq → ℤ → ℕ → ℤ
course el q sign e = scaled el q.slope q.threshold (pos e -ℤ pos q.offset) sign

swap_last : (a b c : ℤ) → (a +ℤ b) +ℤ c ≡ (a +ℤ c) +ℤ b
swap_last a b c = +ℤ_assoc a b c ∙ ap (λ (z : ℤ). a +ℤ z) (+ℤ_comm b c) ∙ sym (+ℤ_assoc a c b)

-- the distance of the next code, doubled and drawn in
next_doubled : (e o : ℕ) (sign : ℤ) → (pos e -ℤ pos o) *ℤ pos 2 -ℤ sign +ℤ pos 2 ≡ (pos (e + 1) -ℤ pos o) *ℤ pos 2 -ℤ sign
next_doubled e o sign =
    let rr = pos e -ℤ pos o in
    swap_last (rr *ℤ pos 2) (neg_ℤ sign) (pos 2)
    ∙ ap (λ (z : ℤ). z -ℤ sign) (sym (distrib rr (pos 1) (pos 2)) ∙ ap (λ (z : ℤ). z *ℤ pos 2) (swap_last (pos e) (neg_ℤ (pos o)) (pos 1)))

pub next_course : (el : ℕ) (q : Nlq) (sign : ℤ) (e : ℕ) → course el q sign e +ℤ growth el q.slope ≡ course el q sign (e + 1)
next_course el q sign e =
    let rr = (pos e -ℤ pos q.offset) *ℤ pos 2 -ℤ sign in
    let f = pos (2 ^ (10 - el)) in
    let s = pos q.slope in
    let t = pos q.threshold *ℤ pos (2 ^ (10 - el + 1)) *ℤ sign in
    swap_last (rr *ℤ f *ℤ s) t (growth el q.slope)
    ∙ ap (λ (z : ℤ). z +ℤ t)
    (sym (distrib (rr *ℤ f) (pos 2 *ℤ f) s) ∙ ap (λ (z : ℤ). z *ℤ s) (sym (distrib rr (pos 2) f)) ∙ ap (λ (z : ℤ). z *ℤ f *ℤ s) (next_doubled e q.offset sign))

-- the limit and a code up to the number of places, by what they are divided by later
module _ (el d : ℕ) (shallow : el ≤ 10) (deep : el + 5 ≤ d) where
  -- a power of two that goes with el, times one that goes with d
  joined : (i k : ℕ) → i + (d + 1) ≡ k + (d - 5 - el) → 2 ^ i * 2 ^ (d + 1) ≡ 2 ^ k * 2 ^ (d - 5 - el)
  joined i k e = sym (pow-add 2 i (d + 1)) ∙ ap (λ (n : ℕ). 2 ^ n) e ∙ pow-add 2 k (d - 5 - el)

  pub limit_le : (m : ℕ) → m ≤ 2 ^ (d + 1) → m * 2 ^ (10 - el + 1) ≤ 2 ^ 17 * 2 ^ (d - 5 - el)
  limit_le m h = le_trans (mul-le-mul_right (2 ^ (10 - el + 1)) h) (le_of_eq (mul_comm (2 ^ (d + 1)) (2 ^ (10 - el + 1)) ∙ joined (10 - el + 1) 17 (omega arith)))

  pub course_le : (q : Nlq) (sign : ℤ) (e : ℕ) → q.slope ≤ 2 ^ (d + 1) → q.threshold ≤ 2 ^ (d + 1) → q.offset ≤ 1024 → nat_abs sign ≤ 1 → e ≤ 1024 → nat_abs (course el q sign e) ≤ far_of (d - 5 - el)
  course_le q sign e slope threshold offset unit code =
      let rr = pos e -ℤ pos q.offset in
      let f = pos (2 ^ (10 - el)) in
      let g = pos (2 ^ (10 - el + 1)) in
      let s = pos q.slope in
      let t = pos q.threshold in
      let doubled = rr *ℤ pos 2 -ℤ sign in
      let far = sub_in (rr *ℤ pos 2) sign (mul_in rr (pos 2) (sub_in (pos e) (pos q.offset) code offset) (le_refl 2)) unit in
      let sloped = mul_in (doubled *ℤ f) s (mul_in doubled f far (le_refl (2 ^ (10 - el)))) slope in
      let moved = mul_in (t *ℤ g) sign (limit_le q.threshold threshold) unit in
      le_trans (add_in (doubled *ℤ f *ℤ s) (t *ℤ g *ℤ sign) sloped moved) (rw (mul_assoc, joined (10 - el) 16 (omega arith)) (omega arith))

-- what a code beside the offset comes to, and the one at it
module _ (el d : ℕ) (q : Nlq) where
  code_is : (sign : ℤ) (e : ℕ) → Beside (pos e -ℤ pos q.offset) sign → limited_by (d - 5 - el) (limit el q.maximum) (course el q sign e) ≡ residual el d (quantization q) e
  code_is sign e b =
      steps el d (quantization q) e (pos e -ℤ pos q.offset) sign _ _ _ refl b.apart b.is refl refl refl

  pub raised_is : (out : ℕ) (sign : ℤ) (e : ℕ) → Beside (pos e -ℤ pos q.offset) sign → raised_by out (d - 5 - el) (limit el q.maximum) (course el q sign e) ≡ raised_code out el d q e
  unfolding raised_by raised_code
  raised_is out sign e b = ap (raised out) (code_is sign e b)

  pub raised_none : (out : ℕ) → raised out (pos 0) ≡ raised_code out el d q q.offset
  unfolding raised_code
  raised_none out = ap (raised out) (none el d (quantization q) q.offset refl (+ℤ_invr (pos q.offset)))

-- the two sides
pub below_offset : (e o : ℕ) → e < o → Beside (pos e -ℤ pos o) (negsuc 0)
below_offset e zero h = absurd (omega arith)
below_offset e (suc o) h = rw (lt-ltb e (suc o) h) (record { apart = λ z. no_zero z; is = refl })
  where
    no_zero : {n : ℕ} → negsuc n ≡ pos 0 → ⊥
    no_zero z = let w : ◌≡◌ {A = ℕ} 0 1 = cc in omega arith

pub above_offset : (e o : ℕ) → o < e → Beside (pos e -ℤ pos o) (pos 1)
above_offset e zero h = record { apart = λ z. omega (arith, ap nat_abs z); is = refl }
above_offset e (suc o) h = rw (le-ltb e (suc o) (omega arith)) (record { apart = λ z. omega (arith, ap nat_abs z); is = refl })
