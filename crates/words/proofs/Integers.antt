-- Laws of ℤ that the logic's library lacks. Assumes nothing.
use mathlib.Core.Path.{◌≡◌, sym, ap, ◌∙◌}
use Prim.Native.Nat.{ℕ, zero, suc, ◌+◌}
use native.Mathlib.Omega.{arith}
use Rattle.std.proofs.lemmas.Int.{ints}
use lib.IntN.{ℤ, pos, negsuc, neg_ℤ, suc_ℤ, pred_ℤ, ◌+ℤ◌, ◌-ℤ◌, ◌*ℤ◌, +ℤ_idr, +ℤ_assoc, +ℤ-suc_ℤ, +ℤ-pred_ℤ, zero-*ℤ, suc_ℤ-*ℤ, pred_ℤ-*ℤ}

-- (a + b) k = a k + b k, from b to its neighbours
module _ (a k : ℤ) where
  up : (b : ℤ) → (a +ℤ b) *ℤ k ≡ a *ℤ k +ℤ b *ℤ k → (a +ℤ suc_ℤ b) *ℤ k ≡ a *ℤ k +ℤ suc_ℤ b *ℤ k
  up b h = ap (λ (z : ℤ). z *ℤ k) (+ℤ-suc_ℤ a b) ∙ suc_ℤ-*ℤ (a +ℤ b) k ∙ ap (λ (z : ℤ). z +ℤ k) h ∙ +ℤ_assoc (a *ℤ k) (b *ℤ k) k ∙ ap (λ (z : ℤ). a *ℤ k +ℤ z) (sym (suc_ℤ-*ℤ b k))

  down : (b : ℤ) → (a +ℤ b) *ℤ k ≡ a *ℤ k +ℤ b *ℤ k → (a +ℤ pred_ℤ b) *ℤ k ≡ a *ℤ k +ℤ pred_ℤ b *ℤ k
  down b h = ap (λ (z : ℤ). z *ℤ k) (+ℤ-pred_ℤ a b) ∙ pred_ℤ-*ℤ (a +ℤ b) k ∙ ap (λ (z : ℤ). z -ℤ k) h ∙ +ℤ_assoc (a *ℤ k) (b *ℤ k) (neg_ℤ k) ∙ ap (λ (z : ℤ). a *ℤ k +ℤ z) (sym (pred_ℤ-*ℤ b k))

  none : (a +ℤ pos 0) *ℤ k ≡ a *ℤ k +ℤ pos 0 *ℤ k
  none = ap (λ (z : ℤ). z *ℤ k) (+ℤ_idr a) ∙ sym (ap (λ (z : ℤ). a *ℤ k +ℤ z) (zero-*ℤ k) ∙ +ℤ_idr (a *ℤ k))

  at_pos : (n : ℕ) → (a +ℤ pos n) *ℤ k ≡ a *ℤ k +ℤ pos n *ℤ k
  at_pos zero = none
  at_pos (suc n) = up (pos n) (at_pos n)

  at_neg : (n : ℕ) → (a +ℤ negsuc n) *ℤ k ≡ a *ℤ k +ℤ negsuc n *ℤ k
  at_neg zero = down (pos 0) none
  at_neg (suc n) = down (negsuc n) (at_neg n)

pub distrib : (a b k : ℤ) → (a +ℤ b) *ℤ k ≡ a *ℤ k +ℤ b *ℤ k
distrib a (pos n) k = at_pos a k n
distrib a (negsuc n) k = at_neg a k n

-- k (a + b) = k a + k b, of numbers that are not negative
pub distrib_pos : (k : ℤ) (a b : ℕ) → k *ℤ pos (a + b) ≡ k *ℤ pos a +ℤ k *ℤ pos b
distrib_pos k a b = grind (arith, ints)

pub swap_terms : (a b c d : ℤ) → (a +ℤ b) +ℤ (c +ℤ d) ≡ (a +ℤ c) +ℤ (b +ℤ d)
swap_terms a b c d = omega (arith, ints)
