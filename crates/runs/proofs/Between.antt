-- The indices between two bounds, from the orders and to them. Assumes nothing.
use mathlib.Core.Path.{◌≡◌, refl, sym, ap, ap₂, ◌∙◌}
use mathlib.Core.Bool.{Bool, true, false, ◌&&◌, ◌||◌, true≢false}
use mathlib.Core.Logic.{⊎_elim}
use Prim.Native.Nat.{ℕ, ◌+◌, ◌≤◌, ◌<◌}
use native.Mathlib.Omega.{arith}
use lib.Dec.{leb, ltb, eqb}
use borrow.Author.Tests.{lt-ltb, le-ltb, le-leb, lt-leb, leb-true, ltb-true, eq-eqb, ne_eqb}
use Rattle.std.proofs.lemmas.Bool.{cases_lt}
use Rattle.runs.specs.Runs.{between}

-- `between`, from the orders and to them
pub in_between : (a b i : ℕ) → a ≤ i → i < b → between a b i ≡ true
unfolding between
in_between a b i h k = rw (le-leb a i h, lt-ltb i b k)

pub under-between : (a b i : ℕ) → i < a → between a b i ≡ false
unfolding between
under-between a b i h = rw (lt-leb a i h)

pub over-between : (a b i : ℕ) → b ≤ i → between a b i ≡ false
unfolding between
over-between a b i h = rw (le-ltb i b h) (go (leb a i))
  where
    go : (u : Bool) → (u && false) ≡ false
    go true = refl
    go false = refl

pub between_empty : (a i : ℕ) → between a a i ≡ false
between_empty a i = ⊎_elim (λ h. under-between a a i h) (λ h. over-between a a i h) (cases_lt i a)

-- one more index
pub between_more : (a b i : ℕ) → a ≤ b → between a (b + 1) i ≡ (between a b i || eqb i b)
between_more a b i h = ⊎_elim
    (λ k. ⊎_elim (λ q. under-between a (b + 1) i q ∙ sym (ap₂ ◌||◌ (under-between a b i q) (ne_eqb i b (λ e. omega arith))))
    (λ q. in_between a (b + 1) i q (omega arith) ∙ sym (ap (λ (u : Bool). u || eqb i b) (in_between a b i q k))) (cases_lt i a))
    (λ k. ⊎_elim (λ q. over-between a (b + 1) i (omega arith) ∙ sym (ap₂ ◌||◌ (over-between a b i k) (ne_eqb i b (λ e. omega arith))))
    (λ q. in_between a (b + 1) i (omega arith) (omega arith) ∙ sym (ap₂ ◌||◌ (over-between a b i k) (eq-eqb i b (omega arith)))) (cases_lt b i))
    (cases_lt i b)

pub between_one : (k i : ℕ) → between k (k + 1) i ≡ eqb i k
between_one k i = between_more k k i (omega arith) ∙ ap (λ (u : Bool). u || eqb i k) (between_empty k i)

-- two stretches, one after the other
pub between_join : (a b c i : ℕ) → a ≤ b → b ≤ c → (between a b i || between b c i) ≡ between a c i
between_join a b c i h k = ⊎_elim
    (λ p. ⊎_elim (λ q. ap₂ ◌||◌ (under-between a b i q) (under-between b c i p) ∙ sym (under-between a c i q))
    (λ q. ap₂ ◌||◌ (in_between a b i q p) (under-between b c i p) ∙ sym (in_between a c i q (omega arith))) (cases_lt i a))
    (λ p. ⊎_elim (λ q. ap₂ ◌||◌ (over-between a b i p) (in_between b c i p q) ∙ sym (in_between a c i (omega arith) q))
    (λ q. ap₂ ◌||◌ (over-between a b i p) (over-between b c i q) ∙ sym (over-between a c i q)) (cases_lt i c))
    (cases_lt i b)

pub between_true : (a b i : ℕ) → between a b i ≡ true → (a ≤ i) × (i < b)
unfolding between
between_true a b i h = go (leb a i) (ltb i b) refl refl h
  where
    go : (u v : Bool) → leb a i ≡ u → ltb i b ≡ v → (u && v) ≡ true → (a ≤ i) × (i < b)
    go true true p q e = (leb-true a i p, ltb-true i b q)
    go true false p q e = absurd (true≢false (sym e))
    go false v p q e = absurd (true≢false (sym e))
