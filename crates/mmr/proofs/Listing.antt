-- The terms of three samples: the first ones one by one, the others by those before them. Assumes nothing.
use mathlib.Core.Path.{◌≡◌, refl, ap₂, ◌∙◌}
use mathlib.Core.List.{List, [], ◌∷◌}
use Prim.Native.Nat.{ℕ, zero, suc, ◌+◌, ◌-◌, ◌*◌, ◌^◌, ◌<◌, ◌≤◌, zero-le}
use native.Mathlib.Nat.{le_refl, le_trans, le_of_eq, lt_of_lt_of_le}
use native.Mathlib.Omega.{arith}
use native.Mathlib.Decide.{ℕ_discrete}
use lib.ListN.{length, get_or, set, replicate, length-set}
use lib.Seq.{get_or-set_same, get_or-set_other}
use Rattle.runs.specs.inner.Loops.{at}
use Rattle.standard.specs.Mmr.{◌<<◌, terms}
use Rattle.mmr.specs.inner.Terms.{Agreed, high_of}
use Rattle.mmr.proofs.Powers.{square_raised}

-- a number, and that it is at most 2 ^ 20
abbrev Low : ℕ → ℕ → Type 0
Low t v = (t ≡ v) × (t ≤ 2 ^ 20)

zeros : (n i : ℕ) → get_or (replicate n 0) i 0 ≤ 2 ^ 20
zeros zero i = zero-le
zeros (suc n) zero = zero-le
zeros (suc n) (suc i) = zeros n i

module _ (depth s0 s1 s2 : ℕ) where
  abbrev T : ℕ → ℕ
  T i = at (terms depth s0 s1 s2) i

  -- the constant's term and the first order's
  module _ (t1 t2 t3 t4 t5 t6 t7 : ℕ) (h1 : Low t1 (s0 << (20 - depth))) (h2 : Low t2 (s1 << (20 - depth))) (h3 : Low t3 (s2 << (20 - depth))) (h4 : Low t4 ((s0 * s1) << (20 - 2 * depth))) (h5 : Low t5 ((s0 * s2) << (20 - 2 * depth))) (h6 : Low t6 ((s1 * s2) << (20 - 2 * depth))) (h7 : Low t7 (high_of t4 t3)) where
    abbrev eight : List ℕ
    eight = 1048576 ∷ t1 ∷ t2 ∷ t3 ∷ t4 ∷ t5 ∷ t6 ∷ t7 ∷ 0 ∷ 0 ∷ 0 ∷ 0 ∷ 0 ∷ 0 ∷ 0 ∷ 0 ∷ 0 ∷ 0 ∷ 0 ∷ 0 ∷ 0 ∷ 0 ∷ []

    same : (i : ℕ) → i < 8 → at eight i ≡ T i
    unfolding terms
    same zero h = refl
    same (suc zero) h = h1.0
    same (suc (suc zero)) h = h2.0
    same (suc (suc (suc zero))) h = h3.0
    same (suc (suc (suc (suc zero)))) h = h4.0
    same (suc (suc (suc (suc (suc zero))))) h = h5.0
    same (suc (suc (suc (suc (suc (suc zero)))))) h = h6.0
    same (suc (suc (suc (suc (suc (suc (suc zero))))))) h = h7.0 ∙ ap₂ high_of h4.0 h3.0
    same (suc (suc (suc (suc (suc (suc (suc (suc i)))))))) h = absurd (omega arith)

    low : (i : ℕ) → at eight i ≤ 2 ^ 20
    low zero = le_refl (2 ^ 20)
    low (suc zero) = h1.1
    low (suc (suc zero)) = h2.1
    low (suc (suc (suc zero))) = h3.1
    low (suc (suc (suc (suc zero)))) = h4.1
    low (suc (suc (suc (suc (suc zero))))) = h5.1
    low (suc (suc (suc (suc (suc (suc zero)))))) = h6.1
    low (suc (suc (suc (suc (suc (suc (suc zero))))))) = h7.1
    low (suc (suc (suc (suc (suc (suc (suc (suc i)))))))) = zeros 14 i

    pub first_agreed : Agreed 8 eight (terms depth s0 s1 s2)
    first_agreed = record { long = refl; same = same; low = low }

  -- each term of the second order is the square of one of the first
  pub squared : depth ≤ 10 → (j : ℕ) → 1 ≤ j → j < 8 → high_of (T j) (T j) ≡ T (7 + j)
  unfolding terms
  squared d zero a b = absurd (omega arith)
  squared d (suc zero) a b = square_raised depth s0 d
  squared d (suc (suc zero)) a b = square_raised depth s1 d
  squared d (suc (suc (suc zero))) a b = square_raised depth s2 d
  squared d (suc (suc (suc (suc zero)))) a b = refl
  squared d (suc (suc (suc (suc (suc zero))))) a b = refl
  squared d (suc (suc (suc (suc (suc (suc zero)))))) a b = refl
  squared d (suc (suc (suc (suc (suc (suc (suc zero))))))) a b = refl
  squared d (suc (suc (suc (suc (suc (suc (suc (suc j)))))))) a b = absurd (omega arith)

  -- and each of the third the product of both
  pub cubed : (j : ℕ) → 1 ≤ j → j < 8 → high_of (T j) (T (7 + j)) ≡ T (14 + j)
  unfolding terms
  cubed zero a b = absurd (omega arith)
  cubed (suc zero) a b = refl
  cubed (suc (suc zero)) a b = refl
  cubed (suc (suc (suc zero))) a b = refl
  cubed (suc (suc (suc (suc zero)))) a b = refl
  cubed (suc (suc (suc (suc (suc zero))))) a b = refl
  cubed (suc (suc (suc (suc (suc (suc zero)))))) a b = refl
  cubed (suc (suc (suc (suc (suc (suc (suc zero))))))) a b = refl
  cubed (suc (suc (suc (suc (suc (suc (suc (suc j)))))))) a b = absurd (omega arith)

-- fewer agree too
pub fewer : {n m : ℕ} {l ts : List ℕ} → Agreed n l ts → m ≤ n → Agreed m l ts
fewer a h = record { long = a.long; same = λ i b. a.same i (lt_of_lt_of_le b h); low = a.low }

-- one more is stored
pub agreed_more : {n v : ℕ} {l ts : List ℕ} → Agreed n l ts → n < 22 → v ≡ at ts n → v ≤ 2 ^ 20 → Agreed (n + 1) (set l n v) ts
agreed_more {n} {v} {l} {ts} a b e h =
    record {
      long = length-set l n v ∙ a.long;
      same = λ i q. same i q (ℕ_discrete i n);
      low = λ i. low i (ℕ_discrete i n);
    }
  where
    inside : n < length l
    inside = omega (arith, a.long)

    same : (i : ℕ) → i < n + 1 → Dec (i ≡ n) → at (set l n v) i ≡ at ts i
    same i q (yes p) = rw p (get_or-set_same l n v 0 inside ∙ e)
    same i q (no p) = get_or-set_other l n i v 0 p ∙ a.same i (omega arith)

    low : (i : ℕ) → Dec (i ≡ n) → at (set l n v) i ≤ 2 ^ 20
    low i (yes p) = rw p (le_trans (le_of_eq (get_or-set_same l n v 0 inside)) h)
    low i (no p) = le_trans (le_of_eq (get_or-set_other l n i v 0 p)) (a.low i)

-- the terms of equal samples
pub terms_cong : (depth n : ℕ) {r : List ℕ} {a b c x y z : ℕ} → a ≡ x → b ≡ y → c ≡ z → Agreed n r (terms depth a b c) → Agreed n r (terms depth x y z)
terms_cong depth n e f g h = rw (← e, ← f, ← g) h
