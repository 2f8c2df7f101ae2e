-- The bits of a run joined: one element more, and the test of some element that they decide. Assumes nothing.
use mathlib.Core.Path.{◌≡◌, refl, sym, ◌∙◌}
use mathlib.Core.List.{List, [], ◌∷◌}
use mathlib.Core.Logic.{◌⊎◌, inl, inr, ⊎_elim}
use Prim.Native.Nat.{ℕ, zero, suc, ◌+◌, ◌-◌, ◌<◌, ◌≤◌, ◌^◌, zero-le, suc-le-suc}
use native.Mathlib.Nat.{le_trans, le_refl, le_of_suc-le-suc, not-suc-le-zero}
use native.Mathlib.Omega.{arith}
use lib.Bits.{bit_or, or_lt}
use lib.Dec.{leb}
use lib.ListN.{length, get_or, take}
use lib.Pow.{pow_pos}
use borrow.Author.Tests.{le-leb, lt-leb}
use Rattle.std.proofs.lemmas.Bool.{cases_lt}
use Rattle.std.proofs.lemmas.Nat.{le_or_l, le_or_r}
use Rattle.runs.specs.Runs.{some, between, at_least}
use Rattle.runs.specs.inner.Loops.{joined_after, joined}
use Rattle.runs.proofs.Between.{in_between, between_true}
use Rattle.runs.proofs.Parts.{part, length_part, at_part}
use Rattle.runs.proofs.Testing.{some_none, some-some}

-- one element more
pub joined_more : (v : ℕ) (l : List ℕ) (i : ℕ) → i < length l → joined_after v (take (suc i) l) ≡ bit_or (joined_after v (take i l)) (get_or l i 0)
unfolding joined_after
joined_more v [] i b = absurd (not-suc-le-zero b)
joined_more v (x ∷ xs) zero b = refl
joined_more v (x ∷ xs) (suc i) b = joined_more (bit_or v x) xs i (le_of_suc-le-suc b)

-- no element is above them
grown : (v : ℕ) (l : List ℕ) → v ≤ joined_after v l
unfolding joined_after
grown v [] = le_refl v
grown v (x ∷ xs) = le_trans (le_or_l v x) (grown (bit_or v x) xs)

over : (v : ℕ) (l : List ℕ) (k : ℕ) → k < length l → get_or l k 0 ≤ joined_after v l
unfolding joined_after
over v [] k b = absurd (not-suc-le-zero b)
over v (x ∷ xs) zero b = le_trans (le_or_r v x) (grown (bit_or v x) xs)
over v (x ∷ xs) (suc k) b = over (bit_or v x) xs k (le_of_suc-le-suc b)

-- below a power of two, or an element that reaches it
reach : (n v : ℕ) (l : List ℕ) → v < 2 ^ n → (joined_after v l < 2 ^ n) ⊎ ((k : ℕ) × (k < length l) × (2 ^ n ≤ get_or l k 0))
unfolding joined_after
reach n v [] h = inl h
reach n v (x ∷ xs) h =
    ⊎_elim
    (λ u. ⊎_elim (λ p. inl p) (λ w. inr (suc w.0, suc-le-suc w.1, w.2)) (reach n (bit_or v x) xs (or_lt n v x h u)))
    (λ u. inr (0, suc-le-suc zero-le, u))
    (cases_lt x (2 ^ n))

-- and every element is, where they are joined
pub all-below : (n : ℕ) (l : List ℕ) → joined l < 2 ^ n → (i : ℕ) → i < length l → get_or l i 0 < 2 ^ n
all-below n l h i b = omega (arith, over 0 l i b)

-- whether an element of a part reaches a power of two
module _ (from to : ℕ) (l : List ℕ) (f : from ≤ to) (t : to ≤ length l) where
  part-over : (i : ℕ) → from ≤ i → i < to → get_or l i 0 ≤ joined (part from to l)
  part-over i a b =
      let e : from + (i - from) ≡ i = omega arith in
      let k : i - from < to - from = omega arith in
      let h : i - from < length (part from to l) = omega (arith, length_part from to l t) in
      rw (← e) (omega (arith, at_part from to l (i - from) k, over 0 (part from to l) (i - from) h))

  pub reached : (n : ℕ) → leb (2 ^ n) (joined (part from to l)) ≡ some (between from to) (at_least (2 ^ n)) l
  unfolding at_least
  reached n = ⊎_elim
      (λ r. lt-leb (2 ^ n) _ r ∙ sym (some_none (between from to) (at_least (2 ^ n)) l (λ i k s. lt-leb (2 ^ n) (get_or l i 0) (omega (arith, part-over i (between_true from to i s).0 (between_true from to i s).1)))))
      (λ r. le-leb (2 ^ n) _ r ∙ sym (⊎_elim (λ p. absurd (omega arith))
      (λ w.
      let b : w.0 < to - from = omega (arith, w.1, length_part from to l t) in
      some-some (between from to) (at_least (2 ^ n)) l (from + w.0) (omega arith) (in_between from to (from + w.0) (omega arith) (omega arith)) (le-leb (2 ^ n) (get_or l (from + w.0) 0) (omega (arith, at_part from to l w.0 b, w.2))))
      (reach n 0 (part from to l) (pow_pos n))))
      (cases_lt (joined (part from to l)) (2 ^ n))
