-- Where pivots rise, halving finds the piece; the pivots of a table do. Assumes nothing.
use mathlib.Core.Path.{◌≡◌, refl, ap}
use mathlib.Core.Bool.{Bool, true, false, cond}
use mathlib.Core.List.{List, [], ◌∷◌}
use Prim.Native.Nat.{ℕ, zero, suc, ◌+◌, ◌<◌, ◌≤◌, min}
use native.Mathlib.Nat.{le_trans, lt_of_lt_of_le}
use native.Mathlib.Omega.{arith}
use lib.Dec.{leb}
use borrow.Author.Tests.{leb-true, leb-false}
use Rattle.runs.specs.inner.Loops.{at}
use Rattle.runs.proofs.Tables.{at_table}
use Rattle.plan.specs.Ranges.{most_n}
use Rattle.plan.specs.Rule7.{pivot_places}
use Rattle.standard.specs.Mapping.{pivot_idx}
use Rattle.standard.proofs.Pieces.{is_idx}
use Rattle.standard.proofs.Pivots.{rising}
use Rattle.steps.specs.inner.Steps.{pivot_table, passed, halved, halves, found, Rising}

pub table_rises : (preds : List ℕ) → Rising (at (pivot_table preds))
table_rises preds i k h b = rw (at_table pivot_places _ i (omega arith), at_table pivot_places _ k b) (omega (arith, rising (at preds) i k h))

-- ---- the comparisons of the code, one after the other
module _ (pivot : ℕ → ℕ) (n s : ℕ) where
  pub by_one : n ≡ 0 → passed pivot s 0 1 ≡ found pivot n s
  unfolding found halved
  by_one e = rw e (one (leb (pivot 1) s))
    where
      one : (t : Bool) → cond t 1 0 ≡ min (cond t 1 0) 1
      one true = refl
      one false = refl

  pub by_five : {a b c d e : ℕ} → (n ≡ 0 → ⊥) → a ≡ passed pivot s 0 8 → b ≡ passed pivot s a 4 → c ≡ passed pivot s b 2 → d ≡ passed pivot s c 1 → e ≡ passed pivot s d 1 → min e (n + 1) ≡ found pivot n s
  unfolding found halved
  by_five {a} {b} {c} {d} {e} some p q r t u = ap (λ (m : ℕ). min m (n + 1)) (go n some)
    where
      go : (n : ℕ) → (n ≡ 0 → ⊥) → e ≡ halved pivot s (halves n) 0
      go zero some = absurd (some refl)
      go (suc n) some = rw (u, t, r, q, p)

-- ---- distances that halve: none is longer by more than 1 than those after it together
sum : List ℕ → ℕ
sum [] = 0
sum (half ∷ rest) = half + sum rest

abbrev Halving : List ℕ → Type 0
Halving [] = Unit {0}
Halving (half ∷ rest) = (half ≤ suc (sum rest)) × Halving rest

-- the pivots up to a place are not greater than s, and those above it, of so many, are
record Parted (pivot : ℕ → ℕ) (s most low high : ℕ) : Type 0 where
  before : (j : ℕ) → j < low → pivot (j + 1) ≤ s
  after : (j : ℕ) → high ≤ j → j < most → s < pivot (j + 1)

module _ (pivot : ℕ → ℕ) (s most : ℕ) (rises : Rising pivot) (few : most < pivot_places) where
  -- a comparison parts them further
  turn : (low half rest : ℕ) → half ≤ suc rest → low + (half + rest) ≤ most → Parted pivot s most low (low + (half + rest)) → (t : Bool) → leb (pivot (low + half)) s ≡ t → let l = cond t (low + half) low in (l + rest ≤ most) × Parted pivot s most l (l + rest)
  turn low half rest h top p true e = (
    omega arith,
    record {
      before = λ j a. le_trans (rises (j + 1) (low + half) (omega arith) (omega arith)) (leb-true _ _ e);
      after = λ j a b. p.after j (omega arith) b;
    },
  )
  turn low half rest h top p false e = (
    omega arith,
    record {
      before = p.before;
      after = λ j a b. lt_of_lt_of_le (leb-false _ _ e) (rises (low + half) (j + 1) (omega arith) (omega arith));
    },
  )

  parted : (distances : List ℕ) → Halving distances → (low : ℕ) → low + sum distances ≤ most → Parted pivot s most low (low + sum distances) → let r = halved pivot s distances low in (r ≤ most) × Parted pivot s most r r
  unfolding halved sum
  parted [] h low top p = (omega arith, record { before = p.before; after = λ j a b. p.after j (omega arith) b })
  parted (half ∷ rest) h low top p =
      let t = turn low half (sum rest) h.0 top p (leb (pivot (low + half)) s) refl in
      parted rest h.1 _ t.0 t.1

  -- so the first piece whose next pivot is greater is found, or n + 1
  lowered : (n : ℕ) → n + 1 ≤ most → (distances : List ℕ) → Halving distances → sum distances ≡ most → min (halved pivot s distances 0) (n + 1) ≡ pivot_idx pivot n s
  lowered n h distances q e =
      let r = halved pivot s distances 0 in
      let p = parted distances q 0 (omega arith) (record { before = λ j a. absurd (omega arith); after = λ j a b. absurd (omega arith) }) in
      is_idx pivot s n (min r (n + 1)) (omega arith)
      (λ j a. p.1.before j (omega arith))
      (λ a. let same : min r (n + 1) ≡ r = omega arith in rw same (p.1.after r (omega arith) (omega arith)))

pub is_found : (pivot : ℕ → ℕ) (n s : ℕ) → Rising pivot → n ≤ most_n → found pivot n s ≡ pivot_idx pivot n s
unfolding found sum
is_found pivot zero s rises few = lowered pivot s 1 rises (omega arith) 0 (omega arith) (halves 0) (omega arith, tt) refl
is_found pivot (suc n) s rises few = lowered pivot s 16 rises (omega arith) (suc n) (omega arith) (halves (suc n)) (omega arith, (omega arith, (omega arith, (omega arith, (omega arith, tt))))) refl
