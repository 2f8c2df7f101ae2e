-- A list filled up to m places: the first ones pass one test, the others another. Assumes nothing.
use mathlib.Core.Path.{◌≡◌, refl}
use mathlib.Core.Bool.{Bool, true, false, ◌&&◌, cond}
use mathlib.Core.List.{List, [], ◌∷◌}
use Prim.Native.Nat.{ℕ, zero, suc, ◌+◌, ◌*◌, ◌≤◌, ◌<◌}
use native.Mathlib.Nat.{le_of_suc-le-suc, not-suc-le-zero, le_refl, le_of_lt}
use native.Mathlib.Omega.{arith}
use lib.Dec.{eqb, leb, ltb, leb-suc-suc, leb-zero, leb-suc-zero}
use lib.ListN.{length, get_or}
use borrow.Author.Tests.{leb-true}
use Rattle.plan.specs.Ranges.{order_fits}
use Rattle.plan.specs.Rule7.{every, row_places, coefficients_used}
use Rattle.fields.specs.Fields.{padded}
use Rattle.fields.proofs.Giving.{Each}

pub and : {a b : Bool} → a ≡ true → b ≡ true → (a && b) ≡ true
and e f = rw (e, f)

pub every_of : (test : ℕ → Bool) (k : ℕ) → ((i : ℕ) → i < k → test i ≡ true) → every k test ≡ true
unfolding every
every_of test zero f = refl
every_of test (suc k) f = and (every_of test k (λ i h. f i (le_of_lt (le_of_suc h)))) (f k (le_refl (suc k)))
  where
    le_of_suc : {i k : ℕ} → i < k → suc i < suc k
    le_of_suc h = omega arith

module _ {A : Type 0} (used unused : A → Bool) (z d : A) (blank : unused z ≡ true) where
  abbrev Place : List A → List A → ℕ → Type 0
  Place l full i = cond (ltb i (length l)) (used (get_or full i d)) (unused (get_or full i d)) ≡ true

  place : (m : ℕ) (l : List A) (i : ℕ) → i < m → Each (λ a. used a ≡ true) l → Place l (padded m z l) i
  unfolding padded
  place zero l i h p = absurd (not-suc-le-zero h)
  place (suc m) [] zero h p = blank
  place (suc m) [] (suc i) h p = rw (leb-suc-zero (suc i)) (rw (leb-suc-zero i) at (place m [] i (le_of_suc-le-suc h) p))
  place (suc m) (x ∷ l) zero h p = rw (leb-suc-suc zero (length l), leb-zero (length l)) p.0
  place (suc m) (x ∷ l) (suc i) h p = rw (leb-suc-suc (suc i) (length l)) (place m l i (le_of_suc-le-suc h) p.1)

  pub places : (m n : ℕ) (l : List A) → length l ≡ n → Each (λ a. used a ≡ true) l
      → every m (λ i. cond (ltb i n) (used (get_or (padded m z l) i d)) (unused (get_or (padded m z l) i d))) ≡ true
  places m n l e p = rw (← e) (every_of _ m (λ i h. place m l i h p))

-- the coefficients of an order that fits have places
pub used_few : (idc order : ℕ) → order_fits idc order ≡ true → (order ≤ 2) × (coefficients_used idc order ≤ row_places)
used_few idc order = go (eqb idc 1)
  where
    go : (t : Bool) → leb order (cond t 2 1) ≡ true → (order ≤ 2) × (cond t (7 * (order + 1) + 1) (order + 2) ≤ row_places)
    go true e = let l = leb-true order 2 e in (l, omega (arith, l))
    go false e = let l = leb-true order 1 e in (omega (arith, l), omega (arith, l))
