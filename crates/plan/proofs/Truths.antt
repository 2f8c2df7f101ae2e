-- What holds where tests that are joined come out true. Assumes nothing.
use mathlib.Core.Path.{◌≡◌, refl}
use mathlib.Core.Bool.{Bool, true, false, ◌&&◌, ◌||◌, cond, and-eq-true_iff}
use mathlib.Core.List.{List, [], ◌∷◌}
use mathlib.Core.Logic.{⊎_elim}
use Prim.Native.Nat.{ℕ, zero, suc, ◌≤◌, ◌<◌}
use native.Mathlib.Nat.{le_of_suc-le-suc, not-suc-le-zero, eq-or-lt_of_le}
use native.Mathlib.Omega.{arith}
use lib.Dec.{eqb, leb, ltb}
use borrow.Author.Tests.{eqb-true, leb-true, ltb-true}
use Rattle.plan.specs.Ranges.{all, within}
use Rattle.plan.specs.Rule7.{every}

pub both : (a b : Bool) → (a && b) ≡ true → (a ≡ true) × (b ≡ true)
both a b = (and-eq-true_iff a b).0

abbrev pub Each : List Bool → Type 0
Each [] = Unit {0}
Each (t ∷ ts) = (t ≡ true) × Each ts

pub each : (ts : List Bool) → all ts ≡ true → Each ts
each [] e = tt
each (t ∷ ts) e = let p = both t (all ts) e in (p.0, each ts p.1)

pub inside : (a b x : ℕ) → within a b x ≡ true → (a ≤ x) × (x ≤ b)
inside a b x e = let p = both (leb a x) (leb x b) e in (leb-true a x p.0, leb-true x b p.1)

-- one of two numbers is at most the greater
pub either_le : (v a b : ℕ) → a ≤ b → (eqb v a || eqb v b) ≡ true → v ≤ b
either_le v a b h e = go (eqb v a) refl e
  where
    go : (t : Bool) → eqb v a ≡ t → (t || eqb v b) ≡ true → v ≤ b
    go true p q = omega (arith, eqb-true v a p)
    go false p q = omega (arith, eqb-true v b q)

-- a test that holds of each of 0 .. k - 1 holds of any of them
pub every-at : (test : ℕ → Bool) (k : ℕ) → every k test ≡ true → (i : ℕ) → i < k → test i ≡ true
unfolding every
every-at test zero e i h = absurd (not-suc-le-zero h)
every-at test (suc k) e i h =
    let p = both (every k test) (test k) e in
    ⊎_elim (λ q. rw q p.1) (λ l. every-at test k p.0 i l) (eq-or-lt_of_le (le_of_suc-le-suc h))

-- and so it is made
pub every_true : (test : ℕ → Bool) (k : ℕ) → ((i : ℕ) → i < k → test i ≡ true) → every k test ≡ true
unfolding every
every_true test zero f = refl
every_true test (suc k) f = rw (every_true test k (λ i h. f i (omega arith)), f k (omega arith))

pub every_cong : {test other : ℕ → Bool} (k : ℕ) → ((i : ℕ) → i < k → test i ≡ other i) → every k test ≡ every k other
unfolding every
every_cong zero f = refl
every_cong (suc k) f = rw (every_cong k (λ i h. f i (omega arith)), f k (omega arith))

-- a number in a place is below the limit, whether the place is used or not
pub place_below : (used : Bool) (v top : ℕ) → 0 < top → cond used (ltb v top) (eqb v 0) ≡ true → v < top
place_below true v top h e = ltb-true v top e
place_below false v top h e = omega (arith, eqb-true v 0 e)
