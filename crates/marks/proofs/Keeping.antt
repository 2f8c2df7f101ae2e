-- The row pairs that are not full, from one to the next. Assumes nothing.
use mathlib.Core.Path.{◌≡◌, refl, sym, ap, ◌∙◌}
use mathlib.Core.Bool.{Bool, true, false, not, ◌&&◌, ◌||◌, true≢false, and-true}
use mathlib.Core.List.{List, []}
use Prim.Native.Nat.{ℕ, ◌+◌, ◌<◌, ◌≤◌}
use native.Mathlib.Omega.{arith}
use lib.Dec.{eqb}
use borrow.Author.Tests.{eqb-true}
use Rattle.runs.specs.Runs.{between}
use Rattle.runs.proofs.Between.{between_empty, between_more, between_join, between_true}
use Rattle.marks.specs.Marks.{full, full_at}
use Rattle.marks.specs.inner.Marks.{not_full}

module _ (first : ℕ) (marks : List ℕ) where
  pub none_yet : (j : ℕ) → not_full first first marks j ≡ false
  unfolding not_full
  none_yet j = rw (between_empty first j)

  -- all from k up to r are full and kept
  all-kept : (k r : ℕ) → first ≤ k → k ≤ r → ((i : ℕ) → k ≤ i → i < r → full_at marks i ≡ true) → (j : ℕ) → not_full first k marks j ≡ not_full first r marks j
  unfolding not_full
  all-kept k r from to h j =
      rw (sym (between_join first k r j from to))
      (go (between first k j) (between k r j) (full_at marks j) (λ e. let q = between_true k r j e in h j q.0 q.1))
    where
      go : (b e f : Bool) → (e ≡ true → f ≡ true) → (b && not f) ≡ ((b || e) && not f)
      go true e f h = refl
      go false true true h = refl
      go false true false h = absurd (true≢false (sym (h refl)))
      go false false f h = refl

  -- from those before k to those before k + 1: k is one more, or it is full and kept
  module _ (k : ℕ) (from : first ≤ k) (j : ℕ) where
    pub one_more : full_at marks k ≡ false → (not_full first k marks j || eqb j k) ≡ not_full first (k + 1) marks j
    unfolding not_full
    one_more h = rw (between_more first k j from) (go (between first k j) (eqb j k) (full_at marks j) (λ e. ap (full_at marks) (eqb-true j k e) ∙ h))
      where
        go : (b e f : Bool) → (e ≡ true → f ≡ false) → ((b && not f) || e) ≡ ((b || e) && not f)
        go true true true h = absurd (true≢false (h refl))
        go true false true h = refl
        go true e false h = refl
        go false true true h = absurd (true≢false (h refl))
        go false true false h = refl
        go false false f h = refl

    pub one_kept : full_at marks k ≡ true → not_full first k marks j ≡ not_full first (k + 1) marks j
    one_kept h = all-kept k (k + 1) from (omega arith) (λ i p q. let e : i ≡ k = omega arith in ap (full_at marks) e ∙ h) j

  -- from those up to k to those up to r, the next one that is not full
  pub next_more : (k r : ℕ) → first ≤ k → k < r → ((i : ℕ) → k < i → i < r → full_at marks i ≡ true) → full_at marks r ≡ false → (j : ℕ) → (not_full first (k + 1) marks j || eqb j r) ≡ not_full first (r + 1) marks j
  next_more k r from to h e j =
      ap (λ (u : Bool). u || eqb j r) (all-kept (k + 1) r (omega arith) (omega arith) (λ i p q. h i (omega arith) q) j)
      ∙ one_more r (omega arith) j e

  -- those before k, and those from k on
  pub not_full_join : (k r : ℕ) → first ≤ k → k ≤ r → (j : ℕ) → (not_full first k marks j || not_full k r marks j) ≡ not_full first r marks j
  unfolding not_full
  not_full_join k r from to j = rw (sym (between_join first k r j from to)) (go (between first k j) (between k r j) (not (full_at marks j)))
    where
      go : (x y n : Bool) → ((x && n) || (y && n)) ≡ ((x || y) && n)
      go true true true = refl
      go true true false = refl
      go true false true = refl
      go true false false = refl
      go false y n = refl

-- each of them is one of those that are named; without marks all of those are
pub not_full_named : (first last : ℕ) (marks : List ℕ) (j : ℕ) → not_full first last marks j ≡ true → between first last j ≡ true
unfolding not_full
not_full_named first last marks j h = go (between first last j) (not (full_at marks j)) h
  where
    go : (a b : Bool) → (a && b) ≡ true → a ≡ true
    go true b h = refl
    go false b h = h

pub without_marks : (first last j : ℕ) → not_full first last [] j ≡ between first last j
unfolding not_full full_at full
without_marks first last j = and-true (between first last j)
