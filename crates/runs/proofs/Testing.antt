-- A test at selected places of a run. Assumes nothing.
use mathlib.Core.Path.{◌≡◌, refl, sym, ap, ap₂, ◌∙◌}
use mathlib.Core.Bool.{Bool, true, false, ◌&&◌, ◌||◌, or-true, true≢false}
use mathlib.Core.List.{List, [], ◌∷◌}
use Prim.Native.Nat.{ℕ, zero, suc, ◌+◌, ◌<◌, zero-le, suc-le-suc}
use native.Mathlib.Nat.{add-zero, zero-add, add-suc, suc-add, le_of_suc-le-suc, not-suc-le-zero}
use lib.ListN.{length, get_or}
use Rattle.runs.specs.Runs.{any_from, some}

-- the tests: what either selects
pub some_or : (s t p : ℕ → Bool) (l : List ℕ) → some (λ i. s i || t i) p l ≡ (some s p l || some t p l)
unfolding some any_from
some_or s t p l = go 0 l
  where
    bool : (a b c x y : Bool) → (((a || b) && c) || (x || y)) ≡ (((a && c) || x) || ((b && c) || y))
    bool true true true x y = refl
    bool true false true x y = refl
    bool false true true true y = refl
    bool false true true false y = refl
    bool false false true x y = refl
    bool true true false x y = refl
    bool true false false x y = refl
    bool false true false x y = refl
    bool false false false x y = refl

    go : (k : ℕ) (l : List ℕ) → any_from (λ i x. (s i || t i) && p x) k l ≡ (any_from (λ i x. s i && p x) k l || any_from (λ i x. t i && p x) k l)
    go k [] = refl
    go k (x ∷ xs) = ap (λ (u : Bool). ((s k || t k) && p x) || u) (go (suc k) xs) ∙ bool (s k) (t k) (p x) (any_from (λ i x. s i && p x) (suc k) xs) (any_from (λ i x. t i && p x) (suc k) xs)

-- where none of the selected elements passes, and where one does
any_none : (t : ℕ → ℕ → Bool) (k : ℕ) (l : List ℕ) → ((i : ℕ) → i < length l → t (k + i) (get_or l i 0) ≡ false) → any_from t k l ≡ false
unfolding any_from
any_none t k [] h = refl
any_none t k (x ∷ xs) h =
    ap₂ ◌||◌ (ap (λ (n : ℕ). t n x) (sym (add-zero k)) ∙ h 0 (suc-le-suc zero-le))
    (any_none t (suc k) xs (λ i b. ap (λ (n : ℕ). t n (get_or xs i 0)) (suc-add k i ∙ sym (add-suc k i)) ∙ h (suc i) (suc-le-suc b)))

any_some : (t : ℕ → ℕ → Bool) (k : ℕ) (l : List ℕ) (i : ℕ) → i < length l → t (k + i) (get_or l i 0) ≡ true → any_from t k l ≡ true
unfolding any_from
any_some t k [] i b h = absurd (not-suc-le-zero b)
any_some t k (x ∷ xs) zero b h = ap (λ (u : Bool). u || any_from t (suc k) xs) (ap (λ (n : ℕ). t n x) (sym (add-zero k)) ∙ h)
any_some t k (x ∷ xs) (suc i) b h =
    ap (λ (u : Bool). t k x || u) (any_some t (suc k) xs i (le_of_suc-le-suc b) (ap (λ (n : ℕ). t n (get_or xs i 0)) (suc-add k i ∙ sym (add-suc k i)) ∙ h)) ∙ or-true (t k x)

pub some_none : (s p : ℕ → Bool) (l : List ℕ) → ((i : ℕ) → i < length l → s i ≡ true → p (get_or l i 0) ≡ false) → some s p l ≡ false
unfolding some
some_none s p l h = any_none _ 0 l (λ i b. ap (λ (n : ℕ). s n && p (get_or l i 0)) (zero-add i) ∙ go (s i) (p (get_or l i 0)) (h i b))
  where
    go : (u v : Bool) → (u ≡ true → v ≡ false) → (u && v) ≡ false
    go true v q = q refl
    go false v q = refl

pub some-some : (s p : ℕ → Bool) (l : List ℕ) (i : ℕ) → i < length l → s i ≡ true → p (get_or l i 0) ≡ true → some s p l ≡ true
unfolding some
some-some s p l i b h k = any_some _ 0 l i b (ap (λ (n : ℕ). s n && p (get_or l i 0)) (zero-add i) ∙ ap₂ ◌&&◌ h k)

-- the same selection, the same test
pub some_cong : (s t p : ℕ → Bool) (l : List ℕ) → ((i : ℕ) → i < length l → s i ≡ t i) → some s p l ≡ some t p l
unfolding some any_from
some_cong s t p l h = go 0 l (λ i b. ap s (zero-add i) ∙ h i b ∙ ap t (sym (zero-add i)))
  where
    go : (k : ℕ) (l : List ℕ) → ((i : ℕ) → i < length l → s (k + i) ≡ t (k + i)) → any_from (λ i x. s i && p x) k l ≡ any_from (λ i x. t i && p x) k l
    go k [] h = refl
    go k (x ∷ xs) h =
        ap₂ ◌||◌ (ap (λ (u : Bool). u && p x) (ap s (sym (add-zero k)) ∙ h 0 (suc-le-suc zero-le) ∙ ap t (add-zero k)))
        (go (suc k) xs (λ i b. ap s (suc-add k i ∙ sym (add-suc k i)) ∙ h (suc i) (suc-le-suc b) ∙ ap t (add-suc k i ∙ sym (suc-add k i))))

-- where the test fails as a whole, it fails at each selected element
pub some_false : (s p : ℕ → Bool) (l : List ℕ) → some s p l ≡ false → (i : ℕ) → i < length l → s i ≡ true → p (get_or l i 0) ≡ false
some_false s p l h i b e = go (p (get_or l i 0)) refl
  where
    go : (u : Bool) → p (get_or l i 0) ≡ u → u ≡ false
    go true q = absurd (true≢false (sym (some-some s p l i b e q) ∙ h))
    go false q = refl
