-- The places of an array: those in use as they are read and written, and the others, which hold what stands for none. Assumes nothing.
use mathlib.Core.Path.{◌≡◌, refl, sym, ap, ap₂, ◌∙◌}
use mathlib.Core.List.{List, [], ◌∷◌, ◌++◌, append-nil}
use Prim.Native.Nat.{ℕ, zero, suc, ◌≤◌, ◌<◌, zero-le, suc-le-suc}
use native.Mathlib.Nat.{le_of_suc-le-suc, not-suc-le-zero, suc_inj}
use native.Mathlib.Omega.{arith}
use lib.ListN.{length, get_or, take}
use Rattle.fields.specs.Fields.{padded}
use Rattle.fields.proofs.Giving.{Each}
use Rattle.pen.specs.Bytes.{in_turn}
use Rattle.round_trips.proofs.Mirrors.{each_of, assoc}

module _ {A : Type 0} where
  pub length-padded : (m : ℕ) (z : A) (l : List A) → length (padded m z l) ≡ m
  unfolding padded
  length-padded zero z l = refl
  length-padded (suc m) z [] = ap suc (length-padded m z [])
  length-padded (suc m) z (x ∷ l) = ap suc (length-padded m z l)

  -- what was filled up, cut again
  pub cut_more : (z : A) (m : ℕ) (l more : List A) (k : ℕ) → length l ≡ k → k ≤ m → take k (padded m z (l ++ more)) ≡ l
  unfolding padded
  cut_more z m [] more zero e h = refl
  cut_more z m [] more (suc k) e h = absurd (omega arith)
  cut_more z m (x ∷ l) more zero e h = absurd (omega arith)
  cut_more z zero (x ∷ l) more (suc k) e h = absurd (not-suc-le-zero h)
  cut_more z (suc m) (x ∷ l) more (suc k) e h = ap (λ (r : List A). x ∷ r) (cut_more z m l more k (suc_inj e) (le_of_suc-le-suc h))

  pub cut : (z : A) (m : ℕ) (l : List A) (k : ℕ) → length l ≡ k → k ≤ m → take k (padded m z l) ≡ l
  cut z m l k e h = ap (λ (r : List A). take k (padded m z r)) (sym (append-nil l)) ∙ cut_more z m l [] k e h

  nothing_else : (z d : A) (m : ℕ) (l : List A) → length l ≡ m → ((i : ℕ) → i < m → get_or l i d ≡ z) → padded m z [] ≡ l
  unfolding padded
  nothing_else z d zero [] e f = refl
  nothing_else z d zero (x ∷ l) e f = absurd (omega arith)
  nothing_else z d (suc m) [] e f = absurd (omega arith)
  nothing_else z d (suc m) (x ∷ l) e f = ap₂ (λ (y : A) (r : List A). y ∷ r) (sym (f zero (suc-le-suc zero-le))) (nothing_else z d m l (suc_inj e) (λ i h. f (suc i) (suc-le-suc h)))

  -- what was cut, filled up again: the places beyond hold z
  pub filled : (z d : A) (m k : ℕ) (l : List A) → length l ≡ m → k ≤ m → ((i : ℕ) → k ≤ i → i < m → get_or l i d ≡ z) → padded m z (take k l) ≡ l
  unfolding padded
  filled z d m zero l e h f = nothing_else z d m l e (λ i b. f i zero-le b)
  filled z d zero (suc k) l e h f = absurd (not-suc-le-zero h)
  filled z d (suc m) (suc k) [] e h f = absurd (omega arith)
  filled z d (suc m) (suc k) (x ∷ l) e h f =
      ap (λ (r : List A). x ∷ r) (filled z d m k l (suc_inj e) (le_of_suc-le-suc h) (λ i p b. f (suc i) (suc-le-suc p) (suc-le-suc b)))

  -- of each place in use
  pub each_taken : (P : A → Type 0) (d : A) (k : ℕ) (l : List A) → k ≤ length l → ((i : ℕ) → i < k → P (get_or l i d)) → Each P (take k l)
  each_taken P d zero l h f = tt
  each_taken P d (suc k) [] h f = absurd (not-suc-le-zero h)
  each_taken P d (suc k) (x ∷ l) h f = (f zero (suc-le-suc zero-le), each_taken P d k l (le_of_suc-le-suc h) (λ i b. f (suc i) (suc-le-suc b)))

  module _ (w : A → List ℕ) (d : A) where
    -- the turns from the front
    turns_front : (f : ℕ → List ℕ) (k : ℕ) → in_turn (suc k) f ≡ f 0 ++ in_turn k (λ i. f (suc i))
    unfolding in_turn
    turns_front f zero = end (f 0)
      where
        end : (a : List ℕ) → [] ++ a ≡ a ++ []
        end [] = refl
        end (x ∷ a) = ap (λ (r : List ℕ). x ∷ r) (end a)
    turns_front f (suc k) = ap (λ (r : List ℕ). r ++ f (suc k)) (turns_front f k) ∙ assoc (f 0) (in_turn k (λ i. f (suc i))) (f (suc k))

    pub in_turns : (k : ℕ) (l : List A) → k ≤ length l → each_of w (take k l) ≡ in_turn k (λ i. w (get_or l i d))
    unfolding in_turn
    in_turns zero l h = refl
    in_turns (suc k) [] h = absurd (not-suc-le-zero h)
    in_turns (suc k) (x ∷ l) h = ap (λ (r : List ℕ). w x ++ r) (in_turns k l (le_of_suc-le-suc h)) ∙ sym (turns_front (λ i. w (get_or (x ∷ l) i d)) k)
