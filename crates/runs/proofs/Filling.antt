-- A run of anything that is filled from the front, one store a turn. Assumes nothing.
use mathlib.Core.Path.{◌≡◌, ◌∙◌}
use mathlib.Core.List.{List}
use Prim.Native.Nat.{ℕ, ◌+◌, ◌<◌}
use native.Mathlib.Omega.{arith}
use lib.ListN.{length, get_or, set}
use lib.Seq.{get_or-set_same, get_or-set_other}
use borrow.Author.Count.{below_more}

pub filled_more : {A : Type 0} (z : A) (l : List A) (i : ℕ) (v : A) (f : ℕ → A) → i < length l → ((j : ℕ) → j < i → get_or l j z ≡ f j) → v ≡ f i → (j : ℕ) → j < i + 1 → get_or (set l i v) j z ≡ f j
filled_more z l i v f h all here =
    below_more (λ j. get_or (set l i v) j z ≡ f j) i
    (λ j k. get_or-set_other l i j v z (λ e. omega arith) ∙ all j k)
    (get_or-set_same l i v z h ∙ here)
