-- A count over a run is a count over its places. Assumes nothing.
use mathlib.Core.Path.{◌≡◌, refl, sym, ap, ap₂, ◌∙◌}
use mathlib.Core.Bool.{Bool, cond}
use mathlib.Core.List.{List}
use Prim.Native.Nat.{ℕ, zero, suc, ◌+◌, ◌≤◌, ◌<◌}
use native.Mathlib.Nat.{le_refl}
use native.Mathlib.Omega.{arith}
use lib.ListN.{length, get_or, take}
use lib.Seq.{take-length}
use Rattle.runs.specs.Runs.{tally}
use Rattle.runs.proofs.Counting.{tally_more}
use Rattle.night.specs.Sequence.{count_below}

count_take : (f : ℕ → Bool) (l : List ℕ) (n : ℕ) → n ≤ length l → tally f (take n l) ≡ count_below (λ k. f (get_or l k 0)) n
unfolding tally count_below
count_take f l zero h = refl
count_take f l (suc n) h = tally_more f l n h ∙ ap (λ (m : ℕ). m + cond (f (get_or l n 0)) 1 0) (count_take f l n (omega arith))

count_cong : (f g : ℕ → Bool) (n : ℕ) → ((k : ℕ) → k < n → f k ≡ g k) → count_below f n ≡ count_below g n
unfolding count_below
count_cong f g zero h = refl
count_cong f g (suc n) h = ap₂ (λ (x : ℕ) (u : Bool). x + cond u 1 0) (count_cong f g n (λ k b. h k (omega arith))) (h n (omega arith))

-- by what is known of each place
pub counted : (f g : ℕ → Bool) (l : List ℕ) (n : ℕ) → length l ≡ n → ((k : ℕ) → k < n → f (get_or l k 0) ≡ g k) → tally f l ≡ count_below g n
counted f g l n e h =
    ap (tally f) (sym (take-length l))
    ∙ count_take f l (length l) (le_refl (length l))
    ∙ ap (count_below _) e
    ∙ count_cong _ g n h
