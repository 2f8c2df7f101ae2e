-- What the steps give where the numbers are as small as rule 7 has them. Assumes nothing.
use mathlib.Core.Path.{◌≡◌, sym, ◌∙◌}
use mathlib.Core.List.{List}
use Prim.Native.Nat.{ℕ, zero, suc, ◌+◌, ◌*◌, ◌%◌, ◌^◌, ◌<◌, ◌≤◌, min}
use native.Mathlib.Nat.{mod-eq_of_lt}
use native.Mathlib.Omega.{arith}
use lib.IntN.{ℤ}
use Rattle.runs.specs.inner.Loops.{at}
use lib.Seq.{ext_get_or}
use Rattle.runs.specs.inner.Tables.{table}
use Rattle.runs.proofs.Tables.{length-table, at_table}
use Rattle.standard.specs.Mapping.{pivot_value, cut}
use Rattle.plan.specs.Rule7.{pivot_places}
use Rattle.steps.specs.inner.Steps.{pivot_table, cut_by}

-- a pivot of predictions below 2 ^ 10
pivot_small : (pred : ℕ → ℕ) (i : ℕ) → ((j : ℕ) → j ≤ i → pred j < 2 ^ 10) → pivot_value pred i < 2 ^ 10 * (i + 1)
unfolding pivot_value
pivot_small pred zero small = omega (arith, small 0 (omega arith))
pivot_small pred (suc i) small = omega (arith, pivot_small pred i (λ j h. small j (omega arith)), small (suc i) (omega arith))

-- so it is the sum of the predictions up to it
pub pivot-at : (preds : List ℕ) (i : ℕ) → i < pivot_places → ((j : ℕ) → j ≤ i → at preds j < 2 ^ 10) → at (pivot_table preds) i ≡ pivot_value (at preds) i
pivot-at preds i b small = rw (at_table pivot_places _ i b) (omega (arith, pivot_small (at preds) i small))

pub pivots_small : (preds : List ℕ) → ((j : ℕ) → at preds j < 2 ^ 10) → pivot_table preds ≡ table pivot_places (pivot_value (at preds))
pivots_small preds small =
    ext_get_or 0 _ _ (length-table pivot_places _ ∙ sym (length-table pivot_places _))
    (λ i b.
    let k : i < pivot_places = rw (length-table pivot_places (λ j. min (pivot_value (at preds) j) 65535)) at b in
    pivot-at preds i k (λ j h. small j) ∙ sym (at_table pivot_places _ i k))

-- the standard's cut
pub is_cut : (d : ℕ) → d ≤ 32 → (v : ℤ) → cut_by d v ≡ cut d v
is_cut d h v = let e : (4 + d) % 64 ≡ 4 + d = mod-eq_of_lt (omega arith) in rw e
