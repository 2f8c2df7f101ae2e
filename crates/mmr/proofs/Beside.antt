-- Where the down-sampling finds its columns. Assumes nothing.
use mathlib.Core.Path.{◌≡◌, refl, ap, ◌∙◌}
use mathlib.Core.List.{List}
use Prim.Native.Nat.{ℕ, zero, suc, ◌+◌, ◌-◌, ◌*◌, ◌<◌, ◌≤◌}
use native.Mathlib.Nat.{min-eq_left}
use native.Mathlib.Omega.{arith}
use lib.IntN.{pos, ◌+ℤ◌, ◌-ℤ◌}
use borrow.Author.Tests.{le-ltb}
use Rattle.runs.specs.inner.Loops.{at}
use Rattle.standard.specs.Mapping.{from_zero}
use Rattle.standard.specs.Mmr.{inside, row_sum}
use Rattle.mmr.specs.inner.Luma.{weighted, row_from}

-- the column before, or the first
pub before : (x : ℕ) → x - 1 ≡ from_zero (pos x -ℤ pos 1)
before zero = refl
before (suc x) = rw (le-ltb (suc x) 1 (omega arith)) refl

-- a row's sum by the indices of its three samples
pub row_sum_is : (run : List ℕ) (w start i b l m : ℕ) → 2 * i + 1 < w → b ≡ from_zero (pos (2 * i) -ℤ pos 1) → b ≤ 2 * i → l ≡ start + b → m ≡ start + 2 * i → weighted (at run l) (at run m) (at run (m + 1)) ≡ row_sum w (row_from run start) i
unfolding row_sum
row_sum_is run w start i b l m h e k el em =
    let x = pos (2 * i) in
    let first : inside w (x -ℤ pos 1) ≡ from_zero (x -ℤ pos 1) = min-eq_left (omega arith) in
    let second : inside w x ≡ 2 * i = min-eq_left (omega arith) in
    let third : inside w (x +ℤ pos 1) ≡ 2 * i + 1 = min-eq_left (omega arith) in
    let e1 : l ≡ start + inside w (x -ℤ pos 1) = omega arith in
    let e2 : m ≡ start + inside w x = omega arith in
    let e3 : m + 1 ≡ start + inside w (x +ℤ pos 1) = omega arith in
    ap (λ (n : ℕ). weighted (at run n) (at run m) (at run (m + 1))) e1
    ∙ ap (λ (n : ℕ). weighted (at run (start + inside w (x -ℤ pos 1))) (at run n) (at run (m + 1))) e2
    ∙ ap (λ (n : ℕ). weighted (at run (start + inside w (x -ℤ pos 1))) (at run (start + inside w x)) (at run n)) e3
