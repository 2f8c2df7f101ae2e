use mathlib.Core.Path.{◌≡◌, refl, ap, ap₂, ◌∙◌}
use mathlib.Core.Bool.{Bool, true, false, ◌&&◌, cond}
use Prim.Native.Nat.{ℕ, zero, suc, ◌+◌, ◌-◌, ◌≤◌}
use native.Mathlib.Omega.{arith}
use lib.Dec.{ltb}
use lib.IntN.{pos}
use lib.ListN.{get_or}
use borrow.Author.Tests.{le-ltb}
use Rattle.plan.specs.Ranges.{coefficient_fits}
use Rattle.plan.specs.Rule7.{every, row_places, is_zero, row_fits}
use Rattle.plan.proofs.Testing.{back}
use Rattle.plan.proofs.Truths.{every_cong}
use Rattle.rule_seven.proofs.places.few_fit.Goals as goal

-- `rule_seven::places::few_fit` meets its contract: past a polynomial's few places a row is tested for 0 alone. Assumes nothing.
-- three places, and those after them
three_and : (n : ℕ) (test : ℕ → Bool) → (test 0 && (test 1 && (test 2 && every n (λ j. test (suc (suc (suc j))))))) ≡ every (suc (suc (suc n))) test
unfolding every
three_and zero test = none (test 0) (test 1) (test 2)
  where
    none : (a b c : Bool) → (a && (b && (c && true))) ≡ (((true && a) && b) && c)
    none true true true = refl
    none true true false = refl
    none true false c = refl
    none false b c = refl
three_and (suc n) test = moved (test 0) (test 1) (test 2) _ _ ∙ ap₂ ◌&&◌ (three_and n test) refl
  where
    moved : (a b c d e : Bool) → (a && (b && (c && (d && e)))) ≡ ((a && (b && (c && d))) && e)
    moved true true true d e = refl
    moved true true false d e = refl
    moved true false c d e = refl
    moved false b c d e = refl

module _ (used : ℕ) (few : used ≤ 3) (fits zeros : ℕ → Bool) where
  abbrev place : ℕ → Bool
  place j = cond (ltb j used) (fits j) (zeros j)

  -- none of the others is used
  others : every (row_places - 3) (λ j. zeros (3 + j)) ≡ every (row_places - 3) (λ j. place (suc (suc (suc j))))
  others = every_cong (row_places - 3) (λ j b. rw (le-ltb (suc (suc (suc j))) used (omega arith)) (ap zeros (past j)))
    where
      past : (j : ℕ) → 3 + j ≡ suc (suc (suc j))
      past j = omega arith

  few_fit : (place 0 && (place 1 && (place 2 && every (row_places - 3) (λ j. zeros (3 + j))))) ≡ every row_places place
  few_fit = ap (λ (t : Bool). place 0 && (place 1 && (place 2 && t))) others ∙ three_and (row_places - 3) place

pub returns : goal.returns
unfolding row_fits
returns c =
    let row = c.args.row.now in
    ap₂ ◌&&◌ (rw (back c.coefficient_place-arg-1.given) at c.coefficient_place-first.ensures)
    (ap₂ ◌&&◌ (rw (back c.coefficient_place-arg-2-1.given) at c.coefficient_place-second.ensures)
    (ap₂ ◌&&◌ (rw (back c.coefficient_place-arg-3-1.given) at c.coefficient_place-third.ensures) c.rest_is_zero.ensures))
    ∙ few_fit c.args.used c.requires (λ j. coefficient_fits c.args.h.header c.args.idc (get_or row j (pos 0))) (λ j. is_zero (get_or row j (pos 0)))
