use mathlib.Core.Path.{sym}
use native.Mathlib.Omega.{arith}
use Rattle.runs.specs.Runs.{between}
use Rattle.runs.proofs.Between.{between_empty, between_more}
use Rattle.rows.proofs.Lending.{rows_begun, rows_on, row_of, row_of_painted, rows_ended}
use Rattle.rows.proofs.each.add_up_each.Goals as goal

pub loop-k-init : goal.loop-k-init
loop-k-init c =
    rows_begun _ _ _ _ (λ j. between_empty _ j)

pub add_up_row-requires : goal.add_up_row-requires
add_up_row-requires c = (row_of _ _ _ _ c.requires.0 _ c.loop-k-test.true, (row_of _ _ _ _ c.requires.1.0 _ c.loop-k-test.true, row_of_painted _ _ _ _ _ _ _ c.requires.1.1 c.loop-k.invariant _ c.loop-k-test.true))

pub loop-k-preserved : goal.loop-k-preserved
loop-k-preserved c =
    rows_on _ _ _ _ _ _ c.loop-k.invariant _ _ c.requires.0.some_columns (λ j. sym (between_more _ _ j (omega arith))) c.add_up_row.ensures

pub returns : goal.returns
returns c =
    rows_ended _ _ _ (between _) _ _ _ (omega (arith, c.requires.0.forward)) c.loop-k-test.false c.loop-k.invariant
