-- `mmr::slice::all_codes` meets its contract: there are no more codes than places. Assumes nothing.
use mathlib.Core.Path.{refl}
use Prim.Native.Nat.{◌≤◌}
use native.Mathlib.Nat.{le_trans, le_of_eq}
use native.Mathlib.Omega.{arith}
use lib.Pow.{pow_mono}
use Rattle.runs.proofs.Tables.{fill_none, fill_more, fill_codes}
use Rattle.mmr.specs.declared.both.Both.{Both}
use Rattle.mmr.proofs.slice.all_codes.Goals as goal

few : (b : Both) → b.format.codes ≤ 1024
few b = le_trans (le_of_eq b.given.format.all_codes) (pow_mono {j = 10} b.given.format.shallow)

pub loop-s-init : goal.loop-s-init
loop-s-init c = fill_none 1024 _ 0 (λ j h. omega arith)

pub bounds-table-s : goal.bounds-table-s
bounds-table-s c = omega (arith, few c.args.both.now)

pub loop-s-preserved : goal.loop-s-preserved
loop-s-preserved c = fill_more c.loop-s.invariant (omega (arith, few c.args.both.now)) c.slice_at.ensures

pub returns : goal.returns
returns c = fill_codes _ refl (omega arith) c.loop-s.invariant (λ j. refl)
