use mathlib.Core.Path.{sym, ap}
use borrow.Author.Rules.{rules}
use native.Mathlib.Omega.{arith}
use Prim.Native.Nat.{◌≤◌}
use lib.ListN.{length, get_or-eq_default}
use Rattle.marks.specs.Marks.{full, full_at}
use Rattle.marks.proofs.is_full.Goals as goal

pub returns-in-Some : goal.returns-in-Some
unfolding full_at full
returns-in-Some c = search rules

pub returns-in-None : goal.returns-in-None
unfolding full_at full
returns-in-None c =
    let past : length c.args.marks.now ≤ c.args.k = omega (arith, c.in-None.ensures.lookup) in
    sym (ap full (get_or-eq_default c.args.marks.now 0 past))
