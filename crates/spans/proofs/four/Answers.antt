use mathlib.Core.Path.{◌∙◌}
use Prim.Native.Nat.{◌≤◌}
use native.Mathlib.Omega.{arith}
use lib.ListN.{length}
use borrow.Author.Tests.{lt-ltb}
use Rattle.spans.specs.inner.Spans.{four}
use Rattle.spans.proofs.Fours.{joined, given}
use Rattle.spans.proofs.four.Goals as goal

-- `spans::four` meets its contract: four are joined, or there are none. Assumes nothing.
pub returns-then-part-lt4 : goal.returns-then-part-lt4
unfolding four
returns-then-part-lt4 c = record { is = rw (lt-ltb (length c.args.part.now) 4 c.if-part-lt4.true); gives = λ h. absurd (omega arith) }

pub returns : goal.returns
returns c =
    let run = c.args.part.now in
    let known = c.type_inv.part in
    let enough : 4 ≤ length run = omega (arith, c.if-part-lt4.false) in
    let is = c.join.ensures ∙ joined run enough in
    record { is = is; gives = λ h. rw is (given run (known 0).fits (known 1).fits (known 2).fits (known 3).fits h) }
