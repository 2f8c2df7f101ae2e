use Prim.Native.Nat.{◌+◌, ◌<◌, ◌^◌, ◌≤◌}
use native.Mathlib.Nat.{one-le-pow}
use native.Mathlib.Omega.{arith}
use lib.ListN.{length}
use borrow.Author.Rules.{rules}
use borrow.Author.Tests.{lt-leb, le-leb}
use Rattle.fields.proofs.Digits.{part-number}
use Rattle.fields.proofs.numbers.number_at.Goals.{Start}
use Rattle.fields.proofs.numbers.number_at.Goals as goal

-- `number_at` meets its contract. Assumes nothing.
small : (st : Start) → 0 < 256 ^ st.args.w
small st = one-le-pow st.args.w 256 (omega arith)

pub returns-then-s-w : goal.returns-then-s-w
returns-then-s-w c =
    let st : Start = search rules in
    (rw (lt-leb (c.args.at + c.args.w) (length c.args.s.now) (omega arith)), small st)

pub returns : goal.returns
returns c =
    let l : c.args.at + c.args.w ≤ length c.args.s.now = omega arith in
    let p = part-number _ _ _ l c.number.ensures in
    (rw (le-leb _ _ l) p.0, p.1)
