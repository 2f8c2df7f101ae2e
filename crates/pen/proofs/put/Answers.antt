use Rattle.std.proofs.Common.{arith, refl}
use Rattle.pen.proofs.Putting.{put_none, put_part}
use Rattle.pen.proofs.put.Goals.{then-out-via-then-out, then-out-via-else-out+then-out-at}
use Rattle.pen.proofs.put.Goals as goal

-- `put` meets its contract. Assumes nothing.
pub returns-then-out : goal.returns-then-out
returns-then-out g c =
    put_none c.args.out.now c.args.at refl (elim c.then-out.branch [ then-out-via-then-out w ↦ omega arith | then-out-via-else-out+then-out-at w ↦ omega arith ])

pub returns : goal.returns
returns g c = rw c.copy_from_slice.ensures.after (put_part c.args.out.now c.args.bytes c.args.at g.row.N (omega arith) (omega arith))
