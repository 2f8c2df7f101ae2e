-- `part` meets its contract: what a section's reader answers, at its place. Assumes nothing.
use Rattle.block.proofs.Answers.{part_length, stop, go}
use Rattle.block.proofs.part.Goals as goal

pub returns-in-Ok : goal.returns-in-Ok
returns-in-Ok c next = go c.args.a _ _ _ _ next c.in-Ok.ensures

pub returns-in-Err : goal.returns-in-Err
returns-in-Err c next = stop c.args.a _ _ _ _ next (rw (c.saturating_sub.ensures, part_length c.args.bytes.now c.args.a c.args.b c.requires.1)) c.in-Err.ensures
