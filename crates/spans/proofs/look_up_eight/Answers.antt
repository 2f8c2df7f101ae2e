use Rattle.spans.proofs.Fours.{eight_put}
use Rattle.spans.proofs.look_up_eight.Goals as goal

-- `spans::look_up_eight` meets its contract. Assumes nothing.
pub returns : goal.returns
returns c =
    eight_put c.args.i _ _ _ _ _ _ c.looked_up_four-x.ensures c.looked_up_four-y.ensures c.requires.1 c.put_four.ensures c.put_four-2.ensures
