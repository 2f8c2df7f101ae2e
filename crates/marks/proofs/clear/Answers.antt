use Rattle.marks.proofs.Marking.{all-filled}
use Rattle.marks.proofs.clear.Goals as goal

pub returns : goal.returns
returns c = all-filled 0 _ _ (c.fill.ensures.after (λ y e. e))
