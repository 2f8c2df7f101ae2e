use Rattle.picture.proofs.Three.{no_row, backward, beyond, by_quotient}
use Rattle.picture.proofs.Plane.lies.Goals.{then-self-eq0-via-then-self-eq0, then-self-eq0-via-else-self-eq0+then-last-first, then-self-eq0-via-else-self-eq0+else-last-first+then-n-self}
use Rattle.picture.proofs.Plane.lies.Goals as goal

pub returns-then-self-eq0 : goal.returns-then-self-eq0
returns-then-self-eq0 c = elim c.then-self-eq0.branch [
  | then-self-eq0-via-then-self-eq0 w ↦ no_row c.args.self _ _ _ w.if-self-eq0.true
  | then-self-eq0-via-else-self-eq0+then-last-first w ↦ backward c.args.self _ _ _ w.if-last-first.true
  | then-self-eq0-via-else-self-eq0+else-last-first+then-n-self w ↦ beyond c.args.self _ _ _ w.if-n-self.true
]

pub returns : goal.returns
returns c =
    by_quotient c.args.self _ _ _ c.if-self-eq0.false c.if-last-first.false c.if-n-self.false
