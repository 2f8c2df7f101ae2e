-- `read` meets its contract: the rules in their order. Assumes nothing.
use mathlib.Core.Path.{sym, ap, subst, ◌∙◌}
use native.Mathlib.Omega.{arith}
use Rattle.frame.specs.declared.Trailer.{Trailer}
use Rattle.block.specs.Reading.{body}
use Rattle.block.specs.Facts.{Sound}
use Rattle.block.proofs.Answers.{sound}
use Rattle.block.proofs.Cascade.{too_short, cut_off, goes_on, placed}
use Rattle.block.proofs.read.Goals as goal

pub returns-then-bytes-lt12-clause-value : goal.returns-then-bytes-lt12-clause-value
returns-then-bytes-lt12-clause-value c = c.refused.ensures ∙ too_short _ c.if-bytes-lt12.true

pub returns-then-t-x-clause-value : goal.returns-then-t-x-clause-value
returns-then-t-x-clause-value c =
    c.refused-then-t-x.ensures ∙ cut_off _ c.if-bytes-lt12.false (cc) (rw (ap (λ (x : Trailer). x.a) c.read_trailer-x.ensures) at c.if-t-x.true)

pub body-requires : goal.body-requires
body-requires c = placed _ (omega arith) (cc) c.if-t-x.false

pub returns-clause-value : goal.returns-clause-value
returns-clause-value c =
    c.body.ensures ∙ ap (body _ _) c.read_trailer-x.ensures
    ∙ goes_on _ c.if-bytes-lt12.false (cc) (rw (ap (λ (x : Trailer). x.a) c.read_trailer-x.ensures) at c.if-t-x.false)

-- it is what reading comes to, and so it is sound
pub returns-clause-sound : goal.returns-clause-sound
returns-clause-sound c = subst Sound (sym (returns-clause-value c)) (sound _)
