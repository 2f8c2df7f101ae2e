-- `read_header` meets its contract: each of the calls says what it answers.
use Rattle.frame.specs.Frame.{header}
use Rattle.frame.proofs.read_header.Goals as goal

pub returns : goal.returns
unfolding header
returns c =
    rw (
      c.one-profile.ensures,
      c.one-level.ensures,
      c.one-d.ensures,
      c.one-bl.ensures,
      c.one-el.ensures,
      c.one-hdr.ensures,
      c.one-disabled.ensures,
      c.two-columns.ensures,
      c.two-pairs.ensures,
      c.two-brightest.ensures,
      c.four-darkest.ensures,
    )
