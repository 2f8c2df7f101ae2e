-- `read_trailer` meets its contract: each of the calls says what it answers.
use Rattle.frame.specs.Frame.{trailer}
use Rattle.frame.proofs.read_trailer.Goals as goal

pub returns : goal.returns
unfolding trailer
returns c =
    rw (c.two-a.ensures, c.two-d0.ensures, c.two-d1.ensures, c.two-d2.ensures, c.two-version.ensures, c.two-last.ensures)
