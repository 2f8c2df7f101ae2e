-- `unsigned` meets its contract: the two fields follow each other. Assumes nothing.
use Rattle.fields.proofs.Following.{goes_on, stops}
use Rattle.sections.specs.Sections.{unsigned}
use Rattle.sections.proofs.fraction.unsigned.Goals as goal

pub returns-in_err-n : goal.returns-in_err-n
unfolding unsigned
returns-in_err-n c = stops _ _ _ c.from_residual.ensures (rw c.asked.ensures at c.in_err-n.ensures.value)

pub returns-in_err-f : goal.returns-in_err-f
unfolding unsigned
returns-in_err-f c =
    goes_on _ (rw c.asked.ensures at c.in_ok-n.ensures.value) (stops _ _ _ c.from_residual-in_err-f.ensures (rw (c.asked-2.ensures, c.fraction_kind.ensures, c.fraction_bits-bits.ensures.is) at c.in_err-f.ensures.value))

pub returns : goal.returns
unfolding unsigned
returns c =
    goes_on _ (rw c.asked.ensures at c.in_ok-n.ensures.value) (goes_on _ (rw (c.asked-2.ensures, c.fraction_kind.ensures, c.fraction_bits-bits.ensures.is) at c.in_ok-f.ensures.value) (rw (c.power-one.ensures.0, c.fraction_bits-bits.ensures.is)))
