use Rattle.writer.proofs.Answers.{no_y, no_cb, no_cr, are_lengths}
use Rattle.writer.proofs.Blocks.{small}
use Rattle.writer.proofs.lengths.section_lengths.Goals as goal

-- `section_lengths` meets its contract. Assumes nothing.
pub returns-in_err-section_length : goal.returns-in_err-section_length
returns-in_err-section_length c = rw c.from_residual.ensures (no_y c.args.plan.now c.args.version c.in_err-section_length.ensures.is)

pub returns-in_err-section_length-2 : goal.returns-in_err-section_length-2
returns-in_err-section_length-2 c = rw c.from_residual-in_err-section_length-2.ensures (no_cb c.args.plan.now c.args.version c.in_err-section_length-2.ensures.is)

pub returns-in_err-section_length-3 : goal.returns-in_err-section_length-3
returns-in_err-section_length-3 c = rw c.from_residual-in_err-section_length-3.ensures (no_cr c.args.plan.now c.args.version c.in_err-section_length-3.ensures.is)

pub returns : goal.returns
returns c =
    are_lengths c.args.plan.now c.args.version c.requires c.in_ok-section_length.ensures.is c.in_ok-section_length-2.ensures.is c.in_ok-section_length-3.ensures.is

pub invariant_of-result : goal.invariant_of-result
invariant_of-result c =
    record { few = small c.args.plan.now c.args.version (are_lengths c.args.plan.now c.args.version c.requires c.in_ok-section_length.ensures.is c.in_ok-section_length-2.ensures.is c.in_ok-section_length-3.ensures.is) }
