use Rattle.std.proofs.Common.{sym, ◌∙◌}
use Rattle.writer.proofs.Answers.{bad_plan, no_length, has-length}
use Rattle.writer.proofs.length.Goals as goal

-- `length` meets its contract. Assumes nothing.
pub returns-in-Some : goal.returns-in-Some
returns-in-Some c = let r = has-length c.args.plan c.args.version c.in-Some.ensures in rw c.block.ensures (record { value = r.0; limits = r.1 })

pub returns-in-None : goal.returns-in-None
returns-in-None c = let r = no_length c.args.plan c.args.version c.in-None.ensures in record { value = r.0; limits = r.1 }

pub section_lengths-requires : goal.section_lengths-requires
section_lengths-requires c = sym c.passes.ensures ∙ c.if-not-passes.false

pub returns-then-not-passes : goal.returns-then-not-passes
returns-then-not-passes c = let r = no_length c.args.plan c.args.version (bad_plan c.args.plan c.args.version (sym c.passes.ensures ∙ c.if-not-passes.true)) in record { value = r.0; limits = r.1 }
