use Rattle.standard.proofs.Examples.{examples}
use Rattle.standard.proofs.worked_examples.Statement.{statement}
use Rattle.standard.proofs.worked_examples.Tie as tie

returns : tie.Need-returns
returns c = examples

pub worked_examples_spec : {M : Type 1} → statement M
worked_examples_spec = tie.close (tie.spec returns)
