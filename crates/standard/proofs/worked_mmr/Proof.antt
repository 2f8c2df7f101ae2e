use Rattle.standard.proofs.MmrExamples.{mmr_examples}
use Rattle.standard.proofs.worked_mmr.Statement.{statement}
use Rattle.standard.proofs.worked_mmr.Tie as tie

returns : tie.Need-returns
returns c = mmr_examples

pub worked_mmr_spec : {M : Type 1} → statement M
worked_mmr_spec = tie.close (tie.spec returns)
