use Rattle.fields.proofs.Digits.{After}
use Rattle.fields.proofs.numbers.number.Given as goal

-- The loop's invariant: v is the number of the bytes before b. Assumes nothing.
abbrev pub invariant-loop-b : goal.invariant-loop-b
invariant-loop-b l = After l.bytes l.v l.b-index
