use Rattle.std.proofs.Common.{◌-◌}
use Rattle.compose_file.proofs.main.Given as goal

abbrev pub decreases-loop-i : goal.decreases-loop-i
decreases-loop-i l = l.words - l.i
