use Rattle.rule_seven.proofs.Limits.{tested}
use Rattle.rule_seven.proofs.ranges.coefficient_fits.Goals as goal

-- `rule_seven::ranges::coefficient_fits` meets its contract: the words hold the limits. Assumes nothing.
pub returns : goal.returns
returns c =
    rw (c.from.ensures, tested c.integer_limit.result c.args.h.header.d c.integer_limit.ensures.1 c.args.h.facts.shallow _ c.ranges.z, c.integer_limit.ensures.0)
