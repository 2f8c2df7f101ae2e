use Prim.Native.Nat.{◌+◌}
use Rattle.rules.proofs.Large.{large_six}
use Rattle.rules.proofs.samples.large_in_six.Goals as goal

-- `rules::samples::large_in_six` meets its contract. Assumes nothing.
pub returns : goal.returns
returns c =
    large_six (c.args.minus8 + 8) _ c.args.y c.args.b c.args.r c.args.n c.requires.0 _ _ c.codes_of.ensures c.joined_six-bits.ensures
