use native.Mathlib.Omega.{arith}
use Rattle.picture.proofs.Three.{luma_four}
use Rattle.picture.proofs.Extent.picture_size.Goals as goal

pub returns : goal.returns
returns c =
    omega (arith, c.chroma_size.ensures.0, luma_four c.args.self)
