use Rattle.picture.proofs.Extent.planes.Goals as goal

pub returns : goal.returns
returns c =
    rw c.chroma_size-n.ensures.0
