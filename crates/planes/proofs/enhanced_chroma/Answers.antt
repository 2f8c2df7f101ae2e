use mathlib.Core.Path.{ap, ◌∙◌}
use mathlib.Core.List.{[]}
use Rattle.residual.specs.declared.Pair.{Pair}
use Rattle.mmr.specs.inner.Chroma.{chroma_after}
use Rattle.planes.proofs.enhanced_chroma.Goals as goal

-- `planes::enhanced_chroma` meets its contract. Assumes nothing.
pub returns : goal.returns
returns c =
    let a = c.args in
    c.compose_chroma.ensures
    ∙ ap (λ (x : Pair). chroma_after a.plan a.r.first a.r.last x.first x.second a.cut [] a.base.now a.enhancement.now a.output.now) c.residual_pair-raised.ensures
