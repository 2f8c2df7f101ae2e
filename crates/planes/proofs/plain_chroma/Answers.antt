use mathlib.Core.Path.{ap₂, ◌∙◌}
use mathlib.Core.List.{List}
use Prim.Native.Nat.{ℕ}
use Rattle.sums.specs.declared.Cut.{Cut}
use Rattle.mmr.specs.inner.Chroma.{chroma_after}
use Rattle.planes.proofs.plain_chroma.Goals as goal

-- `planes::plain_chroma` meets its contract. Assumes nothing.
pub returns : goal.returns
returns c =
    let a = c.args in
    c.compose_chroma.ensures
    ∙ ap₂ (λ (t : List ℕ) (x : Cut). chroma_after a.plan a.r.first a.r.last t t x a.marks.now a.base.now a.base.now a.output.now) c.no_residual-none.ensures c.cut_numbers-cut.ensures
