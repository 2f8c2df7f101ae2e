-- mmr::compose_chroma(plan, first, last, inputs, output), the inputs being raised1, raised2, cut, marks, base, enhancement
use Rattle.calls.specs.Lent.{Lent}
use Rattle.mmr.specs.inner.Chroma.{chroma_after}
use Rattle.plan.specs.declared.Plan.{Plan}
use Rattle.std.specs.Prelude.{List, ℕ, ◌≡◌}
use Rattle.sums.specs.declared.Cut.{Cut}

abbrev pub Keeps : Plan → ℕ → ℕ → List ℕ → List ℕ → Cut → List ℕ → List ℕ → List ℕ → List ℕ → List ℕ → Type 0
Keeps plan first last raised1 raised2 cut marks base enhancement output output' =
    output' ≡ chroma_after plan first last raised1 raised2 cut marks base enhancement output

abbrev pub Post : (κs : Unit {0}) → (Plan × (ℕ × (ℕ × (Lent × (Lent × (Cut × (Lent × (Lent × (Lent × (Lent × Unit {0})))))))))) → Unit {0} → (Plan × (ℕ × (ℕ × (Lent × (Lent × (Cut × (Lent × (Lent × (Lent × (Lent × Unit {0})))))))))) → Type 0
Post κs a r s = Keeps a.0 a.1.0 a.1.1.0 a.1.1.1.0.now a.1.1.1.1.0.now a.1.1.1.1.1.0 a.1.1.1.1.1.1.0.now a.1.1.1.1.1.1.1.0.now a.1.1.1.1.1.1.1.1.0.now a.1.1.1.1.1.1.1.1.1.0.now s.1.1.1.1.1.1.1.1.1.0.now
