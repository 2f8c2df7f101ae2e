use mathlib.Core.Path.{◌≡◌}
use mathlib.Core.List.{List}
use Prim.Native.Nat.{ℕ}
use Rattle.fields.specs.Fields.{Read}
use Rattle.fields.specs.inner.Readers.{as_read, filled}
use Rattle.fields.proofs.Filling.{Filling}
use Rattle.sections.proofs.filling.filled.Given as goal

-- The loop's invariant: what is left to read goes into the array from place i on.
abbrev pub invariant-loop-i : goal.invariant-loop-i
invariant-loop-i g l =
    (reading : ℕ → List ℕ → Read g.row.T.Denot) → ((s : _) (i : _) (r : _) (after : _) → goal.F-post g l.fn.one s i r after → as_read r after.now.now ≡ reading i s.now.now)
    → Filling reading l.fn.n l.i l.all l.rest.now (filled g.row.M l.fn.none l.fn.n reading l.fn.rest.now)
