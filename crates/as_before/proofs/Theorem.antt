-- The theorem, over the promise of `read`. Assumes nothing.
use mathlib.Core.Path.{◌≡◌, sym, ap, ◌∙◌}
use mathlib.Core.List.{List}
use Prim.Native.Nat.{ℕ}
use Rattle.frame.specs.Frame.{trailer}
use Rattle.block.specs.declared.Reading.{Reading}
use Rattle.block.specs.Reading.{tail, read}
use Rattle.block.proofs.Answers.{kept}
use Rattle.as_before.specs.VersionOne.{SameLuma, SameChroma, VersionOneAsBefore}
use Rattle.as_before.proofs.Samples.{same_luma, same_chroma}
use Rattle.as_before.proofs.Reading.{same_section}

samples : (bytes : List ℕ) {r : Reading} → r ≡ read bytes → r.number ≡ 0 → (trailer (tail bytes)).version ≡ 1 → (s s0 s1 s2 : ℕ)
    → let p = r.plan in
    SameLuma p s × (SameChroma p p.cb s s0 s1 s2 × SameChroma p p.cr s s0 s1 s2)
samples bytes e ok one s s0 s1 s2 =
    let p = (read bytes).plan in
    let t = (kept bytes).twice (sym (ap (λ (x : Reading). x.number) e) ∙ ok) in
    rw e (same_luma p (t.0 one) s, (same_chroma p p.cb (t.1.0 one) s s0 s1 s2, same_chroma p p.cr (t.1.1 one) s s0 s1 s2))

pub version_one_as_before : VersionOneAsBefore
version_one_as_before = record { sections = same_section; samples = λ r ok one s s0 s1 s2. samples r.handed.0.now r.kept.0 ok one s s0 s1 s2 }
