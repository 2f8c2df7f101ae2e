-- sums::Cut::cut_out(cut, v, r)
use Rattle.std.specs.Prelude.{ℕ, ◌+◌, ◌≡◌}
use Rattle.sums.specs.declared.Cut.{Cut}
use Rattle.sums.specs.inner.Sums.{cut_of}

abbrev pub Keeps : Cut → ℕ → ℕ → ℕ → Type 0
Keeps cut v r result =
    result ≡ cut_of cut (v + r)

abbrev pub Post : (κs : Unit {0}) → (Cut × (ℕ × (ℕ × Unit {0}))) → ℕ → (Cut × (ℕ × (ℕ × Unit {0}))) → Type 0
Post κs a r s = Keeps a.0 a.1.0 a.1.1.0 r
