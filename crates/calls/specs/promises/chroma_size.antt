-- picture::chroma_size(columns, pairs)
use Rattle.std.specs.Prelude.{ℕ, ◌*◌, ◌^◌, ◌≡◌, ◌≤◌}

abbrev pub Keeps : ℕ → ℕ → ℕ → Type 0
Keeps columns pairs result =
    (result ≡ columns * pairs) × (result ≤ 2 ^ 32)

abbrev pub Post : (κs : Unit {0}) → (ℕ × (ℕ × Unit {0})) → ℕ → (ℕ × (ℕ × Unit {0})) → Type 0
Post κs a r s = Keeps a.0 a.1.0 r
