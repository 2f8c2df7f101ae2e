-- A row pair of a plane is a stretch of the run, and so are row pairs that follow each other. Assumes nothing.
use mathlib.Core.Path.{◌≡◌, refl, sym, ap, ◌∙◌}
use mathlib.Core.Bool.{Bool, true, false, ◌&&◌, ◌||◌, and-false}
use mathlib.Core.List.{List}
use mathlib.Core.Logic.{⊎_elim}
use Prim.Native.Nat.{ℕ, ◌+◌, ◌-◌, ◌*◌, ◌/◌, ◌≤◌, ◌<◌}
use native.Mathlib.Nat.{le-div_iff_mul-le, div-lt_iff_lt-mul, mul_comm}
use native.Mathlib.Omega.{arith}
use lib.Dec.{leb, eqb}
use borrow.Author.Tests.{le-leb, lt-leb}
use Rattle.runs.specs.Runs.{painted, between}
use Rattle.std.proofs.lemmas.Bool.{cases_lt}
use Rattle.runs.proofs.Between.{in_between, under-between, between_true, between_one}
use Rattle.runs.proofs.Painting.{painted_cong, painted-over}
use Rattle.picture.specs.declared.Plane.{Plane}
use Rattle.picture.specs.inner.Planes.{row_start, in_rows, InPlane}

-- two tests that imply each other are equal
iff : (a b : Bool) → (a ≡ true → b ≡ true) → (b ≡ true → a ≡ true) → a ≡ b
iff true b h k = sym (h refl)
iff false true h k = k refl
iff false false h k = refl

-- a quotient between two bounds, and a difference
between-div : (d a b i : ℕ) → 1 ≤ d → between a b (i / d) ≡ between (d * a) (d * b) i
between-div d a b i some =
    iff _ _
    (λ h. let q = between_true a b (i / d) h in in_between (d * a) (d * b) i (rw mul_comm ((le-div_iff_mul-le some).0 q.0)) (rw (mul_comm d b) ((div-lt_iff_lt-mul some).0 q.1)))
    (λ h. let q = between_true (d * a) (d * b) i h in in_between a b (i / d) ((le-div_iff_mul-le some).1 (rw mul_comm q.0)) ((div-lt_iff_lt-mul some).1 (rw (mul_comm b d) q.1)))

between_sub : (m a b i : ℕ) → m ≤ i → between a b (i - m) ≡ between (m + a) (m + b) i
between_sub m a b i le =
    iff _ _
    (λ h. let q = between_true a b (i - m) h in in_between (m + a) (m + b) i (omega arith) (omega arith))
    (λ h. let q = between_true (m + a) (m + b) i h in in_between a b (i - m) (omega arith) (omega arith))

-- row pairs that follow each other
pub rows_between : (p : Plane) (a b i : ℕ) → 1 ≤ p.row → in_rows p (between a b) i ≡ between (row_start p a) (row_start p b) i
unfolding in_rows
rows_between p a b i some = ⊎_elim
    (λ u. ap (λ (x : Bool). x && between a b ((i - p.start) / p.row)) (lt-leb p.start i u) ∙ sym (under-between _ _ i (omega arith)))
    (λ u. ap (λ (x : Bool). x && between a b ((i - p.start) / p.row)) (le-leb p.start i u) ∙ between-div p.row a b (i - p.start) some ∙ between_sub p.start _ _ i u)
    (cases_lt i p.start)

-- a sample of row pairs that lie in a run is one of the run
pub rows_inside : (p : Plane) (first last n i : ℕ) → InPlane p first last n → in_rows p (between first last) i ≡ true → i < n
rows_inside p first last n i g h = omega (arith, between_true _ _ i (sym (rows_between p first last i g.some_columns) ∙ h), g.within)

-- ---- one selection of row pairs by another
module _ (p : Plane) (s : ℕ → Bool) (i : ℕ) where
  pub rows_none : ((j : ℕ) → s j ≡ false) → in_rows p s i ≡ false
  unfolding in_rows
  rows_none none = ap (λ (x : Bool). leb p.start i && x) (none ((i - p.start) / p.row)) ∙ and-false (leb p.start i)

  module _ (t : ℕ → Bool) where
    pub rows_same : ((j : ℕ) → s j ≡ t j) → in_rows p s i ≡ in_rows p t i
    unfolding in_rows
    rows_same same = ap (λ (x : Bool). leb p.start i && x) (same ((i - p.start) / p.row))

    pub rows_among : ((j : ℕ) → s j ≡ true → t j ≡ true) → in_rows p s i ≡ true → in_rows p t i ≡ true
    unfolding in_rows
    rows_among among h = go (leb p.start i) ((i - p.start) / p.row) h
      where
        go : (a : Bool) (j : ℕ) → (a && s j) ≡ true → (a && t j) ≡ true
        go true j h = among j h
        go false j h = h

  -- one of two
  pub rows_either : (u t : ℕ → Bool) → ((j : ℕ) → (s j || u j) ≡ t j) → (in_rows p s i || in_rows p u i) ≡ in_rows p t i
  unfolding in_rows
  rows_either u t e =
      joined (leb p.start i) (s ((i - p.start) / p.row)) (u ((i - p.start) / p.row))
      ∙ ap (λ (x : Bool). leb p.start i && x) (e ((i - p.start) / p.row))
    where
      joined : (a x y : Bool) → ((a && x) || (a && y)) ≡ (a && (x || y))
      joined true x y = refl
      joined false x y = refl

  -- with one row pair more
  pub rows_beside : (t : ℕ → Bool) (k : ℕ) → 1 ≤ p.row → ((j : ℕ) → (s j || eqb j k) ≡ t j) → (in_rows p s i || between (row_start p k) (row_start p (k + 1)) i) ≡ in_rows p t i
  rows_beside t k some e =
      ap (λ (x : Bool). in_rows p s i || x) (sym (rows_between p k (k + 1) i some))
      ∙ rows_either (between k (k + 1)) t (λ j. ap (λ (x : Bool). s j || x) (between_one k j) ∙ e j)

pub rows_more : (p : Plane) (s t : ℕ → Bool) (k : ℕ) (f : ℕ → ℕ) (l : List ℕ) → 1 ≤ p.row → ((j : ℕ) → (s j || eqb j k) ≡ t j) → painted (between (row_start p k) (row_start p (k + 1))) f (painted (in_rows p s) f l) ≡ painted (in_rows p t) f l
rows_more p s t k f l some e = painted-over _ _ f l ∙ painted_cong _ _ f f l (λ i b. rows_beside p s i t k some e) (λ i b h. refl)

-- one selection after the other
pub rows_over : (p : Plane) (s u t : ℕ → Bool) (f : ℕ → ℕ) (l : List ℕ) → ((j : ℕ) → (s j || u j) ≡ t j) → painted (in_rows p u) f (painted (in_rows p s) f l) ≡ painted (in_rows p t) f l
rows_over p s u t f l e = painted-over _ _ f l ∙ painted_cong _ _ f f l (λ i b. rows_either p s i u t e) (λ i b h. refl)
