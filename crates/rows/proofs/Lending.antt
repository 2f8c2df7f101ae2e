-- A row pair of a plane is lent as a part of each run, and what comes back is the run painted there; and so on, row pair by row pair. Assumes nothing.
use mathlib.Core.Path.{◌≡◌, refl, sym, ap, ap₂, subst, ◌∙◌}
use mathlib.Core.Bool.{Bool, true, false, ◌||◌, ◌&&◌, true≢false}
use mathlib.Core.List.{List}
use Prim.Native.Nat.{ℕ, ◌+◌, ◌-◌, ◌<◌, ◌≤◌, min}
use native.Mathlib.Nat.{mul-add, mul-le-mul_left}
use native.Mathlib.Omega.{arith}
use lib.ListN.{length}
use lib.Dec.{eqb}
use borrow.Rule.Slice.PartMut.{put_mid}
use Rattle.runs.specs.Runs.{painted, between}
use Rattle.runs.specs.inner.Loops.{below}
use Rattle.runs.proofs.Between.{in_between}
use Rattle.runs.proofs.Painting.{length-painted, painted_none}
use Rattle.runs.proofs.Parts.{part, length_part, at_part, painted-part}
use Rattle.marks.specs.inner.Marks.{not_full}
use Rattle.sums.specs.declared.Cut.{Cut}
use Rattle.spans.specs.inner.Spans.{entry, looked_up}
use Rattle.sums.specs.inner.Sums.{cut_of, added_up}
use Rattle.picture.specs.declared.Plane.{Plane}
use Rattle.picture.specs.inner.Planes.{row_start, in_rows, InPlane}
use Rattle.picture.proofs.Rows.{rows_none, rows_more, rows_over}
use Rattle.picture.proofs.Three.{lies_in, in_lies}
use Rattle.rows.specs.declared.Rows.{Rows}
use Rattle.rows.specs.inner.Rows.{RowsIn, lie, looked_up_rows, added_up_rows}

-- where row pair k ends
pub row_end : (p : Plane) (k : ℕ) → row_start p k + p.row ≡ row_start p (k + 1)
row_end p k = omega (arith, mul-add p.row k 1)

module _ (p : Plane) (k : ℕ) (l : List ℕ) (g : InPlane p k (k + 1) (length l)) where
  abbrev from : ℕ
  from = row_start p k

  abbrev to : ℕ
  to = row_start p k + p.row

  inside : to ≤ length l
  inside = omega (arith, row_end p k, g.within)

  pub lent_length : length (part from to l) ≡ to - from
  lent_length = length_part from to l inside

  -- the row pair put back into the output
  row_back : (mid : List ℕ) (s : ℕ → Bool) (v f : ℕ → ℕ) → ((j : ℕ) → j < to - from → s j ≡ true) → ((j : ℕ) → j < to - from → v j ≡ f (from + j)) → mid ≡ painted s v (part from to l) → put_mid from (to - from) l mid ≡ painted (between from (row_start p (k + 1))) f l
  row_back mid s v f all same e =
      ap (put_mid from (to - from) l) e
      ∙ painted-part from to l (omega arith) inside s v f all same
      ∙ ap (λ (n : ℕ). painted (between from n) f l) (row_end p k)

module _ (p : Plane) (k : ℕ) (base output mid : List ℕ) (b : InPlane p k (k + 1) (length base)) (o : InPlane p k (k + 1) (length output)) where
  abbrev lent : List ℕ → List ℕ
  lent l = part (row_start p k) (row_start p k + p.row) l

  pub looked_up-row : (table : List ℕ) → mid ≡ painted (below (length (lent base))) (looked_up table (lent base)) (lent output) → put_mid (row_start p k) (row_start p k + p.row - row_start p k) output mid ≡ painted (between (row_start p k) (row_start p (k + 1))) (looked_up table base) output
  unfolding looked_up
  looked_up-row table =
      row_back p k output o mid _ _ _
      (λ j h. in_between 0 (length (lent base)) j (omega arith) (omega (arith, lent_length p k base b)))
      (λ j h. ap (entry table) (at_part _ _ base j h))

  pub added_up-row : (enhancement mapped raised : List ℕ) (cut : Cut) → InPlane p k (k + 1) (length enhancement) → mid ≡ painted (below (min (length (lent base)) (length (lent enhancement)))) (added_up mapped raised cut (lent base) (lent enhancement)) (lent output) → put_mid (row_start p k) (row_start p k + p.row - row_start p k) output mid ≡ painted (between (row_start p k) (row_start p (k + 1))) (added_up mapped raised cut base enhancement) output
  unfolding added_up
  added_up-row enhancement mapped raised cut e =
      row_back p k output o mid _ _ _
      (λ j h. in_between 0 (min (length (lent base)) (length (lent enhancement))) j (omega arith) (omega (arith, lent_length p k base b, lent_length p k enhancement e)))
      (λ j h. ap₂ (λ (x y : ℕ). cut_of cut (entry mapped x + entry raised y)) (at_part _ _ base j h) (at_part _ _ enhancement j h))

-- ---- the loop over row pairs: the selected ones are painted so far
module _ (p : Plane) (f : ℕ → ℕ) (l : List ℕ) where
  pub rows_begun : (s : ℕ → Bool) → ((j : ℕ) → s j ≡ false) → l ≡ painted (in_rows p s) f l
  rows_begun s e = sym (painted_none _ f l (λ i b. rows_none p s i e))

  module _ (s t : ℕ → Bool) (now : List ℕ) (is : now ≡ painted (in_rows p s) f l) where
    -- one more
    pub rows_on : (k : ℕ) (after : List ℕ) → 1 ≤ p.row → ((j : ℕ) → (s j || eqb j k) ≡ t j) → after ≡ painted (between (row_start p k) (row_start p (k + 1))) f now → after ≡ painted (in_rows p t) f l
    rows_on k after some more q = q ∙ ap (painted _ f) is ∙ rows_more p s t k f l some more

    -- as many more as another painting selects
    pub rows_joined : (u : ℕ → Bool) (after : List ℕ) → ((j : ℕ) → (s j || u j) ≡ t j) → after ≡ painted (in_rows p u) f now → after ≡ painted (in_rows p t) f l
    rows_joined u after either q = q ∙ ap (painted _ f) is ∙ rows_over p s u t f l either

  -- after the last one, of those up to k
  pub rows_ended : (upto : ℕ → ℕ → Bool) (k last : ℕ) (now : List ℕ) → k ≤ last → last ≤ k → now ≡ painted (in_rows p (upto k)) f l → now ≡ painted (in_rows p (upto last)) f l
  rows_ended upto k last now a b e = let q : k ≡ last = omega arith in e ∙ ap (λ (n : ℕ). painted (in_rows p (upto n)) f l) q

-- row pair k of those that are named
pub row_of : (p : Plane) (first last n : ℕ) → InPlane p first last n → (k : ℕ) → k < last → InPlane p k (k + 1) n
row_of p first last n g k b = record { some_columns = g.some_columns; forward = omega arith; within = omega (arith, mul-le-mul_left p.row b, mul-add p.row k 1, g.within) }

-- those from k on
pub rows_from : (p : Plane) (first last n : ℕ) → InPlane p first last n → (k : ℕ) → k < last → InPlane p k last n
rows_from p first last n g k b = record { some_columns = g.some_columns; forward = omega arith; within = g.within }

pub rows_from_painted : (p : Plane) (first last : ℕ) (s : ℕ → Bool) (f : ℕ → ℕ) (l now : List ℕ) → InPlane p first last (length l) → now ≡ painted s f l → (k : ℕ) → k < last → InPlane p k last (length now)
rows_from_painted p first last s f l now g e k b =
    subst (λ (n : ℕ). InPlane p k last n) (sym (ap length e ∙ length-painted s f l)) (rows_from p first last (length l) g k b)

-- the same in an output that is painted already
pub row_of_painted : (p : Plane) (first last : ℕ) (s : ℕ → Bool) (f : ℕ → ℕ) (l now : List ℕ) → InPlane p first last (length l) → now ≡ painted s f l → (k : ℕ) → k < last → InPlane p k (k + 1) (length now)
row_of_painted p first last s f l now g e k b =
    subst (λ (n : ℕ). InPlane p k (k + 1) n) (sym (ap length e ∙ length-painted s f l)) (row_of p first last (length l) g k b)

-- ---- the whole, where the row pairs lie within the runs, and where they do not
pub both : (a b : Bool) → (a && b) ≡ true → (a ≡ true) × (b ≡ true)
both true b h = (refl, h)
both false b h = absurd (true≢false (sym h))

module _ (p : Plane) (r : Rows) where
  -- of two tests, that were made of two runs
  pub lie_both : (x y : Bool) (k l : List ℕ) → x ≡ lie p r k → y ≡ lie p r l → (x && y) ≡ true → RowsIn p r k × RowsIn p r l
  lie_both x y k l e f h =
      let t = both x y h in
      (lies_in p _ _ _ (sym e ∙ t.0), lies_in p _ _ _ (sym f ∙ t.1))

  pub lie-three : (x y z : Bool) (k l m : List ℕ) → x ≡ lie p r k → y ≡ lie p r l → z ≡ lie p r m → (x && (y && z)) ≡ true → RowsIn p r k × (RowsIn p r l × RowsIn p r m)
  lie-three x y z k l m e f g h =
      let t = both x (y && z) h in
      (lies_in p _ _ _ (sym e ∙ t.0), lie_both y z l m f g t.1)

  pub not_looked_up : (x y : Bool) (table marks k l : List ℕ) → x ≡ lie p r k → y ≡ lie p r l → (x && y) ≡ false → l ≡ looked_up_rows table p r marks k l
  unfolding looked_up_rows
  not_looked_up x y table marks k l e f h = let q : (lie p r k && lie p r l) ≡ false = sym (ap₂ ◌&&◌ e f) ∙ h in rw q

  pub not_added_up : (x y z : Bool) (mapped raised : List ℕ) (cut : Cut) (k l m : List ℕ) → x ≡ lie p r k → y ≡ lie p r l → z ≡ lie p r m → (x && (y && z)) ≡ false → m ≡ added_up_rows mapped raised cut p r k l m
  unfolding added_up_rows
  not_added_up x y z mapped raised cut k l m e f g h = let q : (lie p r k && (lie p r l && lie p r m)) ≡ false = sym (ap₂ ◌&&◌ e (ap₂ ◌&&◌ f g)) ∙ h in rw q

-- for whoever knows that they lie within the runs
module _ (p : Plane) (r : Rows) (base output : List ℕ) (b : RowsIn p r base) (o : RowsIn p r output) where
  pub all-looked_up : (table marks : List ℕ) → looked_up_rows table p r marks base output ≡ painted (in_rows p (not_full r.first r.last marks)) (looked_up table base) output
  unfolding looked_up_rows
  all-looked_up table marks = rw (in_lies p _ _ _ b, in_lies p _ _ _ o)

  pub all-added_up : (mapped raised : List ℕ) (cut : Cut) (enhancement : List ℕ) → RowsIn p r enhancement → added_up_rows mapped raised cut p r base enhancement output ≡ painted (in_rows p (between r.first r.last)) (added_up mapped raised cut base enhancement) output
  unfolding added_up_rows
  all-added_up mapped raised cut enhancement e = rw (in_lies p _ _ _ b, in_lies p _ _ _ e, in_lies p _ _ _ o)
