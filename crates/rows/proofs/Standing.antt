-- Row pairs that stand apart, those between which are full: what is painted of four of them, and what of one. Assumes nothing.
use mathlib.Core.Path.{◌≡◌, refl, sym, ap, ◌∙◌}
use mathlib.Core.Bool.{true, false}
use mathlib.Core.List.{List}
use mathlib.Core.Logic.{⊎_elim}
use Prim.Native.Nat.{ℕ, ◌+◌, ◌<◌, ◌≤◌, min}
use native.Mathlib.Nat.{le_refl}
use native.Mathlib.Omega.{arith}
use Rattle.runs.specs.Runs.{painted, between}
use Rattle.std.proofs.lemmas.Bool.{cases_lt}
use Rattle.marks.specs.Marks.{full_at}
use Rattle.marks.specs.inner.Marks.{not_full}
use Rattle.marks.proofs.Keeping.{none_yet, one_more, one_kept, next_more}
use Rattle.spans.specs.inner.Spans.{FourWithin, in_four}
use Rattle.spans.proofs.InStep.{four-painted}
use Rattle.picture.specs.declared.Plane.{Plane}
use Rattle.picture.specs.inner.Planes.{row_start, in_rows, InPlane}
use Rattle.rows.specs.inner.Rows.{Next}
use Rattle.rows.proofs.Lending.{row_end, row_of, rows_begun, rows_on}

-- ---- the search for the next one that is not full: those after k up to j are full
abbrev pub FullUpTo : List ℕ → ℕ → ℕ → Type 0
FullUpTo marks k j = (i : ℕ) → k < i → i ≤ j → full_at marks i ≡ true

module _ (marks : List ℕ) (k : ℕ) where
  pub full_begun : FullUpTo marks k k
  full_begun i p q = absurd (omega arith)

  module _ (j : ℕ) (from : k ≤ j) (full : FullUpTo marks k j) where
    pub full_on : full_at marks (j + 1) ≡ true → FullUpTo marks k (j + 1)
    full_on h i p q = ⊎_elim
        (λ (b : i < j + 1). full i p (omega arith))
        (λ (b : j + 1 ≤ i). let e : i ≡ j + 1 = omega arith in rw e h)
        (cases_lt i (j + 1))

    pub found_next : (last : ℕ) → j < last → full_at marks (j + 1) ≡ false → Next marks k last (j + 1)
    found_next last b h = record { from = omega arith; ahead = λ a. omega arith; upto = omega arith; full_between = λ i p q. full i p (omega arith); kept_not = λ a. h }

    pub none_next : (last : ℕ) → j ≤ last → last ≤ j → Next marks k last j
    none_next last b e = record { from = from; ahead = λ a. omega arith; upto = b; full_between = λ i p q. full i p (omega arith); kept_not = λ a. absurd (omega arith) }

-- ---- four row pairs of those that lie within two runs
pub four_stand : (p : Plane) (first last x y : ℕ) → InPlane p first last x → InPlane p first last y → (a b c d : ℕ) → a < last → b < last → c < last → d < last → FourWithin (row_start p a) (row_start p b) (row_start p c) (row_start p d) p.row (min x y)
four_stand p first last x y g h a b c d i j k m = record { first = stands a i; second = stands b j; third = stands c k; fourth = stands d m }
  where
    stands : (r : ℕ) → r < last → row_start p r + p.row ≤ min x y
    stands r e = omega (arith, row_end p r, (row_of p first last x g r e).within, (row_of p first last y h r e).within)

module _ (p : Plane) (marks : List ℕ) (f : ℕ → ℕ) (l : List ℕ) (k : ℕ) where
  -- one that is full is kept
  pub kept_next : full_at marks k ≡ true → l ≡ painted (in_rows p (not_full k (k + 1) marks)) f l
  kept_next h = rows_begun p f l _ (λ j. sym (one_kept k marks k (le_refl k) j h) ∙ none_yet k marks j)

  module _ (some : 1 ≤ p.row) (not_kept : full_at marks k ≡ false) where
    -- one that is not
    pub one_next : (after : List ℕ) → after ≡ painted (between (row_start p k) (row_start p (k + 1))) f l → after ≡ painted (in_rows p (not_full k (k + 1) marks)) f l
    one_next after e =
        rows_on p f l (not_full k k marks) _ l (rows_begun p f l _ (none_yet k marks)) k after some (λ j. one_more k marks k (le_refl k) j not_kept) e

    -- and the next one, behind those up to r
    module _ (r next last : ℕ) (from : k ≤ r) (n : Next marks r last next) (in_rows_named : next < last) where
      and_next : (now after : List ℕ) → now ≡ painted (in_rows p (not_full k (r + 1) marks)) f l → after ≡ painted (between (row_start p next) (row_start p next + p.row)) f now → after ≡ painted (in_rows p (not_full k (next + 1) marks)) f l
      and_next now after is e =
          let ahead : r < next = n.ahead (omega (arith, n.from)) in
          rows_on p f l _ _ now is next after some
          (next_more k marks r next from ahead n.full_between (n.kept_not in_rows_named))
          (e ∙ ap (λ (m : ℕ). painted (between (row_start p next) m) f now) (row_end p next))

    -- four of them, in step
    module _ (b c d last : ℕ) (n : Next marks k last b) (m : Next marks b last c) (o : Next marks c last d) (in_time : d < last) where
      abbrev stretch : ℕ → List ℕ → List ℕ
      stretch r = painted (between (row_start p r) (row_start p r + p.row)) f

      pub four_next : (after : List ℕ) → after ≡ painted (in_four (row_start p k) (row_start p b) (row_start p c) (row_start p d) p.row) f l → after ≡ painted (in_rows p (not_full k (d + 1) marks)) f l
      four_next after e =
          let first = one_next (stretch k l) (ap (λ (r : ℕ). painted (between (row_start p k) r) f l) (row_end p k)) in
          let second = and_next k b last (le_refl k) n (omega (arith, m.from, o.from)) _ (stretch b (stretch k l)) first refl in
          let third = and_next b c last n.from m (omega (arith, o.from)) _ (stretch c (stretch b (stretch k l))) second refl in
          and_next c d last (omega (arith, n.from, m.from)) o in_time _ after third (e ∙ sym (four-painted (row_start p k) (row_start p b) (row_start p c) (row_start p d) p.row f l))
