-- A part of a run that is painted, and put back into the run. Assumes nothing.
use mathlib.Core.Path.{◌≡◌, sym, ap, ◌∙◌}
use mathlib.Core.Bool.{Bool, true, cond}
use mathlib.Core.List.{List}
use mathlib.Core.Logic.{⊎_elim}
use Prim.Native.Nat.{ℕ, ◌+◌, ◌-◌, ◌<◌, ◌≤◌}
use native.Mathlib.Omega.{arith}
use lib.ListN.{length, get_or, take, drop, length-take, length-drop, get_or-append}
use lib.Seq.{get_or-take, get_or-drop, get_or-append-add, length-take-le}
use borrow.Rule.Slice.PartMut.{put_mid, same_len_mid, mid_len, Post-is}
use Rattle.std.proofs.lemmas.Bool.{cases_lt}
use Rattle.runs.specs.Runs.{painted, between}
use Rattle.runs.proofs.Between.{in_between, under-between, over-between}
use Rattle.runs.proofs.Painting.{length-painted, at-painted, is_painted}

-- a part of a run, as a slice of it is lent
abbrev pub part : ℕ → ℕ → List ℕ → List ℕ
part from to l = take (to - from) (drop from l)

pub length_part : (from to : ℕ) (l : List ℕ) → to ≤ length l → length (part from to l) ≡ to - from
length_part from to l t = simp (length-take, length-drop) (omega arith)

pub at_part : (from to : ℕ) (l : List ℕ) (k : ℕ) → k < to - from → get_or (part from to l) k 0 ≡ get_or l (from + k) 0
at_part from to l k b = get_or-take (to - from) (drop from l) k 0 b ∙ get_or-drop from l k 0

module _ (a b : ℕ) (l : List ℕ) (forward : a ≤ b) (inside : b ≤ length l) (s : ℕ → Bool) (g f : ℕ → ℕ) (all : (j : ℕ) → j < b - a → s j ≡ true) (same : (j : ℕ) → j < b - a → g j ≡ f (a + j)) where
  lent : List ℕ
  lent = painted s g (part a b l)

  lent_length : length lent ≡ b - a
  unfolding lent
  lent_length = length-painted s g (part a b l) ∙ length_part a b l inside

  before : length (take a l) ≡ a
  before = length-take-le a l (omega arith)

  -- before the part, in it, and after it
  first : (i : ℕ) → i < a → get_or (put_mid a (b - a) l lent) i 0 ≡ get_or l i 0
  first i h = get_or-append (take a l) _ 0 i (omega (arith, before)) ∙ get_or-take a l i 0 h

  inner : (j : ℕ) → j < b - a → get_or (put_mid a (b - a) l lent) (a + j) 0 ≡ f (a + j)
  unfolding lent
  inner j h =
      ap (λ (n : ℕ). get_or (put_mid a (b - a) l lent) (n + j) 0) (sym before)
      ∙ get_or-append-add (take a l) _ j 0
      ∙ get_or-append lent _ 0 j (omega (arith, lent_length))
      ∙ at-painted s g (part a b l) j 0 (omega (arith, length_part a b l inside))
      ∙ ap (λ (u : Bool). cond u (g j) (get_or (part a b l) j 0)) (all j h)
      ∙ same j h

  last : (j : ℕ) → get_or (put_mid a (b - a) l lent) (b + j) 0 ≡ get_or l (b + j) 0
  last j =
      let e : b + j ≡ length (take a l) + (length lent + j) = omega (arith, before, lent_length) in
      ap (λ (n : ℕ). get_or (put_mid a (b - a) l lent) n 0) e
      ∙ get_or-append-add (take a l) _ (length lent + j) 0
      ∙ get_or-append-add lent _ j 0
      ∙ ap (λ (r : List ℕ). get_or r j 0) (Post-is a b l forward)
      ∙ get_or-drop b l j 0

  pub painted-part : put_mid a (b - a) l (painted s g (part a b l)) ≡ painted (between a b) f l
  unfolding lent
  painted-part =
      is_painted (between a b) f l _ (same_len_mid a (b - a) l lent (lent_length ∙ sym (mid_len a b l inside)))
      (λ i h.
      ⊎_elim
      (λ u. first i u ∙ sym (ap (λ (x : Bool). cond x (f i) (get_or l i 0)) (under-between a b i u)))
      (λ u.
      ⊎_elim
      (λ v. let e : a + (i - a) ≡ i = omega arith in ap (λ (n : ℕ). get_or (put_mid a (b - a) l lent) n 0) (sym e) ∙ inner (i - a) (omega arith) ∙ ap f e ∙ sym (ap (λ (x : Bool). cond x (f i) (get_or l i 0)) (in_between a b i u v)))
      (λ v. let e : b + (i - b) ≡ i = omega arith in ap (λ (n : ℕ). get_or (put_mid a (b - a) l lent) n 0) (sym e) ∙ last (i - b) ∙ ap (λ (n : ℕ). get_or l n 0) e ∙ sym (ap (λ (x : Bool). cond x (f i) (get_or l i 0)) (over-between a b i v)))
      (cases_lt i b))
      (cases_lt i a))
