-- The bits of six runs joined in step: they reach a power of two where those of one of the runs do. Assumes nothing.
use mathlib.Core.Path.{◌≡◌, refl, sym, ap, ap₂, ◌∙◌}
use mathlib.Core.Bool.{Bool, true, false, ◌||◌, or-true, or_self}
use mathlib.Core.List.{List}
use mathlib.Core.Logic.{⊎_elim}
use Prim.Native.Nat.{ℕ, zero, suc, ◌+◌, ◌≤◌, ◌^◌}
use native.Mathlib.Nat.{le_trans}
use native.Mathlib.Numerals.{add-one}
use native.Mathlib.Omega.{arith}
use lib.Bits.{bit_or, or_lt}
use lib.Dec.{leb}
use lib.ListN.{length, take}
use lib.Seq.{take_all}
use borrow.Author.Tests.{le-leb, lt-leb}
use Rattle.runs.specs.Runs.{between, some, at_least}
use Rattle.runs.specs.inner.Loops.{at, joined, joined_after}
use Rattle.std.proofs.lemmas.Bool.{cases_lt}
use Rattle.std.proofs.lemmas.Nat.{le_or_l, le_or_r}
use Rattle.runs.proofs.Joined.{joined_more, reached}
use Rattle.runs.proofs.Parts.{part, length_part}
use Rattle.spans.specs.inner.Spans.{bits_below, joined_six, six_at, places_of_six}

-- one place more
pub bits_more : (f : ℕ → ℕ) (i x : ℕ) → x ≡ bits_below f i → bit_or x (f i) ≡ bits_below f (i + 1)
unfolding bits_below
bits_more f i x e = rw add-one (ap (λ (y : ℕ). bit_or y (f i)) e)

-- of one run, they are its bits
passed : (l : List ℕ) (n : ℕ) → n ≤ length l → bits_below (at l) n ≡ joined (take n l)
unfolding bits_below joined_after
passed l zero h = refl
passed l (suc n) h = ap (λ (x : ℕ). bit_or x (at l n)) (passed l n (omega arith)) ∙ sym (joined_more 0 l n h)

all-passed : (l : List ℕ) (n : ℕ) → length l ≡ n → bits_below (at l) n ≡ joined l
all-passed l n e = passed l n (omega arith) ∙ ap joined (take_all n l (omega arith))

swap : (p q r s : Bool) → ((p || q) || (r || s)) ≡ ((p || r) || (q || s))
swap true q r s = refl
swap false true true s = refl
swap false true false s = refl
swap false false r s = refl

-- whether bits reach a power of two
module _ (k : ℕ) where
  abbrev reach : ℕ → Bool
  reach x = leb (2 ^ k) x

  reach_or : (x y : ℕ) → reach (bit_or x y) ≡ (reach x || reach y)
  reach_or x y = ⊎_elim
      (λ u. ⊎_elim
      (λ v. lt-leb (2 ^ k) _ (or_lt k x y u v) ∙ sym (ap₂ ◌||◌ (lt-leb (2 ^ k) x u) (lt-leb (2 ^ k) y v)))
      (λ v. le-leb (2 ^ k) _ (le_trans v (le_or_r x y)) ∙ sym (ap (λ (b : Bool). reach x || b) (le-leb (2 ^ k) y v) ∙ or-true (reach x)))
      (cases_lt y (2 ^ k)))
      (λ u. le-leb (2 ^ k) _ (le_trans u (le_or_l x y)) ∙ sym (ap (λ (b : Bool). b || reach y) (le-leb (2 ^ k) x u)))
      (cases_lt x (2 ^ k))

  -- two sequences in step
  reach_both : (f g : ℕ → ℕ) (n : ℕ) → reach (bits_below (λ i. bit_or (f i) (g i)) n) ≡ (reach (bits_below f n) || reach (bits_below g n))
  unfolding bits_below
  reach_both f g zero = sym (or_self _)
  reach_both f g (suc n) =
      reach_or _ _
      ∙ ap₂ ◌||◌ (reach_both f g n) (reach_or (f n) (g n))
      ∙ swap (reach (bits_below f n)) (reach (bits_below g n)) (reach (f n)) (reach (g n))
      ∙ sym (ap₂ ◌||◌ (reach_or (bits_below f n) (f n)) (reach_or (bits_below g n) (g n)))

  -- a run of n samples, and whether its bits do
  abbrev pub Tells : ℕ → List ℕ → Bool → Type 0
  Tells n l t = (length l ≡ n) × (reach (joined l) ≡ t)

  pub part_tells : (from n : ℕ) (l : List ℕ) → from + n ≤ length l → Tells n (part from (from + n) l) (some (between from (from + n)) (at_least (2 ^ k)) l)
  part_tells from n l h = (length_part from (from + n) l h ∙ omega arith, reached from (from + n) l (omega arith) h k)

  pub reach_six : (a b c d e f : List ℕ) {p q r s t u : Bool} (n : ℕ) → Tells n a p → Tells n b q → Tells n c r → Tells n d s → Tells n e t → Tells n f u → reach (joined_six a b c d e f) ≡ ((p || q) || ((r || s) || (t || u)))
  unfolding joined_six
  reach_six a b c d e f n p q r s t u =
      ap (λ (m : ℕ). reach (bits_below (six_at a b c d e f) m)) all
      ∙ reach_both _ _ n
      ∙ ap₂ ◌||◌ (two a b p q) (reach_both _ _ n ∙ ap₂ ◌||◌ (two c d r s) (two e f t u))
    where
      all : places_of_six a b c d e f ≡ n
      all = omega (arith, p.0, q.0, r.0, s.0, t.0, u.0)

      one : (l : List ℕ) {v : Bool} → Tells n l v → reach (bits_below (at l) n) ≡ v
      one l g = ap reach (all-passed l n g.0) ∙ g.1

      two : (l m : List ℕ) {v w : Bool} → Tells n l v → Tells n m w → reach (bits_below (λ i. bit_or (at l i) (at m i)) n) ≡ (v || w)
      two l m g h = reach_both (at l) (at m) n ∙ ap₂ ◌||◌ (one l g) (one m h)
