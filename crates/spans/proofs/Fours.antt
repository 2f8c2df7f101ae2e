-- Four samples in one number, what it gives of each, and where it puts them. Assumes nothing.
use mathlib.Core.Path.{◌≡◌, ap, subst, ◌∙◌}
use mathlib.Core.List.{List}
use Prim.Native.Nat.{ℕ, zero, suc, ◌+◌, ◌-◌, ◌*◌, ◌/◌, ◌%◌, ◌^◌, ◌<◌, ◌≤◌}
use native.Mathlib.Nat.{add-zero}
use native.Mathlib.Omega.{arith}
use lib.Arith.{digits_div}
use lib.ListN.{length, set}
use borrow.Author.Tests.{le-ltb}
use borrow.Rule.Slice.PartMut.{put_mid}
use Rattle.runs.specs.Runs.{painted, between}
use Rattle.runs.specs.inner.Loops.{at, below}
use Rattle.runs.proofs.Between.{in_between}
use Rattle.runs.proofs.Painting.{PaintedFrom, length-painted, painted_on, paint_none, paint_four, paint_on, paint_part}
use Rattle.runs.proofs.Parts.{part, length_part, at_part, painted-part}
use Rattle.spans.specs.inner.Spans.{four, sample_of, put_four, Given, Joins}

pub joined : (run : List ℕ) → 4 ≤ length run → at run 0 + at run 1 * 2 ^ 16 + at run 2 * 2 ^ 32 + at run 3 * 2 ^ 48 ≡ four run
unfolding four
joined run h = rw (le-ltb (length run) 4 h)

module _ (run : List ℕ) (p : at run 0 < 2 ^ 16) (q : at run 1 < 2 ^ 16) (r : at run 2 < 2 ^ 16) (s : at run 3 < 2 ^ 16) where
  abbrev low : ℕ
  low = at run 0 + at run 1 * 2 ^ 16 + at run 2 * 2 ^ 32

  -- no sample reaches the next one's bits
  pub given : 4 ≤ length run → Given run 0 (four run)
  unfolding four
  given h =
      let under : low < 2 ^ 48 = omega arith in
      let e : low + at run 3 * 2 ^ 48 ≡ at run 3 * 2 ^ 48 + low = omega arith in
      rw (le-ltb (length run) 4 h)
      (record {
        first = omega arith;
        second = omega arith;
        third = omega arith;
        fourth = rw (e, digits_div (at run 3) under);
      })

-- of a part of a run, it gives four samples of the run
pub given-at : (i : ℕ) (run : List ℕ) {w : ℕ} → i + 4 ≤ length run → (4 ≤ length (part i (i + 4) run) → Given (part i (i + 4) run) 0 w) → Given run i w
given-at i run h f =
    let g = f (omega (arith, length_part i (i + 4) run h)) in
    record {
      first = g.first ∙ same 0 (omega arith) ∙ rw add-zero;
      second = g.second ∙ same 1 (omega arith);
      third = g.third ∙ same 2 (omega arith);
      fourth = g.fourth ∙ same 3 (omega arith);
    }
  where
    same : (k : ℕ) → k < i + 4 - i → at (part i (i + 4) run) k % 1024 ≡ at run (i + k) % 1024
    same k b = ap (λ (n : ℕ). n % 1024) (at_part i (i + 4) run k b)

-- four numbers joined
abbrev pub four_of : ℕ → ℕ → ℕ → ℕ → ℕ
four_of a b c d = a + b * 2 ^ 16 + c * 2 ^ 32 + d * 2 ^ 48

module _ {a b c d : ℕ} (p : a < 2 ^ 16) (q : b < 2 ^ 16) (r : c < 2 ^ 16) (s : d < 2 ^ 16) where
  first_of : sample_of (four_of a b c d) 0 ≡ a
  unfolding sample_of
  first_of = omega arith

  second_of : sample_of (four_of a b c d) 1 ≡ b
  unfolding sample_of
  second_of = omega arith

  -- the upper ones stand above so many bits of the lower ones
  third_of : sample_of (four_of a b c d) 2 ≡ c
  unfolding sample_of
  third_of =
      let under : a + b * 2 ^ 16 < 2 ^ 32 = omega arith in
      let e : four_of a b c d ≡ (c + d * 2 ^ 16) * 2 ^ 32 + (a + b * 2 ^ 16) = omega arith in
      let m : (c + d * 2 ^ 16) % 65536 ≡ c = omega arith in
      rw (e, digits_div (c + d * 2 ^ 16) under) m

  fourth_of : sample_of (four_of a b c d) 3 ≡ d
  unfolding sample_of
  fourth_of =
      let under : a + b * 2 ^ 16 + c * 2 ^ 32 < 2 ^ 48 = omega arith in
      let e : four_of a b c d ≡ d * 2 ^ 48 + (a + b * 2 ^ 16 + c * 2 ^ 32) = omega arith in
      let m : d % 65536 ≡ d = omega arith in
      rw (e, digits_div d under) m

  pub joins : (i : ℕ) (f : ℕ → ℕ) → a ≡ f i → b ≡ f (i + 1) → c ≡ f (i + 2) → d ≡ f (i + 3) → Joins f i (four_of a b c d)
  joins i f at-0 at_1 at-2 at-3 zero h = first_of ∙ at-0 ∙ rw add-zero
  joins i f at-0 at_1 at-2 at-3 (suc zero) h = second_of ∙ at_1
  joins i f at-0 at_1 at-2 at-3 (suc (suc zero)) h = third_of ∙ at-2
  joins i f at-0 at_1 at-2 at-3 (suc (suc (suc zero))) h = fourth_of ∙ at-3
  joins i f at-0 at_1 at-2 at-3 (suc (suc (suc (suc j)))) h = absurd (omega arith)

-- stored in a part of a run, they stand in the run
pub four_put : (i x : ℕ) (f : ℕ → ℕ) (l mid : List ℕ) → Joins f i x → i + 4 ≤ length l → mid ≡ put_four x (part i (i + 4) l) → put_mid i (i + 4 - i) l mid ≡ painted (between i (i + 4)) f l
unfolding put_four
four_put i x f l mid g h e =
    let n : length (part i (i + 4) l) ≡ i + 4 - i = length_part i (i + 4) l h in
    let enough : 4 ≤ length (part i (i + 4) l) = omega (arith, n) in
    let put : put_four x (part i (i + 4) l) ≡ painted (below 4) (sample_of x) (part i (i + 4) l) = rw (le-ltb (length (part i (i + 4) l)) 4 enough) in
    ap (put_mid i (i + 4 - i) l) (e ∙ put)
    ∙ painted-part i (i + 4) l (omega arith) h (below 4) (sample_of x) f
    (λ j b. in_between 0 4 j (omega arith) (omega arith))
    (λ j b. g j (omega arith))

-- and four more behind them
pub eight_put : (i x y : ℕ) (f : ℕ → ℕ) (l mid last : List ℕ) → Joins f i x → Joins f (i + 4) y → i + 8 ≤ length l → mid ≡ put_four x (part i (i + 4) l) → last ≡ put_four y (part (i + 4) (i + 4 + 4) (put_mid i (i + 4 - i) l mid)) → put_mid (i + 4) (i + 4 + 4 - (i + 4)) (put_mid i (i + 4 - i) l mid) last ≡ painted (between i (i + 8)) f l
eight_put i x y f l mid last g k h p q =
    let first = four_put i x f l mid g (omega arith) p in
    let long : length (put_mid i (i + 4 - i) l mid) ≡ length l = ap length first ∙ length-painted _ f l in
    let e : i + 4 + 4 ≡ i + 8 = omega arith in
    four_put (i + 4) y f _ last k (omega (arith, long)) q
    ∙ ap (painted _ f) first
    ∙ painted_on i (i + 4) (i + 4 + 4) f l (omega arith) (omega arith)
    ∙ ap (λ (n : ℕ). painted (between i n) f l) e

-- four stores, of each sample of a number
pub four_stored : (x : ℕ) (run : List ℕ) → 4 ≤ length run → set (set (set (set run 0 (x % 65536)) 1 (x / 2 ^ 16 % 65536)) 2 (x / 2 ^ 32 % 65536)) 3 (x / 2 ^ 48 % 65536) ≡ put_four x run
unfolding put_four sample_of
four_stored x run h = rw (le-ltb (length run) 4 h) (paint_part 4 (paint_four (paint_none 0 (sample_of x) run) h (omega arith) (omega arith) (omega arith) (omega arith)) (omega arith))

-- ---- a loop that paints several places a turn
pub paint_turn : {a : ℕ} {f : ℕ → ℕ} {l : List ℕ} {i j : ℕ} (k : ℕ) {run after : List ℕ} → PaintedFrom a f l i run → i ≤ j → k ≡ j → after ≡ painted (between i j) f run → PaintedFrom a f l k after
paint_turn k g h e p = rw e (paint_on g (record { from = h; is = p; long = ap length p ∙ length-painted _ _ _ }))

-- before the first turn, and from the last one on
pub paint_begun : (a i : ℕ) (f : ℕ → ℕ) (l : List ℕ) → i ≡ a → PaintedFrom a f l i l
paint_begun a i f l e = rw e (paint_none a f l)

pub paint_from : {a b c d : ℕ} {f : ℕ → ℕ} {l mid run : List ℕ} → PaintedFrom a f l b mid → c ≡ b → PaintedFrom c f mid d run → PaintedFrom a f l d run
paint_from {d = d} {f = f} {mid = mid} {run = run} g e h = paint_on g (subst (λ (n : ℕ). PaintedFrom n f mid d run) e h)
