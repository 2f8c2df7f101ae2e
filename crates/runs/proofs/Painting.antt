-- A run painted at selected places: what stands where, and painting again. Assumes nothing.
use mathlib.Core.Path.{◌≡◌, refl, sym, ap, ◌∙◌, subst}
use mathlib.Core.Bool.{Bool, true, false, ◌||◌, cond, or-false}
use mathlib.Core.List.{List, [], ◌∷◌}
use mathlib.Core.Logic.{⊎_elim}
use Prim.Native.Nat.{ℕ, zero, suc, ◌+◌, ◌≤◌, ◌<◌, min}
use native.Mathlib.Nat.{add-zero, zero-add, add-suc, suc-add, le_refl, le_of_suc-le-suc, not-suc-le-zero}
use native.Mathlib.Omega.{arith}
use native.Mathlib.Decide.{ℕ_discrete}
use lib.ListN.{length, get_or, set, length-set}
use lib.Seq.{ext_get_or, get_or-set_same, get_or-set_other}
use borrow.Author.Tests.{ne_eqb}
use Rattle.std.proofs.lemmas.Bool.{cases_lt}
use Rattle.runs.specs.Runs.{map_from, painted, between}
use Rattle.runs.specs.inner.Loops.{below}
use Rattle.runs.proofs.Between.{in_between, over-between, between_empty, between_more, between_join}

length-map_from : (f : ℕ → ℕ → ℕ) (k : ℕ) (l : List ℕ) → length (map_from f k l) ≡ length l
unfolding map_from
length-map_from f k [] = refl
length-map_from f k (x ∷ xs) = ap suc (length-map_from f (suc k) xs)

getD-map_from : (f : ℕ → ℕ → ℕ) (k : ℕ) (l : List ℕ) (i d : ℕ) → i < length l → get_or (map_from f k l) i d ≡ f (k + i) (get_or l i d)
unfolding map_from
getD-map_from f k [] i d h = absurd (not-suc-le-zero h)
getD-map_from f k (x ∷ xs) zero d h = rw add-zero
getD-map_from f k (x ∷ xs) (suc i) d h = getD-map_from f (suc k) xs i d (le_of_suc-le-suc h) ∙ ap (λ (n : ℕ). f n (get_or xs i d)) (suc-add k i ∙ sym (add-suc k i))

pub length-painted : (sel : ℕ → Bool) (new : ℕ → ℕ) (l : List ℕ) → length (painted sel new l) ≡ length l
unfolding painted
length-painted sel new l = length-map_from _ 0 l

-- what stands at an index
pub at-painted : (sel : ℕ → Bool) (new : ℕ → ℕ) (l : List ℕ) (i d : ℕ) → i < length l → get_or (painted sel new l) i d ≡ cond (sel i) (new i) (get_or l i d)
unfolding painted
at-painted sel new l i d h = getD-map_from _ 0 l i d h ∙ ap (λ (n : ℕ). cond (sel n) (new n) (get_or l i d)) (zero-add i)

-- a list is the painted one if it has its length and its elements
pub is_painted : (sel : ℕ → Bool) (new : ℕ → ℕ) (l m : List ℕ) → length m ≡ length l → ((i : ℕ) → i < length l → get_or m i 0 ≡ cond (sel i) (new i) (get_or l i 0)) → m ≡ painted sel new l
is_painted sel new l m e h =
    ext_get_or 0 m (painted sel new l) (e ∙ sym (length-painted sel new l))
    (λ i b. let b' : i < length l = subst (λ (n : ℕ). i < n) e b in h i b' ∙ sym (at-painted sel new l i 0 b'))

-- two paintings that select the same and put the same there are one
pub painted_cong : (s t : ℕ → Bool) (f g : ℕ → ℕ) (l : List ℕ) → ((i : ℕ) → i < length l → s i ≡ t i) → ((i : ℕ) → i < length l → t i ≡ true → f i ≡ g i) → painted s f l ≡ painted t g l
painted_cong s t f g l e h =
    is_painted t g l (painted s f l) (length-painted s f l)
    (λ i b. at-painted s f l i 0 b ∙ ap (λ (u : Bool). cond u (f i) (get_or l i 0)) (e i b) ∙ go (t i) i (h i b))
  where
    go : (u : Bool) (i : ℕ) → (u ≡ true → f i ≡ g i) → cond u (f i) (get_or l i 0) ≡ cond u (g i) (get_or l i 0)
    go true i q = q refl
    go false i q = refl

-- painting the same values over a painting selects what either does
pub painted-over : (s t : ℕ → Bool) (f : ℕ → ℕ) (l : List ℕ) → painted t f (painted s f l) ≡ painted (λ i. s i || t i) f l
painted-over s t f l =
    is_painted _ f l (painted t f (painted s f l)) (length-painted t f (painted s f l) ∙ length-painted s f l)
    (λ i b. at-painted t f (painted s f l) i 0 (subst (λ (n : ℕ). i < n) (sym (length-painted s f l)) b) ∙ ap (cond (t i) (f i)) (at-painted s f l i 0 b) ∙ go (s i) (t i) (f i) (get_or l i 0))
  where
    go : (a b : Bool) (x y : ℕ) → cond b x (cond a x y) ≡ cond (a || b) x y
    go true true x y = refl
    go true false x y = refl
    go false true x y = refl
    go false false x y = refl

-- painting on from where a painting ended
pub painted_on : (a b c : ℕ) (f : ℕ → ℕ) (l : List ℕ) → a ≤ b → b ≤ c → painted (between b c) f (painted (between a b) f l) ≡ painted (between a c) f l
painted_on a b c f l h k =
    painted-over (between a b) (between b c) f l
    ∙ painted_cong _ _ f f l (λ i m. between_join a b c i h k) (λ i m t. refl)

-- painting over a painting by a function of what stands there
pub painted_again : (s : ℕ → Bool) (f g : ℕ → ℕ) (l : List ℕ) → painted s (λ i. g (get_or (painted s f l) i 0)) (painted s f l) ≡ painted s (λ i. g (f i)) l
painted_again s f g l =
    is_painted s (λ i. g (f i)) l (painted s (λ i. g (get_or (painted s f l) i 0)) (painted s f l)) (length-painted s _ (painted s f l) ∙ length-painted s f l)
    (λ i b. at-painted s _ (painted s f l) i 0 (subst (λ (n : ℕ). i < n) (sym (length-painted s f l)) b) ∙ ap (λ (x : ℕ). cond (s i) (g x) x) (at-painted s f l i 0 b) ∙ go (s i) (f i) (get_or l i 0))
  where
    go : (u : Bool) (x y : ℕ) → cond u (g (cond u x y)) (cond u x y) ≡ cond u (g x) y
    go true x y = refl
    go false x y = refl

-- where nothing is selected the list is as it was
pub painted_none : (s : ℕ → Bool) (f : ℕ → ℕ) (l : List ℕ) → ((i : ℕ) → i < length l → s i ≡ false) → painted s f l ≡ l
painted_none s f l e = sym (is_painted s f l l refl (λ i b. sym (ap (λ (u : Bool). cond u (f i) (get_or l i 0)) (e i b))))

-- a loop that has painted from a to b finds the list as it was at b, and stores there
pub painted_ahead : (a b : ℕ) (f : ℕ → ℕ) (l : List ℕ) → b < length l → get_or (painted (between a b) f l) b 0 ≡ get_or l b 0
painted_ahead a b f l h = at-painted (between a b) f l b 0 h ∙ ap (λ (u : Bool). cond u (f b) (get_or l b 0)) (over-between a b b (le_refl b))

pub painted_more : (a b : ℕ) (f : ℕ → ℕ) (l : List ℕ) (v : ℕ) → a ≤ b → b < length l → v ≡ f b → set (painted (between a b) f l) b v ≡ painted (between a (b + 1)) f l
painted_more a b f l v h k q =
    is_painted (between a (b + 1)) f l (set (painted (between a b) f l) b v) (length-set (painted (between a b) f l) b v ∙ length-painted (between a b) f l)
    (λ i m. go i m (ℕ_discrete i b))
  where
    go : (i : ℕ) → i < length l → Dec (i ≡ b) → get_or (set (painted (between a b) f l) b v) i 0 ≡ cond (between a (b + 1) i) (f i) (get_or l i 0)
    go i m (yes e) = rw e (get_or-set_same (painted (between a b) f l) b v 0 (subst (λ (n : ℕ). b < n) (sym (length-painted (between a b) f l)) k) ∙ q ∙ sym (ap (λ (u : Bool). cond u (f b) (get_or l b 0)) (in_between a (b + 1) b h (omega arith))))
    go i m (no n) = get_or-set_other (painted (between a b) f l) b i v 0 n ∙ at-painted (between a b) f l i 0 m ∙ ap (λ (u : Bool). cond u (f i) (get_or l i 0)) (sym (between_more a b i h ∙ ap (λ (u : Bool). between a b i || u) (ne_eqb i b n) ∙ or-false (between a b i)))

-- a run that a loop has painted from a to i
pub record PaintedFrom (a : ℕ) (f : ℕ → ℕ) (l : List ℕ) (i : ℕ) (run : List ℕ) : Type 0 where
  pub from : a ≤ i
  pub is : run ≡ painted (between a i) f l
  pub long : length run ≡ length l

pub paint_none : (a : ℕ) (f : ℕ → ℕ) (l : List ℕ) → PaintedFrom a f l a l
paint_none a f l = record { from = le_refl a; is = sym (painted_none _ f l (λ i b. between_empty a i)); long = refl }

pub paint_more : {a : ℕ} {f : ℕ → ℕ} {l : List ℕ} {i : ℕ} {run : List ℕ} {v : ℕ} → PaintedFrom a f l i run → i < length l → v ≡ f i → PaintedFrom a f l (i + 1) (set run i v)
paint_more {a} {f} {l} {i} {run} {v} h b e =
    record {
      from = omega (arith, h.from);
      is = ap (λ r. set r i v) h.is ∙ painted_more a i f l v h.from b e;
      long = length-set run i v ∙ h.long;
    }

pub paint_two : {a : ℕ} {f : ℕ → ℕ} {l : List ℕ} {i : ℕ} {run : List ℕ} {v w : ℕ} → PaintedFrom a f l i run → i + 2 ≤ length l → v ≡ f i → w ≡ f (i + 1) → PaintedFrom a f l (i + 2) (set (set run i v) (i + 1) w)
paint_two {i = i} h long p q = let two : i + 2 ≡ i + 1 + 1 = omega arith in rw two (paint_more (paint_more h (omega arith) p) (omega arith) q)

pub paint_four : {a : ℕ} {f : ℕ → ℕ} {l : List ℕ} {i : ℕ} {run : List ℕ} {t u v w : ℕ} → PaintedFrom a f l i run → i + 4 ≤ length l → t ≡ f i → u ≡ f (i + 1) → v ≡ f (i + 2) → w ≡ f (i + 3) → PaintedFrom a f l (i + 4) (set (set (set (set run i t) (i + 1) u) (i + 2) v) (i + 3) w)
paint_four {i = i} h long p q r s =
    let three : i + 3 ≡ i + 2 + 1 = omega arith in
    let four : i + 4 ≡ i + 2 + 2 = omega arith in
    rw (three, four) (paint_two (paint_two h (omega arith) p q) (omega arith) r (rw (sym three) s))

-- a second loop goes on where the first ended
pub paint_on : {a b c : ℕ} {f : ℕ → ℕ} {l mid run : List ℕ} → PaintedFrom a f l b mid → PaintedFrom b f mid c run → PaintedFrom a f l c run
paint_on {a} {b} {c} {f} {l} g h =
    record {
      from = omega (arith, g.from, h.from);
      is = h.is ∙ ap (painted (between b c) f) g.is ∙ painted_on a b c f l g.from h.from;
      long = h.long ∙ g.long;
    }

-- to the end of a part
pub paint_part : {a : ℕ} {f : ℕ → ℕ} {l : List ℕ} {i : ℕ} {run : List ℕ} (n : ℕ) → PaintedFrom a f l i run → i ≡ n → run ≡ painted (between a n) f l
paint_part {a} {f} {l} n h e = h.is ∙ ap (λ (k : ℕ). painted (between a k) f l) e

-- to the end of the run, or as far as n
pub paint_all : {f : ℕ → ℕ} {l : List ℕ} {i : ℕ} {run : List ℕ} (n : ℕ) → PaintedFrom 0 f l i run → i ≡ min n (length l) → run ≡ painted (below n) f l
paint_all {f} {l} {i} n h e =
    h.is
    ∙ painted_cong (below i) (below n) f f l
    (λ k b. ⊎_elim
    (λ p. in_between 0 i k (omega arith) p ∙ sym (in_between 0 n k (omega arith) (omega arith)))
    (λ p. over-between 0 i k p ∙ sym (over-between 0 n k (omega arith)))
    (cases_lt k i))
    (λ k b t. refl)
