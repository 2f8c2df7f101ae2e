-- What stands in a table, and an array of zeros that is filled from the front until it is a table. Assumes nothing.
use mathlib.Core.Path.{◌≡◌, refl, sym, ap, subst, ◌∙◌}
use mathlib.Core.Bool.{Bool, true, false, cond}
use mathlib.Core.List.{List}
use mathlib.Core.Logic.{⊎_elim}
use Prim.Native.Nat.{ℕ, zero, suc, ◌+◌, ◌<◌, ◌≤◌}
use native.Mathlib.Nat.{le_of_suc-le-suc, not-suc-le-zero}
use native.Mathlib.Omega.{arith}
use borrow.Author.Tests.{lt-ltb, le-ltb}
use lib.ListN.{length, get_or, set, replicate, length-set, length-replicate}
use lib.Seq.{ext_get_or, get_or-set_other}
use Rattle.std.proofs.lemmas.Bool.{cases_lt}
use Rattle.runs.specs.Runs.{painted, between}
use Rattle.runs.specs.inner.Tables.{table, coded}
use Rattle.runs.proofs.Between.{in_between, under-between, over-between}
use Rattle.runs.proofs.Filling.{filled_more}
use Rattle.runs.proofs.Painting.{length-painted, at-painted}

pub length-table : (n : ℕ) (f : ℕ → ℕ) → length (table n f) ≡ n
unfolding table
length-table zero f = refl
length-table (suc n) f = ap suc (length-table n (λ i. f (suc i)))

pub at_table : (n : ℕ) (f : ℕ → ℕ) (i : ℕ) → i < n → get_or (table n f) i 0 ≡ f i
unfolding table
at_table zero f i h = absurd (not-suc-le-zero h)
at_table (suc n) f zero h = refl
at_table (suc n) f (suc i) h = at_table n (λ j. f (suc j)) i (le_of_suc-le-suc h)

-- f stands at the places up to i, and 0 at the others
pub record Filled (n : ℕ) (f : ℕ → ℕ) (i : ℕ) (l : List ℕ) : Type 0 where
  pub long : length l ≡ n
  pub done : (j : ℕ) → j < i → get_or l j 0 ≡ f j
  pub rest : (j : ℕ) → i ≤ j → j < n → get_or l j 0 ≡ 0

zeros : (n j : ℕ) → ◌≡◌ {A = ℕ} (get_or (replicate n 0) j 0) 0
zeros zero j = refl
zeros (suc n) zero = refl
zeros (suc n) (suc j) = zeros n j

-- zeros are filled as far as f is 0
pub fill_none : (n : ℕ) (f : ℕ → ℕ) (i : ℕ) → ((j : ℕ) → j < i → f j ≡ 0) → Filled n f i (replicate n 0)
fill_none n f i z = record { long = length-replicate n 0; done = λ j h. zeros n j ∙ sym (z j h); rest = λ j h b. zeros n j }

-- one store more
pub fill_more : {n i : ℕ} {f : ℕ → ℕ} {l : List ℕ} {v : ℕ} → Filled n f i l → i < n → v ≡ f i → Filled n f (i + 1) (set l i v)
fill_more {i = i} {f = f} {l = l} {v = v} h b e =
    record {
      long = length-set l i v ∙ h.long;
      done = filled_more 0 l i v f (omega (arith, h.long)) h.done e;
      rest = λ j k m. get_or-set_other l i j v 0 (λ e. omega arith) ∙ h.rest j (omega arith) m;
    }

-- a stretch more, painted
pub fill_painted : {n a b : ℕ} {f : ℕ → ℕ} {l m : List ℕ} (g : ℕ → ℕ) → Filled n f a l → a ≤ b → b ≤ n → m ≡ painted (between a b) g l → ((j : ℕ) → a ≤ j → j < b → g j ≡ f j) → Filled n f b m
fill_painted {n} {a} {b} {f} {l} g h o few e same =
    let at : (j : ℕ) → j < n → get_or (painted (between a b) g l) j 0 ≡ cond (between a b j) (g j) (get_or l j 0) = λ j k. at-painted (between a b) g l j 0 (omega (arith, h.long)) in
    rw e
    (record {
      long = length-painted (between a b) g l ∙ h.long;
      done = λ j k. at j (omega arith) ∙ ⊎_elim (λ q. rw (under-between a b j q) (h.done j q)) (λ q. rw (in_between a b j q k) (same j q k)) (cases_lt j a);
      rest = λ j k q. at j q ∙ rw (over-between a b j k) (h.rest j (omega arith) q);
    })

-- as far as it was filled the table has f, and from there on 0
pub fill_all : {n i : ℕ} {f : ℕ → ℕ} {l : List ℕ} (g : ℕ → ℕ) → Filled n f i l → ((j : ℕ) → j < i → j < n → f j ≡ g j) → ((j : ℕ) → i ≤ j → j < n → 0 ≡ g j) → l ≡ table n g
fill_all {n} {i} {f} {l} g h below above =
    ext_get_or 0 l (table n g) (h.long ∙ sym (length-table n g))
    (λ j b.
    let k : j < n = subst (λ (m : ℕ). j < m) h.long b in
    ⊎_elim (λ p. h.done j p ∙ below j p k) (λ p. h.rest j p k ∙ above j p k) (cases_lt j i) ∙ sym (at_table n g j k))

pub zero_table : (n : ℕ) (g : ℕ → ℕ) → ((j : ℕ) → 0 ≡ g j) → replicate n 0 ≡ table n g
zero_table n g z = fill_all g (fill_none n g 0 (λ j h. sym (z j))) (λ j h b. refl) (λ j h b. z j)

-- a code, and what is none
pub coded_in : (n : ℕ) (f : ℕ → ℕ) (s : ℕ) {u : Bool} → u ≡ true → s < n → coded u n f s ≡ f s
unfolding coded
coded_in n f s e b = rw (e, lt-ltb s n b)

pub coded_past : (u : Bool) (n : ℕ) (f : ℕ → ℕ) (s : ℕ) → n ≤ s → 0 ≡ coded u n f s
unfolding coded
coded_past true n f s b = rw (le-ltb s n b)
coded_past false n f s b = refl

-- a table of codes: filled as far as there are codes, or zeros where they cannot be computed with
pub fill_codes : {n i m : ℕ} {f : ℕ → ℕ} {l : List ℕ} {u : Bool} (g : ℕ → ℕ) → u ≡ true → i ≡ m → Filled n f i l → ((j : ℕ) → f j ≡ g j) → l ≡ table n (coded u m g)
fill_codes {m = m} {u = u} g e k h same =
    fill_all (coded u m g) h (λ j a b. same j ∙ sym (coded_in m g j e (omega arith))) (λ j a b. coded_past u m g j (omega arith))

pub no_codes : (n m : ℕ) (g : ℕ → ℕ) {u : Bool} → u ≡ false → replicate n 0 ≡ table n (coded u m g)
unfolding coded
no_codes n m g {u} e = zero_table n (coded u m g) (λ j. rw e)
