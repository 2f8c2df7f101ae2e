-- Bytes that are put one after the other, once or in a loop. Assumes nothing.
use mathlib.Core.Path.{◌≡◌, refl, sym, ap, ap₂, subst, ◌∙◌}
use mathlib.Core.Bool.{Bool}
use mathlib.Core.List.{List, [], ◌++◌}
use mathlib.Core.Logic.{⊎_elim}
use Prim.Native.Nat.{ℕ, zero, suc, ◌+◌, ◌*◌, ◌≤◌, ◌<◌}
use native.Mathlib.Nat.{add_assoc, add-zero, zero-mul, suc-mul, le_of_suc-le-suc, not-suc-le-zero, eq-or-lt_of_le, le_antisymm, le_refl}
use native.Mathlib.Numerals.{add-one}
use native.Mathlib.Omega.{arith}
use lib.IntN.{ℤ}
use lib.ListN.{length, drop, length-append}
use lib.Seq.{length-sets, sets-eq}
use borrow.Author.Tests.{le-leb}
use Rattle.pen.specs.Bytes.{bytes_of, number_bytes, in_turn}
use Rattle.pen.specs.inner.Putting.{put_at, integer_bytes, put_number, Inked}
use Rattle.pen.proofs.Putting.{bytes_length, number-length, put_all, sets_on}

pub nothing : {s : List ℕ} {at : ℕ} → Inked s at [] s at
nothing {at = at} = record { is = refl; place = sym (add-zero at) }

-- from the first byte on
pub from_front : {s s' : List ℕ} {next : ℕ} {bytes : List ℕ} → Inked s 0 bytes s' next → length bytes ≤ length s → s' ≡ bytes ++ drop (length bytes) s
from_front {s} {bytes = bytes} p h =
    let e : 0 + length bytes ≡ length bytes = omega arith in
    p.is ∙ sets-eq bytes s 0 (omega arith) ∙ rw e

-- bytes that fit
pub inked : {s s' : List ℕ} {at : ℕ} (bytes : List ℕ) → at + length bytes ≤ length s → s' ≡ put_at s at bytes → Inked s at bytes s' (at + length bytes)
inked {s} {s'} {at} bytes h e = record { is = e ∙ sym (put_all s at refl h); place = refl }

-- numbers that fit
module _ {s s' : List ℕ} {at : ℕ} where
  pub one_inked : (v : ℕ) → at + 1 ≤ length s → s' ≡ put_at s at (bytes_of 1 v) → Inked s at (bytes_of 1 v) s' (at + 1)
  unfolding bytes_of
  one_inked v h e = inked (bytes_of 1 v) h e

  pub two_inked : (v : ℕ) → at + 2 ≤ length s → s' ≡ put_at s at (bytes_of 2 v) → Inked s at (bytes_of 2 v) s' (at + 2)
  unfolding bytes_of
  two_inked v h e = inked (bytes_of 2 v) h e

  pub number_inked : (long : Bool) (d : ℕ) (z : ℤ) → let w = integer_bytes long in d ≤ 32 → at + (w + 4) ≤ length s → s' ≡ put_number s at long d z → Inked s at (number_bytes w d z) s' (at + (w + 4))
  number_inked long d z k h e =
      let l = number-length (integer_bytes long) d z in
      rw (← l) (inked (number_bytes (integer_bytes long) d z) (rw l h) (rw (le-leb d 32 k) at e))

pub two_length : (v : ℕ) → length (bytes_of 2 v) ≡ 2
two_length v = bytes_length 2 v

-- what follows
pub on : {s s' s'' : List ℕ} {at next last : ℕ} {a b : List ℕ} → Inked s at a s' next → Inked s' next b s'' last → Inked s at (a ++ b) s'' last
on {s} {s'} {s''} {at} {next} {last} {a} {b} p q =
    record { is = q.is ∙ rw (p.is, p.place) (sets_on a b s at); place = q.place ∙ rw (p.place, length-append a b) (add_assoc at (length a) (length b)) }

pub same_length : {s s' : List ℕ} {at next : ℕ} {bytes : List ℕ} → Inked s at bytes s' next → length s' ≡ length s
same_length {s} {at = at} {bytes = bytes} p = ap length p.is ∙ length-sets s at bytes

-- bytes that follow what was put
pub then_put : {s s' s'' : List ℕ} {at next : ℕ} {a : List ℕ} (bytes : List ℕ) (m : ℕ) → Inked s at a s' next → next ≡ m → m + length bytes ≤ length s → s'' ≡ put_at s' m bytes → Inked s at (a ++ bytes) s'' (m + length bytes)
then_put bytes m p e r f = on (rw e at p) (inked bytes (rw (same_length p) r) f)

module _ (bytes : ℕ → List ℕ) where
  pub no_turn : length (in_turn 0 bytes) ≡ 0
  unfolding in_turn
  no_turn = refl

  pub turn_length : (i : ℕ) → length (in_turn (i + 1) bytes) ≡ length (in_turn i bytes) + length (bytes i)
  unfolding in_turn
  turn_length i = rw (add-one i) (length-append (in_turn i bytes) (bytes i))

  -- each turn's bytes lie within those of all
  within : (k i : ℕ) → i < k → length (in_turn i bytes) + length (bytes i) ≤ length (in_turn k bytes)
  unfolding in_turn
  within zero i h = absurd (not-suc-le-zero h)
  within (suc k) i h =
      let l = length-append (in_turn k bytes) (bytes k) in
      ⊎_elim (λ e. rw e (omega (arith, l))) (λ m. omega (arith, l, within k i m)) (eq-or-lt_of_le (le_of_suc-le-suc h))

  -- where all have one length
  pub turns_length : (w : ℕ) → ((i : ℕ) → length (bytes i) ≡ w) → (k : ℕ) → length (in_turn k bytes) ≡ k * w
  unfolding in_turn
  turns_length w e zero = sym (zero-mul w)
  turns_length w e (suc k) = length-append (in_turn k bytes) (bytes k) ∙ rw (e k, turns_length w e k) (sym (suc-mul k w))

  -- where each is as long as another's
  pub turns_alike : (others : ℕ → List ℕ) → ((i : ℕ) → length (bytes i) ≡ length (others i)) → (k : ℕ) → length (in_turn k bytes) ≡ length (in_turn k others)
  unfolding in_turn
  turns_alike others e zero = refl
  turns_alike others e (suc k) = length-append (in_turn k bytes) (bytes k) ∙ rw (e k, turns_alike others e k) (sym (length-append (in_turn k others) (others k)))

  -- where each is another's
  pub turns_same : (others : ℕ → List ℕ) (k : ℕ) → ((i : ℕ) → i < k → bytes i ≡ others i) → in_turn k bytes ≡ in_turn k others
  unfolding in_turn
  turns_same others zero e = refl
  turns_same others (suc k) e = ap₂ (λ (a b : List ℕ). a ++ b) (turns_same others k (λ i h. e i (omega arith))) (e k (omega arith))

  -- where each has a to b bytes
  pub turns_between : (a b k : ℕ) → ((i : ℕ) → i < k → (a ≤ length (bytes i)) × (length (bytes i) ≤ b)) → (k * a ≤ length (in_turn k bytes)) × (length (in_turn k bytes) ≤ k * b)
  unfolding in_turn
  turns_between a b zero f = (omega (arith, zero-mul a), omega arith)
  turns_between a b (suc k) f =
      let r = turns_between a b k (λ i h. f i (le_suc h)) in
      let l = length-append (in_turn k bytes) (bytes k) in
      let t = f k (le_refl (suc k)) in
      (omega (arith, suc-mul k a, l, r.0, t.0), omega (arith, suc-mul k b, l, r.1, t.1))
    where
      le_suc : {i k : ℕ} → i < k → i < suc k
      le_suc h = omega arith

-- i of k turns are written, and the others fit
pub record Turns (bytes : ℕ → List ℕ) (k : ℕ) (s : List ℕ) (at : ℕ) (s' : List ℕ) (next i : ℕ) : Type 0 where
  pub few : i ≤ k
  pub fits : at + length (in_turn k bytes) ≤ length s
  pub so_far : Inked s at (in_turn i bytes) s' next

module _ {bytes : ℕ → List ℕ} {k : ℕ} {s : List ℕ} {at : ℕ} where
  pub begun : at + length (in_turn k bytes) ≤ length s → Turns bytes k s at s at 0
  unfolding in_turn
  begun h = record { few = omega arith; fits = h; so_far = nothing }

  module _ {s' : List ℕ} {next i : ℕ} (t : Turns bytes k s at s' next i) where
    -- there is room for the next turn
    pub room : i < k → next + length (bytes i) ≤ length s'
    room h = omega (arith, t.fits, t.so_far.place, same_length t.so_far, within bytes k i h)

    pub room_for : {w : ℕ} → i < k → length (bytes i) ≡ w → next + w ≤ length s'
    room_for h e = rw (← e) (room h)

    pub turned : {s'' : List ℕ} {last : ℕ} → i < k → Inked s' next (bytes i) s'' last → Turns bytes k s at s'' last (i + 1)
    unfolding in_turn
    turned h q = record { few = omega arith; fits = t.fits; so_far = rw (add-one i) (on t.so_far q) }

    pub ended : k ≤ i → Inked s at (in_turn k bytes) s' next
    ended h = subst (λ (j : ℕ). Inked s at (in_turn j bytes) s' next) (le_antisymm t.few h) t.so_far
