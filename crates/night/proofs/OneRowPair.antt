-- What jobs do to one row pair, by whether some named it and some made it full: a full one stays full. Assumes nothing.
use mathlib.Core.Path.{◌≡◌, refl}
use mathlib.Core.Bool.{Bool, true, false, not, ◌&&◌, ◌||◌, cond}
use Prim.Native.Nat.{ℕ}
use Rattle.marks.specs.Marks.{full}

-- what stands there afterwards: what is full where some job made it full, what is base only where some job named it that was not
-- full, and otherwise what stood there
abbrev pub after : Bool → Bool → Bool → ℕ → ℕ → ℕ → ℕ
after whole named was_full x y z = cond whole x (cond (named && not was_full) y z)

-- one job, accepted or not, that names the row pair or not and makes full ones or not
pub one_job : (accepted names whole was_full : Bool) (v x y z : ℕ) → ((accepted && names) ≡ true → whole ≡ true → v ≡ x) → ((accepted && names) ≡ true → whole ≡ false → v ≡ y) → cond (accepted && (names && (whole || not was_full))) v z ≡ after ((accepted && names) && whole) (accepted && names) was_full x y z
one_job true true true q v x y z f g = f refl refl
one_job true true false true v x y z f g = refl
one_job true true false false v x y z f g = g refl refl
one_job true false w q v x y z f g = refl
one_job false n w q v x y z f g = refl

-- whether the mark says full after it
abbrev pub full_then : Bool → Bool → Bool → Bool
full_then whole named was_full = cond whole true (cond (named && not was_full) false was_full)

pub mark_then : (whole named : Bool) (mark : ℕ) → full (after whole named (full mark) 1 2 mark) ≡ full_then whole named (full mark)
unfolding full
mark_then true named mark = refl
mark_then false named mark = go (named && not (full mark))
  where
    go : (u : Bool) → full (cond u 2 mark) ≡ cond u false (full mark)
    go true = refl
    go false = refl

-- some jobs after one
pub one_more : (w n w' n' q : Bool) (x y z : ℕ) → after w' n' (full_then w n q) x y (after w n q x y z) ≡ after (w || w') (n || n') q x y z
one_more true n true n' q x y z = refl
one_more true n false true q x y z = refl
one_more true n false false q x y z = refl
one_more false true true n' true x y z = refl
one_more false true false true true x y z = refl
one_more false true false false true x y z = refl
one_more false true true n' false x y z = refl
one_more false true false true false x y z = refl
one_more false true false false false x y z = refl
one_more false false w' n' q x y z = refl
