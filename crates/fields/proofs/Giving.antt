-- What a reading gives: a refusal has a number, and a value has a property. One walk of a grammar by these laws serves whatever is to be
-- known of what it reads. Assumes nothing.
use mathlib.Core.Path.{◌≡◌, refl, ap}
use mathlib.Core.Bool.{Bool, true, false, cond}
use mathlib.Core.List.{List, [], ◌∷◌}
use Prim.Native.Nat.{ℕ, zero, suc}
use lib.Dec.{ltb}
use lib.ListN.{length, take, drop}
use Rattle.refusals.specs.declared.Refusal.{Refusal}
use Rattle.refusals.specs.declared.Refusal.TheVariants.{Short, Trailer, Length, Header, Field, Reserved, Plan, Ticket, Run, Rows, Sample, Room, Method}
use Rattle.refusals.specs.Refusals.{number_of}
use Rattle.fields.specs.declared.Name.{Name}
use Rattle.fields.specs.declared.Ask.{Ask}
use Rattle.fields.specs.Fields.{Read, refused, got, ◌then◌, wide, number, field, repeated, ended}

-- a property of each element of a list
abbrev pub Each : {A : Type 0} → (A → Type 0) → List A → Type 0
Each P [] = Unit {0}
Each P (a ∷ l) = P a × Each P l

abbrev pub Gives : {A : Type 0} → (A → Type 0) → Read A → Type 0
Gives P (refused k name rest) = k ≡ 0 → ⊥
Gives P (got a rest) = P a

pub then_gives : {A B : Type 0} (P : A → Type 0) (Q : B → Type 0) (r : Read A) (next : A → List ℕ → Read B) → Gives P r → ((a : A) → P a → (rest : List ℕ) → Gives Q (next a rest)) → Gives Q (r then next)
then_gives P Q (refused k name rest) next g f = g
then_gives P Q (got a rest) next g f = f a g rest

-- a rule has a number
numbered : (r : Refusal) → number_of r ≡ 0 → ⊥
numbered Short e = cc
numbered Trailer e = cc
numbered Length e = cc
numbered Header e = cc
numbered Field e = cc
numbered Reserved e = cc
numbered Plan e = cc
numbered Ticket e = cc
numbered Run e = cc
numbered Rows e = cc
numbered Sample e = cc
numbered Room e = cc
numbered Method e = cc

-- a field's value fits
pub field_gives : (a : Ask) (fits : ℕ → Bool) (rule : ℕ → ℕ) → ((v : ℕ) → rule v ≡ 0 → ⊥) → (bytes : List ℕ) → Gives (λ v. fits v ≡ true) (field a fits rule bytes)
unfolding field
field_gives a fits rule some bytes = go (ltb (length bytes) (wide a.width)) (fits (number (take (wide a.width) bytes))) refl
  where
    go : (s t : Bool) → let w = wide a.width in let v = number (take w bytes) in fits v ≡ t → Gives (λ v. fits v ≡ true) (cond s (refused (number_of a.past) a.name bytes) (cond t (got v (drop w bytes)) (refused (rule v) a.name bytes)))
    go true t e = numbered a.past
    go false true e = e
    go false false e = some _

pub repeated_gives : {A : Type 0} (P : A → Type 0) (i n : ℕ) (one : ℕ → List ℕ → Read A) → ((i : ℕ) (bytes : List ℕ) → Gives P (one i bytes)) → (bytes : List ℕ) → Gives (λ l. (length l ≡ n) × Each P l) (repeated i n one bytes)
unfolding repeated
repeated_gives P i zero one f bytes = (refl, tt)
repeated_gives P i (suc n) one f bytes =
    then_gives P _ (one i bytes) _ (f i bytes)
    (λ a p rest. then_gives (λ l. (length l ≡ n) × Each P l) _ (repeated (suc i) n one rest) _ (repeated_gives P (suc i) n one f rest)
    (λ l q rest. (ap suc q.0, (p, q.1))))

pub ended_gives : {A : Type 0} (P : A → Type 0) (name : Name) (k : ℕ) (a : A) → (k ≡ 0 → ⊥) → P a → (bytes : List ℕ) → Gives P (ended name k a bytes)
unfolding ended
ended_gives P name k a some p [] = p
ended_gives P name k a some p (x ∷ rest) = some
