-- One field: its bytes are all there or not, and what it holds fits or not. Assumes nothing.
use mathlib.Core.Path.{◌≡◌, refl, sym, ap, ◌∙◌}
use mathlib.Core.Bool.{Bool, true, false, cond}
use mathlib.Core.List.{List, [], ◌∷◌}
use Prim.Native.Nat.{ℕ, ◌≤◌, ◌<◌}
use native.Mathlib.Omega.{arith}
use lib.Dec.{ltb}
use lib.ListN.{length, take, drop}
use borrow.Author.Tests.{lt-ltb, le-ltb}
use Rattle.refusals.specs.Refusals.{number_of}
use Rattle.fields.specs.declared.Name.{Name}
use Rattle.fields.specs.declared.Ask.{Ask}
use Rattle.fields.specs.Fields.{refused, got, wide, number, field, ended}

module _ (a : Ask) (fits : ℕ → Bool) (rule : ℕ → ℕ) (bytes : List ℕ) where
  pub too_few : length bytes < wide a.width → refused (number_of a.past) a.name bytes ≡ field a fits rule bytes
  unfolding field
  too_few h = rw (lt-ltb _ _ h)

  pub enough : {w v : ℕ} {front back : List ℕ} → w ≡ wide a.width → w ≤ length bytes → front ≡ take w bytes → back ≡ drop w bytes → v ≡ number front → fits v ≡ true
      → got v back ≡ field a fits rule bytes
  unfolding field
  enough {w} {v} {front} {back} e h f b n t =
      let l : wide a.width ≤ length bytes = rw e at h in
      let is : number (take (wide a.width) bytes) ≡ v = sym (n ∙ ap number (f ∙ ap (λ (w : ℕ). take w bytes) e)) in
      rw (le-ltb _ _ l, is, t, b, e)

-- a field that was read, whatever it holds, and is then judged
module _ (a : Ask) (fits : ℕ → Bool) (rule : ℕ → ℕ) (bytes : List ℕ) where
  pub fails : {k : ℕ} {name : Name} {after : List ℕ} → refused k name after ≡ field a (λ v. true) (λ v. 0) bytes → refused k name bytes ≡ field a fits rule bytes
  unfolding field
  fails {k} {name} {after} e = go (ltb (length bytes) (wide a.width)) (number (take (wide a.width) bytes)) (drop (wide a.width) bytes) e
    where
      go : (s : Bool) (v : ℕ) (rest : List ℕ) → refused k name after ≡ cond s (refused (number_of a.past) a.name bytes) (got v rest)
          → refused k name bytes ≡ cond s (refused (number_of a.past) a.name bytes) (cond (fits v) (got v rest) (refused (rule v) a.name bytes))
      go true v rest e = cc
      go false v rest e = cc

  pub judged : {v : ℕ} {after : List ℕ} → got v after ≡ field a (λ v. true) (λ v. 0) bytes → cond (fits v) (got v after) (refused (rule v) a.name bytes) ≡ field a fits rule bytes
  unfolding field
  judged {v} {after} e = go (ltb (length bytes) (wide a.width)) (number (take (wide a.width) bytes)) (drop (wide a.width) bytes) e
    where
      go : (s : Bool) (x : ℕ) (rest : List ℕ) → got v after ≡ cond s (refused (number_of a.past) a.name bytes) (got x rest)
          → cond (fits v) (got v after) (refused (rule v) a.name bytes) ≡ cond s (refused (number_of a.past) a.name bytes) (cond (fits x) (got x rest) (refused (rule x) a.name bytes))
      go true x rest e = cc
      go false x rest e = cc

-- the end of the bytes
module _ {A : Type 0} (a : A) (name : Name) (k : ℕ) where
  pub none_left : (bytes : List ℕ) → length bytes ≡ 0 → got a bytes ≡ ended name k a bytes
  unfolding ended
  none_left [] e = refl
  none_left (b ∷ rest) e = absurd (omega arith)

  pub some_left : (bytes : List ℕ) → (length bytes ≡ 0 → ⊥) → refused k name bytes ≡ ended name k a bytes
  unfolding ended
  some_left [] f = absurd (f refl)
  some_left (b ∷ rest) f = refl

-- whatever was read before it
module _ {A B : Type 0} (a : A) (b : B) (name : Name) (k : ℕ) where
  pub ends : (bytes rest : List ℕ) → got a rest ≡ ended name k a bytes → got b rest ≡ ended name k b bytes
  unfolding ended
  ends [] rest e = cc
  ends (x ∷ bytes) rest e = cc

  pub goes_over : (bytes rest : List ℕ) (i : ℕ) (field : Name) → refused i field rest ≡ ended name k a bytes → refused i field rest ≡ ended name k b bytes
  unfolding ended
  goes_over [] rest i field e = cc
  goes_over (x ∷ bytes) rest i field e = cc
