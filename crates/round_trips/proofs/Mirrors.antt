-- A reading and a writing that undo each other: what was written is read, and what is read was written so. One walk of a grammar by
-- these laws gives both round trips. Assumes nothing.
use mathlib.Core.Path.{◌≡◌, refl, sym, ap, ◌∙◌}
use mathlib.Core.Bool.{Bool, true, false, cond}
use mathlib.Core.List.{List, [], ◌∷◌, ◌++◌}
use Prim.Native.Nat.{ℕ, zero, suc, ◌^◌, ◌≤◌, ◌<◌}
use native.Mathlib.Nat.{suc_inj}
use native.Mathlib.Omega.{arith}
use lib.Dec.{ltb}
use lib.ListN.{length, take, drop, length-append, take-append-drop}
use lib.Pow.{are_bytes}
use lib.Seq.{take_at, drop_at, length-take-le}
use borrow.Author.Tests.{ltb-false, le-ltb}
use Rattle.plan.proofs.Truths.{both}
use Rattle.fields.specs.declared.Name.{Name}
use Rattle.fields.specs.declared.Ask.{Ask}
use Rattle.refusals.specs.Refusals.{number_of}
use Rattle.fields.specs.Fields.{Read, refused, got, ◌then◌, wide, number, field, repeated, ended}
use Rattle.fields.proofs.Giving.{Each}
use Rattle.pen.specs.Bytes.{bytes_of}
use Rattle.pen.proofs.Putting.{bytes_length}
use Rattle.round_trips.proofs.Digits.{spelled_back, read_as}

pub assoc : (a b c : List ℕ) → (a ++ b) ++ c ≡ a ++ (b ++ c)
assoc [] b c = refl
assoc (x ∷ a) b c = ap (λ (l : List ℕ). x ∷ l) (assoc a b c)

pub take_bytes : (n : ℕ) (l : List ℕ) → are_bytes l ≡ true → are_bytes (take n l) ≡ true
take_bytes zero l h = refl
take_bytes (suc n) [] h = refl
take_bytes (suc n) (b ∷ l) h = let p = both (ltb b 256) (are_bytes l) h in rw p.0 (take_bytes n l p.1)

pub drop_bytes : (n : ℕ) (l : List ℕ) → are_bytes l ≡ true → are_bytes (drop n l) ≡ true
drop_bytes zero l h = h
drop_bytes (suc n) [] h = refl
drop_bytes (suc n) (b ∷ l) h = drop_bytes n l (both (ltb b 256) (are_bytes l) h).1

-- what may follow: anything, or nothing
abbrev pub Any : List ℕ → Type 0
Any rest = Unit {0}

abbrev pub End : List ℕ → Type 0
End rest = rest ≡ []

-- what was read of these bytes was written so and has a property, and so has what follows
abbrev pub Spelled : {A : Type 0} → (List ℕ → Type 0) → (A → List ℕ) → (A → Type 0) → List ℕ → Read A → Type 0
Spelled R w Q bytes (refused k name rest) = Unit {0}
Spelled R w Q bytes (got a rest) = Q a × ((bytes ≡ w a ++ rest) × ((are_bytes rest ≡ true) × R rest))

-- a value with P is read as it is written, where R follows; what is read of bytes has Q, was written so, and R follows
pub record Mirrors {A : Type 0} (R : List ℕ → Type 0) (r : List ℕ → Read A) (w : A → List ℕ) (P Q : A → Type 0) : Type 0 where
  pub back : (a : A) → P a → (rest : List ℕ) → R rest → r (w a ++ rest) ≡ got a rest
  pub forth : (bytes : List ℕ) → are_bytes bytes ≡ true → Spelled R w Q bytes (r bytes)

-- a field
pub field_mirrors : (a : Ask) (fits : ℕ → Bool) (rule : ℕ → ℕ) → ((v : ℕ) → fits v ≡ true → v < 256 ^ wide a.width)
    → Mirrors Any (field a fits rule) (bytes_of (wide a.width)) (λ v. fits v ≡ true) (λ v. fits v ≡ true)
unfolding field
field_mirrors a fits rule small =
    record {
      back = λ v p rest _.
          let l = bytes_length w v in
          let long : w ≤ length (bytes_of w v ++ rest) = omega (arith, l, length-append (bytes_of w v) rest) in
          rw (le-ltb _ _ long, take_at (bytes_of w v) rest w l, spelled_back w v (small v p), p, drop_at (bytes_of w v) rest w l);
      forth = λ bytes h. go bytes h (ltb (length bytes) w) (fits (number (take w bytes))) refl refl;
    }
  where
    w : ℕ
    w = wide a.width

    go : (bytes : List ℕ) → are_bytes bytes ≡ true → (s t : Bool) → ltb (length bytes) (wide a.width) ≡ s → fits (number (take (wide a.width) bytes)) ≡ t
        → let v = number (take (wide a.width) bytes) in
        Spelled Any (bytes_of (wide a.width)) (λ v. fits v ≡ true) bytes (cond s (refused (number_of a.past) a.name bytes) (cond t (got v (drop (wide a.width) bytes)) (refused (rule v) a.name bytes)))
    go bytes h true t e f = tt
    go bytes h false true e f =
        let n = wide a.width in
        let long = length-take-le n bytes (ltb-false (length bytes) n e) in
        (f, (rw (read_as n (take n bytes) long (take_bytes n bytes h)) (sym (take-append-drop n bytes)), (drop_bytes n bytes h, tt)))
    go bytes h false false e f = tt

-- a reading, and what follows it
module _ {A C : Type 0} {r : List ℕ → Read A} {w : A → List ℕ} {P₁ Q₁ : A → Type 0} (m : Mirrors Any r w P₁ Q₁) where
  pub then_mirrors : {R : List ℕ → Type 0} {next : A → List ℕ → Read C} {w' : C → List ℕ} (first : C → A) (P Q : C → Type 0)
      → ((a : A) → Q₁ a → Mirrors R (next a) w' (λ c. (first c ≡ a) × P c) (λ c. (first c ≡ a) × Q c))
      → ((c : C) → P c → P₁ (first c) × Q₁ (first c))
      → Mirrors R (λ b. r b then next) (λ c. w (first c) ++ w' c) P Q
  then_mirrors {R} {next} {w'} first P Q n s =
      record {
        back = λ c p rest q.
            rw (assoc (w (first c)) (w' c) rest, m.back (first c) (s c p).0 (w' c ++ rest) tt) ((n (first c) (s c p).1).back c (refl, p) rest q);
        forth = λ bytes h. go bytes (r bytes) (m.forth bytes h);
      }
    where
      follow : (bytes : List ℕ) (a : A) (rest : List ℕ) → bytes ≡ w a ++ rest → (x : Read C) → Spelled R w' (λ c. (first c ≡ a) × Q c) rest x → Spelled R (λ c. w (first c) ++ w' c) Q bytes x
      follow bytes a rest e (refused k name left) t = tt
      follow bytes a rest e (got c left) t =
          (t.0.1, (e ∙ rw (t.1.0, ← t.0.0) (sym (assoc (w (first c)) (w' c) left)), t.1.1))

      go : (bytes : List ℕ) (x : Read A) → Spelled Any w Q₁ bytes x → Spelled R (λ c. w (first c) ++ w' c) Q bytes (x then next)
      go bytes (refused k name rest) t = tt
      go bytes (got a rest) t = follow bytes a rest t.1.0 (next a rest) ((n a t.0).forth rest t.1.1.0)

  -- the last reading, of which a value is made, and what has to follow it
  pub last_mirrors : {R : List ℕ → Type 0} {finish : C → List ℕ → Read C} → ((c : C) → Mirrors R (finish c) (λ _. []) (λ x. x ≡ c) (λ x. x ≡ c))
      → (make : A → C) (last : C → A) (P Q : C → Type 0)
      → ((c : C) → P c → P₁ (last c) × (make (last c) ≡ c))
      → ((a : A) → Q₁ a → (last (make a) ≡ a) × Q (make a))
      → Mirrors R (λ b. r b then λ a rest. finish (make a) rest) (λ c. w (last c)) P Q
  last_mirrors {R} {finish} n make last P Q s t =
      record {
        back = λ c p rest q. rw (m.back (last c) (s c p).0 rest tt, (s c p).1) ((n c).back c refl rest q);
        forth = λ bytes h. go bytes (r bytes) (m.forth bytes h);
      }
    where
      follow : (bytes : List ℕ) (a : A) (rest : List ℕ) → Q₁ a → bytes ≡ w a ++ rest → (x : Read C) → Spelled R (λ _. []) (λ x. x ≡ make a) rest x → Spelled R (λ c. w (last c)) Q bytes x
      follow bytes a rest q e (refused k name left) u = tt
      follow bytes a rest q e (got c left) u = rw u.0 ((t a q).1, (rw ((t a q).0, ← u.1.0) e, u.1.1))

      go : (bytes : List ℕ) (x : Read A) → Spelled Any w Q₁ bytes x → Spelled R (λ c. w (last c)) Q bytes (x then λ a rest. finish (make a) rest)
      go bytes (refused k name rest) u = tt
      go bytes (got a rest) u = follow bytes a rest u.0 u.1.0 (finish (make a) rest) ((n (make a)).forth rest u.1.1.0)

-- nothing more is read
pub done : {C : Type 0} (c : C) → Mirrors Any (got c) (λ _. []) (λ x. x ≡ c) (λ x. x ≡ c)
done c = record { back = λ x e rest _. rw e; forth = λ bytes h. (refl, (refl, (h, tt))) }

-- and nothing is left over
pub over : {C : Type 0} (name : Name) (k : ℕ) (c : C) → Mirrors End (ended name k c) (λ _. []) (λ x. x ≡ c) (λ x. x ≡ c)
unfolding ended
over name k c = record { back = λ x e rest z. rw (z, e); forth = λ bytes h. go bytes }
  where
    go : (bytes : List ℕ) → Spelled End (λ _. []) (λ x. x ≡ c) bytes (ended name k c bytes)
    go [] = (refl, (refl, (refl, refl)))
    go (b ∷ rest) = tt

-- other words for the same bytes
pub mirrors_as : {A : Type 0} {R : List ℕ → Type 0} {r : List ℕ → Read A} {w w' : A → List ℕ} {P Q : A → Type 0} → Mirrors R r w P Q → ((a : A) → P a → w a ≡ w' a) → ((a : A) → Q a → w a ≡ w' a) → Mirrors R r w' P Q
mirrors_as {A} {R} {r} {w} {w'} {P} {Q} m e f =
    record { back = λ a p rest q. rw (← e a p) (m.back a p rest q); forth = λ bytes h. go bytes (r bytes) (m.forth bytes h) }
  where
    go : (bytes : List ℕ) (x : Read A) → Spelled R w Q bytes x → Spelled R w' Q bytes x
    go bytes (refused k name rest) t = tt
    go bytes (got a rest) t = (t.0, (rw (← f a t.0) t.1.0, t.1.1))

-- the same reading several times
abbrev pub each_of : {A : Type 0} → (A → List ℕ) → List A → List ℕ
each_of w [] = []
each_of w (a ∷ l) = w a ++ each_of w l

module _ {A : Type 0} (one : ℕ → List ℕ → Read A) (w : A → List ℕ) (P Q : A → Type 0) (m : (i : ℕ) → Mirrors Any (one i) w P Q) where
  repeated_back : (n i : ℕ) (l : List A) → length l ≡ n → Each P l → (rest : List ℕ) → repeated i n one (each_of w l ++ rest) ≡ got l rest
  unfolding repeated
  repeated_back zero i [] e p rest = refl
  repeated_back zero i (a ∷ l) e p rest = absurd (omega arith)
  repeated_back (suc n) i [] e p rest = absurd (omega arith)
  repeated_back (suc n) i (a ∷ l) e p rest =
      rw (assoc (w a) (each_of w l) rest, (m i).back a p.0 (each_of w l ++ rest) tt, repeated_back n (suc i) l (suc_inj e) p.1 rest)

  abbrev Several : ℕ → List ℕ → Read (List A) → Type 0
  Several n bytes x = Spelled Any (each_of w) (λ l. (length l ≡ n) × Each Q l) bytes x

  repeated_forth : (n i : ℕ) (bytes : List ℕ) → are_bytes bytes ≡ true → Several n bytes (repeated i n one bytes)
  unfolding repeated
  repeated_forth zero i bytes h = ((refl, tt), (refl, (h, tt)))
  repeated_forth (suc n) i bytes h = first (repeated_forth n (suc i)) (one i bytes) ((m i).forth bytes h)
    where
      second : (a : A) (rest : List ℕ) → Q a → bytes ≡ w a ++ rest → (x : Read (List A)) → Several n rest x → Several (suc n) bytes (x then λ more left. got (a ∷ more) left)
      second a rest q e (refused k name left) t = tt
      second a rest q e (got l left) t = ((ap suc t.0.0, (q, t.0.1)), (e ∙ rw t.1.0 (sym (assoc (w a) (each_of w l) left)), t.1.1))

      first : ((rest : List ℕ) → are_bytes rest ≡ true → Several n rest (repeated (suc i) n one rest)) → (x : Read A) → Spelled Any w Q bytes x → Several (suc n) bytes (x then λ a rest. repeated (suc i) n one rest then λ more left. got (a ∷ more) left)
      first f (refused k name rest) t = tt
      first f (got a rest) t = second a rest t.0 t.1.0 (repeated (suc i) n one rest) (f rest t.1.1.0)

  pub repeated_mirrors : (i n : ℕ) → Mirrors Any (repeated i n one) (each_of w) (λ l. (length l ≡ n) × Each P l) (λ l. (length l ≡ n) × Each Q l)
  repeated_mirrors i n = record { back = λ l p rest _. repeated_back n i l p.0 p.1 rest; forth = λ bytes h. repeated_forth n i bytes h }
