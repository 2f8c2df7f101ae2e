-- Reading field by field: the first failure met is the answer.
use Rattle.std.specs.Prelude.{Bool, cond, List, [], ◌∷◌, ℕ, zero, suc, ◌+◌, ◌*◌, leb, ltb, length, take, drop}
use Rattle.refusals.specs.Refusals.{number_of}
use Rattle.fields.specs.declared.Name.{Name}
use Rattle.fields.specs.declared.Width.{Width}
use Rattle.fields.specs.declared.Width.TheVariants.{One, Two, Four}
use Rattle.fields.specs.declared.Ask.{Ask}

-- what reading comes to: a refusal's number, the field that failed and the bytes from it on; or a value and the bytes after it
pub data Read (A : Type 0) : Type 0 where
  refused : ℕ → Name → List ℕ → Read A
  got : A → List ℕ → Read A

-- one reading after another; a failure ends it
infixl 1 ◌then◌
abbrev pub ◌then◌ : {A B : Type 0} → Read A → (A → List ℕ → Read B) → Read B
refused k name rest then next = refused k name rest
got a rest then next = next a rest

-- big-endian: the first byte is the greatest
unfoldable pub number_after : ℕ → List ℕ → ℕ
number_after v [] = v
number_after v (b ∷ bytes) = number_after (v * 256 + b) bytes

abbrev pub number : List ℕ → ℕ
number bytes = number_after 0 bytes

-- the number of the w bytes from a on, and 0 where they are not all there
abbrev pub number_at : List ℕ → ℕ → ℕ → ℕ
number_at bytes a w = cond (leb (a + w) (length bytes)) (number (take w (drop a bytes))) 0

abbrev pub wide : Width → ℕ
wide One = 1
wide Two = 2
wide Four = 4

-- a field: it runs past the bytes, or its value does not fit, and then the value says by which rule
unfoldable pub field : Ask → (ℕ → Bool) → (ℕ → ℕ) → List ℕ → Read ℕ
field a fits rule bytes =
    let w = wide a.width in
    let v = number (take w bytes) in
    cond (ltb (length bytes) w) (refused (number_of a.past) a.name bytes)
    (cond (fits v) (got v (drop w bytes)) (refused (rule v) a.name bytes))

-- the same reading n times, for the indices from i on
unfoldable pub repeated : {A : Type 0} → ℕ → ℕ → (ℕ → List ℕ → Read A) → List ℕ → Read (List A)
repeated i zero one bytes = got [] bytes
repeated i (suc n) one bytes = one i bytes then λ a rest. repeated (suc i) n one rest then λ more rest. got (a ∷ more) rest

-- a list filled up to n places
unfoldable pub padded : {A : Type 0} → ℕ → A → List A → List A
padded zero z l = []
padded (suc n) z [] = z ∷ padded n z []
padded (suc n) z (x ∷ l) = x ∷ padded n z l

-- bytes that are left over are refused k, under a name of their own
unfoldable pub ended : {A : Type 0} → Name → ℕ → A → List ℕ → Read A
ended name k a [] = got a []
ended name k a (b ∷ rest) = refused k name (b ∷ rest)
