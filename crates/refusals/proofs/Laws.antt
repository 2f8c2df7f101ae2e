-- Lists of rules: what it says that none is met, and one list before another. Assumes nothing.
use mathlib.Core.Path.{◌≡◌, ◌∙◌, refl, sym, ap}
use mathlib.Core.Bool.{Bool, true, false, cond, not, ◌&&◌, ◌||◌, true≢false}
use mathlib.Core.List.{List, [], ◌∷◌}
use Prim.Native.Nat.{ℕ, zero, suc}
use native.Mathlib.Omega.{arith}
use lib.Dec.{eqb}
use Rattle.std.specs.Prelude.{Result, Ok, Err, get_or}
use Rattle.refusals.specs.declared.Refusal.{Refusal}
use Rattle.refusals.specs.declared.Refusal.TheVariants.{Short, Trailer, Length, Header, Field, Reserved, Plan, Ticket, Run, Rows, Sample, Room, Method}
use Rattle.refusals.specs.Refusals.{Rule, first_met, Outcome, outcome, granted, denied, number_of, number_in, says}

-- no rule of a list is met
abbrev pub Unmet : List Rule → Type 0
Unmet [] = Unit {0}
Unmet (r ∷ rs) = (r.met ≡ false) × Unmet rs

-- every rule has a number
abbrev numbered : List Rule → Bool
numbered [] = true
numbered (r ∷ rs) = not (eqb r.number 0) && numbered rs

passed : (b : Bool) (k x : ℕ) → not (eqb k 0) ≡ true → cond b k x ≡ 0 → (b ≡ false) × (x ≡ 0)
passed true zero x n h = absurd (true≢false (sym n))
passed true (suc k) x n h = absurd (omega arith)
passed false k x n h = (refl, h)

-- the first rule is not met, and neither is one of the others
pub not_first : (r : Rule) (rs : List Rule) → not (eqb r.number 0) ≡ true → first_met (r ∷ rs) ≡ 0 → (r.met ≡ false) × (first_met rs ≡ 0)
not_first r rs n h = passed r.met r.number (first_met rs) n h

both : (a b : Bool) → (a && b) ≡ true → (a ≡ true) × (b ≡ true)
both true b h = (refl, h)
both false b h = absurd (true≢false (sym h))

-- what acceptance gives: of the rules of a list, none is met
pub none_met : (rs : List Rule) → numbered rs ≡ true → first_met rs ≡ 0 → Unmet rs
none_met [] n h = tt
none_met (r ∷ rs) n h =
    let k = both (not (eqb r.number 0)) (numbered rs) n in
    let p = not_first r rs k.0 h in
    (p.0, none_met rs k.1 p.1)

-- ---- taking tests apart
pub neither : (a b : Bool) → (a || b) ≡ false → (a ≡ false) × (b ≡ false)
neither true b h = absurd (true≢false h)
neither false b h = (refl, h)

pub not_off : (a : Bool) → not a ≡ false → a ≡ true
not_off true h = refl
not_off false h = absurd (true≢false h)

pub where_on : (a b : Bool) → (a && b) ≡ false → a ≡ true → b ≡ false
where_on true b h e = h
where_on false b h e = absurd (true≢false (sym e))

-- ---- outcomes
pub outcome-granted : (x : ℕ) (values : List ℕ) → x ≡ 0 → granted values ≡ outcome x values
unfolding outcome
outcome-granted zero values e = refl
outcome-granted (suc x) values e = absurd (omega arith)

pub outcome-denied : (x k : ℕ) (values : List ℕ) → x ≡ k → (k ≡ 0 → ⊥) → denied k ≡ outcome x values
unfolding outcome
outcome-denied zero k values e n = absurd (n (sym e))
outcome-denied (suc x) k values e n = ap denied (sym e)

pub outcome-number : (k : ℕ) (values : List ℕ) → (outcome k values).number ≡ k
unfolding outcome
outcome-number zero values = refl
outcome-number (suc k) values = refl

-- ---- answers
-- the rule of a number
of_number : ℕ → Refusal
of_number n = get_or (Short ∷ Short ∷ Trailer ∷ Length ∷ Header ∷ Field ∷ Reserved ∷ Plan ∷ Ticket ∷ Run ∷ Rows ∷ Sample ∷ Room ∷ Method ∷ []) n Short

of_number-number_of : (r : Refusal) → of_number (number_of r) ≡ r
unfolding of_number
of_number-number_of Short = refl
of_number-number_of Trailer = refl
of_number-number_of Length = refl
of_number-number_of Header = refl
of_number-number_of Field = refl
of_number-number_of Reserved = refl
of_number-number_of Plan = refl
of_number-number_of Ticket = refl
of_number-number_of Run = refl
of_number-number_of Rows = refl
of_number-number_of Sample = refl
of_number-number_of Room = refl
of_number-number_of Method = refl

-- no two rules have one number
pub number_of-injective : (r s : Refusal) → number_of r ≡ number_of s → r ≡ s
number_of-injective r s e = sym (of_number-number_of r) ∙ ap of_number e ∙ of_number-number_of s

-- every rule has a number above 0
pub number_of-some : (r : Refusal) → number_of r ≡ 0 → ⊥
number_of-some Short e = omega arith
number_of-some Trailer e = omega arith
number_of-some Length e = omega arith
number_of-some Header e = omega arith
number_of-some Field e = omega arith
number_of-some Reserved e = omega arith
number_of-some Plan e = omega arith
number_of-some Ticket e = omega arith
number_of-some Run e = omega arith
number_of-some Rows e = omega arith
number_of-some Sample e = omega arith
number_of-some Room e = omega arith
number_of-some Method e = omega arith

-- answers whose values tell what they hold are told by what they say
pub says-injective : {A : Type 0} (values : A → List ℕ) → ((a b : A) → values a ≡ values b → a ≡ b) → (x y : Result A Refusal) → says values x ≡ says values y → x ≡ y
says-injective values tell (Ok a) (Ok b) e = ap Ok (tell a b (ap (λ (o : Outcome). o.values) e))
says-injective values tell (Ok a) (Err r) e = absurd (true≢false (sym (ap (λ (o : Outcome). o.refused) e)))
says-injective values tell (Err r) (Ok b) e = absurd (true≢false (ap (λ (o : Outcome). o.refused) e))
says-injective values tell (Err r) (Err s) e = ap Err (number_of-injective r s (ap (λ (o : Outcome). o.number) e))

-- the number that an answer says is its refusal's
pub says-number : {A : Type 0} (values : A → List ℕ) (x : Result A Refusal) → number_in x ≡ (says values x).number
says-number values (Ok a) = refl
says-number values (Err r) = refl
