-- The rules of a lent table in their order, by the tests that were made. Assumes nothing.
use mathlib.Core.Path.{◌≡◌, refl, sym, ap}
use mathlib.Core.Bool.{Bool, true, false, not, ◌&&◌, ◌||◌, cond, true≢false}
use Prim.Native.Nat.{ℕ}
use Rattle.std.specs.Prelude.{Result, Ok, Err}
use Rattle.refusals.specs.declared.Refusal.{Refusal}
use Rattle.refusals.specs.declared.Refusal.TheVariants.{Plan}
use Rattle.refusals.specs.Refusals.{number_of}
use Rattle.table_rules.specs.declared.Method.{Method}
use Rattle.table_rules.specs.declared.Method.TheVariants.{Polynomials, Mmr}

-- ---- what a plan is
abbrev pub Found : Bool → Bool → Result Method Refusal
Found fits mmr = cond fits (Ok (cond mmr Mmr Polynomials)) (Err Plan)

pub polynomials_alone : (fits mmr : Bool) → (fits && not mmr) ≡ true → Ok Polynomials ≡ Found fits mmr
polynomials_alone false m e = absurd (true≢false (sym e))
polynomials_alone true true e = absurd (true≢false (sym e))
polynomials_alone true false e = refl

pub mmr_too : (fits mmr : Bool) → (fits && not mmr) ≡ false → fits ≡ true → Ok Mmr ≡ Found fits mmr
mmr_too false m e f = absurd (true≢false (sym f))
mmr_too true true e f = refl
mmr_too true false e f = absurd (true≢false e)

pub none : (fits mmr : Bool) → fits ≡ false → Err Plan ≡ Found fits mmr
none false m f = refl
none true m f = absurd (true≢false f)

pub fit : (fits mmr : Bool) (m : Method) → Ok m ≡ Found fits mmr → fits ≡ true
fit true mmr m e = refl
fit false mmr m e = cc

pub has : (fits mmr : Bool) (m : Method) → Ok m ≡ Found fits mmr → m ≡ cond mmr Mmr Polynomials
has true mmr m e = cc
has false mmr m e = cc

-- ---- the number: by rule 7, rule 9 on the pictures and on the table, rule 13, and what the others come to
module _ (fits mmr lengths table : Bool) (rest : ℕ) where
  abbrev Number : ℕ
  Number = cond (not fits) 7 (cond lengths 9 (cond table 9 (cond mmr 13 rest)))

  pub seven : (r : Refusal) → Err r ≡ Found fits mmr → number_of r ≡ Number
  seven r is = go fits is
    where
      go : (f : Bool) → Err r ≡ Found f mmr → number_of r ≡ cond (not f) 7 (cond lengths 9 (cond table 9 (cond mmr 13 rest)))
      go false e = let same : r ≡ Plan = cc in ap number_of same
      go true e = cc

  pub nine : fits ≡ true → (lengths || table) ≡ true → 9 ≡ Number
  nine f w = rw f (go lengths table w)
    where
      go : (l t : Bool) → (l || t) ≡ true → 9 ≡ cond l 9 (cond t 9 (cond mmr 13 rest))
      go true t e = refl
      go false true e = refl
      go false false e = absurd (true≢false (sym e))

  pub thirteen : fits ≡ true → (lengths || table) ≡ false → Ok Mmr ≡ Found fits mmr → 13 ≡ Number
  thirteen f w m = rw f (go mmr lengths table w (has fits mmr Mmr m))
    where
      go : (u l t : Bool) → (l || t) ≡ false → Mmr ≡ cond u Mmr Polynomials → 13 ≡ cond l 9 (cond t 9 (cond u 13 rest))
      go true true t e m = absurd (true≢false e)
      go true false true e m = absurd (true≢false e)
      go true false false e m = refl
      go false l t e m = cc

  pub others : fits ≡ true → (lengths || table) ≡ false → Ok Polynomials ≡ Found fits mmr → cond lengths 9 rest ≡ Number
  others f w m = rw f (go mmr lengths table w (has fits mmr Polynomials m))
    where
      go : (u l t : Bool) → (l || t) ≡ false → Polynomials ≡ cond u Mmr Polynomials → cond l 9 rest ≡ cond l 9 (cond t 9 (cond u 13 rest))
      go u true t e m = absurd (true≢false e)
      go u false true e m = absurd (true≢false e)
      go true false false e m = cc
      go false false false e m = refl
