-- Writing a composing block: the house layout as bytes, the refusals in their order, and what a call leaves in the slice.
use Rattle.std.specs.Prelude.{Bool, true, cond, not, ◌&&◌, ◌≡◌, List, [], ◌∷◌, ◌++◌, ℕ, ◌+◌, ◌≤◌, ltb, eqb, length, drop, Result}
use Rattle.refusals.specs.declared.Refusal.{Refusal}
use Rattle.refusals.specs.Refusals.{Rule, rule, first_met, Outcome, outcome, says as told}
use Rattle.plan.specs.declared.Plan.{Plan}
use Rattle.plan.specs.Rule7.{fitting}
use Rattle.plan.specs.Versions.{can_carry}
use Rattle.pen.specs.Bytes.{bytes_of}
use Rattle.header_writer.specs.Header.{header_bytes}
use Rattle.section_writer.specs.Section.{section_bytes}

-- the trailer: A, D0, D1, D2 and the version, each of 16 bits, then 16 bits of zero
unfoldable pub trailer_bytes : ℕ → ℕ → ℕ → ℕ → ℕ → List ℕ
trailer_bytes a d0 d1 d2 version =
    bytes_of 2 a ++ (bytes_of 2 d0 ++ (bytes_of 2 d1 ++ (bytes_of 2 d2 ++ (bytes_of 2 version ++ bytes_of 2 0))))

-- header, section 0, section 1, section 2, trailer, with nothing between; the trailer's distances go back from its first byte
unfoldable pub block : Plan → ℕ → List ℕ
block p version =
    let s0 = section_bytes version p.header.d p.y in
    let s1 = section_bytes version p.header.d p.cb in
    let s2 = section_bytes version p.header.d p.cr in
    let d2 = length s2 in
    let d1 = length s1 + d2 in
    let d0 = length s0 + d1 in
    header_bytes p.header ++ (s0 ++ (s1 ++ (s2 ++ trailer_bytes (24 + d0) d0 d1 d2 version)))

-- a plan that passes rule 7 has a block of version 2, and one of version 1 where piece n stands twice in each component
unfoldable pub writable : Plan → ℕ → Bool
writable p version = fitting p && (can_carry version p.y && (can_carry version p.cb && can_carry version p.cr))

-- the length of a plan's block; 0 where it has none
unfoldable pub block_length : Plan → ℕ → ℕ
block_length p version = cond (writable p version) (length (block p version)) 0

-- every block of version 1 has 138 to 6,160 bytes, and of version 2 174 to 6,533
pub record Limits (p : Plan) (version n : ℕ) : Type 0 where
  pub shortest : writable p version ≡ true → cond (eqb version 1) 138 174 ≤ n
  pub longest : n ≤ cond (eqb version 1) 6160 6533

-- rule 7: the plan, or that it has no block of this version; rule 12: the slice is shorter than the block
abbrev pub rules : Plan → ℕ → ℕ → List Rule
rules p version lent = rule 7 (not (writable p version)) ∷ rule 12 (ltb lent (length (block p version))) ∷ []

unfoldable pub refusal : Plan → ℕ → ℕ → ℕ
refusal p version lent = first_met (rules p version lent)

-- what the answer says: written, with the length, or refused, with the number alone
abbrev pub says : Result ℕ Refusal → Outcome
says result = told (λ n. n ∷ []) result

unfoldable pub answer : Plan → ℕ → ℕ → Outcome
answer p version lent = outcome (refusal p version lent) (length (block p version) ∷ [])

-- the slice afterwards: the block from its first byte on, and after it what stood there; a refusal writes nothing
unfoldable pub written : Plan → ℕ → List ℕ → List ℕ
written p version before =
    cond (eqb (refusal p version (length before)) 0)
    (block p version ++ drop (length (block p version)) before)
    before
