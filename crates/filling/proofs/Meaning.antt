-- The three parts, one after the other, are the table of a plan; and what the table has for a code. Assumes nothing.
use mathlib.Core.Path.{◌≡◌, refl, sym, ap, ap₂, ◌∙◌}
use mathlib.Core.Bool.{Bool, true, false, not, ◌&&◌, cond, true≢false}
use mathlib.Core.List.{List, [], ◌∷◌}
use Prim.Native.Nat.{ℕ, ◌+◌, ◌-◌, ◌*◌, ◌^◌, ◌<◌, ◌≤◌}
use native.Mathlib.Nat.{mod-eq_of_lt, zero-add}
use native.Mathlib.Omega.{arith}
use lib.Arith.{digits_div, digits_mod}
use lib.Dec.{eqb}
use lib.ListN.{length, take, get_or, length-replicate}
use lib.Pow.{pow_mono}
use lib.Seq.{ext_get_or}
use borrow.Rule.Slice.PartMut.{put_mid}
use mathlib.Core.Logic.{⊎_elim}
use borrow.Author.Rules.{rules}
use Rattle.std.proofs.lemmas.List.{places}
use Rattle.std.specs.Prelude.{Some, None}
use borrow.Author.Tests.{eqb-true, eq-eqb, ne_eqb}
use Rattle.runs.specs.Runs.{painted, between}
use Rattle.runs.specs.inner.Loops.{at}
use Rattle.std.proofs.lemmas.Bool.{cases_lt}
use Rattle.runs.proofs.Between.{in_between, under-between, over-between, between_true}
use Rattle.runs.proofs.Painting.{length-painted, at-painted, is_painted, painted_cong, painted_on}
use Rattle.refusals.specs.Refusals.{rule, Outcome, granted, denied}
use Rattle.refusals.proofs.Laws.{none_met, not_off, outcome-granted, outcome-denied}
use Rattle.standard.specs.Mapping.{mapped}
use Rattle.plan.specs.declared.Header.{Header}
use Rattle.plan.specs.declared.Component.{Component}
use Rattle.plan.specs.declared.Plan.{Plan}
use Rattle.plan.specs.Ranges.{bl_depth}
use Rattle.plan.specs.Parameters.{mapping}
use Rattle.plan.specs.Rule7.{pieces_used, fitting, usable}
use Rattle.plan.specs.Tables.{table_size, uses_mmr, has_mmr}
use Rattle.plan.proofs.Facts.{header_facts}
use Rattle.plan.proofs.Polynomials.{all_luma, polynomial-at}
use Rattle.plan.proofs.Truths.{both, every_true}
use Rattle.mapping.specs.inner.Mapped.{pieces_map, can_map, mapped_table, answer}
use Rattle.mapping.proofs.Mappable.{pieces_facts, usable_maps}
use Rattle.mapping.proofs.Meaning.{mapped-found}
use Rattle.rules.specs.Rules.{table_rules}
use Rattle.filling.specs.Filling.{filling_refusal, part_component, table_entry, filled, table_after, filling_answer}

-- an accepted filling: the plan passes rule 7, the table has its length, and there is no MMR piece
pub record Accepted (p : Plan) (n : ℕ) : Type 0 where
  pub fits : fitting p ≡ true
  pub long : n ≡ table_size p.header
  pub polynomials : has_mmr p ≡ false

pub accepted : (p : Plan) (n : ℕ) → filling_refusal p n ≡ 0 → Accepted p n
unfolding filling_refusal
accepted p n e =
    let u = none_met (rule 7 (not (fitting p)) ∷ table_rules p n) refl e in
    record { fits = not_off _ u.0; long = eqb-true n _ (not_off _ u.1.0); polynomials = u.1.1.0 }

-- ---- what stands in the table
pub entry_at : (p : Plan) (k s : ℕ) → s < 2 ^ bl_depth p.header → table_entry p (k * 2 ^ bl_depth p.header + s) ≡ mapped (bl_depth p.header) p.header.d (mapping (part_component p k)) s
unfolding table_entry
entry_at p k s b =
    ap₂ (λ (c v : ℕ). mapped (bl_depth p.header) p.header.d (mapping (part_component p c)) v) (digits_div k b) (digits_mod k b)

pub length-filled : (p : Plan) → length (filled p) ≡ table_size p.header
unfolding filled
length-filled p = length-painted _ _ _ ∙ length-replicate {A = ℕ} (table_size p.header) 0

pub at-filled : (p : Plan) (i : ℕ) → i < table_size p.header → get_or (filled p) i 0 ≡ table_entry p i
unfolding filled
at-filled p i b = at-painted _ _ _ i 0 (rw (length-replicate {A = ℕ} (table_size p.header) 0) b)

-- ---- the components of a plan that has a table
module _ (p : Plan) (fits : fitting p ≡ true) (polynomials : has_mmr p ≡ false) where
  all-usable : (usable 0 p.header p.y && (usable 0 p.header p.cb && usable 0 p.header p.cr)) ≡ true
  all-usable = all_luma p ∙ rw (fits, polynomials)

  can : (c : Component) → usable 0 p.header c ≡ true → can_map p.header c ≡ true
  can c u = usable_maps 0 p.header c u (polynomial-at p.header c u)

  pub y_maps : can_map p.header p.y ≡ true
  y_maps = can p.y (both (usable 0 p.header p.y) _ all-usable).0

  pub cb_maps : can_map p.header p.cb ≡ true
  cb_maps = can p.cb (both (usable 0 p.header p.cb) _ (both (usable 0 p.header p.y) _ all-usable).1).0

  pub cr_maps : can_map p.header p.cr ≡ true
  cr_maps = can p.cr (both (usable 0 p.header p.cb) _ (both (usable 0 p.header p.y) _ all-usable).1).1

-- ---- which components have a table
some_pieces : (c : Component) → pieces_map c ≡ true → uses_mmr c ≡ false
unfolding uses_mmr
some_pieces c e = ap not (every_true _ (pieces_used c.n) (λ p b. ap (λ (i : ℕ). not (eqb i 1)) (pieces_facts c e p b).method))

-- where there is one it is the component's, and no piece that is used is MMR
pub some_table : (h : Header) (c : Component) {t : List ℕ} → Some t ≡ answer h c → (t ≡ mapped_table h c) × (uses_mmr c ≡ false)
some_table h c {t} e = go (can_map h c) refl
  where
    go : (b : Bool) → can_map h c ≡ b → (t ≡ mapped_table h c) × (uses_mmr c ≡ false)
    go true p = let f = rw p at e in (cc, some_pieces c (both _ (pieces_map c) p).1)
    go false p = let f = rw p at e in absurd cc

no_table : (h : Header) (c : Component) → None ≡ answer h c → can_map h c ≡ false
no_table h c e = go (can_map h c) refl
  where
    go : (b : Bool) → can_map h c ≡ b → b ≡ false
    go true p = let f = rw p at e in absurd cc
    go false p = refl

module _ (p : Plan) (fits : fitting p ≡ true) where
  met : (has_mmr p ≡ false → ⊥) → has_mmr p ≡ true
  met f = go (has_mmr p) refl
    where
      go : (b : Bool) → has_mmr p ≡ b → b ≡ true
      go true e = refl
      go false e = absurd (f e)

  pub no_y : None ≡ answer p.header p.y → has_mmr p ≡ true
  no_y e = met (λ m. true≢false (sym (y_maps p fits m) ∙ no_table p.header p.y e))

  pub no_cb : None ≡ answer p.header p.cb → has_mmr p ≡ true
  no_cb e = met (λ m. true≢false (sym (cb_maps p fits m) ∙ no_table p.header p.cb e))

  pub no_cr : None ≡ answer p.header p.cr → has_mmr p ≡ true
  no_cr e = met (λ m. true≢false (sym (cr_maps p fits m) ∙ no_table p.header p.cr e))

pub all_tables : (p : Plan) → uses_mmr p.y ≡ false → uses_mmr p.cb ≡ false → uses_mmr p.cr ≡ false → has_mmr p ≡ false
unfolding has_mmr
all_tables p a b c = rw (a, b, c)

-- a part that was copied is painted
module _ (mapped t : List ℕ) (from codes k : ℕ) (h : codes ≤ length mapped) (b : from + codes ≤ length t) (e : k ≡ codes) where
  part_length : length (put_mid from k t (take codes mapped)) ≡ length t
  part_length = search (rules, places)

  part_before : (i : ℕ) → i < from → get_or (put_mid from k t (take codes mapped)) i 0 ≡ get_or t i 0
  part_before i p = search (rules, places)

  part_within : (i : ℕ) → from ≤ i → i < from + codes → get_or (put_mid from k t (take codes mapped)) i 0 ≡ at mapped (i - from)
  part_within i p q = search (rules, places)

  part_behind : (i : ℕ) → from + codes ≤ i → i < length t → get_or (put_mid from k t (take codes mapped)) i 0 ≡ get_or t i 0
  part_behind i p q = search (rules, places)

pub part_painted : (mapped t : List ℕ) (from codes : ℕ) → codes ≤ length mapped → from + codes ≤ length t → put_mid from (from + codes - from) t (take codes mapped) ≡ painted (between from (from + codes)) (λ i. at mapped (i - from)) t
part_painted mapped t from codes h b =
    let e : from + codes - from ≡ codes = omega arith in
    is_painted _ _ t _ (part_length mapped t from codes _ h b e)
    (λ i m. ⊎_elim
    (λ p. part_before mapped t from codes _ h b e i p ∙ sym (ap (λ (u : Bool). cond u (at mapped (i - from)) (get_or t i 0)) (under-between from (from + codes) i p)))
    (λ p. ⊎_elim
    (λ q. part_within mapped t from codes _ h b e i p q ∙ sym (ap (λ (u : Bool). cond u (at mapped (i - from)) (get_or t i 0)) (in_between from (from + codes) i p q)))
    (λ q. part_behind mapped t from codes _ h b e i q m ∙ sym (ap (λ (u : Bool). cond u (at mapped (i - from)) (get_or t i 0)) (over-between from (from + codes) i q)))
    (cases_lt i (from + codes)))
    (cases_lt i from))

-- ---- the parts
module _ (p : Plan) (t : List ℕ) (ok : Accepted p (length t)) where
  abbrev h : Header
  h = p.header

  abbrev codes : ℕ
  codes = 2 ^ bl_depth h

  few : codes ≤ 1024
  few = pow_mono {i = bl_depth h} {j = 10} (omega (arith, (header_facts p ok.fits).base_depth))

  -- part k, where component c's table was made
  of_part : (k from : ℕ) (c : Component) → from ≡ k * codes → can_map h c ≡ true → part_component p k ≡ c → (i : ℕ) → between from (from + codes) i ≡ true → at (mapped_table h c) (i - from) ≡ table_entry p i
  of_part k from c begins u is i e =
      let b = between_true _ _ i e in
      let s : i - from < codes = omega (arith, b.0, b.1) in
      let low : i - from < 1024 = omega (arith, few) in
      let sum : k * codes + (i - from) ≡ i = omega (arith, b.0) in
      ap (at (mapped_table h c)) (sym (mod-eq_of_lt low))
      ∙ mapped-found h c u (i - from) s
      ∙ ap (λ (d : Component). mapped (bl_depth h) h.d (mapping d) (i - from)) (sym is)
      ∙ sym (entry_at p k (i - from) s)
      ∙ ap (table_entry p) sum

  -- luma, then Cb, then Cr
  pub parts_filled : (luma blue red l1 l2 l3 : List ℕ) (c : ℕ) → c ≡ codes → luma ≡ mapped_table h p.y → blue ≡ mapped_table h p.cb → red ≡ mapped_table h p.cr
      → l1 ≡ painted (between 0 (0 + c)) (λ i. at luma (i - 0)) t
      → l2 ≡ painted (between c (c + c)) (λ i. at blue (i - c)) l1
      → l3 ≡ painted (between (2 * c) (2 * c + c)) (λ i. at red (i - 2 * c)) l2
      → l3 ≡ filled p
  parts_filled luma blue red l1 l2 l3 c is y cb cr e1 e2 e3 =
      let one : l1 ≡ painted (between 0 codes) (table_entry p) t =
      e1 ∙ ap₂ (λ (n : ℕ) (m : List ℕ). painted (between 0 (0 + n)) (λ i. at m (i - 0)) t) is y
      ∙ painted_cong _ _ _ _ t (λ i b. refl) (λ i b s. of_part 0 0 p.y (omega arith) (y_maps p ok.fits ok.polynomials) refl i s)
      ∙ ap (λ (n : ℕ). painted (between 0 n) (table_entry p) t) (zero-add codes) in
      let two : l2 ≡ painted (between codes (codes + codes)) (table_entry p) l1 =
      e2 ∙ ap₂ (λ (n : ℕ) (m : List ℕ). painted (between n (n + n)) (λ i. at m (i - n)) l1) is cb
      ∙ painted_cong _ _ _ _ l1 (λ i b. refl) (λ i b s. of_part 1 codes p.cb (omega arith) (cb_maps p ok.fits ok.polynomials) refl i s) in
      let three : l3 ≡ painted (between (2 * codes) (2 * codes + codes)) (table_entry p) l2 =
      e3 ∙ ap₂ (λ (n : ℕ) (m : List ℕ). painted (between (2 * n) (2 * n + n)) (λ i. at m (i - 2 * n)) l2) is cr
      ∙ painted_cong _ _ _ _ l2 (λ i b. refl) (λ i b s. of_part 2 (2 * codes) p.cr refl (cr_maps p ok.fits ok.polynomials) refl i s) in
      let double : codes + codes ≡ 2 * codes = omega arith in
      let all : l3 ≡ painted (between 0 (2 * codes + codes)) (table_entry p) t =
      three
      ∙ ap (painted _ _) (two ∙ ap₂ (λ (n : ℕ) (m : List ℕ). painted (between codes n) (table_entry p) m) double one ∙ painted_on 0 codes (2 * codes) (table_entry p) t (omega arith) (omega arith))
      ∙ painted_on 0 (2 * codes) (2 * codes + codes) (table_entry p) t (omega arith) (omega arith) in
      let long : length l3 ≡ table_size h = ap length all ∙ length-painted _ _ t ∙ ok.long in
      ext_get_or 0 l3 (filled p) (long ∙ sym (length-filled p))
      (λ i b.
      let m : i < table_size h = rw long at b in
      ap (λ (l : List ℕ). at l i) all ∙ at-painted _ _ t i 0 (rw ok.long m) ∙ ap (λ (s : Bool). cond s (table_entry p i) (at t i)) (in_between 0 (2 * codes + codes) i (omega arith) (omega arith)) ∙ sym (at-filled p i m))

-- ---- the ways that a filling can go
pub seven : (p : Plan) (n : ℕ) → fitting p ≡ false → 7 ≡ filling_refusal p n
unfolding filling_refusal
seven p n e = rw e

pub nine : (p : Plan) (n : ℕ) → fitting p ≡ true → (n ≡ table_size p.header → ⊥) → 9 ≡ filling_refusal p n
unfolding filling_refusal
nine p n e f = rw (e, ne_eqb n (table_size p.header) f)

module _ (p : Plan) (n : ℕ) (fits : fitting p ≡ true) (long : n ≡ table_size p.header) where
  pub thirteen : has_mmr p ≡ true → 13 ≡ filling_refusal p n
  unfolding filling_refusal
  thirteen e = rw (fits, eq-eqb n (table_size p.header) long, e)

  pub none : has_mmr p ≡ false → 0 ≡ filling_refusal p n
  unfolding filling_refusal
  none e = rw (fits, eq-eqb n (table_size p.header) long, e)

abbrev Ends : Plan → List ℕ → Outcome → List ℕ → Type 0
Ends p t o after = (o ≡ filling_answer p (length t)) × (after ≡ table_after p t)

pub refused : (p : Plan) (t : List ℕ) (k : ℕ) → k ≡ filling_refusal p (length t) → (k ≡ 0 → ⊥) → Ends p t (denied k) t
unfolding table_after filling_answer
refused p t k e n = (outcome-denied _ k _ (sym e) n, rw (← e, ne_eqb k 0 n))

pub finished : (p : Plan) (t after : List ℕ) → 0 ≡ filling_refusal p (length t) → after ≡ filled p → Ends p t (granted []) after
unfolding table_after filling_answer
finished p t after e h = (outcome-granted _ _ (sym e), rw (← e) h)
