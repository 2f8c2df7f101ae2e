-- What stands where nothing is given: each number of a plan is 0. Assumes nothing.
use mathlib.Core.Path.{◌≡◌, sym, ◌∙◌}
use mathlib.Core.List.{List}
use Prim.Native.Nat.{ℕ}
use native.Mathlib.Omega.{arith}
use lib.IntN.{pos}
use lib.ListN.{replicate}
use lib.Seq.{ext_get_or}
use Rattle.std.specs.Array.{AllOfLen}
use Rattle.std.proofs.lemmas.List.{length-replicate, get_or-replicate}
use Rattle.plan.specs.declared.Header.{Header}
use Rattle.plan.specs.declared.Piece.{Piece}
use Rattle.plan.specs.declared.Component.{Component}
use Rattle.plan.specs.declared.Plan.{Plan}
use Rattle.plan.specs.Rule7.{pivot_places, piece_places, row_places, zero_piece, no_component, no_plan}

-- an array whose elements are all one value
alike : {A : Type 0} (P : A → Type 0) (z : A) → ((x : A) → P x → x ≡ z) → (xs : List A) (n : ℕ) → AllOfLen P xs n → xs ≡ replicate n z
alike P z one xs n h =
    ext_get_or z xs (replicate n z) (h.long ∙ sym (length-replicate n z))
    (λ i b. one _ (h.at i z (omega (arith, h.long))) ∙ sym (get_or-replicate n i z z (omega (arith, h.long))))

piece : (q : Piece) → (q.idc ≡ 0) × ((q.order ≡ 0) × AllOfLen (λ x. x ≡ pos 0) q.row row_places) → q ≡ zero_piece
piece q e = rw (e.0, e.1.0, alike _ (pos 0) (λ x h. h) q.row row_places e.1.1)

abbrev Zeros : Component → Type 0
Zeros c =
    (c.n ≡ 0)
    × (AllOfLen (λ x. x ≡ 0) c.preds pivot_places
    × (AllOfLen (λ q. (q.idc ≡ 0) × ((q.order ≡ 0) × AllOfLen (λ x. x ≡ pos 0) q.row row_places)) c.pieces piece_places
    × ((c.nlq.offset ≡ 0) × ((c.nlq.maximum ≡ 0) × ((c.nlq.slope ≡ 0) × (c.nlq.threshold ≡ 0))))))

component : (c : Component) → Zeros c → c ≡ no_component
component c e =
    rw (e.0, alike _ 0 (λ x h. h) c.preds pivot_places e.1.0, alike _ zero_piece piece c.pieces piece_places e.1.1.0, e.1.1.1.0, e.1.1.1.1.0, e.1.1.1.1.1.0, e.1.1.1.1.1.1)

abbrev Nothing : Header → Type 0
Nothing h =
    (h.profile ≡ 0)
    × ((h.level ≡ 0)
    × ((h.d ≡ 0)
    × ((h.bl ≡ 0) × ((h.el ≡ 0) × ((h.hdr ≡ 0) × ((h.disabled ≡ 0) × ((h.columns ≡ 0) × ((h.pairs ≡ 0) × ((h.brightest ≡ 0) × (h.darkest ≡ 0))))))))))

header : (h : Header) → Nothing h → h ≡ no_plan.header
unfolding no_plan
header h e =
    rw (e.0, e.1.0, e.1.1.0, e.1.1.1.0, e.1.1.1.1.0, e.1.1.1.1.1.0, e.1.1.1.1.1.1.0, e.1.1.1.1.1.1.1.0, e.1.1.1.1.1.1.1.1.0, e.1.1.1.1.1.1.1.1.1.0, e.1.1.1.1.1.1.1.1.1.1)

pub is_empty : (p : Plan) → Nothing p.header × (Zeros p.y × (Zeros p.cb × Zeros p.cr)) → p ≡ no_plan
unfolding no_plan
is_empty p e = rw (header p.header e.0, component p.y e.1.0, component p.cb e.1.1.0, component p.cr e.1.1.1)
