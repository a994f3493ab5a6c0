-- Transfers that no function to the numbers tells apart are equal: so sums over transfers say all that there is to say of them.
use Prim.Native.Nat.{ℕ}
use mathlib.Core.Path.{◌≡◌, refl, sym, ap, ◌∙◌}
use mathlib.Core.Bool.{Bool, true, false, cond}
use mathlib.Core.List.{List, []}
use native.Mathlib.Omega.{arith}
use lib.Dec.{eqb}
use lib.IntN.{ℤ}
use Rattle.octets.specs.Parts.{same}
use Rattle.octets.proofs.Equal.{same_refl, same_equal}
use Rattle.octets.specs.Integers.{up, dn}
use Rattle.octets.proofs.Integers as integers
use Rattle.rules.specs.Calls.{Content}
use Rattle.rules.specs.View.{State, reserved, committed, aborted, expired, Transfer}
use Rattle.recount.proofs.Sums.{Told, one_if}

bytes-told : Told (List ℕ)
bytes-told x y h = same_equal x y (by (same x y) (ap one_if (sym (same_refl x)) ∙ h (λ z. one_if (same x z))))
  where
    by : (t : Bool) → 1 ≡ one_if t → t ≡ true
    by true e = refl
    by false e = absurd (omega arith)

number-told : Told ℤ
number-told z w h = integers.same z w (omega (arith, h up, h dn))

-- a state, from its kind, its fulfilment and its code
abbrev kind : State → ℕ
kind reserved = 0
kind (committed f) = 1
kind (aborted code) = 2
kind expired = 3

abbrev fulfilment_in : State → List ℕ
fulfilment_in reserved = []
fulfilment_in (committed f) = f
fulfilment_in (aborted code) = []
fulfilment_in expired = []

abbrev code_in : State → ℕ
code_in reserved = 0
code_in (committed f) = 0
code_in (aborted code) = code
code_in expired = 0

abbrev state_from : ℕ → List ℕ → ℕ → State
state_from k f code = cond (eqb k 0) reserved (cond (eqb k 1) (committed f) (cond (eqb k 2) (aborted code) expired))

state_from_lem : (s : State) → state_from (kind s) (fulfilment_in s) (code_in s) ≡ s
state_from_lem reserved = refl
state_from_lem (committed f) = refl
state_from_lem (aborted code) = refl
state_from_lem expired = refl

state_told : Told State
state_told s t h =
    let f : fulfilment_in s ≡ fulfilment_in t = bytes-told (fulfilment_in s) (fulfilment_in t) (λ g. h (λ x. g (fulfilment_in x))) in
    sym (state_from_lem s) ∙ (λ i. state_from (h kind i) (f i) (h code_in i)) ∙ state_from_lem t

content_told : Told Content
content_told c d h =
    let bytes : (get : Content → List ℕ) → get c ≡ get d = λ get. bytes-told (get c) (get d) (λ g. h (λ x. g (get x))) in
    λ i. record {
      id = bytes (λ x. x.id) i;
      payer = bytes (λ x. x.payer) i;
      payee = bytes (λ x. x.payee) i;
      amount = h (λ x. x.amount) i;
      condition = bytes (λ x. x.condition) i;
      expiration = number-told c.expiration d.expiration (λ g. h (λ x. g x.expiration)) i;
      packet = bytes (λ x. x.packet) i;
    }

pub transfer_told : Told Transfer
transfer_told t u h = λ i. record {
  content = content_told t.content u.content (λ g. h (λ x. g x.content)) i;
  number = h (λ x. x.number) i;
  state = state_told t.state u.state (λ g. h (λ x. g x.state)) i;
}
