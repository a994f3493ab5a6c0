-- The amounts that a book of the shape has open are those of its transfers that are still reserved: the positions add up to them.
use Prim.Native.Nat.{ℕ}
use mathlib.Core.Path.{◌≡◌, refl, sym, ap, ◌∙◌}
use mathlib.Core.Bool.{Bool, true, false, false≢true, cond, not, ◌&&◌, ◌||◌}
use mathlib.Core.List.{List, [], ◌∷◌, ◌++◌}
use native.Mathlib.Omega.{arith}
use lib.Dec.{eqb, leb}
use lib.IntN.{pos}
use borrow.Author.Tests.{eqb-true, ne_eqb}
use Rattle.octets.specs.Lists.{all, keep, sum}
use Rattle.octets.specs.Parts.{all_zero}
use Rattle.account.specs.Head.{accounts_of}
use Rattle.record.specs.Layout.{Row, get, num, amount_of, is_free, state_field, ended_by_field, code_field, fulfilment_field, units_field, remainder_field}
use Rattle.rules.specs.View.{reserved, committed, aborted, expired}
use Rattle.shape.specs.Reading.{Book, names_of, state_of, transfer_of, open_rows, ended_rows, is_taken}
use Rattle.shape.specs.Shape.{lengths_ok, account_ok, none_twice, record_ok, open_ok, ended_ok, total, shape}
use Rattle.octets.proofs.Tests.{both}
use Rattle.octets.proofs.Walk.{sum-append}
use Rattle.record.proofs.Fields.{zero-num}
use Rattle.shape.proofs.Sound.{sound}
use Rattle.ledger.specs.Ledger.{is_reserved, transfers_in}
use Rattle.recount.specs.Recount.{still_reserved}
use Rattle.recount.proofs.Sums.{inside, sum-each, sum-keep, sum-map}
use Rattle.recount.proofs.Given.{wide}

-- what a record leaves reserved, by its state byte
reserved-amount : (names : List (List ℕ)) (r : Row) → still_reserved (transfer_of names r) ≡ cond (eqb (num state_field r) 2) (amount_of r) 0
unfolding transfer_of state_of
reserved-amount names r = by (eqb (num state_field r) 2) (eqb (num state_field r) 3) (eqb (num ended_by_field r) 2)
  where
    by : (s t u : Bool) →
        cond (is_reserved (cond s reserved (cond t (committed (get fulfilment_field r)) (cond u (aborted (num code_field r)) expired)))) (amount_of r) 0
        ≡ cond s (amount_of r) 0
    by true t u = refl
    by false true u = refl
    by false false true = refl
    by false false false = refl

module _ (names : List (List ℕ)) (accounts : ℕ) (r : Row) where
  open_amount : open_ok accounts r ≡ true → amount_of r ≡ inside is_taken (λ x. still_reserved (transfer_of names x)) r
  unfolding open_ok
  open_amount e = go (is_free r) e
    where
      go : (t : Bool) → cond t (all_zero r) ((eqb (num state_field r) 2 && eqb (num ended_by_field r) 0) && record_ok accounts r) ≡ true →
          amount_of r ≡ cond (not t) (still_reserved (transfer_of names r)) 0
      go true z = omega (arith, zero-num units_field r z, zero-num remainder_field r z)
      go false z =
          let two = (both (eqb (num state_field r) 2) (eqb (num ended_by_field r) 0) (both _ (record_ok accounts r) z).0).0 in
          sym (reserved-amount names r ∙ ap (λ t. cond t (amount_of r) 0) two)

  ended-amount : ended_ok accounts r ≡ true → still_reserved (transfer_of names r) ≡ 0
  unfolding ended_ok
  ended-amount e =
      reserved-amount names r
      ∙ ap (λ t. cond t (amount_of r) 0) (go (eqb (num state_field r) 3) refl (eqb (num state_field r) 4) refl (both _ (record_ok accounts r) e).0)
    where
      go : (s : Bool) → eqb (num state_field r) 3 ≡ s → (t : Bool) → eqb (num state_field r) 4 ≡ t →
          (s && eqb (num ended_by_field r) 1) || (t && (eqb (num ended_by_field r) 2 || eqb (num ended_by_field r) 3)) ≡ true → eqb (num state_field r) 2 ≡ false
      go true three t four z = ne_eqb (num state_field r) 2 (λ two. omega (arith, eqb-true (num state_field r) 3 three))
      go false three true four z = ne_eqb (num state_field r) 2 (λ two. omega (arith, eqb-true (num state_field r) 4 four))
      go false three false four z = absurd (false≢true z)

-- the two clauses of the shape that speak of the records
module _ (b : Book) (e : shape b ≡ true) where
  records_ok : (all (open_ok b.head.count) (open_rows b) ≡ true) × (all (ended_ok b.head.count) (ended_rows b) ≡ true)
  unfolding shape
  records_ok =
      let s = (both (none_twice (names_of b.head)) _ (both (all account_ok (accounts_of b.head)) _
      (both (leb b.head.count 32) _ (both (lengths_ok b) _ e).1).1).1).1 in
      let o = both (all (open_ok b.head.count) (open_rows b)) _ s in
      (o.0, (both (all (ended_ok b.head.count) (ended_rows b)) _ o.1).0)

  open_amounts : sum amount_of (open_rows b) ≡ sum still_reserved (transfers_in b)
  open_amounts =
      let names = names_of b.head in
      let left : Row → ℕ = λ r. still_reserved (transfer_of names r) in
      let n = b.head.count in
      omega (
        arith,
        sum-map still_reserved (transfer_of names) (keep is_taken (open_rows b) ++ ended_rows b),
        sum-append left (keep is_taken (open_rows b)) (ended_rows b),
        sum-keep is_taken left (open_rows b),
        sum-each (open_ok n) amount_of (inside is_taken left) (open_amount names n) (open_rows b) records_ok.0,
        sum-each (ended_ok n) left (λ r. 0) (ended-amount names n) (ended_rows b) records_ok.1,
        nothing (ended_rows b),
      )
    where
      nothing : (rs : List Row) → sum (λ r. 0) rs ≡ 0
      nothing [] = refl
      nothing (r ∷ rs) = omega (arith, nothing rs)

  -- "positions sum to the open amounts"
  pub balanced : wide b → total (accounts_of b.head) ≡ pos (sum still_reserved (transfers_in b))
  balanced w = (sound b w e).balance ∙ ap pos open_amounts
