-- An accepted open: a book of zeros, which holds no transfer and has no member.
use Prim.Native.Nat.{ℕ, ◌+◌, ◌*◌, ◌/◌, ◌≤◌, ◌<◌}
use mathlib.Core.Path.{◌≡◌, refl, ap, sym, subst, ◌∙◌}
use mathlib.Core.Bool.{true}
use mathlib.Core.List.{List, [], ◌++◌, map}
use native.Mathlib.Omega.{arith}
use lib.ListN.{length, length-replicate, get_or-replicate}
use Rattle.octets.specs.Lists.{keep}
use Rattle.octets.specs.Parts.{zeros}
use Rattle.octets.proofs.Stores.{length-zeros}
use Rattle.record.specs.Layout.{Row, num, state_field}
use Rattle.record.specs.Rows.{rows, row}
use Rattle.record.proofs.Rows.{state_of_lem}
use Rattle.rules.specs.Answers.{is_done}
use Rattle.rules.specs.Calls.{Text, «open»}
use Rattle.shape.specs.Reading.{Book, transfer_of, is_taken}
use Rattle.open_book.specs.Effect.{blank_account, fresh_book, open_step}
use Rattle.ledger.specs.Laws.{Opened}
use Rattle.ledger.proofs.Done.{done-left}
use Rattle.ledger.proofs.Each.{each_row, keep-none}

-- no slot of a book of zeros is taken
module _ (n m : ℕ) (h : n * 160 ≤ m) where
  state_zero : (k : ℕ) → k < n → num state_field (row (zeros m) k) ≡ 0
  unfolding zeros
  state_zero k l = state_of_lem (zeros m) k (omega (arith, length-zeros m)) ∙ get_or-replicate m (k * 160 + 16) 0 0 (omega arith)

  none_taken : keep is_taken (rows n (zeros m)) ≡ []
  none_taken = keep-none is_taken (rows n (zeros m)) (each_row _ n (zeros m) (λ k l. rw (state_zero k l)))

module _ (b : Book) (currency instant : Text) where
  fresh_law : Opened (fresh_book b currency instant)
  unfolding fresh_book
  fresh_law = record {
    transfers = ap (λ (rs : List Row). map (transfer_of []) (rs ++ []))
        (none_taken (length b.opened / 160) (length b.opened) (omega arith));
    members = refl;
  }

  -- what an open leaves where it is done, whatever head it was given
  module _ (done : is_done (open_step b currency instant).answer ≡ true) where
    left-fresh : (open_step b currency instant).left ≡ fresh_book b currency instant
    unfolding open_step
    left-fresh = done-left b (fresh_book b currency instant) («open» currency instant (length b.opened) (length b.ended)) done

    pub open_law : Opened (open_step b currency instant).left
    open_law = subst Opened (sym left-fresh) fresh_law

    pub open_wide_lem : length (open_step b currency instant).left.head.accounts ≡ 32
    unfolding fresh_book
    open_wide_lem = ap (λ (c : Book). length c.head.accounts) left-fresh ∙ length-replicate 32 blank_account
