-- A record that ends: its transfer is in another state, and the position of one party falls by its amount.
use Prim.Native.Nat.{ℕ, ◌+◌, ◌*◌, ◌<◌}
use mathlib.Core.Path.{◌≡◌, refl, ap, ◌∙◌}
use mathlib.Core.Bool.{false}
use mathlib.Core.List.{List, [], ◌∷◌, ◌++◌}
use native.Mathlib.Omega.{arith}
use native.Mathlib.Numerals.{add-one}
use lib.IntN.{pos, ◌-ℤ◌}
use lib.ListN.{length, get_or, length-set}
use lib.Seq.{sets}
use Rattle.octets.specs.Lists.{sum}
use Rattle.account.specs.declared.Head.{Head}
use Rattle.account.specs.Position.{lowered_by}
use Rattle.account.specs.Head.{account_at}
use Rattle.account.proofs.Positions.{value-lowered}
use Rattle.record.specs.Layout.{Row, is_free, amount_of}
use Rattle.record.specs.Rows.{rows, row}
use Rattle.record.proofs.Rows.{length-row, rows_more, zeros_free}
use Rattle.octets.proofs.Walk.{sum-append}
use Rattle.rules.specs.View.{State, Transfer}
use Rattle.shape.specs.Reading.{Book, names_of, transfer_of, open_rows, ended_rows}
use Rattle.shape.specs.Sound.{Sound}
use Rattle.shape.proofs.Sound.{place-left}
use Rattle.book.specs.Ending.{amount_in, settled, ended_at}
use Rattle.book.proofs.Ends.{sum-ending}
use Rattle.book.proofs.Decisions.{in_open}
use Rattle.prepare.proofs.Positioned.{names-kept}
use Rattle.ledger.specs.Ledger.{transfers_in, in_state}
use Rattle.ledger.specs.Laws.{Ended}
use Rattle.ledger.proofs.Members.{members_moved}
use Rattle.ledger.proofs.Records.{EndsIn}
use Rattle.ledger.proofs.Reading.{of_open, of_ended, sum_transfers}

-- as many account places as before
pub settled-wide : (h : Head) (i : ℕ) (r : Row) → length h.accounts ≡ 32 → length (settled h i r).accounts ≡ 32
unfolding settled
settled-wide h i r wide = length-set h.accounts i _ ∙ wide

-- the record of slot k, which is taken, ends, and the position of one account falls
module _
    (b : Book) (s : Sound b) (wide : length b.head.accounts ≡ 32) (k : ℕ) (inside : k < b.head.slots)
    (taken : is_free (row b.opened k) ≡ false) (party : Row → ℕ) (known : party (row b.opened k) < b.head.count)
    (ending : Row → Row) (state : State) (ends : EndsIn (names_of b.head) ending state) where
  abbrev record_k : Row
  record_k = row b.opened k

  abbrev after : Book
  after = ended_at b k party ending

  abbrev names : List (List ℕ)
  names = names_of b.head

  ended_well : (length (ending record_k) ≡ 160) × (transfer_of names (ending record_k) ≡ in_state state (transfer_of names record_k))
  ended_well = ends record_k (length-row b.opened k (in_open b s k inside))

  names_same : names_of after.head ≡ names
  unfolding settled
  names_same = names-kept b.head wide s.few (party record_k) known _

  -- one finished record more
  rows-ended : ended_rows after ≡ ended_rows b ++ (ending record_k ∷ [])
  unfolding settled
  rows-ended =
      let n = b.head.finished in
      ap (λ (m : ℕ). rows m (sets b.ended (n * 160) (ending record_k))) (add-one n)
      ∙ rows_more n b.ended (ending record_k) ended_well.0 (omega (arith, s.lengths.ended, place-left b s k inside taken))

  -- what the slot gave to a sum, the new place gives in its new state
  transfers_after : (f : Transfer → ℕ) → sum f (transfers_in after) + f (transfer_of names record_k)
      ≡ sum f (transfers_in b) + f (in_state state (transfer_of names record_k))
  unfolding settled
  transfers_after f =
      let opened : sum (of_open names f) (open_rows after) + of_open names f record_k ≡ sum (of_open names f) (open_rows b) =
      sum-ending b s k inside taken (party record_k) known wide (of_open names f) (rw zeros_free) in
      let was-open : of_open names f record_k ≡ f (transfer_of names record_k) = rw taken in
      omega (
        arith,
        opened,
        was-open,
        sum_transfers after names names_same f,
        sum_transfers b names refl f,
        ap (sum (of_ended names f)) rows-ended,
        sum-append (of_ended names f) (ended_rows b) (ending record_k ∷ []),
        ap f ended_well.1,
      )

  pub ended_law : Ended b after (transfer_of names record_k) state (get_or names (party record_k) [])
  unfolding settled transfer_of
  ended_law = record {
    transfers = transfers_after;
    members =
        let old = (account_at b.head (party record_k)).position in
        members_moved b.head wide s.few s.once (party record_k) known (lowered_by old (amount_in record_k))
        (λ z. z -ℤ pos (amount_of record_k)) (value-lowered old (amount_in record_k));
    frame = record { currency = refl; slots = refl; places = refl };
    clock = refl;
  }
