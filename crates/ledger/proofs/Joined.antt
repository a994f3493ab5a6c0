-- An accepted join: one member more, behind the others, and the same transfers.
use Prim.Native.Nat.{ℕ, ◌-◌, ◌<◌}
use mathlib.Core.Path.{◌≡◌, refl, ap, ap₂, sym, subst, ◌∙◌}
use mathlib.Core.Bool.{true}
use mathlib.Core.List.{List, [], ◌∷◌, ◌++◌, map}
use native.Mathlib.Omega.{arith}
use native.Mathlib.Numerals.{add-one}
use lib.Dec.{leb, ltb}
use lib.IntN.{pos}
use lib.ListN.{length, length-set}
use lib.Seq.{take_at, take-suc-set}
use borrow.Author.Tests.{leb-false, not-true}
use Rattle.octets.specs.Lists.{keep}
use Rattle.octets.specs.Parts.{zeros}
use Rattle.amount.specs.Amount.{ten_thousandths}
use Rattle.account.specs.Position.{value}
use Rattle.account.specs.Head.{name_of, accounts_of}
use Rattle.record.specs.Layout.{Row, is_free}
use Rattle.rules.specs.Answers.{is_done}
use Rattle.rules.specs.Calls.{Text, join}
use Rattle.rules.specs.Rules.{highest_cap, exists}
use Rattle.shape.specs.Reading.{Book, names_of, transfer_of, open_rows, ended_rows, is_taken, account_of}
use Rattle.shape.specs.Sound.{Sound, SoundRecord}
use Rattle.shape.proofs.Names.{length-names}
use Rattle.book.specs.Step.{book_of}
use Rattle.join.specs.Effect.{new_account, with_account, join_step}
use Rattle.join.proofs.Joining.{all-passed}
use Rattle.prepare.proofs.Stepped.{worth_of}
use Rattle.ledger.specs.Ledger.{Member, member_of, members_in}
use Rattle.ledger.specs.Laws.{Joined}
use Rattle.ledger.proofs.Done.{done-rules, done-left, left-wide}
use Rattle.ledger.proofs.Each.{each_append, each-kept, map_each, map-append}
use Rattle.ledger.proofs.Reading.{open_each, ended-each}
use Rattle.ledger.proofs.Records.{more_names}

-- the new member
abbrev new_member : Text → Text → Member
new_member name cap = record { key = name; standing = record { cap = ten_thousandths cap; position = pos 0 } }

new_member_lem : (name cap : Text) → member_of (new_account name cap) ≡ new_member name cap
unfolding value
new_member_lem name cap =
    ap₂ (λ (key : List ℕ) (c : ℕ). record { key = key; standing = record { cap = c; position = pos 0 } })
    (take_at name (zeros (32 - length name)) (length name) refl) (worth_of (ten_thousandths cap))

module _ (b : Book) (s : Sound b) (wide : length b.head.accounts ≡ 32) (name cap : Text) (room : b.head.count < 32) where
  abbrev after : Book
  after = book_of (with_account b.head (new_account name cap)) b.opened b.ended

  accounts_after : accounts_of after.head ≡ accounts_of b.head ++ (new_account name cap ∷ [])
  unfolding with_account
  accounts_after =
      rw (add-one b.head.count) (take-suc-set b.head.accounts b.head.count (new_account name cap) (omega (arith, wide)))

  names-after : names_of after.head ≡ names_of b.head ++ (name_of (new_account name cap) ∷ [])
  names-after = ap (map name_of) accounts_after ∙ map-append name_of (accounts_of b.head) (new_account name cap ∷ [])

  -- the parties are among the accounts that were there
  read_same : (r : Row) → SoundRecord b.head.count r → transfer_of (names_of after.head) r ≡ transfer_of (names_of b.head) r
  read_same r o =
      let long = length-names b.head wide s.few in
      ap (λ (names : List (List ℕ)). transfer_of names r) names-after
      ∙ more_names (names_of b.head) (name_of (new_account name cap) ∷ []) r
      (omega (arith, long, o.payer)) (omega (arith, long, o.payee))

  joined-after : Joined b after name cap
  unfolding with_account
  joined-after = record {
    transfers = map_each (transfer_of (names_of after.head)) (transfer_of (names_of b.head)) (keep is_taken (open_rows b) ++ ended_rows b)
        (each_append _
        (each-kept _ is_taken (open_rows b) (open_each b s _ (λ r o taken. read_same r (o.taken (not-true (is_free r) taken)).body)))
        (ended-each b s _ (λ r o. read_same r o.body)));
    members = ap (map member_of) accounts_after ∙ map-append member_of (accounts_of b.head) (new_account name cap ∷ [])
        ∙ ap (λ (m : Member). members_in b ++ (m ∷ [])) (new_member_lem name cap);
    frame = record { currency = refl; slots = refl; places = refl };
    clock = refl;
  }

-- what a join leaves
module _ (b : Book) (wide : length b.head.accounts ≡ 32) (name cap : Text) where
  abbrev next : Book
  next = book_of (with_account b.head (new_account name cap)) b.opened b.ended

  pub join_wide_lem : length (join_step b name cap).left.head.accounts ≡ 32
  unfolding join_step with_account
  join_wide_lem = left-wide b next (join name cap) wide (length-set b.head.accounts b.head.count (new_account name cap) ∙ wide)

  pub join_law : Sound b → is_done (join_step b name cap).answer ≡ true → Joined b (join_step b name cap).left name cap
  unfolding join_step
  join_law s done =
      let passed = all-passed (ltb highest_cap (ten_thousandths cap)) (exists (account_of b name)) (leb 32 b.head.count)
      (done-rules b next (join name cap) done).0 in
      subst (λ (c : Book). Joined b c name cap) (sym (done-left b next (join name cap) done))
      (joined-after b s wide name cap (leb-false 32 b.head.count passed.2))
