-- What holds between a book and the calls noted since it was opened; then the book shows what the recount finds.
use Prim.Native.Nat.{ℕ, ◌+◌, ◌≤◌}
use mathlib.Core.Path.{◌≡◌, refl, sym, ap, ◌∙◌}
use mathlib.Core.Bool.{Bool, true, cond, not}
use mathlib.Core.List.{List, map}
use mathlib.Core.Option.{Option, none, some}
use lib.ListN.{length, length-map}
use lib.IntN.{ℤ}
use Rattle.octets.specs.Lists.{first, keep, count, sum}
use Rattle.octets.specs.Parts.{same}
use Rattle.account.specs.Head.{accounts_of}
use Rattle.rules.specs.View.{Transfer}
use Rattle.shape.specs.Reading.{Book, map_some, account_of, held_transfer, open_count, due_rows, numbers_of}
use Rattle.shape.specs.Shape.{shape}
use Rattle.shape.specs.Seen.{seen}
use Rattle.shape.proofs.Names.{length_accounts}
use Rattle.shape.proofs.Sound.{sound}
use Rattle.ledger.specs.Ledger.{Member, member_of, transfers_in, members_in, is_reserved, is_due_at}
use Rattle.ledger.specs.Laws.{SeenIn, ascending}
use Rattle.recount.specs.Recount.{Past, Grant, transfers_of, grants_of, clock_of, position_of, has_id, standing_of, recounted}
use Rattle.recount.specs.Demand.{within_cap}
use Rattle.recount.proofs.Sums.{SumsAgree, inside, sum-keep, sum-map, count_agree, first_agree, first-map}
use Rattle.recount.proofs.Ascending.{from-keep, from-ascending, sum-ascending, from_unique}
use Rattle.recount.proofs.Later.{number_in, transfers_ascend}
use Rattle.recount.proofs.Told.{transfer_told}
use Rattle.recount.proofs.Given.{wide}

-- the transfers and the grants of a past
abbrev pub transfers_by : Past → List Transfer
transfers_by p = transfers_of 0 p.entries

abbrev pub grants_by : Past → List Grant
grants_by p = grants_of p.entries

-- a grant as a member, its position found by the transfers
abbrev pub member_by : List Transfer → Grant → Member
member_by ts g = record { key = g.key; standing = record { cap = g.cap; position = position_of ts g.key } }

abbrev pub keyed : List ℕ → Grant → Bool
keyed key g = same g.key key

-- a transfer's amount, once for each time that an account is a party to it
abbrev pub stake : List ℕ → Transfer → ℕ
stake key t = cond (same t.content.payer key) t.content.amount 0 + cond (same t.content.payee key) t.content.amount 0

-- what the rules keep of the transfers and the grants
pub record Orderly (ts : List Transfer) (gs : List Grant) : Type 0 where
  -- no id twice
  pub once : (id : List ℕ) → count (has_id id) ts ≤ 1
  -- who has no account is party to nothing
  pub strangers : (key : List ℕ) → first (keyed key) gs ≡ none → sum (stake key) ts ≡ 0
  -- no position is above its cap
  pub caps : (key : List ℕ) → within_cap (standing_of ts (first (keyed key) gs)) ≡ true

pub record Agrees (b : Book) (p : Past) : Type 0 where
  pub shaped : shape b ≡ true
  pub wide : wide b
  pub currency : b.head.currency ≡ p.currency
  pub clock : b.head.time ≡ clock_of p.start p.entries
  pub slots : b.head.slots ≡ p.slots
  pub places : b.head.places ≡ p.places
  pub members : members_in b ≡ map (member_by (transfers_by p)) (grants_by p)
  pub transfers : SumsAgree (transfers_in b) (transfers_by p)
  pub orderly : Orderly (transfers_by p) (grants_by p)

module _ (b : Book) (p : Past) (a : Agrees b p) (s : SeenIn b) where
  accounts_agree : b.head.count ≡ length (grants_by p)
  accounts_agree =
      sym (length_accounts b.head a.wide (sound b a.wide a.shaped).few)
      ∙ sym (length-map (accounts_of b.head) member_of) ∙ ap length a.members
      ∙ length-map (grants_by p) (member_by (transfers_by p))

  account_agree : (name : List ℕ) → account_of b name ≡ standing_of (transfers_by p) (first (keyed name) (grants_by p))
  account_agree name =
      s.accounts name
      ∙ ap (λ ms. map_some (λ m. m.standing) (first (λ m. same m.key name) ms)) a.members
      ∙ ap (map_some (λ m. m.standing)) (first-map (λ m. same m.key name) (member_by (transfers_by p)) (grants_by p))
      ∙ by (first (keyed name) (grants_by p))
    where
      by : (o : Option Grant) → map_some (λ m. m.standing) (map_some (member_by (transfers_by p)) o) ≡ standing_of (transfers_by p) o
      by none = refl
      by (some g) = refl

  held_agree : (id : List ℕ) → held_transfer b id ≡ first (has_id id) (transfers_by p)
  held_agree id = s.held id ∙ first_agree transfer_told (has_id id) (transfers_in b) (transfers_by p) a.transfers (a.orderly.once id)

  pub opened_agree : open_count b ≡ count (λ t. is_reserved t.state) (transfers_by p)
  opened_agree = s.opened ∙ count_agree (λ t. is_reserved t.state) (transfers_in b) (transfers_by p) a.transfers

  pub ended_agree : b.head.finished ≡ count (λ t. not (is_reserved t.state)) (transfers_by p)
  ended_agree = s.ended ∙ count_agree (λ t. not (is_reserved t.state)) (transfers_in b) (transfers_by p) a.transfers

  due_agree : (z : ℤ) → numbers_of (due_rows z b) ≡ map number_in (keep (is_due_at z) (transfers_by p))
  due_agree z =
      let mine = map number_in (keep (is_due_at z) (transfers_in b)) in
      let theirs = map number_in (keep (is_due_at z) (transfers_by p)) in
      s.due z ∙ from_unique 0 0 (ascending mine) theirs (from-ascending mine)
      (from-keep number_in (is_due_at z) 0 (transfers_by p) (transfers_ascend 0 p.entries))
      (λ f. sum-ascending f mine ∙ kept f (transfers_in b) ∙ a.transfers (inside (is_due_at z) (λ t. f t.number))
      ∙ sym (kept f (transfers_by p)))
    where
      kept : (f : ℕ → ℕ) (ts : List Transfer) →
          sum f (map number_in (keep (is_due_at z) ts)) ≡ sum (inside (is_due_at z) (λ t. f t.number)) ts
      kept f ts = sum-map f number_in (keep (is_due_at z) ts) ∙ sum-keep (is_due_at z) (λ t. f t.number) ts

  pub agree : seen b ≡ recounted p
  agree = λ i. record {
    shaped = a.shaped i;
    currency = a.currency i;
    clock = a.clock i;
    accounts = accounts_agree i;
    account = λ name. account_agree name i;
    held = λ id. held_agree id i;
    slots = a.slots i;
    opened = opened_agree i;
    places = a.places i;
    ended = ended_agree i;
    due = λ z. due_agree z i;
  }
