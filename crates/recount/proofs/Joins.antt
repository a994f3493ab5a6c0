-- An accepted join adds one account, in the book as in the past, with a position of 0.
use Prim.Native.Nat.{ℕ, ◌+◌, ◌≤◌}
use mathlib.Core.Path.{◌≡◌, refl, sym, ap, ◌∙◌}
use mathlib.Core.Bool.{Bool, true, false, cond, ◌&&◌}
use mathlib.Core.List.{List, [], ◌∷◌, ◌++◌, map, map-append}
use mathlib.Core.Option.{Option, none, some}
use native.Mathlib.Omega.{arith}
use lib.IntN.{pos}
use Rattle.octets.specs.Lists.{first, sum}
use Rattle.octets.specs.Parts.{same}
use Rattle.amount.specs.Amount.{ten_thousandths}
use Rattle.rules.specs.declared.Answer.{Answer}
use Rattle.rules.specs.Calls.{Text, join}
use Rattle.rules.specs.View.{Transfer}
use Rattle.shape.specs.Reading.{Book}
use Rattle.shape.specs.Shape.{shape}
use Rattle.ledger.specs.Ledger.{Member, members_in}
use Rattle.ledger.specs.Laws.{Joined}
use Rattle.recount.specs.Recount.{Past, Grant, Entry, is_committed, sent, received, position_of, has_id, standing_of, recounted, entered}
use Rattle.recount.specs.Demand.{within_cap}
use Rattle.recount.proofs.Sums.{one_if, either, sum-le, first-append, map_ext}
use Rattle.recount.proofs.Later.{grants_append, grants_one}
use Rattle.recount.proofs.Given.{wide}
use Rattle.recount.proofs.Agrees.{transfers_by, grants_by, member_by, keyed, stake, Orderly, Agrees}
use Rattle.recount.proofs.Positions.{position-same, within}
use Rattle.recount.proofs.Noted.{sum_idle, caps_kept, count_kept}
use Rattle.recount.proofs.Stays.{agrees_still}

-- who is party to nothing has sent and received nothing
module _ (key : List ℕ) (t : Transfer) where
  at_most : (d e : Bool) (x y : ℕ) → cond (d && e) x 0 ≤ cond d x 0 + y
  at_most true true x y = omega arith
  at_most true false x y = omega arith
  at_most false e x y = omega arith

  sent-stake : sent key t ≤ stake key t
  sent-stake = at_most (same t.content.payer key) _ t.content.amount _

  received-stake : received key t ≤ stake key t
  received-stake =
      let x = t.content.amount in
      let h = at_most (same t.content.payee key) (is_committed t.state) x (cond (same t.content.payer key) x 0) in
      omega arith

module _ (ts : List Transfer) (key : List ℕ) (z : sum (stake key) ts ≡ 0) where
  nothing_sent : sum (sent key) ts ≡ 0
  nothing_sent = omega (arith, sum-le (sent key) (stake key) (sent-stake key) ts)

  nothing_received : sum (received key) ts ≡ 0
  nothing_received = omega (arith, sum-le (received key) (stake key) (received-stake key) ts)

  position-none : position_of ts key ≡ pos 0
  unfolding position_of
  position-none = rw (nothing_sent, nothing_received)

no_standing : (ts : List Transfer) (o : Option Grant) → standing_of ts o ≡ none → o ≡ none
no_standing ts none e = refl
no_standing ts (some g) e = cc

module _ (p : Past) (name cap : Text) (answer : Answer) (new : (recounted p).account name ≡ none) where
  abbrev past' : Past
  past' = entered p (join name cap) answer

  abbrev grant : Grant
  grant = record { key = name; cap = ten_thousandths cap }

  abbrev comer : Member
  comer = record { key = name; standing = record { cap = ten_thousandths cap; position = pos 0 } }

  same-sums : (f : Transfer → ℕ) → sum f (transfers_by past') ≡ sum f (transfers_by p)
  same-sums f = omega (arith, sum_idle p.entries (record { call = join name cap; answer = answer }) (λ c. refl) f)

  same-position : (key : List ℕ) → position_of (transfers_by p) key ≡ position_of (transfers_by past') key
  same-position key = position-same (transfers_by p) (transfers_by past') key (omega (arith, same-sums (sent key), same-sums (received key)))

  one-grant_more : grants_by past' ≡ grants_by p ++ (grant ∷ [])
  one-grant_more =
      let e : Entry = record { call = join name cap; answer = answer } in
      grants_append p.entries (e ∷ []) ∙ ap (◌++◌ (grants_by p)) (grants_one e)

  found_more : (key : List ℕ) →
      first (keyed key) (grants_by past') ≡ either (first (keyed key) (grants_by p)) (cond (same name key) (some grant) none)
  found_more key = ap (first (keyed key)) one-grant_more ∙ first-append (keyed key) (grants_by p) (grant ∷ [])

  unheld : first (keyed name) (grants_by p) ≡ none
  unheld = no_standing (transfers_by p) (first (keyed name) (grants_by p)) new

  orderly_joined : Orderly (transfers_by p) (grants_by p) → Orderly (transfers_by past') (grants_by past')
  orderly_joined o = record {
    once = λ id.
        omega (arith, count_kept (has_id id) (transfers_by p) (transfers_by past') (same-sums (λ t. one_if (has_id id t))), o.once id);
    strangers = λ key e. same-sums (stake key) ∙ o.strangers key (before (first (keyed key) (grants_by p)) _ (sym (found_more key) ∙ e));
    caps = λ key.
        ap (λ g. within_cap (standing_of (transfers_by past') g)) (found_more key) ∙ by key (first (keyed key) (grants_by p)) (o.caps key);
  }
    where
      before : (x y : Option Grant) → either x y ≡ none → x ≡ none
      before none y e = refl
      before (some g) y e = e

      own : (d : Bool) → within_cap (standing_of (transfers_by past') (cond d (some grant) none)) ≡ true
      own true =
          within (transfers_by past') name (ten_thousandths cap)
          (omega (arith, nothing_sent (transfers_by p) name (o.strangers name unheld), same-sums (sent name)))
      own false = refl

      by : (key : List ℕ) (x : Option Grant) → within_cap (standing_of (transfers_by p) x) ≡ true →
          within_cap (standing_of (transfers_by past') (either x (cond (same name key) (some grant) none))) ≡ true
      by key none w = own (same name key)
      by key (some g) w =
          caps_kept (transfers_by p) (transfers_by past') (λ k. omega (arith, same-sums (sent k)))
          (λ k. omega (arith, same-sums (received k))) (some g) w

  pub joined-agrees : (b after : Book) → Agrees b p → Joined b after name cap → shape after ≡ true → wide after → Agrees after past'
  joined-agrees b after a l s w =
      agrees_still b after p a (join name cap) answer s w l.frame l.clock members
      (λ f. ap (sum f) l.transfers ∙ a.transfers f ∙ sym (same-sums f)) (orderly_joined a.orderly)
    where
      newcomer : member_by (transfers_by past') grant ≡ comer
      newcomer = λ i. record {
        key = name;
        standing = record {
          cap = ten_thousandths cap;
          position = (sym (same-position name) ∙ position-none (transfers_by p) name (a.orderly.strangers name unheld)) i;
        };
      }

      member_kept : (g : Grant) → member_by (transfers_by p) g ≡ member_by (transfers_by past') g
      member_kept g = λ i. record { key = g.key; standing = record { cap = g.cap; position = same-position g.key i } }

      members : members_in after ≡ map (member_by (transfers_by past')) (grants_by past')
      members =
          l.members
          ∙ ap (λ ms. ms ++ (comer ∷ [])) (a.members
          ∙ map_ext (member_by (transfers_by p)) (member_by (transfers_by past')) member_kept (grants_by p))
          ∙ ap (λ m. map (member_by (transfers_by past')) (grants_by p) ++ (m ∷ [])) (sym newcomer)
          ∙ sym (ap (map (member_by (transfers_by past'))) one-grant_more
          ∙ map-append (member_by (transfers_by past')) (grants_by p) (grant ∷ []))
