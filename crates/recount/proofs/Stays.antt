-- A book and a past that agree, after one call more: what is left to show, call by call.
use mathlib.Core.Path.{◌≡◌, sym, ap, ◌∙◌}
use mathlib.Core.Bool.{true}
use mathlib.Core.List.{[], ◌∷◌, map, map-map}
use mathlib.Core.Option.{none}
use Rattle.rules.specs.declared.Answer.{Answer}
use Rattle.rules.specs.Calls.{Call}
use Rattle.shape.specs.Reading.{Book}
use Rattle.shape.specs.Shape.{shape}
use Rattle.ledger.specs.Ledger.{Member, transfers_in, members_in}
use Rattle.ledger.specs.Laws.{SameFrame}
use Rattle.recount.specs.Recount.{Past, Grant, granted_by, clock_by, or_still, clock_of, entered}
use Rattle.recount.proofs.Sums.{SumsAgree, map_ext}
use Rattle.recount.proofs.Later.{clock-append, clock-one}
use Rattle.recount.proofs.Given.{wide}
use Rattle.recount.proofs.Agrees.{transfers_by, grants_by, member_by, Orderly, Agrees}
use Rattle.recount.proofs.Noted.{grants_kept}

module _ (b after : Book) (p : Past) (a : Agrees b p) (c : Call) (answer : Answer) where
  -- each member changed as the transfers say; nobody joins
  pub members_stay : (f : Member → Member) → members_in after ≡ map f (members_in b) → granted_by c ≡ none →
      ((g : Grant) → f (member_by (transfers_by p) g) ≡ member_by (transfers_by (entered p c answer)) g) →
      members_in after ≡ map (member_by (transfers_by (entered p c answer))) (grants_by (entered p c answer))
  members_stay f m n h =
      m ∙ ap (map f) a.members ∙ map-map f (member_by (transfers_by p)) (grants_by p)
      ∙ map_ext (λ g. f (member_by (transfers_by p) g)) (member_by (transfers_by (entered p c answer))) h (grants_by p)
      ∙ ap (map (member_by (transfers_by (entered p c answer)))) (sym (grants_kept p.entries (record { call = c; answer = answer }) n))

  pub agrees_still : shape after ≡ true → wide after → SameFrame b after → after.head.time ≡ or_still (clock_by c) b.head.time →
      members_in after ≡ map (member_by (transfers_by (entered p c answer))) (grants_by (entered p c answer)) →
      SumsAgree (transfers_in after) (transfers_by (entered p c answer)) →
      Orderly (transfers_by (entered p c answer)) (grants_by (entered p c answer)) → Agrees after (entered p c answer)
  agrees_still s w f t m ts o = record {
    shaped = s;
    wide = w;
    currency = f.currency ∙ a.currency;
    clock = t ∙ ap (or_still (clock_by c)) a.clock
        ∙ sym (clock-append p.start p.entries (record { call = c; answer = answer } ∷ [])
        ∙ clock-one (record { call = c; answer = answer }) (clock_of p.start p.entries));
    slots = f.slots ∙ a.slots;
    places = f.places ∙ a.places;
    members = m;
    transfers = ts;
    orderly = o;
  }
