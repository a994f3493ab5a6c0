-- Lookup: what it answers out of shape, out of form, and on the record of an id; and that a record found lies in its book.
use Prim.Native.Nat.{ℕ, ◌+◌, ◌*◌, ◌≤◌}
use mathlib.Core.Path.{◌≡◌, refl, ap, sym, ◌∙◌}
use mathlib.Core.Bool.{Bool, true, false, cond, not}
use mathlib.Core.List.{List}
use mathlib.Core.Option as maybe
use Rattle.std.specs.Prelude.{Option, Some, None, Result, MatchResult}
use Rattle.std.specs.Option.{ok_or}
use lib.ListN.{length}
use Rattle.form.specs.Listings.{id_form}
use Rattle.uuid_text.specs.Id.{id_of}
use Rattle.record.specs.Layout.{num, number_field}
use Rattle.rules.specs.declared.Answer.{Answer}
use Rattle.rules.specs.declared.Answer.TheVariants.{Done, NotInForm, UnknownId, OutOfShape}
use Rattle.rules.specs.Answers.{is_done}
use Rattle.rules.specs.Calls.{Text, lookup, is_of}
use Rattle.rules.specs.Rules.{answer_to, lookup_rules, number_or}
use Rattle.rules.specs.View.{Transfer}
use Rattle.shape.specs.Reading.{Book, held_transfer, map_some, transfer_of, names_of}
use Rattle.shape.specs.Shape.{shape}
use Rattle.shape.specs.Seen.{seen}
use Rattle.shape.specs.Sound.{Sound}
use Rattle.shape.proofs.Sound.{sound}
use Rattle.book.specs.declared.Place.{Place}
use Rattle.book.specs.declared.Place.TheVariants.{Opened, Ended}
use Rattle.book.specs.Step.{Outcome, where_is, record_in}
use Rattle.book.specs.Inner.{kept, row_at, Inside}
use Rattle.book.proofs.Replies.{out_of_shape_lem, not_in_form, by_rules}
use Rattle.book.proofs.Held.{held_at}
use Rattle.book.proofs.Decisions.{inside_found}
use Rattle.lookup.specs.Effect.{lookup_step, lookup_place}

-- what the book holds under an id is the record at the place that the search gives
module _ (b : Book) where
  abbrev transfer_at : Option Place → maybe.Option Transfer
  transfer_at p = map_some (transfer_of (names_of b.head)) (row_at b p)

  held : (id : List ℕ) → held_transfer b id ≡ transfer_at (where_is b id)
  held id = ap (map_some (transfer_of (names_of b.head))) (held_at b id)

  abbrev by_transfer : maybe.Option Transfer → Outcome
  by_transfer t = record {
    answer = lookup_rules t;
    mark = number_or 0 t;
    left = cond (is_done (lookup_rules t)) b b;
  }

  -- once the id is in form: the record of the id, or 11
  abbrev pub found_at : Option Place → Outcome
  found_at (Some p) = kept b Done (num number_field (record_in b.opened b.ended p))
  found_at None = kept b UnknownId 0

  at_place : (p : Option Place) → by_transfer (transfer_at p) ≡ found_at p
  unfolding transfer_of
  at_place (Some (Opened k)) = refl
  at_place (Some (Ended k)) = refl
  at_place None = refl

  same_place : (p : Option Place) → cond (is_done (lookup_rules (transfer_at p))) p None ≡ p
  same_place (Some p) = refl
  same_place None = refl

module _ (b : Book) (id : Text) where
  pub lookup_out_of_shape : shape b ≡ false → kept b OutOfShape 0 ≡ lookup_step b id
  unfolding lookup_step
  lookup_out_of_shape e = out_of_shape_lem b b (lookup id) refl e

  pub nowhere_out_of_shape : shape b ≡ false → None ≡ lookup_place b id
  unfolding lookup_place
  nowhere_out_of_shape e = rw e

  module _ (s : shape b ≡ true) where
    pub lookup_not_in_form : is_of id_form id ≡ false → kept b NotInForm 0 ≡ lookup_step b id
    unfolding lookup_step
    lookup_not_in_form e = not_in_form b b (lookup id) (rw s) e

    pub nowhere_not_in_form : is_of id_form id ≡ false → None ≡ lookup_place b id
    unfolding lookup_place
    nowhere_not_in_form e = rw (s, e)

    module _ (e : is_of id_form id ≡ true) where
      answer-held : answer_to (seen b) (lookup id) ≡ lookup_rules (held_transfer b (id_of id))
      answer-held = rw (s, e)

      pub lookup_found : found_at b (where_is b (id_of id)) ≡ lookup_step b id
      unfolding lookup_step
      lookup_found =
          sym (by_rules b b (lookup id) (rw s) e ∙ ap (by_transfer b) (held b (id_of id)) ∙ at_place b (where_is b (id_of id)))

      pub place_found : where_is b (id_of id) ≡ lookup_place b id
      unfolding lookup_place
      place_found =
          sym (ap (λ (a : Answer). cond (is_done a) (where_is b (id_of id)) None)
          (answer-held ∙ ap lookup_rules (held b (id_of id)))
          ∙ same_place b (where_is b (id_of id)))

-- a record that was found lies in its book
placed : (t : Bool) (p q : Option Place) → cond t p None ≡ q → (q ≡ None → ⊥) → (t ≡ true) × (p ≡ q)
placed true p q e n = (refl, e)
placed false p q e n = absurd (n (sym e))

shaped : (t : Bool) (a : Answer) → is_done (cond (not t) OutOfShape a) ≡ true → t ≡ true
shaped true a e = refl
shaped false a e = e

module _ (b : Book) (id : Text) (long : length b.head.accounts ≡ 32) where
  found : (q : Place) → lookup_place b id ≡ Some q → Sound b × (where_is b (id_of id) ≡ Some q)
  unfolding lookup_place
  found q e =
      let p = placed (is_done (answer_to (seen b) (lookup id))) (where_is b (id_of id)) (Some q) e (λ f. cc) in
      (sound b long (shaped (shape b) _ p.0), p.1)

  pub inside : (q : Place) → lookup_place b id ≡ Some q → Inside b.opened b.ended q
  inside q e = let p = found q e in inside_found b p.0 (id_of id) q p.1

  pub in_opened : (k : ℕ) → lookup_place b id ≡ Some (Opened k) → k * 160 + 160 ≤ length b.opened
  in_opened k e = inside (Opened k) e

  pub in_finished : (k : ℕ) → lookup_place b id ≡ Some (Ended k) → k * 160 + 160 ≤ length b.ended
  in_finished k e = inside (Ended k) e

-- what the search tells: a place that is the record's, or what refuses the call
abbrev pub Told : Book → Text → Result Place Answer → Type 0
Told b id r =
    MatchResult r
    (λ p. Inside b.opened b.ended p × (found_at b (Some p) ≡ lookup_step b id) × (Some p ≡ lookup_place b id))
    (λ a. (kept b a 0 ≡ lookup_step b id) × (None ≡ lookup_place b id))

module _ (b : Book) (id : Text) where
  pub told : length b.head.accounts ≡ 32 → shape b ≡ true → is_of id_form id ≡ true →
      (p : Option Place) → p ≡ where_is b (id_of id) → Told b id (ok_or p UnknownId)
  told long s e (Some p) w =
      (inside_found b (sound b long s) (id_of id) p (sym w), ap (found_at b) w ∙ lookup_found b id s e, w ∙ place_found b id s e)
  told long s e None w = (ap (found_at b) w ∙ lookup_found b id s e, w ∙ place_found b id s e)
