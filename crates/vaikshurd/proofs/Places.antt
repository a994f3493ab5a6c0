-- Where a lookup finds a record: what is given on a head not of the form, and that a record's first byte lies low enough to be given.
use Prim.Native.Nat.{ℕ, ◌*◌, ◌<◌}
use mathlib.Core.Path.{◌≡◌, refl, sym, ◌∙◌}
use mathlib.Core.Bool.{Bool, true, false}
use mathlib.Core.List.{List}
use native.Mathlib.Omega.{arith}
use lib.ListN.{length}
use Rattle.account.specs.declared.Head.{Head}
use Rattle.head_form.specs.Form.{head_from, is_formed}
use Rattle.rules.specs.Calls.{Text}
use Rattle.shape.specs.Reading.{Book}
use Rattle.shape.specs.Shape.{shape}
use Rattle.shape.specs.Sound.{Sound}
use Rattle.shape.proofs.Sound.{sound}
use Rattle.std.specs.Prelude.{Option, Some, None}
use Rattle.book.specs.declared.Place.{Place}
use Rattle.book.specs.declared.Place.TheVariants.{Opened, Ended}
use Rattle.book.specs.Step.{book_of}
use Rattle.lookup.specs.Effect.{lookup_place}
use Rattle.lookup.proofs.Found.{nowhere_out_of_shape, in_opened, in_finished}
use Rattle.vaikshurd.specs.Face.{place_word, place_left}
use Rattle.vaikshurd.specs.Inner.{Low}

module _ (head opened ended : List ℕ) (id : Text) (t : Bool) (e : t ≡ is_formed head) where
  pub place_formless : t ≡ false → 0 ≡ place_left head opened ended id
  unfolding place_left
  place_formless n = rw (sym e ∙ n)

  -- the place found on the decoded head h
  pub place_found : t ≡ true → (h : Head) → h ≡ head_from head → (p : Option Place) → p ≡ lookup_place (book_of h opened ended) id →
      place_word p ≡ place_left head opened ended id
  unfolding place_left
  place_found n h d p f = rw (sym e ∙ n, ← d, f)

-- a place is given in a book of the shape only, whose records are fewer than 65,536
module _ (b : Book) (id : Text) (long : length b.head.accounts ≡ 32) where
  found_sound : (lookup_place b id ≡ None → ⊥) → Sound b
  found_sound n = sound b long (by (shape b) refl)
    where
      by : (t : Bool) → shape b ≡ t → t ≡ true
      by true e = refl
      by false e = absurd (n (sym (nowhere_out_of_shape b id e)))

  pub low_opened : (k : ℕ) → lookup_place b id ≡ Some (Opened k) → k * 160 < 4294967296
  low_opened k e =
      let s = found_sound (λ f. let z : ◌≡◌ {A = ℕ} 0 1 = cc in omega arith) in
      omega (arith, in_opened b id long k e, s.lengths.opened, s.lengths.few_slots)

  pub low_finished : (k : ℕ) → lookup_place b id ≡ Some (Ended k) → k * 160 < 4294967296
  low_finished k e =
      let s = found_sound (λ f. let z : ◌≡◌ {A = ℕ} 0 1 = cc in omega arith) in
      omega (arith, in_finished b id long k e, s.lengths.ended, s.lengths.few_places)

  pub place_low : (p : Option Place) → p ≡ lookup_place b id → Low p
  place_low (Some (Opened k)) e = low_opened k (sym e)
  place_low (Some (Ended k)) e = low_finished k (sym e)
  place_low None e = tt
