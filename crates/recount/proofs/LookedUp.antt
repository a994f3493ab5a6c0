-- What a lookup gives of an id: the transfer that a book of the shape holds under it.
use Prim.Native.Nat.{ℕ}
use mathlib.Core.Path.{◌≡◌, refl, sym, ap, ◌∙◌}
use mathlib.Core.Bool.{Bool, true, false, cond}
use mathlib.Core.List.{List, [], ◌∷◌}
use mathlib.Core.Option.{none, some}
use native.Mathlib.Omega.{arith}
use lib.ListN.{length}
use Rattle.form.specs.Listings.{id_form}
use Rattle.uuid_text.specs.Id.{id_of}
use Rattle.record.specs.Layout.{Row}
use Rattle.record.specs.Rows.{row}
use Rattle.record.proofs.Rows.{length-row}
use Rattle.rules.specs.Calls.{Text, is_of, in_form, lookup}
use Rattle.shape.specs.Reading.{Book, names_of, transfer_of, map_some, held_transfer}
use Rattle.shape.specs.Shape.{shape}
use Rattle.std.specs.Prelude.{Option, Some, None}
use Rattle.book.specs.declared.Place.{Place}
use Rattle.book.specs.declared.Place.TheVariants.{Opened, Ended}
use Rattle.book.specs.Inner.{row_at}
use Rattle.book.proofs.Held.{held_at}
use Rattle.lookup.specs.Effect.{lookup_place, part_at}
use Rattle.lookup.proofs.Found.{nowhere_not_in_form, place_found, in_opened, in_finished}
use Rattle.recount.specs.Demand.{read_part, looked_up}
use Rattle.recount.proofs.Given.{wide}

read_row : (names : List (List ℕ)) (r : Row) → length r ≡ 160 → read_part names r ≡ some (transfer_of names r)
read_row names [] h = absurd (omega arith)
read_row names (x ∷ xs) h = refl

module _ (b : Book) (e : shape b ≡ true) (w : wide b) (id : Text) where
  abbrev names : List (List ℕ)
  names = names_of b.head

  read_place : (q : Option Place) → lookup_place b id ≡ q → read_part names (part_at b q) ≡ map_some (transfer_of names) (row_at b q)
  read_place (Some (Opened k)) f = read_row names (row b.opened k) (length-row b.opened k (in_opened b id w k f))
  read_place (Some (Ended k)) f = read_row names (row b.ended k) (length-row b.ended k (in_finished b id w k f))
  read_place None f = refl

  pub looked_up_lem : looked_up b id ≡ cond (in_form (lookup id)) (held_transfer b (id_of id)) none
  looked_up_lem = go (in_form (lookup id)) refl
    where
      go : (t : Bool) → is_of id_form id ≡ t → looked_up b id ≡ cond t (held_transfer b (id_of id)) none
      go true f =
          read_place (lookup_place b id) refl
          ∙ ap (map_some (transfer_of names)) (ap (row_at b) (sym (place_found b id e f)) ∙ sym (held_at b (id_of id)))
      go false f = ap (λ q. read_part names (part_at b q)) (sym (nowhere_not_in_form b id e f))
