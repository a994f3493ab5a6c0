-- What the writer answers, by the tests that it made.
use mathlib.Core.Path.{◌≡◌, ◌∙◌}
use mathlib.Core.List.{List}
use Prim.Native.Nat.{ℕ, ◌≤◌, ◌<◌}
use lib.ListN.{length, length-map}
use borrow.Author.Tests.{lt-ltb, le-ltb, eq-eqb, ne_eqb}
use Rattle.std.specs.Prelude.{Ok, Err}
use Rattle.form.specs.declared.Unwritten.TheVariants.{NotInForm, NoRoom}
use Rattle.base64url.specs.Letters.{letter_of}
use Rattle.base64url.specs.Condition.{values_of, condition_text, write_condition}
use Rattle.base64url.proofs.Groups.{length-values}

pub length-text : (b : List ℕ) → length b ≡ 32 → length (condition_text b) ≡ 43
unfolding condition_text
length-text b l = length-map (values_of b) letter_of ∙ length-values 10 b l

pub ruleset text_lengths = (length-text)

module _ (b : List ℕ) (room : ℕ) where
  pub not_32 : (length b ≡ 32 → ⊥) → Err NotInForm ≡ write_condition b room
  unfolding write_condition
  not_32 h = rw (ne_eqb (length b) 32 h)

  pub no_room : length b ≡ 32 → room < 43 → Err NoRoom ≡ write_condition b room
  unfolding write_condition
  no_room l h = rw (eq-eqb (length b) 32 l, length-text b l, lt-ltb room 43 h)

  pub room_enough : length b ≡ 32 → 43 ≤ room → Ok 43 ≡ write_condition b room
  unfolding write_condition
  room_enough l h = rw (eq-eqb (length b) 32 l, length-text b l, le-ltb room 43 h)
