-- What the readers answer, from what they found.
use mathlib.Core.Path.{◌≡◌, sym, ap, ◌∙◌}
use mathlib.Core.Bool.{true, false, cond}
use mathlib.Core.List.{List, map}
use mathlib.Core.Logic.{⊎_elim}
use Prim.Native.Nat.{ℕ, ◌+◌, ◌≤◌, ◌<◌}
use native.Mathlib.Omega.{arith}
use lib.Dec.{ltb}
use borrow.Author.Tests.{lt-ltb, le-ltb}
use lib.ListN.{length}
use Rattle.octets.specs.Bytes.{Bytes}
use Rattle.form.specs.Regex.{judge}
use Rattle.form.specs.Listings.{condition_form, packet_form}
use Rattle.std.specs.Prelude.{Ok, Err}
use Rattle.form.specs.declared.Stop.{Stop}
use Rattle.form.specs.Verdict.{Verdict, of_form, stops_at, value_by}
use Rattle.base64url.specs.Letters.{value_of}
use Rattle.base64url.specs.Condition.{bytes_of, read_condition}
use Rattle.base64url.specs.Scan.{all_letters, letters_first, past_pad}
use Rattle.base64url.proofs.Run.{true_false, judged_condition, judged_packet}

-- a text of 43 letters has its bytes, and any other is refused after the letters that it begins with
module _ (s : List ℕ) (b : Bytes s) where
  pub fitted : length s ≡ 43 → all_letters s ≡ true → Ok (bytes_of (map value_of s)) ≡ read_condition s
  unfolding read_condition
  fitted l a =
      ⊎_elim (λ w. ap (λ (v : Verdict). value_by v (bytes_of (map value_of s))) (sym w.fits)) (λ w. absurd (w.lacks l a)) (judged_condition s b)

  pub stopped : (e : Stop) → e.at ≡ letters_first 43 s → (length s ≡ 43 → all_letters s ≡ true → ⊥) → Err e ≡ read_condition s
  unfolding read_condition
  stopped e n h = ⊎_elim (λ w. absurd (h w.long w.letters)) (λ w. found w.stops) (judged_condition s b)
    where
      found : judge condition_form s ≡ stops_at (0 + letters_first 43 s) → Err e ≡ value_by (judge condition_form s) (bytes_of (map value_of s))
      found f =
          let g : 0 + letters_first 43 s ≡ e.at = omega arith in
          ap (λ (v : Verdict). value_by v (bytes_of (map value_of s))) (sym (f ∙ ap (λ (m : ℕ). stops_at m) g))

  pub lacking : (e : Stop) → e.at ≡ letters_first 43 s → all_letters s ≡ false → Err e ≡ read_condition s
  lacking e n f = stopped e n (λ l h. true_false (sym f ∙ h))

-- a packet with n letters first
module _ (s : List ℕ) (n : ℕ) (f : (n ≡ letters_first 32768 s) × Bytes s) where
  pub no_letter : n ≡ 0 → stops_at 0 ≡ judge packet_form s
  no_letter z = ⊎_elim (λ w. sym w.1) (λ w. absurd (omega (arith, w.0))) (judged_packet s f.1 n f.0)

  module _ (z : n ≡ 0 → ⊥) (i e : ℕ) (p : i ≡ past_pad s n) (q : e ≡ past_pad s i) where
    ended : judge packet_form s ≡ cond (ltb e (length s)) (stops_at e) of_form
    ended = rw (q, p) (⊎_elim (λ w. absurd (z w.0)) (λ w. w.1) (judged_packet s f.1 n f.0))

    pub more_follows : e < length s → stops_at e ≡ judge packet_form s
    more_follows h = sym (rw (lt-ltb e (length s) h) at ended)

    pub nothing_follows : length s ≤ e → of_form ≡ judge packet_form s
    nothing_follows h = sym (rw (le-ltb e (length s) h) at ended)
