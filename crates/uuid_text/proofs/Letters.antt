-- The listing is a row of 36 classes, and so what a text of the form has at each place.
use mathlib.Core.Path.{◌≡◌, sym, subst⁻¹, ◌∙◌}
use mathlib.Core.Bool.{Bool, ◌&&◌}
use mathlib.Core.List.{List, []}
use Prim.Native.Nat.{ℕ, ◌+◌, ◌<◌}
use Prim.Native.Char.{code}
use native.Mathlib.Decide.{ℕ_discrete}
use native.Mathlib.Omega.{arith}
use lib.Dec.{T, ltb, leb, eqb, ltb→lt}
use lib.ListN.{length, get_or}
use Rattle.octets.specs.Bytes.{Bytes}
use Rattle.octets.proofs.Computed.{both, both_left, both_right, implies, implied, below, below_at}
use Rattle.octets.proofs.Lists.{byte-at}
use Rattle.form.specs.Regex.{judge}
use Rattle.form.specs.Listings.{id_form}
use Rattle.form.specs.Verdict.{of_form}
use Rattle.form.proofs.Meaning.{fits}
use Rattle.form.proofs.Same.{same}
use Rattle.form.proofs.Words.{id_words}
use Rattle.form.proofs.Places.{after, matched_bytes}
use Rattle.uuid_text.specs.Id.{dash_before, place_of, is_hex, hex_value, text_before}
use Rattle.uuid_text.specs.Row.{may_stand}
use Rattle.uuid_text.proofs.Row.{Passed, row_from, is_row, judges_as, row-passed}

-- one computed test over the places and all bytes
is-row : T (is_row may_stand id_form (after id_form id_words))
unfolding id_words same ℕ_discrete
is-row = tt

pub id_row : (s : List ℕ) → Bytes s → judge id_form s ≡ row_from may_stand 36 0 s
unfolding id_words
id_row s b = judges_as may_stand 0 id_form (after id_form id_words) is-row s b

pub form_bytes : (s : List ℕ) → judge id_form s ≡ of_form → Bytes s
form_bytes s e = matched_bytes ((fits id_form s).0 e) tt

pub letters : (s : List ℕ) → judge id_form s ≡ of_form → (length s ≡ 36) × Passed may_stand 36 s
letters s e = row-passed may_stand 36 0 s (sym (id_row s (form_bytes s e)) ∙ e)

-- what the class says at each place, as a test q that follows from it, computed over the places below n and all bytes
abbrev follows : ℕ → (ℕ → ℕ) → (ℕ → ℕ → Bool) → Bool
follows n place q = below n (λ k. both (ltb (place k) 36) (below 256 (λ c. implies (may_stand (place k) c) (q k c))))

at_place : (s : List ℕ) → judge id_form s ≡ of_form → (n : ℕ) (place : ℕ → ℕ) (q : ℕ → ℕ → Bool) → T (follows n place q) → (k : ℕ) → k < n →
    T (q k (get_or s (place k) 0))
at_place s e n place q t k h =
    let rule : ℕ → ℕ → Bool = λ j c. implies (may_stand (place j) c) (q j c) in
    let x = below_at n (λ j. both (ltb (place j) 36) (below 256 (rule j))) t k h in
    let i = ltb→lt (place k) 36 (both_left (ltb (place k) 36) (below 256 (rule k)) x) in
    let c = get_or s (place k) 0 in
    implied (may_stand (place k) c) (q k c)
    (below_at 256 (rule k) (both_right (ltb (place k) 36) (below 256 (rule k)) x) c (byte-at s (form_bytes s e) (place k)))
    (subst⁻¹ T ((letters s e).1 (place k) i) tt)

-- the characters of the text before byte k, and what the first digits of the bytes 6 and 8 may be
abbrev pub sofar : ℕ → ℕ
sofar k = length (text_before k [])

abbrev pub version_rule : ℕ → Bool
version_rule c = leb 1 (hex_value c) && leb (hex_value c) 5

abbrev pub variant_rule : ℕ → Bool
variant_rule c = leb 8 (hex_value c) && leb (hex_value c) 11

-- digits at the places of the bytes, dashes before some of them, version and variant
module _ (s : List ℕ) (e : judge id_form s ≡ of_form) where
  pub high_hex : (k : ℕ) → k < 16 → T (is_hex (get_or s (place_of k) 0))
  high_hex = at_place s e 16 place_of (λ k c. is_hex c) tt

  pub low_hex : (k : ℕ) → k < 16 → T (is_hex (get_or s (place_of k + 1) 0))
  low_hex = at_place s e 16 (λ k. place_of k + 1) (λ k c. is_hex c) tt

  pub dash_at : (k : ℕ) → k < 16 → T (implies (dash_before k) (eqb (get_or s (sofar k) 0) (code "-")))
  unfolding text_before
  dash_at = at_place s e 16 sofar (λ k c. implies (dash_before k) (eqb c (code "-"))) tt

  pub version_at : T (version_rule (get_or s 14 0))
  version_at = at_place s e 1 (λ k. 14) (λ k c. version_rule c) tt 0 (omega arith)

  pub variant_at : T (variant_rule (get_or s 19 0))
  variant_at = at_place s e 1 (λ k. 19) (λ k c. variant_rule c) tt 0 (omega arith)
