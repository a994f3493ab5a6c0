-- A resend is known by its values, never by its text (01, "Errors that look right": "Comparing a resend by its text, so `Z` and `+00:00`
-- differ").
use mathlib.Core.Path.{◌≡◌, refl, ap, ◌∙◌}
use mathlib.Core.Bool.{Bool, true, cond}
use mathlib.Core.Option.{some}
use native.Mathlib.Omega.{arith}
use borrow.Author.Tests.{eq-eqb}
use Rattle.octets.specs.Ascii.{ascii}
use Rattle.octets.proofs.Equal.{same_refl}
use Rattle.octets.proofs.Integers.{le_yes}
use Rattle.datetime.specs.Instant.{instant_of, offset_after}
use Rattle.base64url.specs.Letters.{value_of, place_from, alphabet}
use Rattle.base64url.specs.Condition.{bytes_of}
use Rattle.rules.specs.declared.Answer.TheVariants.{OtherContent, Resend}
use Rattle.rules.specs.Calls.{Text, PrepareText, Content, condition_of, content_of}
use Rattle.rules.specs.View.{Transfer, View}
use Rattle.rules.specs.Rules.{same_content, id_rules}

-- a prepare with its condition and expiration in other words
abbrev pub reworded : PrepareText → Text → Text → PrepareText
reworded p condition expiration = record {
  id = p.id;
  payer = p.payer;
  payee = p.payee;
  currency = p.currency;
  amount = p.amount;
  condition = condition;
  expiration = expiration;
  packet = p.packet;
}

-- the same values are the same content
pub one_content : (p : PrepareText) (condition expiration : Text) → condition_of condition ≡ condition_of p.condition →
    instant_of expiration ≡ instant_of p.expiration → content_of (reworded p condition expiration) ≡ content_of p
one_content p condition expiration c e = rw (c, e)

-- the same content is answered 24
same_as_itself : (c : Content) → same_content c c ≡ true
same_as_itself c =
    rw (
      same_refl c.payer,
      same_refl c.payee,
      eq-eqb c.amount c.amount refl,
      same_refl c.condition,
      le_yes c.expiration c.expiration (omega arith),
      same_refl c.packet,
    )

-- a prepare that is held and comes again in other words is a resend
pub resent : (v : View) (t : Transfer) (p : PrepareText) (condition expiration : Text) → t.content ≡ content_of p →
    condition_of condition ≡ condition_of p.condition → instant_of expiration ≡ instant_of p.expiration →
    id_rules v (some t) (content_of (reworded p condition expiration)) ≡ Resend
resent v t p condition expiration held c e =
    let again = content_of (reworded p condition expiration) in
    ap (λ (same : Bool). cond same Resend OtherContent)
    (ap (λ (d : Content). same_content d again) held ∙ ap (same_content (content_of p)) (one_content p condition expiration c e)
    ∙ same_as_itself (content_of p))

-- `Z` and `+00:00`; the last letter of a condition, whose two low bits are dropped
pub z_and_zero : instant_of (ascii "2024-01-01T00:01:00.000Z") ≡ instant_of (ascii "2024-01-01T00:01:00.000+00:00")
unfolding offset_after
z_and_zero = refl

pub last_letter : condition_of (ascii "AAAAAAAAAAAAAAAAAAAAAAAAAAAAAAAAAAAAAAAAAAA")
    ≡ condition_of (ascii "AAAAAAAAAAAAAAAAAAAAAAAAAAAAAAAAAAAAAAAAAAD")
unfolding value_of place_from alphabet bytes_of
last_letter = refl
