-- `read_into` meets its contract: where the walk stopped is the verdict, and each byte is that of its place.
use Rattle.std.proofs.Common.{arith, rules, ◌≡◌, ◌≤◌, cond, sym, ℕ, length, w8, Fits, List, get_or, ap, ◌∙◌, is_ok}
use Rattle.std.proofs.iter.Serving.{serving}
use Rattle.form.specs.Regex.{judge}
use Rattle.form.specs.Listings.{id_form}
use Rattle.form.specs.Verdict.{Verdict, of_form}
use Rattle.octets.proofs.Lists.{bytes}
use Rattle.uuid_text.specs.Id.{byte_at, id_of}
use Rattle.uuid_text.specs.Row.{StopsAt}
use Rattle.uuid_text.proofs.Made.{made}
use Rattle.uuid_text.proofs.Walk.{goes_through, stops_there}
use Rattle.uuid_text.proofs.read_into.Goals as goal

pub returns-then-stop-lt36-clause-verdict : goal.returns-then-stop-lt36-clause-verdict
returns-then-stop-lt36-clause-verdict c =
    let s = c.args.s.now in
    let w : StopsAt s c.from-stop.result = rw c.from-stop.ensures c.stop_of.ensures in
    stops_there s (bytes s (λ (i : ℕ). (c.type_inv.s i).fits)) _ w c.then-stop-lt36.either

formed : (s : List ℕ) → ((i : ℕ) → Fits w8 (get_or s i 0)) → (k stop : ℕ) → StopsAt s k → stop ≡ k → 36 ≤ stop → length s ≡ 36 →
    judge id_form s ≡ of_form
formed s small k stop w e h l = goes_through s (bytes s (λ (i : ℕ). (small i).fits)) k w (omega arith) l

pub from_fn-requires : goal.from_fn-requires
from_fn-requires c =
    let e = formed c.args.s.now c.type_inv.s _ _ c.stop_of.ensures c.from-stop.ensures (search rules) (search rules) in
    (search rules, grind serving)

pub returns-then-stop-lt36-clause-bytes : goal.returns-then-stop-lt36-clause-bytes
returns-then-stop-lt36-clause-bytes c =
    let s = c.args.s.now in
    let w : StopsAt s c.from-stop.result = rw c.from-stop.ensures c.stop_of.ensures in
    ap (λ (v : Verdict). cond (is_ok v) (id_of s) c.args.id.now)
    (stops_there s (bytes s (λ (i : ℕ). (c.type_inv.s i).fits)) _ w c.then-stop-lt36.either)

pub returns-clause-verdict : goal.returns-clause-verdict
returns-clause-verdict c =
    sym (formed c.args.s.now c.type_inv.s _ _ c.stop_of.ensures c.from-stop.ensures (search rules) (search rules))

pub returns-clause-bytes : goal.returns-clause-bytes
unfolding id_of
returns-clause-bytes c =
    let s = c.args.s.now in
    let e = formed s c.type_inv.s _ _ c.stop_of.ensures c.from-stop.ensures (search rules) (search rules) in
    let f = c.from_fn.ensures.items in
    made _ _ (byte_at s) 0 16 (λ i y q h k. (search rules, search rules)) c.from_fn.result f.long f.each
    ∙ ap (λ (v : Verdict). cond (is_ok v) (id_of s) c.args.id.now) (sym e)
