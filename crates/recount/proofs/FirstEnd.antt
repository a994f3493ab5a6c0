-- The state of a transfer since its prepare: that in which the first accepted call ends it.
use Prim.Native.Nat.{suc, ◌+◌}
use mathlib.Core.Path.{◌≡◌, refl, sym, ap, ◌∙◌}
use mathlib.Core.Bool.{Bool, true, false, false≢true, cond}
use mathlib.Core.List.{List, [], ◌∷◌, ◌++◌, map, append_assoc}
use mathlib.Core.Option.{none, some}
use lib.ListN.{length}
use Rattle.octets.specs.Lists.{first}
use Rattle.octets.proofs.Equal.{same_refl}
use Rattle.uuid_text.specs.Id.{id_of}
use Rattle.rules.specs.Answers.{is_done}
use Rattle.rules.specs.Calls.{PrepareText, content_of}
use Rattle.rules.specs.Calls as rules
use Rattle.rules.specs.View.{State, reserved, committed, aborted, expired, Transfer}
use Rattle.rules.specs.Rules.{answer_to}
use Rattle.shape.specs.Reading.{Book, map_some}
use Rattle.octets.proofs.Tests.{both}
use Rattle.ledger.specs.Ledger.{is_reserved}
use Rattle.recount.specs.History.{Came, prepare, call_of, left_by, book_after, is_accepted, none_reopens}
use Rattle.recount.specs.Recount.{Past, Entry, ending_by, or_else, end_of, prepared_by, and_then, has_id, transfers_of, recounted, past_with, past_after}
use Rattle.recount.specs.Mission.{ending_on, none_ends}
use Rattle.recount.proofs.Sums.{either, first-append, first-map}
use Rattle.recount.proofs.Given.{CallLaws}
use Rattle.recount.proofs.Later.{later, transfers_append, transfers_one, end-append, end-one, or_else-ended}
use Rattle.recount.proofs.Agrees.{Agrees}
use Rattle.recount.proofs.Allowed.{prepare_allowed}
use Rattle.recount.proofs.Kept.{kept, all-kept}
use Rattle.recount.proofs.Onward.{noted, noted_in, accepted-is, entries_one, entries_after, held-later}

-- what is noted of one list and then another
noted-append : (p : Past) (calls more : List Came) → noted_in p (calls ++ more) ≡ noted_in p calls ++ noted_in (past_after p calls) more
unfolding noted_in past_after
noted-append p [] more = refl
noted-append p (c ∷ cs) more =
    ap (◌++◌ (noted p c)) (noted-append (past_with p c) cs more)
    ∙ sym (append_assoc (noted p c) (noted_in (past_with p c) cs) (noted_in (past_after (past_with p c) cs) more))

is-reserved : (s : State) → is_reserved s ≡ true → s ≡ reserved
is-reserved reserved e = refl
is-reserved (committed f) e = absurd (false≢true e)
is-reserved (aborted n) e = absurd (false≢true e)
is-reserved expired e = absurd (false≢true e)

module _ (laws : CallLaws) (t : PrepareText) where
  -- the end by what a call notes is the end by the call, where it is accepted
  end-noted : (b : Book) (p : Past) → Agrees b p → (c : Came) → end_of (content_of t) (noted p c) ≡ ending_on t b c
  unfolding end_of
  end-noted b p a c =
      go (is_done (answer_to (recounted p) (call_of c)))
      ∙ ap (λ d. cond d (ending_by (content_of t) (call_of c)) reserved) (sym (accepted-is laws b p a c))
    where
      go : (d : Bool) → end_of (content_of t) (cond d (record { call = call_of c; answer = answer_to (recounted p) (call_of c) } ∷ []) [])
          ≡ cond d (ending_by (content_of t) (call_of c)) reserved
      go true = end-one (content_of t) (record { call = call_of c; answer = answer_to (recounted p) (call_of c) })
      go false = refl

  pub none-ended : (calls : List Came) (b : Book) (p : Past) → Agrees b p → none_ends t b calls ≡ true →
      end_of (content_of t) (noted_in p calls) ≡ reserved
  unfolding noted_in none_ends end_of
  none-ended [] b p a n = refl
  none-ended (c ∷ cs) b p a n =
      let m = both (is_reserved (ending_on t b c)) (none_ends t (left_by b c) cs) n in
      end-append (content_of t) (noted p c) (noted_in (past_with p c) cs)
      ∙ ap (λ s. or_else s (end_of (content_of t) (noted_in (past_with p c) cs))) (end-noted b p a c ∙ is-reserved (ending_on t b c) m.0)
      ∙ none-ended cs (left_by b c) (past_with p c) (kept laws b p a c) m.1

  -- the first call that ends it, after calls that do not and before any others
  pub first_ended : (between rest : List Came) (c : Came) (b : Book) (p : Past) → Agrees b p → none_ends t b between ≡ true →
      is_reserved (ending_on t (book_after b between) c) ≡ false →
      end_of (content_of t) (noted_in p (between ++ (c ∷ rest))) ≡ ending_on t (book_after b between) c
  unfolding noted_in
  first_ended between rest c b p a n e =
      let q = past_after p between in
      let s = ending_on t (book_after b between) c in
      let after = end_of (content_of t) (noted_in (past_with q c) rest) in
      ap (end_of (content_of t)) (noted-append p between (c ∷ rest))
      ∙ end-append (content_of t) (noted_in p between) (noted q c ++ noted_in (past_with q c) rest)
      ∙ ap (λ z. or_else z (end_of (content_of t) (noted q c ++ noted_in (past_with q c) rest))) (none-ended between b p a n)
      ∙ end-append (content_of t) (noted q c) (noted_in (past_with q c) rest)
      ∙ ap (λ z. or_else z after) (end-noted (book_after b between) q (all-kept laws between b p a) c)
      ∙ or_else-ended s after e

-- a transfer that was just prepared is found under its id
new-held : (es : List Entry) (e : Entry) (t : PrepareText) → e.call ≡ rules.prepare t →
    first (has_id (id_of t.id)) (transfers_of 0 es) ≡ none →
    first (has_id (id_of t.id)) (transfers_of 0 (es ++ (e ∷ [])))
    ≡ some (record { content = content_of t; number = suc (0 + length (transfers_of 0 es)); state = reserved })
new-held es e t c f =
    let q = has_id (id_of t.id) in
    let ts = transfers_of 0 es in
    let news = transfers_of (0 + length ts) (e ∷ []) in
    let new : Transfer = record { content = content_of t; number = suc (0 + length ts); state = reserved } in
    ap (first q) (transfers_append 0 es (e ∷ [])) ∙ first-append q (map (later (e ∷ [])) ts) news
    ∙ ap (λ o. either o (first q news)) (first-map q (later (e ∷ [])) ts ∙ ap (map_some (later (e ∷ []))) f)
    ∙ ap (first q) (transfers_one e (0 + length ts) ∙ ap (λ k. and_then (prepared_by k) (0 + length ts) (λ d. reserved) (λ m. [])) c)
    ∙ ap (λ d. cond d (some new) none) (same_refl (id_of t.id))

-- its state, by what was noted since
module _ (laws : CallLaws) (t : PrepareText) (b : Book) (p : Past) (a : Agrees b p) (e : is_accepted b (prepare t) ≡ true) where
  pub accepted : is_done (answer_to (recounted p) (rules.prepare t)) ≡ true
  accepted = sym (accepted-is laws b p a (prepare t)) ∙ e

  pub state_since : (since : List Came) → none_reopens (left_by b (prepare t)) since ≡ true →
      map_some (λ u. u.state) ((recounted (past_after (past_with p (prepare t)) since)).held (id_of t.id))
      ≡ some (end_of (content_of t) (noted_in (past_with p (prepare t)) since))
  state_since since n =
      let q = past_with p (prepare t) in
      let es = p.entries in
      let entry : Entry = record { call = rules.prepare t; answer = answer_to (recounted p) (rules.prepare t) } in
      let one : q.entries ≡ es ++ (entry ∷ []) =
      entries_one laws b p a (prepare t) refl ∙ ap (λ d. es ++ cond d (entry ∷ []) []) accepted in
      let held = new-held es entry t refl (prepare_allowed (recounted p) t accepted).fresh in
      ap (λ ds. map_some (λ (u : Transfer). u.state) (first (has_id (id_of t.id)) (transfers_of 0 ds)))
      (entries_after laws since (left_by b (prepare t)) q (kept laws b p a (prepare t)) n)
      ∙ ap (map_some (λ (u : Transfer). u.state))
      (held-later q.entries (noted_in q since) (id_of t.id) _ (ap (λ ds. first (has_id (id_of t.id)) (transfers_of 0 ds)) one ∙ held))
