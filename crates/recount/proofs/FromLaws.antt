-- Demand 3 holds of every book that was opened and every list of calls.
use Prim.Native.Nat.{ℕ}
use mathlib.Core.Path.{◌≡◌, refl, sym, ap, ap₂, ◌∙◌}
use mathlib.Core.Bool.{Bool, true, false, false≢true, cond, not}
use mathlib.Core.List.{List, ◌∷◌, ◌++◌}
use mathlib.Core.Option.{Option, none, some}
use lib.IntN.{pos}
use Rattle.octets.specs.Lists.{all}
use Rattle.form.specs.Listings.{id_form}
use Rattle.uuid_text.specs.Id.{id_of}
use Rattle.rules.specs.Answers.{is_done}
use Rattle.rules.specs.Calls.{Text, PrepareText, content_of, is_of, in_form}
use Rattle.rules.specs.Calls as rules
use Rattle.rules.specs.View.{Transfer, View}
use Rattle.shape.specs.Reading.{Book, map_some}
use Rattle.shape.specs.Seen.{seen}
use Rattle.octets.proofs.Tests.{both}
use Rattle.book.specs.Step.{book_of}
use Rattle.open_book.specs.Effect.{open_step}
use Rattle.ledger.specs.Ledger.{is_reserved}
use Rattle.recount.specs.History.{Came, «open», prepare, book_after, replies_of, is_accepted, none_reopens}
use Rattle.recount.specs.Recount.{Past, end_of, still_reserved, recounted, past_with, past_after, recount_of}
use Rattle.recount.specs.Demand.{fresh_past, looked_up, within_cap, is21, has_ended, Demand3}
use Rattle.recount.specs.Mission.{state_in, prepared_in, Mission}
use Rattle.recount.proofs.Given.{CallLaws}
use Rattle.recount.proofs.Agrees.{Agrees}
use Rattle.recount.proofs.Allowed.{in_form_lem}
use Rattle.recount.proofs.Kept.{opened_agrees, same_view, kept, all-kept}
use Rattle.recount.proofs.Replies.{told-seen, all_told, none_21}
use Rattle.recount.proofs.Balance.{balanced}
use Rattle.recount.proofs.LookedUp.{looked_up_lem}
use Rattle.recount.proofs.Onward.{noted_in, past-append, ended_stays}
use Rattle.recount.proofs.FirstEnd.{none-ended, first_ended, accepted, state_since}

module _ (laws : CallLaws) (b : Book) (currency instant : Text) (done : is_done (open_step b currency instant).answer ≡ true) where
  abbrev start : Book
  start = (open_step b currency instant).left

  abbrev fresh : Past
  fresh = fresh_past b currency instant

  pub after : (calls : List Came) → Agrees (book_after start calls) (past_after fresh calls)
  after calls = all-kept laws calls start fresh (opened_agrees laws b currency instant done)

  view : (calls : List Came) → seen (book_after start calls) ≡ recounted (past_after fresh calls)
  view calls = same_view laws (book_after start calls) (past_after fresh calls) (after calls)

  pub found : (calls : List Came) (id : Text) →
      looked_up (book_after start calls) id ≡ cond (in_form (rules.lookup id)) ((recounted (past_after fresh calls)).held (id_of id)) none
  found calls id =
      looked_up_lem (book_after start calls) (after calls).shaped (after calls).wide id
      ∙ ap (λ (v : View). cond (in_form (rules.lookup id)) (v.held (id_of id)) none) (view calls)

  ended_once : (calls more : List Came) (id : Text) → has_ended (looked_up (book_after start calls) id) ≡ true →
      none_reopens (book_after start calls) more ≡ true →
      looked_up (book_after start (calls ++ more)) id ≡ looked_up (book_after start calls) id
  ended_once calls more id e n =
      found (calls ++ more) id
      ∙ by (in_form (rules.lookup id)) ((recounted (past_after fresh calls)).held (id_of id)) refl (sym (ap has_ended (found calls id)) ∙ e)
      ∙ sym (found calls id)
    where
      not-true : (t : Bool) → not t ≡ true → t ≡ false
      not-true true e = sym e
      not-true false e = refl

      by : (f : Bool) (o : Option Transfer) → (recounted (past_after fresh calls)).held (id_of id) ≡ o → has_ended (cond f o none) ≡ true →
          cond f ((recounted (past_after fresh (calls ++ more))).held (id_of id)) none ≡ cond f o none
      by false o h e = refl
      by true none h e = absurd (false≢true e)
      by true (some t) h e =
          ap (λ (q : Past). (recounted q).held (id_of id)) (past-append fresh calls more)
          ∙ ended_stays laws more (book_after start calls) (past_after fresh calls) (after calls) n (id_of id) t h
          (not-true (is_reserved t.state) e)

  -- the state of a transfer, by what was noted since its prepare
  module _ (before : List Came) (t : PrepareText) (e : is_accepted (book_after start before) (prepare t) ≡ true) where
    abbrev noted-first : Past
    noted-first = past_with (past_after fresh before) (prepare t)

    id_in_form : in_form (rules.lookup t.id) ≡ true
    id_in_form =
        (both (is_of id_form t.id) _ (in_form_lem (recounted (past_after fresh before)) (rules.prepare t)
        (accepted laws t (book_after start before) (past_after fresh before) (after before) e))).0

    state_told : (since : List Came) → none_reopens (prepared_in start before t) since ≡ true →
        state_in (book_after start (before ++ (prepare t ∷ since))) t.id ≡ some (end_of (content_of t) (noted_in noted-first since))
    unfolding past_after
    state_told since n =
        ap (map_some (λ (u : Transfer). u.state))
        (found (before ++ (prepare t ∷ since)) t.id
        ∙ ap (λ (d : Bool). cond d ((recounted (past_after fresh (before ++ (prepare t ∷ since)))).held (id_of t.id)) none) id_in_form
        ∙ ap (λ (q : Past). (recounted q).held (id_of t.id)) (past-append fresh before (prepare t ∷ since)))
        ∙ state_since laws t (book_after start before) (past_after fresh before) (after before) e since n

    agrees-prepared : Agrees (prepared_in start before t) noted-first
    agrees-prepared = kept laws (book_after start before) (past_after fresh before) (after before) (prepare t)

-- "A second open starts afresh; histories are read from the last accepted one": whatever book and past there were before
pub from_open : CallLaws → (b : Book) (p : Past) (currency instant : Text) (opened ended : List ℕ) →
    is_accepted b («open» currency instant opened ended) ≡ true → (calls : List Came) →
    replies_of b («open» currency instant opened ended ∷ calls) ≡ recount_of p («open» currency instant opened ended ∷ calls)
unfolding replies_of recount_of open_step
from_open laws b p currency instant opened ended e calls =
    let lent = book_of b.head opened ended in
    let c = «open» currency instant opened ended in
    let start = (open_step lent currency instant).left in
    let fresh = fresh_past lent currency instant in
    ap₂ ◌∷◌ (told-seen b c)
    (ap (λ (d : Bool). replies_of (cond d start b) calls) e ∙ all_told laws calls start fresh (opened_agrees laws lent currency instant e)
    ∙ ap (λ (d : Bool). recount_of (cond d fresh p) calls) (sym e))

pub demand3 : CallLaws → (b : Book) (currency instant : Text) → is_done (open_step b currency instant).answer ≡ true →
    (calls : List Came) → Demand3 b currency instant calls
demand3 laws b currency instant done calls =
    let start = (open_step b currency instant).left in
    let fresh = fresh_past b currency instant in
    let a = after laws b currency instant done calls in
    let told = all_told laws calls start fresh (opened_agrees laws b currency instant done) in
    let v = view laws b currency instant done calls in
    record {
      answers = told;
      transfers = found laws b currency instant done calls;
      accounts = λ name. ap (λ (w : View). w.account name) v;
      ended = λ more id. ended_once laws b currency instant done calls more id;
      balance = balanced (book_after start calls) a.shaped a.wide ∙ ap pos (a.transfers still_reserved);
      caps = λ name. ap (λ (w : View). within_cap (w.account name)) v ∙ a.orderly.caps name;
      never21 = ap (all (λ r. not (is21 r))) told ∙ none_21 calls fresh;
    }

-- the mission in its own words
pub mission : CallLaws → (b : Book) (currency instant : Text) → is_done (open_step b currency instant).answer ≡ true →
    Mission (open_step b currency instant).left
mission laws b currency instant done =
    let start = (open_step b currency instant).left in
    let told = state_told laws b currency instant done in
    let past = noted-first laws b currency instant done in
    let agrees = agrees-prepared laws b currency instant done in
    record {
      waits = λ before since t e n m.
          told before t e since n
          ∙ ap some (none-ended laws t since (prepared_in start before t) (past before t e) (agrees before t e) m);
      ends = λ before between rest t c s e m h over n.
          told before t e (between ++ (c ∷ rest)) n
          ∙ ap some (first_ended laws t between rest c (prepared_in start before t) (past before t e) (agrees before t e) m
          (ap is_reserved h ∙ over) ∙ h);
    }
