-- Calls that start no new book only add to what is noted: what a transfer has come to stays as it is.
use Prim.Native.Nat.{ℕ, ◌+◌}
use mathlib.Core.Path.{◌≡◌, refl, sym, ap, ◌∙◌}
use mathlib.Core.Bool.{Bool, true, false, false≢true, cond, not}
use mathlib.Core.List.{List, [], ◌∷◌, ◌++◌, map, append-nil, append_assoc}
use mathlib.Core.Option.{some}
use lib.ListN.{length}
use Rattle.octets.specs.Lists.{first}
use Rattle.rules.specs.Answers.{is_done}
use Rattle.rules.specs.View.{Transfer}
use Rattle.rules.specs.Rules.{answer_to}
use Rattle.shape.specs.Reading.{map_some, Book}
use Rattle.octets.proofs.Tests.{both}
use Rattle.ledger.specs.Ledger.{is_reserved}
use Rattle.recount.specs.History.{Came, call_of, left_by, is_accepted, reopens, none_reopens}
use Rattle.recount.specs.History as came
use Rattle.recount.specs.Recount.{Past, Entry, has_id, transfers_of, recounted, noting, past_with, past_after}
use Rattle.recount.proofs.Sums.{either, first-append, first-map}
use Rattle.recount.proofs.Given.{CallLaws}
use Rattle.recount.proofs.Later.{later, later-ended, transfers_append}
use Rattle.recount.proofs.Agrees.{Agrees}
use Rattle.recount.proofs.Kept.{same_view, kept}
use Rattle.recount.proofs.Replies.{told_by_lem}

-- the past after one list and then another
pub past-append : (p : Past) (calls more : List Came) → past_after p (calls ++ more) ≡ past_after (past_after p calls) more
unfolding past_after
past-append p [] more = refl
past-append p (c ∷ cs) more = past-append (past_with p c) cs more

-- the entries of a call, and of a list of calls
abbrev pub noted : Past → Came → List Entry
noted p c =
    let a = answer_to (recounted p) (call_of c) in
    cond (is_done a) (record { call = call_of c; answer = a } ∷ []) []

unfoldable pub noted_in : Past → List Came → List Entry
noted_in p [] = []
noted_in p (c ∷ cs) = noted p c ++ noted_in (past_with p c) cs

-- the book's answer is the recount's
pub accepted-is : CallLaws → (b : Book) (p : Past) → Agrees b p → (c : Came) → is_accepted b c ≡ is_done (answer_to (recounted p) (call_of c))
accepted-is laws b p a c = ap (λ r. is_done r.answer) (told_by_lem b p (same_view laws b p a) c)

-- one call adds its entry, where it is no accepted open
module _ (laws : CallLaws) (b : Book) (p : Past) (a : Agrees b p) where
  when_noted : (c : Came) → is_done (answer_to (recounted p) (call_of c)) ≡ true → not (reopens b c) ≡ true →
      (noting p (call_of c) (answer_to (recounted p) (call_of c))).entries
      ≡ p.entries ++ (record { call = call_of c; answer = answer_to (recounted p) (call_of c) } ∷ [])
  when_noted (came.«open» currency instant opened ended) e n =
      absurd (false≢true (ap not (sym (accepted-is laws b p a (came.«open» currency instant opened ended) ∙ e)) ∙ n))
  when_noted (came.join name cap) e n = refl
  when_noted (came.prepare t) e n = refl
  when_noted (came.fulfil sender id fulfilment) e n = refl
  when_noted (came.abort sender id code) e n = refl
  when_noted (came.time instant list) e n = refl
  when_noted (came.lookup id) e n = refl

  pub entries_one : (c : Came) → not (reopens b c) ≡ true → (past_with p c).entries ≡ p.entries ++ noted p c
  entries_one c n = go (is_done (answer_to (recounted p) (call_of c))) refl
    where
      go : (d : Bool) → is_done (answer_to (recounted p) (call_of c)) ≡ d →
          (cond d (noting p (call_of c) (answer_to (recounted p) (call_of c))) p).entries
          ≡ p.entries ++ cond d (record { call = call_of c; answer = answer_to (recounted p) (call_of c) } ∷ []) []
      go true e = when_noted c e n
      go false e = sym (append-nil p.entries)

pub entries_after : CallLaws → (calls : List Came) (b : Book) (p : Past) → Agrees b p → none_reopens b calls ≡ true →
    (past_after p calls).entries ≡ p.entries ++ noted_in p calls
unfolding past_after noted_in none_reopens
entries_after laws [] b p a n = sym (append-nil p.entries)
entries_after laws (c ∷ cs) b p a n =
    let m = both (not (reopens b c)) (none_reopens (left_by b c) cs) n in
    entries_after laws cs (left_by b c) (past_with p c) (kept laws b p a c) m.1
    ∙ ap (λ es. es ++ noted_in (past_with p c) cs) (entries_one laws b p a c m.0)
    ∙ append_assoc p.entries (noted p c) (noted_in (past_with p c) cs)

-- a transfer that is held stays held, after the calls noted since
pub held-later : (es ds : List Entry) (id : List ℕ) (t : Transfer) → first (has_id id) (transfers_of 0 es) ≡ some t →
    first (has_id id) (transfers_of 0 (es ++ ds)) ≡ some (later ds t)
held-later es ds id t e =
    let ts = transfers_of 0 es in
    let news = transfers_of (0 + length ts) ds in
    ap (first (has_id id)) (transfers_append 0 es ds) ∙ first-append (has_id id) (map (later ds) ts) news
    ∙ ap (λ o. either o (first (has_id id) news)) (first-map (has_id id) (later ds) ts ∙ ap (map_some (later ds)) e)

-- and, once ended, as it was
pub ended_stays : CallLaws → (calls : List Came) (b : Book) (p : Past) → Agrees b p → none_reopens b calls ≡ true →
    (id : List ℕ) (t : Transfer) → (recounted p).held id ≡ some t → is_reserved t.state ≡ false →
    (recounted (past_after p calls)).held id ≡ some t
ended_stays laws calls b p a n id t e ended =
    ap (λ es. first (has_id id) (transfers_of 0 es)) (entries_after laws calls b p a n)
    ∙ held-later p.entries (noted_in p calls) id t e ∙ ap some (later-ended (noted_in p calls) t ended)
