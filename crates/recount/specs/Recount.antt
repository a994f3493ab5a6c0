-- The recount: "it keeps no book bytes and no running position, but finds each transfer's state from the calls up to there and each
-- position as a sum over them". For each call, everything that it can see is found anew in the list of the calls noted before it, oldest
-- first. What is answered to what is seen is said by the rules (`answer_to`, `mark_to`), for the book as for the recount.
use Rattle.std.specs.Prelude.{ℕ, suc, ◌/◌, Bool, true, false, cond, not, ◌&&◌, ◌||◌, List, [], ◌∷◌, ◌++◌, map, length, ℤ}
use Rattle.std.proofs.Math.Option.{Option, none, some}
use Rattle.std.proofs.Math.IntN.{sub_ℕ}
use Rattle.std.specs.Int.Signed.{le_z}
use Rattle.std.proofs.lemmas.List.Edits.{sets}
use Rattle.octets.specs.Lists.{first, keep, count, sum}
use Rattle.octets.specs.Numbers.{big_endian}
use Rattle.octets.specs.Parts.{same}
use Rattle.amount.specs.Amount.{ten_thousandths}
use Rattle.uuid_text.specs.Id.{id_of}
use Rattle.datetime.specs.Instant.{instant_of}
use Rattle.rules.specs.declared.Answer.{Answer}
use Rattle.rules.specs.Answers.{is_done}
use Rattle.rules.specs.Calls.{Content, Call, «open», join, prepare, fulfil, abort, time, lookup, condition_of, condition_for, content_of, code_of}
use Rattle.rules.specs.View.{State, reserved, committed, aborted, expired, Transfer, Standing, View}
use Rattle.rules.specs.Rules.{answer_to, mark_to}
use Rattle.time.specs.Effect.{together}
use Rattle.ledger.specs.Ledger.{is_reserved, is_due_at}
use Rattle.recount.specs.History.{Came, call_of, lent_list, Reply}

-- a noted call, and what it was answered
pub record Entry : Type 0 where
  pub call : Call
  pub answer : Answer

-- "All but 0 change nothing lent and no state": a call is noted if it was accepted
abbrev pub is_noted : Answer → Bool
is_noted a = is_done a

-- what the accepted open gave, and the calls noted since, oldest first
pub record Past : Type 0 where
  pub currency : List ℕ
  pub start : ℤ
  pub slots : ℕ
  pub places : ℕ
  pub entries : List Entry

-- how a call ends the transfer of a content, RESERVED where it does not: "a matching fulfilment from its payee, an abort from its payee,
-- or a clock step reaching its expiry"
abbrev pub ending_by : Content → Call → State
ending_by c («open» currency instant o f) = reserved
ending_by c (join name cap) = reserved
ending_by c (prepare p) = reserved
ending_by c (fulfil sender id fulfilment) =
    cond (same (id_of id) c.id && (same sender c.payee && same (condition_for (condition_of fulfilment)) c.condition))
    (committed (condition_of fulfilment)) reserved
ending_by c (abort sender id code) = cond (same (id_of id) c.id && same sender c.payee) (aborted (code_of code)) reserved
ending_by c (time instant places) = cond (le_z c.expiration (instant_of instant)) expired reserved
ending_by c (lookup id) = reserved

-- the earlier of two ends
abbrev pub or_else : State → State → State
or_else reserved s = s
or_else (committed f) s = committed f
or_else (aborted code) s = aborted code
or_else expired s = expired

-- the state of a transfer after the calls since its prepare: the first that ends it counts
unfoldable pub end_of : Content → List Entry → State
end_of c [] = reserved
end_of c (e ∷ es) = or_else (ending_by c e.call) (end_of c es)

-- what a prepare says; none of the other calls
abbrev pub prepared_by : Call → Option Content
prepared_by («open» currency instant o f) = none
prepared_by (join name cap) = none
prepared_by (prepare p) = some (content_of p)
prepared_by (fulfil sender id fulfilment) = none
prepared_by (abort sender id code) = none
prepared_by (time instant places) = none
prepared_by (lookup id) = none

-- what a join grants: an account, which goes by a key, the name; none of the other calls
pub record Grant : Type 0 where
  pub key : List ℕ
  pub cap : ℕ

abbrev pub granted_by : Call → Option Grant
granted_by («open» currency instant o f) = none
granted_by (join name cap) = some (record { key = name; cap = ten_thousandths cap })
granted_by (prepare p) = none
granted_by (fulfil sender id fulfilment) = none
granted_by (abort sender id code) = none
granted_by (time instant places) = none
granted_by (lookup id) = none

-- what a time says; none of the other calls
abbrev pub clock_by : Call → Option ℤ
clock_by («open» currency instant o f) = none
clock_by (join name cap) = none
clock_by (prepare p) = none
clock_by (fulfil sender id fulfilment) = none
clock_by (abort sender id code) = none
clock_by (time instant places) = some (instant_of instant)
clock_by (lookup id) = none

-- the transfers in the order of their prepares, each with its acceptance number and its state after the last of the calls; n prepares were
-- accepted before
abbrev pub and_then : Option Content → ℕ → (Content → State) → (ℕ → List Transfer) → List Transfer
and_then none n state rest = rest n
and_then (some c) n state rest = record { content = c; number = suc n; state = state c } ∷ rest (suc n)

unfoldable pub transfers_of : ℕ → List Entry → List Transfer
transfers_of n [] = []
transfers_of n (e ∷ es) = and_then (prepared_by e.call) n (λ c. end_of c es) (λ m. transfers_of m es)

-- the grants, oldest first
abbrev pub or_not : {A : Type 0} → Option A → List A → List A
or_not none xs = xs
or_not (some x) xs = x ∷ xs

unfoldable pub grants_of : List Entry → List Grant
grants_of [] = []
grants_of (e ∷ es) = or_not (granted_by e.call) (grants_of es)

-- the last clock step
abbrev pub or_still : Option ℤ → ℤ → ℤ
or_still none t = t
or_still (some u) t = u

unfoldable pub clock_of : ℤ → List Entry → ℤ
clock_of t [] = t
clock_of t (e ∷ es) = clock_of (or_still (clock_by e.call) t) es

abbrev pub is_committed : State → Bool
is_committed reserved = false
is_committed (committed f) = true
is_committed (aborted code) = false
is_committed expired = false

-- "sent and not aborted, less received and committed": what a transfer adds to the position of its payer, and takes from its payee's
abbrev pub sent : List ℕ → Transfer → ℕ
sent key t = cond (same t.content.payer key && (is_reserved t.state || is_committed t.state)) t.content.amount 0

abbrev pub received : List ℕ → Transfer → ℕ
received key t = cond (same t.content.payee key && is_committed t.state) t.content.amount 0

unfoldable pub position_of : List Transfer → List ℕ → ℤ
position_of ts key = sub_ℕ (sum (sent key) ts) (sum (received key) ts)

-- an amount still reserved
abbrev pub still_reserved : Transfer → ℕ
still_reserved t = cond (is_reserved t.state) t.content.amount 0

abbrev pub has_id : List ℕ → Transfer → Bool
has_id id t = same t.content.id id

abbrev pub standing_of : List Transfer → Option Grant → Option Standing
standing_of ts none = none
standing_of ts (some g) = some (record { cap = g.cap; position = position_of ts g.key })

-- what a call can see of a past: the View of the rules, by the transfers found in it. A list of calls has no bytes that could be out of
-- shape; that the book is of the shape at every call is a part of what is proved
abbrev pub view_of : Past → List Transfer → View
view_of p ts = record {
  shaped = true;
  currency = p.currency;
  clock = clock_of p.start p.entries;
  accounts = length (grants_of p.entries);
  account = λ key. standing_of ts (first (λ g. same g.key key) (grants_of p.entries));
  held = λ id. first (has_id id) ts;
  slots = p.slots;
  opened = count (λ t. is_reserved t.state) ts;
  places = p.places;
  ended = count (λ t. not (is_reserved t.state)) ts;
  due = λ z. map (λ t. t.number) (keep (is_due_at z) ts);
}

abbrev pub recounted : Past → View
recounted p = view_of p (transfers_of 0 p.entries)

-- the acceptance numbers that a clock step writes: of the transfers that it expires, in the order of their prepares
abbrev pub expired_by : View → Call → List ℕ
expired_by v («open» currency instant o f) = []
expired_by v (join name cap) = []
expired_by v (prepare p) = []
expired_by v (fulfil sender id fulfilment) = []
expired_by v (abort sender id code) = []
expired_by v (time instant places) = v.due (instant_of instant)
expired_by v (lookup id) = []

-- the reply to one more call, by what it sees; "The list gets these numbers; its other places keep what they held"
abbrev pub reply_by : View → Came → Reply
reply_by v c = record {
  answer = answer_to v (call_of c);
  mark = mark_to v (call_of c);
  list = cond (is_done (answer_to v (call_of c))) (sets (lent_list c) 0 (together (map (big_endian 4) (expired_by v (call_of c)))))
      (lent_list c);
}

abbrev pub reply_to : Past → Came → Reply
reply_to p c = reply_by (recounted p) c

-- one entry more
abbrev pub entered : Past → Call → Answer → Past
entered p c a = record {
  currency = p.currency;
  start = p.start;
  slots = p.slots;
  places = p.places;
  entries = p.entries ++ (record { call = c; answer = a } ∷ []);
}

-- a noted call is one entry more; "A second open starts afresh"
abbrev pub noting : Past → Call → Answer → Past
noting p («open» currency instant o f) a =
    record { currency = currency; start = instant_of instant; slots = o / 160; places = f / 160; entries = [] }
noting p (join name cap) a = entered p (join name cap) a
noting p (prepare t) a = entered p (prepare t) a
noting p (fulfil sender id fulfilment) a = entered p (fulfil sender id fulfilment) a
noting p (abort sender id code) a = entered p (abort sender id code) a
noting p (time instant places) a = entered p (time instant places) a
noting p (lookup id) a = entered p (lookup id) a

abbrev pub past_with : Past → Came → Past
past_with p c =
    let a = answer_to (recounted p) (call_of c) in
    cond (is_noted a) (noting p (call_of c) a) p

-- the past after a list of calls, and the reply to each
unfoldable pub past_after : Past → List Came → Past
past_after p [] = p
past_after p (c ∷ cs) = past_after (past_with p c) cs

unfoldable pub recount_of : Past → List Came → List Reply
recount_of p [] = []
recount_of p (c ∷ cs) = reply_to p c ∷ recount_of (past_with p c) cs
