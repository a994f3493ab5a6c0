-- The worked examples, by computation: on the recount, and so on any book.
use Prim.Native.Nat.{ℕ}
use mathlib.Core.Path.{◌≡◌, refl, ap, ap₂, ◌∙◌}
use mathlib.Core.Bool.{Bool, true, false, cond}
use mathlib.Core.List.{List, [], ◌∷◌, ◌++◌, map, map-append}
use mathlib.Core.Option.{some}
use lib.ListN.{replicate}
use lib.Seq.{sets}
use Rattle.octets.specs.Ascii.{ascii}
use Rattle.octets.specs.Build.{build}
use Rattle.octets.specs.Numbers.{number_from, big_endian}
use Rattle.octets.specs.Parts.{same}
use Rattle.uuid_text.specs.Id.{id_of, byte_at}
use Rattle.datetime.specs.Calendar.{before}
use Rattle.datetime.specs.Instant.{instant_of, time_of, offset_after, epoch}
use Rattle.base64url.specs.Letters.{alphabet, place_from, value_of}
use Rattle.base64url.specs.Condition.{bytes_of}
use Rattle.rules.specs.declared.Answer.{Answer}
use Rattle.rules.specs.declared.Answer.TheVariants.{Done, NoMatch}
use Rattle.rules.specs.Answers.{is_done}
use Rattle.rules.specs.Calls.{Text, condition_of, condition_for, content_of}
use Rattle.rules.specs.View.{State, reserved, committed, expired, Transfer, View}
use Rattle.rules.specs.Rules.{answer_to}
use Rattle.shape.specs.Reading.{Book, map_some}
use Rattle.open_book.specs.Effect.{open_step}
use Rattle.time.specs.Effect.{together}
use Rattle.recount.specs.History.{Came, prepare, abort, call_of, replies_of}
use Rattle.recount.specs.Recount.{Past, Entry, or_else, end_of, transfers_of, grants_of, clock_of, position_of, view_of, recounted, reply_by, reply_to, entered, past_with, past_after, recount_of}
use Rattle.recount.specs.Demand.{fresh_past}
use Rattle.recount.specs.Worked.{printed, a43, hash_text, HashOfZeros, one, two, asked, opening, alpha, beta, fulfilment, sweep, lines, lines_print, fulfilled_first, fulfilled_print, Worked}
use Rattle.recount.proofs.Onward.{past-append}
use Rattle.recount.proofs.Theorems.{from_open}

-- the replies to one list and then another
recount_append : (p : Past) (calls more : List Came) →
    recount_of p (calls ++ more) ≡ recount_of p calls ++ recount_of (past_after p calls) more
unfolding recount_of past_after
recount_append p [] more = refl
recount_append p (c ∷ cs) more = ap (◌∷◌ (reply_to p c)) (recount_append (past_with p c) cs more)

-- the lines before the fulfilment
abbrev first_lines : List Came
first_lines = opening ∷ alpha ∷ beta ∷ prepare (asked one (ascii "60.5") a43) ∷ prepare (asked two (ascii "40") a43) ∷ []

abbrev last_lines : List Came
last_lines = sweep ∷ abort (ascii "beta") one (ascii "5100") ∷ []

abbrev preparing : List Came
preparing = opening ∷ alpha ∷ beta ∷ prepare (asked one (ascii "60.5") hash_text) ∷ []

-- the past after the prepare of the transfer, under a condition
abbrev entry : Came → Entry
entry c = record { call = call_of c; answer = Done }

abbrev prepared : Text → Past
prepared condition = record {
  currency = ascii "XTS";
  start = instant_of (ascii "2024-01-01T00:00:00.000Z");
  slots = 64;
  places = 100;
  entries = entry alpha ∷ entry beta ∷ entry (prepare (asked one (ascii "60.5") condition)) ∷ [];
}

-- what needs no hash, computed
record Computed (p : Past) : Type 0 where
  first : map printed (recount_of p first_lines)
      ≡ (0 ∷ 0 ∷ 0 ∷ []) ∷ (0 ∷ 0 ∷ 0 ∷ []) ∷ (0 ∷ 0 ∷ 0 ∷ []) ∷ (0 ∷ 0 ∷ 1 ∷ []) ∷ (10 ∷ 4001 ∷ 0 ∷ []) ∷ []
  first_past : past_after p first_lines ≡ prepared a43
  last : map printed (recount_of (prepared a43) last_lines) ≡ (0 ∷ 0 ∷ 1 ∷ 1 ∷ []) ∷ (7 ∷ 3303 ∷ 1 ∷ []) ∷ []
  begun : map printed (recount_of p preparing) ≡ (0 ∷ 0 ∷ 0 ∷ []) ∷ (0 ∷ 0 ∷ 0 ∷ []) ∷ (0 ∷ 0 ∷ 0 ∷ []) ∷ (0 ∷ 0 ∷ 1 ∷ []) ∷ []
  prepared_past : past_after p preparing ≡ prepared hash_text

computed : (p : Past) → Computed p
unfolding same id_of byte_at build time_of offset_after epoch before end_of transfers_of grants_of clock_of position_of
    recount_of past_after together big_endian number_from
computed p = record { first = refl; first_past = refl; last = refl; begun = refl; prepared_past = refl }

-- what the texts of the condition and the fulfilment say
zeros_read : condition_of a43 ≡ replicate 32 0
unfolding bytes_of value_of place_from alphabet
zeros_read = refl

module _ (hash : HashOfZeros) where
  no_match : same (condition_for (condition_of a43)) (condition_of a43) ≡ false
  unfolding same
  no_match = ap (λ k. same (condition_for k) k) zeros_read ∙ ap (λ k. same k (replicate 32 0)) hash

  match : same (condition_for (condition_of a43)) (condition_of hash_text) ≡ true
  unfolding same bytes_of value_of place_from alphabet
  match = ap (λ k. same k (condition_of hash_text)) (ap condition_for zeros_read ∙ hash)

-- the fulfilment, by whether it matches
module _ (condition : Text) (d : Bool) (h : same (condition_for (condition_of a43)) (condition_of condition) ≡ d) where
  answered : answer_to (recounted (prepared condition)) (call_of fulfilment) ≡ cond d Done NoMatch
  unfolding same id_of byte_at build time_of offset_after epoch before end_of transfers_of grants_of clock_of position_of
  answered = ap (λ (t : Bool). cond t Done NoMatch) h

  fulfil_prints : printed (reply_to (prepared condition) fulfilment) ≡ printed (record { answer = cond d Done NoMatch; mark = 1; list = [] })
  unfolding same id_of byte_at build end_of transfers_of together
  fulfil_prints =
      ap (λ (x : Answer). printed (record { answer = x; mark = 1; list = cond (is_done x) (sets [] 0 []) [] })) answered ∙ by d
    where
      by : (t : Bool) →
          printed (record { answer = cond t Done NoMatch; mark = 1; list = cond (is_done (cond t Done NoMatch)) (sets [] 0 []) [] })
          ≡ printed (record { answer = cond t Done NoMatch; mark = 1; list = [] })
      by true = refl
      by false = refl

  fulfil_past : past_with (prepared condition) fulfilment
      ≡ cond (is_done (cond d Done NoMatch)) (entered (prepared condition) (call_of fulfilment) (cond d Done NoMatch)) (prepared condition)
  fulfil_past = ap (λ (x : Answer). cond (is_done x) (entered (prepared condition) (call_of fulfilment) x) (prepared condition)) answered

-- 01's eight lines: five, the fulfilment that does not match, and two more on what was noted before it
example_prints : (p : Past) → HashOfZeros → map printed (recount_of p lines) ≡ lines_print
unfolding recount_of build
example_prints p hash =
    ap (map printed) (recount_append p first_lines (fulfilment ∷ last_lines)
    ∙ ap (λ (q : Past). recount_of p first_lines ++ recount_of q (fulfilment ∷ last_lines)) (computed p).first_past)
    ∙ map-append printed (recount_of p first_lines) (recount_of (prepared a43) (fulfilment ∷ last_lines))
    ∙ ap₂ ◌++◌ (computed p).first (ap₂ ◌∷◌ (fulfil_prints a43 false (no_match hash))
    (ap (λ (q : Past). map printed (recount_of q last_lines)) (fulfil_past a43 false (no_match hash)) ∙ (computed p).last))

-- a fulfilment that matches, and then the sweep
abbrev fulfilled_past : Past
fulfilled_past = entered (prepared hash_text) (call_of fulfilment) Done

abbrev swept_past : Past
swept_past = entered fulfilled_past (call_of sweep) Done

abbrev held_in : State → List Transfer
held_in s = record { content = content_of (asked one (ascii "60.5") hash_text); number = 1; state = s } ∷ []

abbrev fulfilled_in : List Transfer
fulfilled_in = held_in (committed (condition_of a43))

module _ (hash : HashOfZeros) where
  held-fulfilled : transfers_of 0 fulfilled_past.entries ≡ fulfilled_in
  unfolding same id_of byte_at build end_of transfers_of
  held-fulfilled = ap (λ (d : Bool). held_in (or_else (cond d (committed (condition_of a43)) reserved) reserved)) (match hash)

  held-swept : transfers_of 0 swept_past.entries ≡ fulfilled_in
  unfolding same id_of byte_at build end_of transfers_of time_of offset_after epoch before
  held-swept = ap (λ (d : Bool). held_in (or_else (cond d (committed (condition_of a43)) reserved) expired)) (match hash)

  sweep_prints : printed (reply_to fulfilled_past sweep) ≡ 0 ∷ 0 ∷ 0 ∷ []
  unfolding same id_of byte_at build time_of offset_after epoch before end_of transfers_of grants_of clock_of position_of
      together big_endian number_from
  sweep_prints = ap (λ (ts : List Transfer). printed (reply_by (view_of fulfilled_past ts) sweep)) held-fulfilled

  sweep-past : past_with fulfilled_past sweep ≡ swept_past
  unfolding same id_of byte_at build time_of offset_after epoch before end_of transfers_of grants_of clock_of position_of
  sweep-past =
      ap (λ (ts : List Transfer).
      let a = answer_to (view_of fulfilled_past ts) (call_of sweep) in
      cond (is_done a) (entered fulfilled_past (call_of sweep) a) fulfilled_past) held-fulfilled

  fulfilled_prints : (p : Past) → map printed (recount_of p fulfilled_first) ≡ fulfilled_print
  unfolding recount_of build
  fulfilled_prints p =
      ap (map printed) (recount_append p preparing (fulfilment ∷ sweep ∷ [])
      ∙ ap (λ (q : Past). recount_of p preparing ++ recount_of q (fulfilment ∷ sweep ∷ [])) (computed p).prepared_past)
      ∙ map-append printed (recount_of p preparing) (recount_of (prepared hash_text) (fulfilment ∷ sweep ∷ []))
      ∙ ap₂ ◌++◌ (computed p).begun (ap₂ ◌∷◌ (fulfil_prints hash_text true (match hash))
      (ap (λ (q : Past). printed (reply_to q sweep) ∷ []) (fulfil_past hash_text true (match hash))
      ∙ ap (λ (l : List ℕ). l ∷ []) sweep_prints))

  -- what is seen in the end
  seen-fulfilled : (p : Past) → recounted (past_after p fulfilled_first) ≡ view_of swept_past fulfilled_in
  unfolding past_after
  seen-fulfilled p =
      ap recounted (past-append p preparing (fulfilment ∷ sweep ∷ [])
      ∙ ap (λ (q : Past). past_with (past_with q fulfilment) sweep) (computed p).prepared_past
      ∙ ap (λ (q : Past). past_with q sweep) (fulfil_past hash_text true (match hash)) ∙ sweep-past)
      ∙ ap (view_of swept_past) held-swept

pub worked : (p : Past) → Worked p
unfolding same id_of byte_at build time_of offset_after epoch before end_of transfers_of grants_of clock_of position_of
    recount_of past_after together big_endian number_from
worked p = record {
  example = example_prints p;
  fulfilled = λ hash. fulfilled_prints hash p;
  fulfilled_state = λ hash.
      ap (λ (v : View). map_some (λ t. t.state) (v.held (id_of one))) (seen-fulfilled hash p) ∙ ap (λ k. some (committed k)) zeros_read;
  fulfilled_payer = λ hash. ap (λ (v : View). map_some (λ s. s.position) (v.account (ascii "alpha"))) (seen-fulfilled hash p);
  fulfilled_payee = λ hash. ap (λ (v : View). map_some (λ s. s.position) (v.account (ascii "beta"))) (seen-fulfilled hash p);
  swept = refl;
  swept_state = refl;
  swept_payer = refl;
  swept_payee = refl;
}

-- what the book itself answers to 01's lines, whatever it was before
pub by_book : HashOfZeros → (b : Book) → map printed (replies_of b lines) ≡ lines_print
unfolding open_step
by_book hash b =
    let p = fresh_past b [] [] in
    let told : replies_of b lines ≡ recount_of p lines = from_open b p _ _ _ _ refl _ in
    ap (map printed) told ∙ example_prints p hash
