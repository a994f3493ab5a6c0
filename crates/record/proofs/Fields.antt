-- Fields of a record: what one reads after settings; every field of a new record, and of an ended one.
use Prim.Native.Nat.{ℕ, ◌+◌, ◌*◌, ◌^◌, ◌<◌, ◌≤◌}
use mathlib.Core.Path.{◌≡◌, refl, ap, ap₂, sym, ◌∙◌}
use mathlib.Core.Bool.{Bool, true, false, cond, ◌&&◌, ◌||◌}
use mathlib.Core.List.{List, [], ◌∷◌}
use native.Mathlib.Omega.{arith}
use lib.Dec.{eqb, leb}
use lib.ListN.{length, get_or}
use lib.Seq.{sets, length-sets, drop-cons}
use mir.Facts.{to_z-of_z, Fits-of_z}
use mir.Syntax.{w64}
use mir.Val.{SFits, of_z, to_z}
use borrow.Author.Tests.{eqb-true, leb-true}
use Rattle.octets.specs.Numbers.{number, number_from}
use Rattle.octets.specs.Parts.{part, zeros, all_zero}
use Rattle.octets.proofs.Numbers.{length-big_endian}
use Rattle.octets.proofs.Stores.{length-zeros}
use Rattle.octets.proofs.Round.{number_of_bytes}
use Rattle.octets.proofs.Zeros.{zero-part}
use Rattle.octets.proofs.Tests.{and_left, and_right}
use Rattle.octets.proofs.Parts.{length_part, part_stored, part-before, part-behind}
use Rattle.record.specs.Layout.{Row, Field, bytes, get, num, Setting, with}
use Rattle.record.specs.Layout.{accepted, new_row, ending, ended_row, expiration_of, amount_of}
use Rattle.record.specs.Layout.{id_field, state_field, payer_field, payee_field, ended_by_field, code_field, remainder_field, units_field}
use Rattle.record.specs.Layout.{expiration_field, condition_field, fulfilment_field, packet_field, number_field}
use Rattle.record.specs.declared.Content.{Content}

-- a field of one byte
pub num_byte : (at : ℕ) (r : Row) → at < length r → num (bytes at 1) r ≡ get_or r at 0
unfolding get number_from
num_byte at r h = rw (drop-cons r at 0 h) (omega arith)

-- a field of a record that is zero
pub zero-num : (f : Field) (r : Row) → all_zero r ≡ true → num f r ≡ 0
unfolding get
zero-num f r e = zero-part r f.start f.width e

pub length-get : (f : Field) (r : Row) → f.start + f.width ≤ length r → length (get f r) ≡ f.width
unfolding get
length-get f r h = length_part r f.start f.width h

-- two fields share no byte: found by computing
abbrev pub apart : Field → Field → Bool
apart f g = leb (f.start + f.width) g.start || leb (g.start + g.width) f.start

-- a field that is set reads what was set, and a field apart from it is kept
module _ (r : Row) (f : Field) (v : List ℕ) (e : length v ≡ f.width) where
  pub get-same : f.start + f.width ≤ length r → get f (sets r f.start v) ≡ v
  unfolding get
  get-same h = ap (part (sets r f.start v) f.start) (sym e) ∙ part_stored r v f.start (omega arith)

  pub get_other : (g : Field) → apart f g ≡ true → get g (sets r f.start v) ≡ get g r
  unfolding get
  get_other g t = go (leb (f.start + f.width) g.start) refl t
    where
      go : (b : Bool) → leb (f.start + f.width) g.start ≡ b → b || leb (g.start + g.width) f.start ≡ true →
          part (sets r f.start v) g.start g.width ≡ part r g.start g.width
      go true p t = part-behind r v f.start g.start g.width (omega (arith, leb-true (f.start + f.width) g.start p))
      go false p t = part-before r v f.start g.start g.width (leb-true (g.start + g.width) f.start t)

-- what settings leave in a field that held d, and that each is of this field or apart from it: found by computing
abbrev pub left : Field → List Setting → List ℕ → List ℕ
left g [] d = d
left g (s ∷ ss) d = left g ss (cond (eqb s.to.start g.start) s.value d)

abbrev pub tidy : Field → List Setting → Bool
tidy g [] = true
tidy g (s ∷ ss) = cond (eqb s.to.start g.start) (eqb s.to.width g.width) (apart s.to g) && tidy g ss

-- each setting has as many bytes as its field
abbrev pub fit : List Setting → Bool
fit [] = true
fit (s ∷ ss) = eqb (length s.value) s.to.width && fit ss

pub length-with : (ss : List Setting) (r : Row) → length (with ss r) ≡ length r
length-with [] r = refl
length-with (s ∷ ss) r = length-with ss (sets r s.to.start s.value) ∙ length-sets r s.to.start s.value

get-tidy : (g : Field) (ss : List Setting) (r : Row) → fit ss ≡ true → g.start + g.width ≤ length r → tidy g ss ≡ true →
    get g (with ss r) ≡ left g ss (get g r)
get-tidy g [] r f h t = refl
get-tidy g (s ∷ ss) r f h t =
    let size = eqb (length s.value) s.to.width in
    let own = cond (eqb s.to.start g.start) (eqb s.to.width g.width) (apart s.to g) in
    get-tidy g ss (sets r s.to.start s.value) (and_right size (fit ss) f)
    (rw (length-sets r s.to.start s.value) h) (and_right own (tidy g ss) t)
    ∙ ap (left g ss) (one (eqb-true _ _ (and_left size (fit ss) f)) (eqb s.to.start g.start) refl (and_left own (tidy g ss) t))
  where
    field_same : (a b : Field) → a.start ≡ b.start → a.width ≡ b.width → a ≡ b
    field_same a b p q = λ i. record { start = p i; width = q i }

    one : length s.value ≡ s.to.width → (b : Bool) → eqb s.to.start g.start ≡ b →
        cond b (eqb s.to.width g.width) (apart s.to g) ≡ true →
        get g (sets r s.to.start s.value) ≡ cond b s.value (get g r)
    one l true p t =
        let e = field_same s.to g (eqb-true _ _ p) (eqb-true _ _ t) in
        ap (λ (a : Field). get a (sets r s.to.start s.value)) (sym e) ∙ get-same r s.to s.value l (rw e h)
    one l false p t = get_other r s.to s.value l g t

-- the field ends within a record, and each setting is of it or apart from it
abbrev pub known : Field → List Setting → Bool
known g ss = leb (g.start + g.width) 160 && tidy g ss

pub get-with : (g : Field) (ss : List Setting) (r : Row) → fit ss ≡ true → length r ≡ 160 → known g ss ≡ true →
    get g (with ss r) ≡ left g ss (get g r)
get-with g ss r f long t =
    let end = g.start + g.width in
    let within : end ≤ length r = rw long (leb-true end 160 (and_left (leb end 160) (tidy g ss) t)) in
    get-tidy g ss r f within (and_right (leb end 160) (tidy g ss) t)

-- the arrays of a prepare's content have their lengths
pub record Sized (c : Content) : Type 0 where
  pub id : length c.id ≡ 16
  pub condition : length c.condition ≡ 32
  pub packet : length c.packet ≡ 32

-- what the record of an accepted prepare reads, field by field
module _ (c : Content) (payer payee n : ℕ) where
  pub length-new : length (new_row c payer payee n) ≡ 160
  unfolding new_row
  length-new = length-with (accepted c payer payee n) (zeros 160) ∙ length-zeros 160

  module _ (sized : Sized c) where
    pub new : (g : Field) → known g (accepted c payer payee n) ≡ true →
        get g (new_row c payer payee n) ≡ left g (accepted c payer payee n) (get g (zeros 160))
    unfolding new_row
    new g t = get-with g (accepted c payer payee n) (zeros 160)
        (simp (sized.id, sized.condition, sized.packet, length-big_endian)) (length-zeros 160) t

    pub new_id : get id_field (new_row c payer payee n) ≡ c.id
    new_id = new id_field refl

    pub new_state : num state_field (new_row c payer payee n) ≡ 2
    unfolding number_from
    new_state = ap number (new state_field refl)

    pub new-payer : num payer_field (new_row c payer payee n) ≡ payer
    unfolding number_from
    new-payer = ap number (new payer_field refl) ∙ omega arith

    pub new-payee : num payee_field (new_row c payer payee n) ≡ payee
    unfolding number_from
    new-payee = ap number (new payee_field refl) ∙ omega arith

    pub new-ended_by : num ended_by_field (new_row c payer payee n) ≡ 0
    unfolding number_from get zeros
    new-ended_by = ap number (new ended_by_field refl)

    pub new-code : num code_field (new_row c payer payee n) ≡ 0
    unfolding number_from get zeros
    new-code = ap number (new code_field refl)

    pub new_remainder : c.amount.remainder < 2 ^ 16 → num remainder_field (new_row c payer payee n) ≡ c.amount.remainder
    new_remainder h = ap number (new remainder_field refl) ∙ number_of_bytes 2 c.amount.remainder h

    pub new_units : c.amount.units < 2 ^ 64 → num units_field (new_row c payer payee n) ≡ c.amount.units
    new_units h = ap number (new units_field refl) ∙ number_of_bytes 8 c.amount.units h

    pub new-amount : c.amount.units < 2 ^ 64 → c.amount.remainder < 2 ^ 16 →
        amount_of (new_row c payer payee n) ≡ c.amount.units * 10000 + c.amount.remainder
    new-amount h k = ap₂ (λ (u m : ℕ). u * 10000 + m) (new_units h) (new_remainder k)

    pub new_expiration : SFits w64 c.expiration → expiration_of (new_row c payer payee n) ≡ c.expiration
    new_expiration f =
        ap (λ (l : List ℕ). to_z w64 (number l)) (new expiration_field refl)
        ∙ ap (to_z w64) (number_of_bytes 8 (of_z w64 c.expiration) (Fits-of_z f).fits) ∙ to_z-of_z f

    pub new_condition : get condition_field (new_row c payer payee n) ≡ c.condition
    new_condition = new condition_field refl

    pub new-fulfilment : get fulfilment_field (new_row c payer payee n) ≡ zeros 32
    unfolding get zeros
    new-fulfilment = new fulfilment_field refl

    pub new_packet : get packet_field (new_row c payer payee n) ≡ c.packet
    new_packet = new packet_field refl

    pub new-number : n < 2 ^ 32 → num number_field (new_row c payer payee n) ≡ n
    new-number h = ap number (new number_field refl) ∙ number_of_bytes 4 n h

-- what an ended record reads: four fields anew, and any field g apart from them as before, by `ended g refl`
module _ (state by code : ℕ) (fulfilment : List ℕ) (r : Row) where
  pub length-ended : length (ended_row state by code fulfilment r) ≡ length r
  unfolding ended_row
  length-ended = length-with (ending state by code fulfilment) r

  module _ (sized : length fulfilment ≡ 32) (long : length r ≡ 160) where
    pub ended : (g : Field) → known g (ending state by code fulfilment) ≡ true →
        get g (ended_row state by code fulfilment r) ≡ left g (ending state by code fulfilment) (get g r)
    unfolding ended_row
    ended g t = get-with g (ending state by code fulfilment) r (simp (sized, length-big_endian)) long t

    pub ended_state : num state_field (ended_row state by code fulfilment r) ≡ state
    unfolding number_from
    ended_state = ap number (ended state_field refl) ∙ omega arith

    pub ended_by : num ended_by_field (ended_row state by code fulfilment r) ≡ by
    unfolding number_from
    ended_by = ap number (ended ended_by_field refl) ∙ omega arith

    pub ended-code : code < 2 ^ 16 → num code_field (ended_row state by code fulfilment r) ≡ code
    ended-code h = ap number (ended code_field refl) ∙ number_of_bytes 2 code h

    pub ended-fulfilment : get fulfilment_field (ended_row state by code fulfilment r) ≡ fulfilment
    ended-fulfilment = ended fulfilment_field refl

    pub ended_id : get id_field (ended_row state by code fulfilment r) ≡ get id_field r
    ended_id = ended id_field refl

    pub ended-payer : num payer_field (ended_row state by code fulfilment r) ≡ num payer_field r
    ended-payer = ap number (ended payer_field refl)

    pub ended-payee : num payee_field (ended_row state by code fulfilment r) ≡ num payee_field r
    ended-payee = ap number (ended payee_field refl)

    pub ended-amount : amount_of (ended_row state by code fulfilment r) ≡ amount_of r
    ended-amount = ap₂ (λ (u m : List ℕ). number u * 10000 + number m) (ended units_field refl) (ended remainder_field refl)

    pub ended_expiration : expiration_of (ended_row state by code fulfilment r) ≡ expiration_of r
    ended_expiration = ap (λ (l : List ℕ). to_z w64 (number l)) (ended expiration_field refl)

    pub ended_condition : get condition_field (ended_row state by code fulfilment r) ≡ get condition_field r
    ended_condition = ended condition_field refl

    pub ended_packet : get packet_field (ended_row state by code fulfilment r) ≡ get packet_field r
    ended_packet = ended packet_field refl

    pub ended-number : num number_field (ended_row state by code fulfilment r) ≡ num number_field r
    ended-number = ap number (ended number_field refl)
