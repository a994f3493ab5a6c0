-- The fields of an account and of a head, read one by one.
use Prim.Native.Nat.{ℕ, ◌+◌}
use mathlib.Core.List.{List}
use mathlib.Core.Path.{◌≡◌}
use native.Mathlib.Nat.{add-zero}
use lib.IntN.{ℤ}
use lib.ListN.{drop, get_or}
use lib.Seq.{get_or-drop, drop-drop}
use mir.Syntax.{w64}
use mir.Val.{to_z}
use Rattle.octets.specs.Build.{build}
use Rattle.octets.specs.Parts.{part}
use Rattle.account.specs.declared.Account.{Account}
use Rattle.account.specs.declared.Head.{Head}
use Rattle.head_form.specs.Form.{account_from, head_from, number_at, place_at}

-- an account whose fields are those from a place on
pub account_is : (b : List ℕ) (at : ℕ) {name : List ℕ} {length units remainder rest : ℕ} {whole : ℤ} →
    name ≡ part b at 32 → length ≡ get_or b (at + 52) 0 → units ≡ number_at b (at + 32) 8 → remainder ≡ number_at b (at + 48) 2 →
    whole ≡ to_z w64 (number_at b (at + 40) 8) → rest ≡ number_at b (at + 50) 2 →
    ◌≡◌ {A = Account} (record {
      name = name;
      length = length;
      cap = record { units = units; remainder = remainder };
      position = record { units = whole; remainder = rest };
    }) (account_from b at)
unfolding account_from
account_is b at e1 e2 e3 e4 e5 e6 = rw (e1, e2, e3, e4, e5, e6)

-- counted from the place's own first byte
pub account_shift : (b : List ℕ) (at : ℕ) → account_from b at ≡ account_from (drop at b) 0
unfolding account_from
account_shift b at = simp (drop-drop, get_or-drop, add-zero)

-- a head whose fields are those of the bytes
pub head-is : (b : List ℕ) {accounts : List Account} {currency : List ℕ} {count slots places finished : ℕ} {time : ℤ} →
    accounts ≡ build 32 (λ k. account_from b (place_at k)) → count ≡ get_or b 11 0 → currency ≡ part b 8 3 →
    time ≡ to_z w64 (number_at b 0 8) → slots ≡ number_at b 12 2 → places ≡ number_at b 14 2 → finished ≡ number_at b 16 2 →
    ◌≡◌ {A = Head} (record {
      accounts = accounts;
      count = count;
      currency = currency;
      time = time;
      slots = slots;
      places = places;
      finished = finished;
    }) (head_from b)
unfolding head_from
head-is b e1 e2 e3 e4 e5 e6 e7 = rw (e1, e2, e3, e4, e5, e6, e7)
