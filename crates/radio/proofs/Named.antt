-- The number that a notice's string names, by the reader's answer. Assumes nothing.
use mathlib.Core.Path.{◌≡◌, refl, sym, ap, ◌∙◌}
use mathlib.Core.Bool.{true}
use mathlib.Core.Option.{Option, none, some}
use mathlib.Core.List.{List}
use Prim.Native.Nat.{ℕ}
use Rattle.std.specs.Prelude.{Some, None}
use Rattle.numbers.specs.Numbers.{is_number}
use Rattle.numbers.specs.declared.FunctionalNumber.{FunctionalNumber}
use Rattle.numbers.specs.declared.Msisdn.{Msisdn}
use Rattle.strings.specs.Notices.{NoticeString, notice_string_of, notice_string_at, notice_read}
use Rattle.strings.proofs.Notices.{notice_only, notice_rules}
use Rattle.packing.specs.Packing.{unpacked}
use Rattle.strings.proofs.Octets.{bits_read}
use Rattle.stores.proofs.Stored.{number_not_0}
use Rattle.radio.specs.Radio.{noticed_number, notice_of}

pub unread : (o : Option NoticeString) → notice_read o ≡ None → noticed_number o ≡ 0
unread none e = refl
unread (some n) e = cc

pub named : (o : Option NoticeString) (n : FunctionalNumber) (s : Msisdn) → notice_read o ≡ Some (n, s) → noticed_number o ≡ n.0
named none n s e = cc
named (some m) n s e = let p : ◌≡◌ {A = FunctionalNumber × Msisdn} (m.number, m.supervisor) (n, s) = cc in ap (λ (x : FunctionalNumber × Msisdn). x.0.0) p

-- it is a number, so not 0
pub named_number : (os : List ℕ) (n : NoticeString) → notice_string_of os ≡ some n → is_number n.number.0 ≡ true
unfolding notice_string_of
named_number os n e = (notice_rules n (notice_only (unpacked os) (bits_read notice_string_at os e).1).0).writable.number

-- so the number that the reader answers is none other than the notice's, and it is one
pub named_some : (os : List ℕ) (n : FunctionalNumber) (s : Msisdn) → notice_read (notice_string_of os) ≡ Some (n, s) → (notice_of os ≡ n.0) × (notice_of os ≡ 0 → ⊥)
named_some os n s e = (named (notice_string_of os) n s e, go (notice_string_of os) refl e)
  where
    go : (o : Option NoticeString) → notice_string_of os ≡ o → notice_read o ≡ Some (n, s) → notice_of os ≡ 0 → ⊥
    go none q e z = cc
    go (some m) q e z = number_not_0 m.number.0 (named_number os m q) (sym (ap noticed_number q) ∙ z)
