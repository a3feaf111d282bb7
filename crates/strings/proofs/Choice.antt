-- `read_request` leaves no choice: two answers that its contract allows for one string are equal. Assumes nothing.
use Rattle.std.specs.Prelude as core
use Rattle.std.specs.Prelude.{Some, None, Ok, Err}
use mathlib.Core.Path.{◌≡◌, refl, sym, ap, ◌∙◌}
use mathlib.Core.Logic.{⊎_elim}
use mathlib.Core.Option.{Option, none, some}
use mathlib.Core.List.{List}
use Prim.Native.Nat.{ℕ, ◌≤◌}
use native.Mathlib.Omega.{arith}
use lib.ListN.{length, drop, replicate, length-append}
use Rattle.answers.specs.Writing.{WriteOutcome}
use Rattle.answers.proofs.Tests.{less_or_not}
use Rattle.answers.proofs.Checks.{not_some}
use Rattle.packing.specs.Packing.{chars_in, unpacked}
use Rattle.packing.proofs.Outcomes.{unpacking_good}
use Rattle.strings.specs.declared.Fields.{Fields}
use Rattle.strings.specs.declared.ReadRequest.{ReadRequest}
use Rattle.strings.specs.Text.{Request, text_of, most_characters}
use Rattle.strings.specs.Outcomes.{request_of, request_in, told, ReadOutcome, made_read, tell, text_beside, reading}
use Rattle.strings.proofs.ReadBack.{read_only}
use Rattle.strings.proofs.Octets.{request_reads, too_long}
use Rattle.strings.proofs.Answered.{not_error, told_place}

-- the text of a string that reads stands whole beside the answer
pub beside_whole : (os : List ℕ) {g : Request} → request_of os ≡ some g → length (unpacked os) ≤ length (text_beside os)
unfolding text_beside
beside_whole os e =
    ⊎_elim (λ h. not_some (sym (too_long os h) ∙ e))
    (λ h.
    let b = ap (λ (x : WriteOutcome). length x.buffer) (unpacking_good os (replicate most_characters 0) h (request_reads os e).0) in
    omega (arith, length-append (unpacked os) (drop (length (unpacked os)) (replicate most_characters 0))))
    (less_or_not most_characters (chars_in (length os)))

-- two sets of fields at one place in a text
fields_one :
    (f h : Fields) (text : List ℕ) → request_in text f ≡ request_in text h → f.start ≡ h.start → f.count ≡ h.count → f.crew ≡ h.crew → f ≡ h
fields_one f h text e s c k = λ i. record {
  operation = (e i).operation;
  number = (e i).number;
  erasing = (e i).erasing;
  start = s i;
  count = c i;
  crew = k i;
}

told_one :
    (text s : List ℕ) (o : Option Request) → ((g : Request) → o ≡ some g → (s ≡ text_of g) × (length s ≤ length text)) → (a b : core.Option Fields)
    → told a text ≡ tell s o → told b text ≡ tell s o → a ≡ b
told_one text s none known (Some f) b p q = not_error _ _ _ _ p
told_one text s none known None (Some h) p q = not_error _ _ _ _ q
told_one text s none known None None p q = refl
told_one text s (some g) known (Some f) (Some h) p q =
    let k = known g refl in
    let d = told_place text s f g k.0 k.1 p in
    let e = told_place text s h g k.0 k.1 q in
    let start : f.start ≡ h.start = cc in
    ap Some (fields_one f h text (cc) start (omega arith) (cc))
told_one text s (some g) known (Some f) None p q = not_error _ _ _ _ (sym q)
told_one text s (some g) known None b p q = not_error _ _ _ _ (sym p)

pub read_request_one : (os : List ℕ) (a b : ReadRequest) → made_read a ≡ reading os → made_read b ≡ reading os → a ≡ b
unfolding reading
read_request_one os a b p q =
    let s = ap (λ (x : ReadOutcome). x.text) p in
    let t = ap (λ (x : ReadOutcome). x.text) q in
    let r =
    told_one (text_beside os) (unpacked os) (request_of os)
    (λ g e. ((read_only (unpacked os) (request_reads os e).1).1, beside_whole os e))
    a.reading b.reading (rw s at (ap (λ (x : ReadOutcome). x.answer) p)) (rw t at (ap (λ (x : ReadOutcome). x.answer) q)) in
    λ i. record { reading = r i; text = (s ∙ sym t) i }
