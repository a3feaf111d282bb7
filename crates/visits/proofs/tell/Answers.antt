use Rattle.std.proofs.Common.{◌≡◌, ℕ, ◌+◌, ◌≤◌, List, [], ◌∷◌, ◌++◌, length, take, drop, arith, ap, sym, true, length-append, Result, Ok}
use Rattle.std.proofs.Math.Seq.{length-take-le}
use Rattle.answers.specs.declared.Refusal.{Refusal}
use Rattle.answers.specs.Writing.{made_write}
use Rattle.numbers.specs.Numbers.{most_digits, is_number, digits_of, writing_digits}
use Rattle.numbers.proofs.Digits.{digits_most}
use Rattle.numbers.proofs.Writing.{written_digits}
use Rattle.rules.specs.Answers.{holder_is, holder_text}
use Rattle.rules.proofs.Taken.{takes_holder}
use Rattle.visits.proofs.Texts.{holder_room, holder_front}
use Rattle.visits.proofs.tell.Goals as goal

-- what is known of the digits that were written
record Told (w n : ℕ) (new : List ℕ) : Type 0 where
  few : n ≤ 15
  within : n ≤ length new
  text : take (n + 3) (48 ∷ 51 ∷ 32 ∷ (new ++ [])) ≡ holder_text w

told : (w n : ℕ) (out new : List ℕ) (r : Result ℕ Refusal) → is_number w ≡ true → most_digits ≤ length out → made_write r new ≡ writing_digits w out → r ≡ Ok n → Told w n new
told w n out new r number room done counted =
    let e = written_digits w out r new number room done in
    let m : n ≡ length (digits_of w) = cc (e.0, counted) in
    record {
      few = omega (arith, m, digits_most w number);
      within = omega (arith, m, ap length e.1, length-append (digits_of w) (drop (length (digits_of w)) out));
      text = holder_front w n new _ m e.1;
    }

pub unwrap-n-requires : goal.unwrap-n-requires
unwrap-n-requires c = rw (written_digits _ _ _ _ c.requires.0 (omega arith) c.write_digits.ensures).0

pub overflow_add-text : goal.overflow_add-text
overflow_add-text c =
    let t = told _ _ _ _ _ c.requires.0 (omega arith) c.write_digits.ensures c.unwrap-n.ensures in
    omega (arith, t.few)

pub slice_bounds-text-end-2 : goal.slice_bounds-text-end-2
slice_bounds-text-end-2 c =
    let t = told _ _ _ _ _ c.requires.0 (omega arith) c.write_digits.ensures c.unwrap-n.ensures in
    omega (arith, t.within, length-append c.write_digits.new.out [])

pub slice_bounds-put-end : goal.slice_bounds-put-end
slice_bounds-put-end c =
    let t = told _ _ _ _ _ c.requires.0 (omega arith) c.write_digits.ensures c.unwrap-n.ensures in
    sym (length-take-le _ _ (omega (arith, t.within, length-append c.write_digits.new.out [])))

pub put-octets-requires : goal.put-octets-requires
put-octets-requires c =
    let t = told _ _ _ _ _ c.requires.0 (omega arith) c.write_digits.ensures c.unwrap-n.ensures in
    rw t.text (takes_holder c.args.msisdn.0 c.requires.0, holder_room c.args.msisdn.0 _ c.requires.0 c.requires.1)

pub returns : goal.returns
returns c =
    let t = told _ _ _ _ _ c.requires.0 (omega arith) c.write_digits.ensures c.unwrap-n.ensures in
    let e = rw t.text at c.put-octets.ensures in
    (ap (λ (n : ℕ). holder_is c.args.msisdn.0 n) e.0, e.1)
