-- A fresh radio is sound, and its first question is under invoke number 1. Assumes nothing.
use mathlib.Core.Path.{◌≡◌, ◌∙◌}
use mathlib.Core.Bool.{true, or-true}
use mathlib.Core.List.{List}
use Prim.Native.Nat.{ℕ}
use lib.Dec.{eqb}
use Rattle.numbers.specs.Numbers.{is_number}
use Rattle.stores.specs.Stores.{is_flag, every, none_twice, radio_sound, fresh_radio}
use Rattle.rounds.specs.Rounds.{Call, calling, end, log, no_question}
use Rattle.rounds.proofs.Calls.{question_reads}
use Rattle.rounds.proofs.Asked.{invoke_along}

-- a radio has its own number, and is a cab radio (0) or a hand-held (1)
pub fresh_sound : (own handHeld : ℕ) → is_number own ≡ true → is_flag handHeld ≡ true → radio_sound (fresh_radio own handHeld) ≡ true
unfolding radio_sound every none_twice
fresh_sound own handHeld n f = rw (n, f, or-true (eqb handHeld 1))

-- after calls that asked nothing, the first that asks does it under 1
pub first_question :
    (own handHeld : ℕ) (cs : List Call) (c : Call) → no_question (log cs (fresh_radio own handHeld)) ≡ true
    → ((calling c (end cs (fresh_radio own handHeld))).next.doing.octets ≡ 0 → ⊥) → (calling c (end cs (fresh_radio own handHeld))).next.doing.invoke ≡ 1
first_question own handHeld cs c q asks =
    let fresh = fresh_radio own handHeld in
    let a = question_reads c (end cs fresh) asks in
    a.under ∙ a.counted ∙ rw (invoke_along cs fresh q)
