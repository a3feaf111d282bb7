-- What a line knows of the node's answer to its call. Assumes nothing.
use mathlib.Core.Path.{◌≡◌, refl, subst, subst⁻¹}
use Rattle.std.specs.Prelude.{Result, Err}
use Rattle.answers.specs.declared.Refusal.{Refusal}
use mathlib.Core.Bool.{Bool, true, false}
use mathlib.Core.List.{List}
use Prim.Native.Nat.{ℕ, ◌≤◌}
use native.Mathlib.Omega.{arith}
use lib.ListN.{length, drop, length-drop}
use Rattle.answers.specs.Writing as writing
use Rattle.packing.specs.Packing.{octets_for, takes, packed}
use Rattle.packing.specs.Outcomes.{packing}
use Rattle.packing.proofs.Outcomes.{pack_good}
use Rattle.numbers.specs.declared.Msisdn.{Msisdn}
use Rattle.strings.specs.Text.{coding_scheme}
use Rattle.states.specs.States.{State}
use Rattle.rules.specs.Answers.{Answer, refusal, Outcome, made}
use Rattle.rules.specs.Crews as crews
use Rattle.replies.specs.Replies.{behind_letter, Printable}
use Rattle.lines.specs.Program.{lent_buffer, asked}
use Rattle.answers.specs.Writing.{Stands}
use Rattle.lines.specs.Memory.{Answered}
use Rattle.lines.proofs.Bounds.{said_room}

module _ (a : Answer) (state : State) (b : List ℕ) (o : Outcome) (e : made a state b ≡ o) where
  -- an outcome that can be printed, as the code has it
  pub printable_by : Printable o.answer o.buffer → Printable a b
  printable_by = subst⁻¹ (λ (x : Outcome). Printable x.answer x.buffer) e

  pub answered_by : {old new : List ℕ} {n : ℕ} → Printable o.answer o.buffer → Stands (behind_letter a b) old n new → Answered o state old new n
  answered_by {old} {new} {n} h p =
      subst (λ (x : Outcome). Answered x state old new n) e (record { leaves = refl; says = p; short = rw p.count (said_room (made a state b) (printable_by h)) })

-- where the packer has room and does not count, it does not take the string
pub pack_fails :
    (cs out new : List ℕ) (r : Result ℕ Refusal) (e : Refusal) → writing.made_write r new ≡ packing cs out → octets_for (length cs) ≤ length out → r ≡ Err e → takes cs ≡ false
pack_fails cs out new r e done h failed = go (takes cs) refl
  where
    go : (b : Bool) → takes cs ≡ b → b ≡ false
    go true p = let f = (pack_good cs out r new done h p).0 in cc
    go false p = refl

pub asked_unfit : (m : Msisdn) (string : List ℕ) (state : State) (list : List ℕ) → takes string ≡ false → made (refusal 9) state lent_buffer ≡ asked m string state list
unfolding asked
asked_unfit m string state list t = rw t

pub asked_fit :
    (m : Msisdn) (string : List ℕ) (state : State) (list : List ℕ) → takes string ≡ true
    → crews.requesting state list lent_buffer m coding_scheme (packed string) ≡ asked m string state list
unfolding asked
asked_fit m string state list t = rw t

-- the string of a line has no more octets than what stands behind the letter
pub octets_behind : (n room : ℕ) (rest : List ℕ) → octets_for (length rest) ≤ room → octets_for (length (drop n rest)) ≤ room
unfolding octets_for
octets_behind n room rest h = rw (length-drop n rest) (omega arith)
