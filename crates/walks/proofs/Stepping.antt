-- The step of one number is its plain single request's. Assumes nothing.
use mathlib.Core.Path.{◌≡◌, refl, sym, ap, ◌∙◌}
use mathlib.Core.Bool.{false}
use Prim.Native.Nat.{ℕ}
use Rattle.std.specs.Prelude.{Some}
use Rattle.answers.proofs.Tests.{no_path}
use Rattle.numbers.specs.declared.FunctionalNumber.{FunctionalNumber}
use Rattle.numbers.specs.declared.Msisdn.{Msisdn}
use Rattle.strings.specs.declared.Operation.{Operation}
use Rattle.strings.specs.declared.Operation.TheVariants.{Register, Erase, Interrogate}
use Rattle.records.specs.declared.Record.{Record}
use Rattle.records.specs.Steps.{registered, erased}
use Rattle.states.specs.States.{State, row_for, record_in}
use Rattle.rules.specs.Requests.{is_interrogate, Stepping, step}
use Rattle.rules.specs.Visits.{step_at}
use Rattle.rules.proofs.Visits.{step_visits}
use Rattle.rules.specs.Singles.{plainly}

-- what is neither a registration nor an interrogation is an erasure
pub erases_only : (o : Operation) → (o ≡ Register → ⊥) → is_interrogate o ≡ false → o ≡ Erase
erases_only Register h e = absurd (h refl)
erases_only Erase h e = refl
erases_only Interrogate h e = no_path (sym e)

module _ (t : State) (requester : Msisdn) (number : FunctionalNumber) (i : ℕ) (place : row_for t number.0 ≡ Some i) (r : Record) (read : r ≡ record_in t i) where
  pub step_registers : (o : Operation) (s : Stepping) → o ≡ Register → s ≡ step_at t i 1 (registered number requester r) → s ≡ step t requester (plainly o number)
  step_registers o s e f =
      f ∙ ap (λ (x : Record). step_at t i 1 (registered number requester x)) read
      ∙ sym (step_visits t requester (plainly Register number) i place refl) ∙ ap (λ (x : Operation). step t requester (plainly x number)) (sym e)

  pub step_erases : (o : Operation) (s : Stepping) → o ≡ Erase → s ≡ step_at t i 2 (erased number requester r) → s ≡ step t requester (plainly o number)
  step_erases o s e f =
      f ∙ ap (λ (x : Record). step_at t i 2 (erased number requester x)) read
      ∙ sym (step_visits t requester (plainly Erase number) i place refl) ∙ ap (λ (x : Operation). step t requester (plainly x number)) (sym e)
