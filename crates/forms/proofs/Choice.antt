-- `read_form` leaves no choice: two answers that its contract allows for one line are equal. Assumes nothing.
use mathlib.Core.Path.{◌≡◌, refl, sym, ap, ◌∙◌}
use mathlib.Core.Option.{Option, none, some}
use mathlib.Core.List.{List}
use Prim.Native.Nat.{ℕ, ◌-◌, ◌≤◌}
use native.Mathlib.Omega.{arith}
use lib.ListN.{length, length-drop}
use Rattle.std.specs.Prelude as core
use Rattle.std.specs.Prelude.{Some, None}
use Rattle.forms.specs.declared.Line.{Line}
use Rattle.forms.specs.declared.Line.TheVariants as line
use Rattle.forms.specs.Lines.{Form, number_line, subscriber_line, request_line, sending_line, result_line, delay_line}
use Rattle.forms.specs.Reads.{form_in, start_in, Reads}

-- the answer can be read back from the form; a string starts where its length ends the line
unread : List ℕ → Option Form → core.Option Line
unread rest none = None
unread rest (some (number_line n)) = Some (line.Number n)
unread rest (some (subscriber_line m flags)) = Some (line.Subscriber m flags)
unread rest (some (request_line m string)) = Some (line.Request m (length rest - length string))
unread rest (some (sending_line now n)) = Some (line.Sending now n)
unread rest (some (result_line now n kind)) = Some (line.Result now n kind)
unread rest (some (delay_line seconds)) = Some (line.Delay seconds)

read_back_lem : (rest : List ℕ) (answer : core.Option Line) → start_in answer ≤ length rest → unread rest (form_in rest answer) ≡ answer
unfolding unread
read_back_lem rest (Some (line.Number n)) within = refl
read_back_lem rest (Some (line.Subscriber m flags)) within = refl
read_back_lem rest (Some (line.Request m start)) within = ap (λ (n : ℕ). Some (line.Request m n)) (omega (arith, length-drop start rest))
read_back_lem rest (Some (line.Sending now n)) within = refl
read_back_lem rest (Some (line.Result now n kind)) within = refl
read_back_lem rest (Some (line.Delay seconds)) within = refl
read_back_lem rest None within = refl

pub read_form_one : {rest : List ℕ} {a b : core.Option Line} {f : Option Form} → Reads rest a f → Reads rest b f → a ≡ b
read_form_one {rest} {a} {b} p q = sym (read_back_lem rest a p.within) ∙ ap (unread rest) (p.form ∙ sym q.form) ∙ read_back_lem rest b q.within
