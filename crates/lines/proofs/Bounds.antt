-- How much a line can print: at most 61 octets, and at most seven times its length with its line feed. Assumes nothing.
use mathlib.Core.Path.{◌≡◌, refl, sym, ap, subst}
use mathlib.Core.Bool.{Bool, true, false, cond, ◌&&◌}
use mathlib.Core.Option.{Option, none, some}
use mathlib.Core.List.{List, [], ◌∷◌}
use Prim.Native.Nat.{ℕ, suc, ◌+◌, ◌*◌, ◌^◌, ◌≤◌}
use native.Mathlib.Omega.{arith}
use Prim.Native.Char.{code}
use lib.ListN.{length, length-append}
use lib.Dec.{eqb, leb, ltb}
use borrow.Author.Tests.{leb-true}
use Rattle.answers.specs.Checks.{◌>>=◌}
use Rattle.answers.proofs.Tests.{no_path, and_left}
use Rattle.answers.proofs.Decide.{decide_each}
use Rattle.answers.proofs.Checks.{not_some, only_if_some}
use Rattle.packing.specs.Packing.{chars_in}
use Rattle.numbers.specs.Numbers.{most_digits, is_number, digits_of, pushed, stored_form}
use Rattle.numbers.specs.declared.FunctionalNumber.{FunctionalNumber}
use Rattle.numbers.proofs.Lengths.{number_some}
use Rattle.rules.specs.Answers.{Answer, refusal, error, outcome, holder_is, return_error, reject, sent_to, delivered, dropped, again, found, none_due, ask_network, routed_to, Outcome, is_sent}
use Rattle.rules.specs.Notices as notices
use Rattle.forms.specs.Lines as form
use Rattle.forms.specs.Lines.{line_feed, space, first_field, behind_field, is_digits, is_number_long, asked_of, value_below, Form, sending_form, lettered, form_of}
use Rattle.rows.specs.Rows.{row_words}
use Rattle.tables.specs.Tables.{most_numbers, subscriber_words, most_subscribers}
use Rattle.states.specs.States.{counted}
use Rattle.records.specs.Steps.{delay_allowed}
use Rattle.lines.specs.Program.{Program, Effect, may_follow, when_allowed, with_number, with_subscriber, with_delay, answered_line, lent_buffer, numbered, subscribed, delayed, asked, requested, dispatched, reported, effect_of, begun, line_effect}
use Rattle.replies.specs.Replies.{text_in, behind_letter, Printable, answer_room}
use Rattle.writers.proofs.Numerals.{numeral_short}
use Rattle.replies.proofs.Writing.{text_most}
use Rattle.rules.proofs.Short.{digits_short}
use Rattle.rules.proofs.Tallied.{most_reply}
use Rattle.lines.proofs.Printing.{Replies, asked_replies, result_replies, sending_sends}

-- ---- what follows the letter

-- a notice and its addressee, or at most a crew's reply
abbrev most_said : Bool → ℕ
most_said is_notice = cond is_notice answer_room most_reply

said_most : (a : Answer) (b : List ℕ) → Printable a b → length (behind_letter a b) ≤ most_said (is_sent a)
unfolding chars_in digits_of
said_most (refusal n) b h = omega (arith, numeral_short n)
said_most (error n) b h = omega (arith, numeral_short n)
said_most (outcome n count) b h = omega (arith, text_most h)
said_most (holder_is msisdn count) b h = omega (arith, text_most h)
said_most (return_error n count) b h = omega arith
said_most (reject n count) b h = omega arith
said_most (sent_to addressee count) b h = omega (arith, text_most h.1, digits_short 15 addressee, length-append (digits_of addressee) (space ∷ text_in count b))
said_most delivered b h = omega arith
said_most dropped b h = omega arith
said_most again b h = omega arith
said_most (found n) b h = omega arith
said_most none_due b h = omega arith
said_most (ask_network code) b h = omega arith
said_most (routed_to msisdn subaddress) b h = omega arith

pub said_room : (o : Outcome) → Printable o.answer o.buffer → length (behind_letter o.answer o.buffer) ≤ answer_room
said_room o h = go (is_sent o.answer) (said_most o.answer o.buffer h)
  where
    go : (b : Bool) → length (behind_letter o.answer o.buffer) ≤ most_said b → length (behind_letter o.answer o.buffer) ≤ answer_room
    go true m = m
    go false m = omega arith

-- with the letter, the space and the line feed
answered_most : (letter : ℕ) (o : Outcome) (p : Program) → Printable o.answer o.buffer → length (answered_line letter o p).prints ≤ 3 + most_said (is_sent o.answer)
answered_most letter o p h = omega (arith, said_most o.answer o.buffer h, length-append (behind_letter o.answer o.buffer) (line_feed ∷ []))

replied_most : (letter : ℕ) (o : Outcome) (p : Program) → Replies o → length (answered_line letter o p).prints ≤ 3 + most_reply
replied_most letter o p h = rw h.1 at (answered_most letter o p h.0)

-- ---- how long a line of each form is

-- a field, the space behind it, and what stands behind that
field_behind : (s r : List ℕ) → behind_field s ≡ some r → suc (length (first_field s) + length r) ≤ length s
unfolding behind_field first_field
field_behind [] r e = not_some e
field_behind (c ∷ s) r e = go (eqb c space) e (field_behind s r)
  where
    go : (b : Bool) → cond b (some s) (behind_field s) ≡ some r → (behind_field s ≡ some r → suc (length (first_field s) + length r) ≤ length s)
        → suc (length (cond b [] (c ∷ first_field s)) + length r) ≤ suc (length s)
    go true e rest = let same : s ≡ r = cc in omega (arith, ap length same)
    go false e rest = let h = rest e in omega arith

-- digits that can be read are some
digits_some : (s : List ℕ) → is_digits s ≡ true → 1 ≤ length s
unfolding is_digits
digits_some [] e = no_path e
digits_some (c ∷ s) e = omega arith

asked_some : (s : List ℕ) (w : ℕ) → asked_of s ≡ some w → 1 ≤ length s
unfolding asked_of
asked_some s w e = digits_some s (only_if_some (is_digits s) e).0

value_some : (limit : ℕ) (s : List ℕ) (v : ℕ) → value_below limit s ≡ some v → 1 ≤ length s
unfolding value_below
value_some limit s v e = digits_some s (and_left (is_digits s) (ltb (pushed 0 s) limit) (only_if_some (is_digits s && ltb (pushed 0 s) limit) e).0)

-- a number that was asked for has 5 digits at least
asked_long : (s : List ℕ) (w : ℕ) → asked_of s ≡ some w → is_number w ≡ true → 5 ≤ length s
unfolding asked_of
asked_long s w e h = go (is_number_long s) refl (only_if_some (is_digits s) e).1
  where
    go : (b : Bool) → is_number_long s ≡ b → cond b (stored_form s) 0 ≡ w → 5 ≤ length s
    go true l same = leb-true 5 (length s) (and_left (leb 5 (length s)) (leb (length s) most_digits) l)
    go false l same = absurd (number_some w h (sym same))

-- a form of a line: behind the letter and its space an `R`, a `T` and a `D` have a digit and a space, a `T` with a number a space and 5 digits at least
abbrev Long : ℕ → Option Form → Type 0
Long n none = Unit {0}
Long n (some (form.number_line number)) = Unit {0}
Long n (some (form.subscriber_line msisdn flags)) = Unit {0}
Long n (some (form.request_line msisdn string)) = 2 ≤ n
Long n (some (form.sending_line clock number)) = (2 ≤ n) × (is_number number.0 ≡ true → 6 ≤ n)
Long n (some (form.result_line clock number kind)) = 2 ≤ n
Long n (some (form.delay_line seconds)) = Unit {0}

-- what holds of nothing, and of what is read from everything that can be read first
bind_each : {X Y : Type 0} (P : Option Y → Type 0) (m : Option X) (f : X → Option Y) → P none → ((x : X) → m ≡ some x → P (f x)) → P (m >>= f)
bind_each P none f p q = p
bind_each P (some x) f p q = q x refl

module _ (rest : List ℕ) where
  abbrev IsLong : Option Form → Type 0
  IsLong = Long (length rest)

  sending_long : IsLong (sending_form rest)
  unfolding sending_form
  sending_long =
      bind_each IsLong (behind_field rest) _ tt (λ last b.
      bind_each IsLong (value_below (2 ^ 32) (first_field rest)) _ tt (λ clock c.
      bind_each IsLong (asked_of last) _ tt (λ w a.
      let whole = field_behind rest last b in
      let first = value_some (2 ^ 32) (first_field rest) clock c in
      (omega arith, λ h. omega (arith, asked_long last w a h)))))

  number_long : IsLong (form.number_form rest)
  unfolding form.number_form
  number_long = bind_each IsLong (form.number_of rest) _ tt (λ w e. tt)

  subscriber_long : IsLong (form.subscriber_form rest)
  unfolding form.subscriber_form
  subscriber_long =
      bind_each IsLong (behind_field rest) _ tt (λ last b.
      bind_each IsLong (form.number_of (first_field rest)) _ tt (λ w e. bind_each IsLong (value_below 4 last) _ tt (λ flags v. tt)))

  request_long : IsLong (form.request_form rest)
  unfolding form.request_form
  request_long = bind_each IsLong (behind_field rest) _ tt (λ string b.
      bind_each IsLong (asked_of (first_field rest)) _ tt (λ w a. omega (arith, field_behind rest string b, asked_some (first_field rest) w a)))

  result_long : IsLong (form.result_form rest)
  unfolding form.result_form form.result_fields
  result_long =
      bind_each IsLong (behind_field rest) _ tt (λ fields b.
      bind_each IsLong (value_below (2 ^ 32) (first_field rest)) _ tt (λ clock c.
      bind_each IsLong (behind_field fields) _ tt (λ last d.
      bind_each IsLong (asked_of (first_field fields)) _ tt (λ w a. bind_each IsLong (value_below (2 ^ 32) last) _ tt (λ kind v.
      omega (arith, field_behind rest fields b, value_some (2 ^ 32) (first_field rest) clock c))))))

  delay_long : IsLong (form.delay_form rest)
  unfolding form.delay_form
  delay_long = bind_each IsLong (value_below (2 ^ 32) rest) _ tt (λ seconds v. tt)

  letter_long : (letter : ℕ) → IsLong (lettered letter rest)
  unfolding lettered
  letter_long letter = decide_each IsLong (form.letters letter rest) none (number_long, (subscriber_long, (request_long, (sending_long, (result_long, (delay_long, tt)))))) tt

form_long : (line : List ℕ) (f : Form) → form_of line ≡ some f → (n : ℕ) × (length line ≡ suc (suc n)) × Long n (some f)
unfolding form_of
form_long [] f e = not_some e
form_long (c ∷ []) f e = not_some e
form_long (c ∷ g ∷ rest) f e = go (eqb g space) e
  where
    go : (b : Bool) → cond b (lettered c rest) none ≡ some f → (n : ℕ) × (suc (suc (length rest)) ≡ suc (suc n)) × Long n (some f)
    go true e = (length rest, refl, subst (Long (length rest)) e (letter_long rest c))
    go false e = not_some e

-- ---- what a line prints

-- room for every line: the letter, the space, what follows and the line feed
abbrev pub most_printed : ℕ
most_printed = 61

pub record Bounded (line : List ℕ) (e : Effect) : Type 0 where
  pub most : length e.prints ≤ most_printed
  pub times : length e.prints ≤ 7 * (length line + 1)

-- nothing, or `?`
allowed_bounded : (line : List ℕ) (b : Bool) (next p : Program) → Bounded line (when_allowed b next p)
allowed_bounded line true next p = record { most = omega arith; times = omega arith }
allowed_bounded line false next p = record { most = omega arith; times = omega arith }

module _ (line : List ℕ) (p : Program) where
  replied_bounded : (letter : ℕ) (o : Outcome) → 4 ≤ length line → Replies o → Bounded line (answered_line letter o p)
  replied_bounded letter o h r = let m = replied_most letter o p r in record { most = omega arith; times = omega arith }

  sent_bounded :
      (letter : ℕ) (o : Outcome) (n : FunctionalNumber) → 4 ≤ length line → (is_number n.0 ≡ true → 8 ≤ length line)
      → Printable o.answer o.buffer × (is_sent o.answer ≡ true → is_number n.0 ≡ true) → Bounded line (answered_line letter o p)
  sent_bounded letter o n h l s = go (is_sent o.answer) refl
    where
      go : (b : Bool) → is_sent o.answer ≡ b → Bounded line (answered_line letter o p)
      go true e =
          let m = rw e at (answered_most letter o p s.0) in
          let long = l (s.1 e) in
          record { most = omega arith; times = omega arith }
      go false e = replied_bounded letter o h (s.0, e)

  effect_bounded : (first : Bool) (f : Option Form) → form_of line ≡ f → Bounded line (effect_of first f p)
  unfolding numbered subscribed delayed requested dispatched reported
  effect_bounded first none e = record { most = omega arith; times = omega arith }
  effect_bounded first (some (form.number_line n)) e = allowed_bounded line (p.filling && may_follow row_words most_numbers n.0 p.table) (with_number n p) _
  effect_bounded first (some (form.subscriber_line m flags)) e =
      allowed_bounded line (p.filling && may_follow subscriber_words most_subscribers m.0 p.list) (with_subscriber m flags p) _
  effect_bounded first (some (form.request_line m string)) e =
      let l = form_long line (form.request_line m string) e in
      let long = l.2 in
      replied_bounded (code "R") (asked m string (counted p.table) p.list) (omega arith) (asked_replies m string (counted p.table) p.list)
  effect_bounded first (some (form.sending_line clock n)) e =
      let l = form_long line (form.sending_line clock n) e in
      let longer : is_number n.0 ≡ true → 8 ≤ length line = λ h. let k = l.2.1 h in omega arith in
      let long = l.2.0 in
      sent_bounded (code "T") (notices.sending_notice (counted p.table) lent_buffer n p.delay clock) n (omega arith) longer (sending_sends (counted p.table) lent_buffer n p.delay clock)
  effect_bounded first (some (form.result_line clock n kind)) e =
      let l = form_long line (form.result_line clock n kind) e in
      let long = l.2 in
      replied_bounded (code "D") (notices.taking_result (counted p.table) n kind clock) (omega arith) (result_replies (counted p.table) n kind clock)
  effect_bounded first (some (form.delay_line seconds)) e = allowed_bounded line (first && delay_allowed seconds) (with_delay seconds p) _

pub line_bounded : (line : List ℕ) (p : Program) → Bounded line (line_effect line p)
unfolding line_effect
line_bounded line p = effect_bounded line (begun p) p.fresh (form_of line) refl
