-- The fields one behind the other in a text, each read from the rest of it, and the additional field's place. Assumes nothing.
use Rattle.std.specs.Prelude.{Some, None}
use mathlib.Core.Path.{◌≡◌, ap, ◌∙◌}
use mathlib.Core.Bool.{true, false}
use mathlib.Core.Option.{Option, none, some}
use mathlib.Core.List.{List}
use Prim.Native.Nat.{ℕ, ◌+◌, ◌-◌, ◌≤◌}
use native.Mathlib.Omega.{arith}
use lib.ListN.{length, take, drop, length-drop}
use lib.Seq.{length-take-le, drop-drop}
use Rattle.answers.specs.Ascii.{ascii}
use Rattle.answers.specs.Begins.{begins}
use Rattle.answers.specs.Checks.{only_if}
use Rattle.answers.proofs.Parts.{rest_of}
use Rattle.crews.specs.Crews.{count_of}
use Rattle.crews.specs.declared.Crew.{Crew}
use Rattle.strings.specs.declared.Operation.{Operation}
use Rattle.strings.specs.declared.Operation.TheVariants.{Erase}
use Rattle.strings.specs.declared.Erasing.{Erasing}
use Rattle.strings.specs.declared.Erasing.TheVariants.{Forced}
use Rattle.strings.specs.declared.Fields.{Fields}
use Rattle.strings.specs.Text.{request_from, crew_allowed, crew_kept}
use Rattle.strings.specs.Reader.{Field, operation_at, service_at, number_field_at, erasing_at, additional_at, fields_of}
use Rattle.strings.specs.Outcomes.{request_in, told, tell}
use Rattle.strings.specs.Outcomes.Told.{fields}
use Rattle.strings.specs.Notices.{supervisor_field_at, notice_string_at}
use Rattle.strings.specs.Found.{Found, Served}
use Rattle.strings.proofs.Additional.{forced_crew}

-- ---- a field found in the rest of a text, said of the text

pub found_at :
    {X : Type 0} (reader : List ℕ → Option (Field X)) (s : List ℕ) (at : ℕ) (x : X) (n : ℕ) → at ≤ length s
    → Found reader (take (length s - at) (drop at s)) 0 x n → Found reader s at x (at + n)
found_at reader s at x n h k =
    let f : Found reader (drop at s) 0 x n = rw rest_of at k in
    record { within = omega (arith, length-drop at s); found = f.found ∙ rw (drop-drop n at s) }

pub served_at : (s : List ℕ) (at n : ℕ) → at ≤ length s → Served (take (length s - at) (drop at s)) 0 n → Served s at (at + n)
served_at s at n h k =
    let f : Served (drop at s) 0 n = rw rest_of at k in
    record { within = omega (arith, length-drop at s); found = f.found ∙ rw (drop-drop n at s) }

-- ---- the first field that cannot be read ends the reading

-- error 36
pub ended : (s : List ℕ) → fields_of s ≡ none → told None s ≡ tell s (fields_of s)
ended s e = rw e

module _ (s : List ℕ) where
  pub no_operation : operation_at s ≡ none → fields_of s ≡ none
  unfolding fields_of
  no_operation e = rw e

  module _ (o : Operation) (a : ℕ) (operation : Found operation_at s 0 o a) where
    pub no_service : service_at (drop a s) ≡ none → fields_of s ≡ none
    unfolding fields_of
    no_service e = rw (operation.found, e)

    module _ (b : ℕ) (service : Served s a b) where
      pub no_number : number_field_at (drop b s) ≡ none → fields_of s ≡ none
      unfolding fields_of
      no_number e = rw (operation.found, service.found, e)

      module _ (w n : ℕ) (number : Found number_field_at s b w n) where
        pub no_erasing : erasing_at o (drop n s) ≡ none → fields_of s ≡ none
        unfolding fields_of
        no_erasing e = rw (operation.found, service.found, number.found, e)

        module _ (x : Erasing) (m : ℕ) (erasing : Found (erasing_at o) s n x m) where
          pub no_additional : additional_at (drop m s) ≡ none → fields_of s ≡ none
          unfolding fields_of
          no_additional e = rw (operation.found, service.found, number.found, erasing.found, e)

          module _ (additional : List ℕ) (found : additional_at (drop m s) ≡ some additional) where
            pub no_crew : crew_kept (request_from o (record { 0 = w }) x additional) ≡ false → fields_of s ≡ none
            unfolding fields_of
            no_crew e = rw (operation.found, service.found, number.found, erasing.found, found, e)

            pub all_read :
                crew_kept (request_from o (record { 0 = w }) x additional) ≡ true → fields_of s ≡ some (request_from o (record { 0 = w }) x additional)
            unfolding fields_of
            all_read e = rw (operation.found, service.found, number.found, erasing.found, found, e)

-- ---- a notice's fields

module _ (s : List ℕ) where
  pub notice_other : begins (ascii "##214*") s ≡ false → notice_string_at s ≡ none
  unfolding notice_string_at
  notice_other e = rw e

  module _ (begun : begins (ascii "##214*") s ≡ true) where
    pub notice_no_number : number_field_at (drop 6 s) ≡ none → notice_string_at s ≡ none
    unfolding notice_string_at
    notice_no_number e = rw (begun, e)

    module _ (w n : ℕ) (number : Found number_field_at s 6 w n) where
      pub notice_no_88 : begins (ascii "88*") (drop n s) ≡ false → notice_string_at s ≡ none
      unfolding notice_string_at
      notice_no_88 e = rw (begun, number.found, e)

      module _ (forced : begins (ascii "88*") (drop n s) ≡ true) where
        pub notice_no_supervisor : supervisor_field_at (drop (n + 3) s) ≡ none → notice_string_at s ≡ none
        unfolding notice_string_at
        notice_no_supervisor e = rw (begun, number.found, forced, drop-drop 3 n s, e)

        module _ (x m : ℕ) (supervisor : Found supervisor_field_at s (n + 3) x m) where
          pub notice_no_additional : additional_at (drop m s) ≡ none → notice_string_at s ≡ none
          unfolding notice_string_at
          notice_no_additional e = rw (begun, number.found, forced, drop-drop 3 n s, supervisor.found, e)

          pub notice_read_lem :
              (additional : List ℕ) → additional_at (drop m s) ≡ some additional → (crew : Crew) → crew ≡ count_of additional
              → notice_string_at s
              ≡ only_if (crew_allowed Erase (record { 0 = w }) (Forced (record { 0 = x })) crew)
              (record { number = record { 0 = w }; supervisor = record { 0 = x }; additional = additional })
          unfolding notice_string_at
          notice_read_lem additional e crew said =
              rw (begun, number.found, forced, drop-drop 3 n s, supervisor.found, e, said, forced_crew (record { 0 = w }) (record { 0 = x }) additional)

-- the additional field stands before the last character
pub told_read :
    (text : List ℕ) (f : Fields) → fields_of text ≡ some (request_in text f) → length text ≡ f.start + f.count + 1
    → f.crew ≡ count_of (request_in text f).additional → told (Some f) text ≡ tell text (fields_of text)
told_read text f e l k =
    let rest = drop f.start text in
    let c = length-take-le f.count rest (omega (arith, length-drop f.start text)) in
    rw (e, k) (ap (λ (n : ℕ). fields (request_in text f) n (count_of (request_in text f).additional)) (omega arith))
