-- Each field's reader reads exactly the texts of its field, whatever stands behind them. Assumes nothing.
use Rattle.std.specs.Prelude as core
use Rattle.std.specs.Prelude.{Some, None, Ok, Err}
use mathlib.Core.Path.{◌≡◌, refl, sym, ap, ◌∙◌}
use mathlib.Core.Logic.{◌⊎◌, inl, inr, ⊎_elim}
use mathlib.Core.Bool.{Bool, true, false}
use mathlib.Core.Option.{Option, none, some, some-injective}
use mathlib.Core.List.{List, ◌∷◌, ◌++◌, append_assoc}
use Prim.Native.Nat.{ℕ}
use lib.ListN.{drop}
use lib.Seq.{drop-append_seam}
use lib.Dec.{eqb}
use Rattle.answers.specs.Begins.{begins, behind}
use Rattle.answers.specs.Ascii.{ascii}
use Rattle.answers.specs.Checks.{only_if}
use Rattle.answers.specs.Leading.{leading}
use Rattle.answers.proofs.Tests.{and_left, and_right, and_both, or_right}
use Rattle.answers.proofs.Checks.{not_some, bind_some, only_if_some}
use Rattle.numbers.specs.Numbers.{is_digit, is_number, number_or_nobody, digits_of, leading_number}
use Rattle.numbers.proofs.Lengths.{no_digits, nobody_or_number}
use Rattle.numbers.proofs.Reading.{number_read_before, read_from}
use Rattle.strings.specs.declared.Operation.{Operation}
use Rattle.strings.specs.declared.Operation.TheVariants.{Register, Erase, Interrogate}
use Rattle.strings.specs.declared.Erasing.{Erasing}
use Rattle.strings.specs.declared.Erasing.TheVariants.{Empty, Forced}
use Rattle.strings.specs.Text.{operation_text, service_text, star, supervisor_text, msisdn_text, may_force, erasing_sound}
use Rattle.strings.specs.Reader.{Field, field_at, or_else, operation_at, service_at, starred_number, number_field_at, forced_at, erasing_at}
use Rattle.strings.specs.Notices.{supervisor_field_at}
use Rattle.answers.proofs.Begins.{begins_only, behind_only}

-- a reader reads exactly the texts of what is sound, whatever stands behind them
pub record Exact {X : Type 0} (reader : List ℕ → Option (Field X)) (text : X → List ℕ) (sound : X → Bool) : Type 0 where
  pub back : (x : X) (s : List ℕ) → sound x ≡ true → reader (text x ++ s) ≡ some (record { got = x; rest = s })
  pub only : (s : List ℕ) {f : Field X} → reader s ≡ some f → (sound f.got ≡ true) × (s ≡ text f.got ++ f.rest)

-- ---- fixed characters

module _ {X : Type 0} where
  field_only : (x : X) (p s : List ℕ) {f : Field X} → field_at x p s ≡ some f → (x ≡ f.got) × (s ≡ p ++ f.rest)
  field_only x p s e =
      let d = only_if_some (begins p s) e in
      (ap (λ (f : Field X). f.got) d.1, begins_only p s d.0 ∙ ap (λ (f : Field X). p ++ f.rest) d.1)

  pub else_some : (a b : Option X) {x : X} → or_else a b ≡ some x → (a ≡ some x) ⊎ (b ≡ some x)
  else_some none b e = inr e
  else_some (some y) b e = inl e

-- ---- the operation

abbrev always : Operation → Bool
always o = true

pub operation_exact : Exact operation_at operation_text always
unfolding begins operation_at
operation_exact = record { back = back; only = only }
  where
    back : (o : Operation) (s : List ℕ) → always o ≡ true → operation_at (operation_text o ++ s) ≡ some (record { got = o; rest = s })
    back Register s e = refl
    back Erase s e = refl
    back Interrogate s e = refl

    only : (s : List ℕ) {f : Field Operation} → operation_at s ≡ some f → (always f.got ≡ true) × (s ≡ operation_text f.got ++ f.rest)
    only s {f} e = (refl, ⊎_elim (is Register) (λ d. ⊎_elim (is Erase) (is Interrogate) (else_some _ _ d)) (else_some _ _ e))
      where
        is : (o : Operation) → field_at o (operation_text o) s ≡ some f → s ≡ operation_text f.got ++ f.rest
        is o d = let k = field_only o (operation_text o) s d in k.1 ∙ ap (λ (x : Operation). operation_text x ++ f.rest) k.0

-- ---- `214` and its star

pub service_back : (s : List ℕ) → service_at ((service_text ++ star) ++ s) ≡ some s
unfolding begins service_at
service_back s = refl

pub service_only : (s : List ℕ) {rest : List ℕ} → service_at s ≡ some rest → s ≡ (service_text ++ star) ++ rest
unfolding service_at
service_only s e = behind_only (service_text ++ star) s e

-- ---- a number and its star

abbrev pub starred : ℕ → List ℕ
starred w = digits_of w ++ star

pub number_exact : Exact number_field_at starred is_number
unfolding begins number_field_at
number_exact = record { back = back; only = only }
  where
    back : (w : ℕ) (s : List ℕ) → is_number w ≡ true → number_field_at (starred w ++ s) ≡ some (record { got = w; rest = s })
    back w s e = rw (append_assoc (digits_of w) star s, number_read_before w 42 s e (unfold is_digit in refl), drop-append_seam (digits_of w) (42 ∷ s))

    only : (s : List ℕ) {f : Field ℕ} → number_field_at s ≡ some f → (is_number f.got ≡ true) × (s ≡ starred f.got ++ f.rest)
    only s {f} e = go (leading_number s) refl e
      where
        go : (r : core.Option (ℕ × ℕ)) → leading_number s ≡ r → starred_number s r ≡ some f → (is_number f.got ≡ true) × (s ≡ starred f.got ++ f.rest)
        go (Some read) r d =
            let k = field_only read.0 star (drop read.1 s) d in
            let m = read_from s read.0 read.1 r in (
              ap is_number (sym k.0) ∙ m.number,
              rw (append_assoc (digits_of f.got) star f.rest, ← k.0, ← k.1) m.front,
            )
        go None r d = not_some d

-- a star is no number's
pub number_not : (s : List ℕ) → number_field_at (star ++ s) ≡ none
unfolding number_field_at leading_number leading is_digit
number_not s = refl

-- ---- a notice's supervisor and the star

pub supervisor_exact : Exact supervisor_field_at starred number_or_nobody
unfolding begins supervisor_field_at
supervisor_exact = record { back = back; only = only }
  where
    named : (w : ℕ) (s : List ℕ) → is_number w ≡ true → supervisor_field_at (starred w ++ s) ≡ some (record { got = w; rest = s })
    named w s h = go (begins star (starred w ++ s)) refl
      where
        go : (b : Bool) → begins star (starred w ++ s) ≡ b → supervisor_field_at (starred w ++ s) ≡ some (record { got = w; rest = s })
        go true e =
            not_some (sym (number_not _) ∙ ap number_field_at (sym (begins_only star (starred w ++ s) e)) ∙ number_exact.back w s h)
        go false e = rw e (number_exact.back w s h)

    back : (w : ℕ) (s : List ℕ) → number_or_nobody w ≡ true → supervisor_field_at (starred w ++ s) ≡ some (record { got = w; rest = s })
    back w s h = nobody_or_number (λ x. supervisor_field_at (starred x ++ s) ≡ some (record { got = x; rest = s })) w h (rw no_digits) (named w s)

    only : (s : List ℕ) {f : Field ℕ} → supervisor_field_at s ≡ some f → (number_or_nobody f.got ≡ true) × (s ≡ starred f.got ++ f.rest)
    only s {f} e = ⊎_elim blank (λ d. let k = number_exact.only s d in (or_right (eqb f.got 0) (is_number f.got) k.0, k.1)) (else_some _ _ e)
      where
        blank : field_at 0 star s ≡ some f → (number_or_nobody f.got ≡ true) × (s ≡ starred f.got ++ f.rest)
        blank d = let k = field_only 0 star s d in rw (← k.0, no_digits) (refl, k.1)

-- ---- supervisor field and MSISDN to erase, each with its star

abbrev pub erasing_text : Erasing → List ℕ
erasing_text e = supervisor_text e ++ (star ++ (msisdn_text e ++ star))

pub erasing_exact : (o : Operation) → Exact (erasing_at o) erasing_text (erasing_sound o)
unfolding begins forced_at erasing_at
erasing_exact o = record { back = back; only = only }
  where
    back : (e : Erasing) (s : List ℕ) → erasing_sound o e ≡ true → erasing_at o (erasing_text e ++ s) ≡ some (record { got = e; rest = s })
    back Empty s h = refl
    back (Forced m) s h = rw (and_left (may_force o) (is_number m.0) h, number_exact.back m.0 s (and_right (may_force o) (is_number m.0) h))

    forced : (s : List ℕ) {f : Field Erasing} → forced_at o s ≡ some f → (erasing_sound o f.got ≡ true) × (s ≡ erasing_text f.got ++ f.rest)
    forced s h =
        bind_some (only_if (may_force o) s) _ h λ part d g.
        bind_some (behind (ascii "88" ++ star) part) _ g λ rest p q.
        bind_some (number_field_at rest) _ q λ n r e.
        let k = number_exact.only rest r in
        let w = only_if_some (may_force o) d in
        rw (← (some-injective _ _ e)) (
          and_both (may_force o) (is_number n.got) w.0 k.0,
          w.1 ∙ behind_only (ascii "88" ++ star) part p ∙ ap (λ (l : List ℕ). (ascii "88" ++ star) ++ l) k.1,
        )

    only : (s : List ℕ) {f : Field Erasing} → erasing_at o s ≡ some f → (erasing_sound o f.got ≡ true) × (s ≡ erasing_text f.got ++ f.rest)
    only s {f} h = ⊎_elim empty (forced s) (else_some _ _ h)
      where
        empty : field_at Empty (star ++ star) s ≡ some f → (erasing_sound o f.got ≡ true) × (s ≡ erasing_text f.got ++ f.rest)
        empty d = let k = field_only Empty (star ++ star) s d in rw (← k.0) (refl, k.1)
