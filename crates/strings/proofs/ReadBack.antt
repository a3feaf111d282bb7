-- A string reads exactly if it is the text of sound fields, and then as those fields. Assumes nothing.
use mathlib.Core.Path.{◌≡◌, refl, sym, ap, ◌∙◌}
use mathlib.Core.Logic.{◌↔◌}
use mathlib.Core.Bool.{true}
use mathlib.Core.Option.{some, some-injective}
use mathlib.Core.List.{List}
use Prim.Native.Nat.{ℕ}
use Rattle.answers.proofs.Checks.{bind_some, only_if_some, only_if_yes}
use Rattle.strings.specs.Text.{Request, crew_kept, request_sound, text_of}
use Rattle.strings.specs.Reader.{operation_at, service_at, number_field_at, erasing_at, additional_at, fields_of}
use Rattle.strings.proofs.Exact.{operation_exact, service_back, service_only, number_exact, erasing_exact}
use Rattle.strings.proofs.Additional.{additional_back, additional_only}
use Rattle.strings.proofs.Text.{sound_rules, rules_sound, text_fields}

pub read_back_lem : (f : Request) → request_sound f ≡ true → fields_of (text_of f) ≡ some f
unfolding fields_of
read_back_lem f h =
    let r = sound_rules f h in
    rw (
      text_fields f,
      operation_exact.back f.operation _ refl,
      service_back _,
      number_exact.back f.number.0 _ r.number,
      (erasing_exact f.operation).back f.erasing _ r.erasing,
      additional_back f.additional r.few r.additional,
    )
    (only_if_yes (crew_kept f) f r.crew)

pub read_only : (s : List ℕ) {f : Request} → fields_of s ≡ some f → (request_sound f ≡ true) × (s ≡ text_of f)
unfolding fields_of
read_only s h =
    bind_some (operation_at s) _ h λ operation o ho.
    bind_some (service_at operation.rest) _ ho λ rest v hv.
    bind_some (number_field_at rest) _ hv λ number n hn.
    bind_some (erasing_at operation.got number.rest) _ hn λ erasing e he.
    bind_some (additional_at erasing.rest) _ he λ additional a ha.
    let o' = operation_exact.only s o in
    let v' = service_only operation.rest v in
    let n' = number_exact.only rest n in
    let e' = (erasing_exact operation.got).only number.rest e in
    let a' = additional_only erasing.rest a in
    let k = only_if_some _ ha in
    rw (← k.1) (
      rules_sound _ (record { number = n'.0; erasing = e'.0; few = a'.0; additional = a'.1; crew = k.0 }),
      rw text_fields (cc),
    )

pub reads_exactly : (s : List ℕ) (f : Request) → (fields_of s ≡ some f) ↔ ((request_sound f ≡ true) × (s ≡ text_of f))
reads_exactly s f = (read_only s, λ h. ap fields_of h.1 ∙ read_back_lem f h.0)

pub one_set_of_fields : (f g : Request) → request_sound f ≡ true → request_sound g ≡ true → text_of f ≡ text_of g → f ≡ g
one_set_of_fields f g hf hg e = some-injective f g (sym (read_back_lem f hf) ∙ ap fields_of e ∙ read_back_lem g hg)
