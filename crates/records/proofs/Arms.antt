-- What a notice is where a `let .. else` fails. Assumes nothing.
use Rattle.std.proofs.Common.{◌≡◌, false, [], ◌∷◌, refl, ⊎_elim, arith}
use denote.Enum.Declared.{tag_of}
use types.Run.{OneOf}
use Rattle.records.specs.declared.Notice.{Notice}
use Rattle.records.specs.declared.Notice.TheVariants.{Absent, Waiting, InFlight}
use Rattle.records.specs.Steps.{is_absent, is_waiting, is_in_flight}
use Rattle.records.specs.contracts.Notice.{the_type}

pub not_absent : (n : Notice) → OneOf (1 ∷ 2 ∷ []) (tag_of the_type n) → is_absent n ≡ false
not_absent Absent h = absurd (⊎_elim (λ e. omega arith) (λ e. omega arith) h)
not_absent (Waiting k s) h = refl
not_absent (InFlight k) h = refl

pub not_waiting : (n : Notice) → OneOf (0 ∷ 2 ∷ []) (tag_of the_type n) → is_waiting n ≡ false
not_waiting Absent h = refl
not_waiting (Waiting k s) h = absurd (⊎_elim (λ e. omega arith) (λ e. omega arith) h)
not_waiting (InFlight k) h = refl

pub not_in_flight : (n : Notice) → OneOf (0 ∷ 1 ∷ []) (tag_of the_type n) → is_in_flight n ≡ false
not_in_flight Absent h = refl
not_in_flight (Waiting k s) h = refl
not_in_flight (InFlight k) h = absurd (⊎_elim (λ e. omega arith) (λ e. omega arith) h)
