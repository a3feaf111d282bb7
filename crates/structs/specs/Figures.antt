-- The numbers of the struct that a recount returns. Assumes nothing.
use Rattle.std.specs.Prelude.{ℕ, List, get_or}
use Rattle.std.proofs.Math.Option.{Option, none, some}
use Rattle.rules.specs.Answers.{refusal_class}
use Rattle.structs.specs.declared.FiguresRead.{FiguresRead}

-- the class of a recount that counted
abbrev pub counted_class : ℕ
counted_class = 11

-- refusal 2 for an unsound table; otherwise numbers held, notices waiting, notices in flight
abbrev pub of_figures : Option (List ℕ) → FiguresRead
of_figures none = record { class = refusal_class; number = 2; held = 0; waiting = 0; in_flight = 0 }
of_figures (some words) = record { class = counted_class; number = 0; held = get_or words 0 0; waiting = get_or words 1 0; in_flight = get_or words 2 0 }
