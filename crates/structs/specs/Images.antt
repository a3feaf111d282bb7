-- The numbers of the struct that an image's reader returns. Assumes nothing.
use Rattle.rules.specs.Answers.{refusal_class}
use Rattle.image.specs.Images.{SaidRead, counts, refusal}
use Rattle.structs.specs.declared.ImageCounts.{ImageCounts}
use Rattle.structs.specs.Numbers.{read_class}

-- the counts of rows, or a refusal
abbrev pub of_image : SaidRead → ImageCounts
of_image (counts numbers subscribers) = record { class = read_class; number = 0; numbers = numbers; subscribers = subscribers }
of_image (refusal n) = record { class = refusal_class; number = n; numbers = 0; subscribers = 0 }
