use Rattle.std.proofs.Common.{◌∙◌, sym}
use Rattle.image.proofs.Reading.{trailer_words_lem, too_short, other_distance, too_many, not_filled, all_right}
use Rattle.image.proofs.read_trailer.Goals as goal

pub returns-then-image-lt-TRAILER_OCTETS : goal.returns-then-image-lt-TRAILER_OCTETS
returns-then-image-lt-TRAILER_OCTETS c = too_short c.args.image.now c.if-image-lt-TRAILER_OCTETS.true

pub returns-then-distance-start : goal.returns-then-distance-start
returns-then-distance-start c =
    let told = trailer_words_lem c.args.image.now c.load_words.new.words c.load_words.ensures in
    other_distance c.args.image.now c.if-image-lt-TRAILER_OCTETS.false (λ e. c.if-distance-start.true (told.2 ∙ e))

pub returns-then-numbers-subscribers : goal.returns-then-numbers-subscribers
returns-then-numbers-subscribers c =
    let told = trailer_words_lem c.args.image.now c.load_words.new.words c.load_words.ensures in
    too_many c.args.image.now c.if-image-lt-TRAILER_OCTETS.false (sym told.2 ∙ c.if-distance-start.false) (rw (told.0, told.1) at c.if-numbers-subscribers.true)

pub returns-then-words-distance : goal.returns-then-words-distance
returns-then-words-distance c =
    let told = trailer_words_lem c.args.image.now c.load_words.new.words c.load_words.ensures in
    not_filled c.args.image.now c.if-image-lt-TRAILER_OCTETS.false (sym told.2 ∙ c.if-distance-start.false) (rw (told.0, told.1) at c.if-numbers-subscribers.false)
    (rw (told.0, told.1, told.2) at c.if-words-distance.true)

pub returns : goal.returns
returns c =
    let told = trailer_words_lem c.args.image.now c.load_words.new.words c.load_words.ensures in
    rw (told.0, told.1)
    (all_right c.args.image.now c.if-image-lt-TRAILER_OCTETS.false (sym told.2 ∙ c.if-distance-start.false) (rw (told.0, told.1) at c.if-numbers-subscribers.false)
    (rw (told.0, told.1, told.2) at c.if-words-distance.false))
