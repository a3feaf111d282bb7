use Rattle.std.proofs.Common.{◌≡◌, ◌<◌, true, ℕ, refl, ap, ◌∙◌, arith, rules, length}
use Rattle.stores.specs.Stores.{most_stored, entries_in, radio_sound, open_of}
use Rattle.stores.specs.declared.Radio.{Radio}
use Rattle.stores.specs.declared.Verdict.TheVariants.{Keeps, Unsure}
use Rattle.stores.specs.Places.{first_to_ask, kept_at, dropped_at}
use Rattle.stores.proofs.Soundness.{sound_is}
use Rattle.stores.proofs.Laid.{unmapped}
use Rattle.stores.proofs.Open.{open_within}
use Rattle.stores.proofs.Settling.{open_place, kept_settles, dropped_settles}
use Rattle.stores.proofs.settle.Goals as goal

place_within : (radio : Radio) (sound : radio_sound radio ≡ true) (some : open_of (entries_in radio) ≡ 0 → ⊥) (full : length radio.entries ≡ most_stored) (at : ℕ)
    → at ≡ first_to_ask (entries_in radio) → at < most_stored
place_within radio sound some full at is = let h = open_place radio full sound some in omega (arith, is, (sound_is radio sound).few)

pub entries_in-requires : goal.entries_in-requires
entries_in-requires c = (sound_is c.args.radio c.requires.radio_value).few

pub unreachable-requires : goal.unreachable-requires
unreachable-requires c =
    let place = rw c.entries_in.ensures at c.in_default.ensures.place in
    let within = open_within (entries_in c.args.radio) c.requires.fact in
    omega (arith, place)

pub kept-requires : goal.kept-requires
kept-requires c =
    let place = rw c.entries_in.ensures at c.in-Some.ensures.place in
    place_within c.args.radio c.requires.radio_value c.requires.fact (search (rules, unmapped)) c.in-Some.at place

pub dropped-requires : goal.dropped-requires
dropped-requires c =
    let place = rw c.entries_in.ensures at c.in-Some.ensures.place in
    let full : length c.args.radio.entries ≡ most_stored = search (rules, unmapped) in
    let h = open_place c.args.radio full c.requires.radio_value c.requires.fact in
    (place_within c.args.radio c.requires.radio_value c.requires.fact full c.in-Some.at place, omega arith)

pub returns-in-Keeps : goal.returns-in-Keeps
returns-in-Keeps c =
    let radio = c.args.radio in
    let full : length radio.entries ≡ most_stored = search (rules, unmapped) in
    let at = rw c.entries_in.ensures at c.in-Some.ensures.place in
    rw c.in-Keeps.is
    (c.kept.ensures ∙ ap (λ (n : ℕ). kept_at radio n 0) at ∙ kept_settles radio full c.requires.radio_value c.requires.fact Keeps 0 (λ e. refl))

pub returns-in-Drops : goal.returns-in-Drops
returns-in-Drops c =
    let radio = c.args.radio in
    let full : length radio.entries ≡ most_stored = search (rules, unmapped) in
    let at = rw c.entries_in.ensures at c.in-Some.ensures.place in
    rw c.in-Drops.is
    (c.dropped.ensures ∙ ap (dropped_at radio) at ∙ dropped_settles radio full c.requires.radio_value c.requires.fact)

pub returns-in-Unsure : goal.returns-in-Unsure
returns-in-Unsure c =
    let radio = c.args.radio in
    let full : length radio.entries ≡ most_stored = search (rules, unmapped) in
    let at = rw c.entries_in.ensures at c.in-Some.ensures.place in
    rw c.in-Unsure.is
    (c.kept-in-Unsure.ensures ∙ ap (λ (n : ℕ). kept_at radio n 1) at ∙ kept_settles radio full c.requires.radio_value c.requires.fact Unsure 1 (λ e. refl))
