-- A number and room leave the request writer nothing to refuse. Assumes nothing.
use Rattle.std.proofs.Common.{◌≡◌, refl, ℕ, Bool, true, false, ◌++◌, List, length, drop, sym, ap, ◌∙◌, rules}
use mir.Val.{bool_byte}
use Rattle.answers.specs.Writing.{over}
use Rattle.packing.specs.Packing.{packed}
use Rattle.strings.specs.Text.{text_of}
use Rattle.strings.proofs.Answered.{string_written, string_counted}
use Rattle.stores.specs.Stores.{most_stored, entries_in, flag_of}
use Rattle.stores.proofs.Laid.{unmapped}
use Rattle.stores.proofs.Stored.{has_sound, open_some}
use Rattle.radio.specs.Radio.{Outcome, doing, next_of, next_invoke, question_of, interrogation}
use Rattle.radio.proofs.Asked.{invoking, question_is, question_sound, asks_none, asks_one}
use Rattle.radio.proofs.ask_next.Goals as goal

flag_byte : (b : Bool) → bool_byte b ≡ flag_of b
flag_byte true = refl
flag_byte false = refl

pub entries_in-requires : goal.entries_in-requires
entries_in-requires c = c.requires.asks.few

pub returns-in_default : goal.returns-in_default
returns-in_default c =
    let radio = c.args.radio in
    let full : length radio.entries ≡ most_stored = search (rules, unmapped) in
    let none = sym (rw c.entries_in.ensures at c.in_default.ensures.number) in
    let e = asks_none (flag_of c.args.respond) radio full c.requires.asks c.args.question.now none in
    (c.done.ensures ∙ ap (λ (x : Outcome). x.next) (sym e), ap (λ (x : Outcome). x.question) (sym e))

pub unwrap-octets-requires : goal.unwrap-octets-requires
unwrap-octets-requires c =
    let stored = rw c.entries_in.ensures at c.in-Some.ensures.stored in
    let sound = question_sound c.in-Some.number (has_sound c.in-Some.number (entries_in c.args.radio) c.requires.asks.entries stored) in
    rw (string_written (interrogation c.in-Some.number) c.args.question.now c.write_request.result _ c.write_request.ensures c.requires.writer_room_in_bounds sound)

pub returns : goal.returns
returns c =
    let radio = c.args.radio in
    let question = c.args.question.now in
    let n = c.in-Some.number in
    let full : length radio.entries ≡ most_stored = search (rules, unmapped) in
    let is = rw c.entries_in.ensures at c.in-Some.ensures.number in
    let stored = rw c.entries_in.ensures at c.in-Some.ensures.stored in
    let t = string_counted (interrogation n) question c.write_request.result _ c.write_request.ensures c.unwrap-octets.result c.unwrap-octets.ensures in
    let about = question_is n ∙ ap question_of is in
    let e = asks_one (flag_of c.args.respond) radio full c.requires.asks question (open_some n (entries_in radio) c.requires.asks.entries is stored) (next_invoke radio.invoke) c.unwrap-octets.result refl (t.count ∙ ap (λ (l : List ℕ). length l) about) in (
      ap (λ (r : ℕ). next_of (invoking radio (next_invoke radio.invoke)) (doing 0 r (next_invoke radio.invoke) c.unwrap-octets.result)) (c.from-respond.ensures ∙ flag_byte c.args.respond)
          ∙ ap (λ (x : Outcome). x.next) (sym e),
      t.buffer ∙ ap (λ (m : ℕ). packed (text_of (interrogation n)) ++ drop m question) t.count ∙ ap (λ (text : List ℕ). over text question) about
          ∙ ap (λ (x : Outcome). x.question) (sym e),
    )
