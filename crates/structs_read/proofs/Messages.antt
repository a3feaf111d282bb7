-- What was read in a message with a string, in the numbers of its struct. Assumes nothing.
use mathlib.Core.Path.{◌≡◌, sym, ap, ◌∙◌}
use mathlib.Core.List.{List}
use Prim.Native.Nat.{ℕ, ◌-◌}
use lib.ListN.{length}
use Rattle.std.specs.Prelude.{Result, Ok}
use Rattle.answers.specs.declared.Refusal.{Refusal}
use Rattle.strings.specs.Text.{coding_scheme}
use Rattle.frames.specs.declared.Asked.{Asked}
use Rattle.frames.specs.declared.Register as read
use Rattle.frames.specs.declared.Answer.TheVariants as answer
use Rattle.frames.specs.declared.Release as ended
use Rattle.frames.specs.Messages.{version, register_of, release_of}
use Rattle.frames.specs.Read.{or_unread, told_register, told_release}
use Rattle.frames.proofs.Inside.{asks_so, register_count, result_so, result_count}
use Rattle.structs_read.specs.Frames.{string_at, of_register, of_release}

pub register_asks :
    (s : List ℕ) {r : Result read.Register Refusal} (told : told_register r s ≡ or_unread (register_of s)) (v : read.Register) (e : r ≡ Ok v)
    (a : Asked) → v.body ≡ Ok a
    → string_at v.first v.number a.scheme (length s - length version - a.count) a.count ≡ of_register s (register_of s)
register_asks s told v e a b =
    ap (λ (n : ℕ). string_at v.first v.number a.scheme (length s - length version - n) n) (sym (register_count s told v e a b))
    ∙ ap (of_register s) (asks_so s told v e a b)

pub release_result :
    (s : List ℕ) {r : Result ended.Release Refusal} (told : told_release r s ≡ or_unread (release_of s)) (v : ended.Release) (e : r ≡ Ok v)
    (invoke count : ℕ) → v.answer ≡ answer.Result invoke count
    → string_at v.first invoke coding_scheme (length s - count) count ≡ of_release s (release_of s)
release_result s told v e invoke count b =
    ap (λ (n : ℕ). string_at v.first invoke coding_scheme (length s - n) n) (sym (result_count s told v e invoke count b))
    ∙ ap (of_release s) (result_so s told v e invoke count b)
