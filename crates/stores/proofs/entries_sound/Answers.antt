use Rattle.std.proofs.Common.{◌≡◌, ◌<◌, ◌∙◌, sym, ap, arith, length, drop, take, ◌+◌, ◌-◌, List, Bool, cond, false, ◌&&◌, ◌||◌, not, get_or, ℕ}
use lib.ListN.{length-drop, drop_of_length-le}
use lib.Seq.{take_all}
use Rattle.stores.specs.declared.Entry.{Entry}
use Rattle.stores.specs.Stores.{blank, entry_sound, has, every, none_twice}
use Rattle.stores.proofs.Entries.{sound_at}
use Rattle.stores.proofs.entries_sound.Goals as goal

-- what the code tests of an entry decides as the rule does
decides : (es : List Entry) (i : ℕ) (r s b : Bool) → i < length es → r ≡ entry_sound (get_or es i blank)
    → s ≡ has (get_or es i blank).number (take (length es - (i + 1)) (drop (i + 1) es)) → (not r || s) ≡ b
    → (every entry_sound (drop i es) && none_twice (drop i es)) ≡ cond b false (every entry_sound (drop (i + 1) es) && none_twice (drop (i + 1) es))
decides es i r s b h e t test =
    let whole : take (length es - (i + 1)) (drop (i + 1) es) ≡ drop (i + 1) es = take_all (length es - (i + 1)) (drop (i + 1) es) (omega (arith, length-drop (i + 1) es)) in
    sound_at es i h ∙ ap (λ (x : Bool). cond x false (every entry_sound (drop (i + 1) es) && none_twice (drop (i + 1) es))) (rw (← e, ← whole, ← t) test)

pub returns-then-entry_sound-has : goal.returns-then-entry_sound-has
returns-then-entry_sound-has c =
    let es = c.args.entries.now in
    sym (c.loop-i.invariant ∙ decides es c.loop-i.i _ _ _ (omega arith) c.entry_sound.ensures c.has.ensures c.if-entry_sound-has.true)

pub loop-i-preserved : goal.loop-i-preserved
loop-i-preserved c =
    let es = c.args.entries.now in
    c.loop-i.invariant ∙ decides es c.loop-i.i _ _ _ (omega arith) c.entry_sound.ensures c.has.ensures c.if-entry_sound-has.false

pub returns : goal.returns
unfolding every none_twice
returns c =
    let es = c.args.entries.now in
    let none = drop_of_length-le es {i = c.loop-i.i} (omega arith) in
    sym (c.loop-i.invariant ∙ rw none)
