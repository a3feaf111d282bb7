-- Single requests, sendings, results, erasures at the terminal and routings over a sound state are local: each reads and writes the record of the number that it names, and no other. Assumes nothing.
use mathlib.Core.Path.{◌≡◌, refl, sym, ap, ◌∙◌}
use mathlib.Core.Bool.{true}
use mathlib.Core.Option.{Option, none, some}
use mathlib.Core.List.{List}
use Prim.Native.Nat.{ℕ}
use borrow.Author.Tests.{eqb-true, eq-eqb}
use Rattle.answers.proofs.Tests.{no_path}
use Rattle.records.specs.declared.Record.{Record}
use Rattle.states.specs.States.{State, state_sound, record_for}
use Rattle.rules.specs.Run.{Local}
use Rattle.rules.specs.Calls.{Call, name_of, is_named, names_one}
use Rattle.rules.proofs.Once.{single}
use Rattle.rules.proofs.Visits.{single_stops}
use Rattle.rules.proofs.Sound.{single_keeps, single_own, single_absent, single_other}

-- ---- the number that a call names

pub named_some : (n : Option ℕ) (k : ℕ) → is_named n k ≡ true → n ≡ some k
named_some none k e = no_path e
named_some (some j) k e = ap some (eqb-true j k e)

-- a call names one number at most
pub one_name : (list : List ℕ) (c : Call) (j k : ℕ) → names_one list c k ≡ true → names_one list c j ≡ true → j ≡ k
one_name list c j k p q = let x = named_some (name_of list c) k p in let y = named_some (name_of list c) j q in cc

-- ---- two states with the same record of that number

module _ (list : List ℕ) (delay : ℕ) (c : Call) (t u : State) (st : state_sound t ≡ true) (su : state_sound u ≡ true)
    (same : (k : ℕ) → names_one list c k ≡ true → record_for t k ≡ record_for u k) where
  -- the call gets the same, and leaves the same record of the number
  abbrev Alike : Type 0
  Alike =
      ((single list delay c t).0 ≡ (single list delay c u).0)
      × ((k : ℕ) → names_one list c k ≡ true → record_for (single list delay c t).1 k ≡ record_for (single list delay c u).1 k)

  alike_none : name_of list c ≡ none → Alike
  alike_none n = (
    let stops = (single_stops list delay c n).2 in ap (λ x. x.0) (stops t st) ∙ sym (ap (λ x. x.0) (stops u su)),
    λ k m. no_path (ap (λ o. is_named o k) (sym n) ∙ m),
  )

  module _ (k : ℕ) (n : name_of list c ≡ some k) where
    alike_absent : record_for t k ≡ none → record_for u k ≡ none → Alike
    alike_absent p q =
        let x = single_absent list delay c t st k n p in
        let y = single_absent list delay c u su k n q in
        (ap (λ z. z.0) x ∙ sym (ap (λ z. z.0) y), λ j m. ap (λ z. record_for z.1 j) x ∙ same j m ∙ sym (ap (λ z. record_for z.1 j) y))

    alike_there : (r : Record) → record_for t k ≡ some r → record_for u k ≡ some r → Alike
    alike_there r p q =
        let x = single_own list delay c t st k r n p in
        let y = single_own list delay c u su k r n q in
        (x.0 ∙ sym y.0, λ j m. rw (named_one j m) (x.1 ∙ sym y.1))
      where
        named_one : (j : ℕ) → names_one list c j ≡ true → j ≡ k
        named_one j m = let e = named_some (name_of list c) j m in cc

    alike_at : (o : Option Record) → record_for t k ≡ o → record_for u k ≡ o → Alike
    alike_at none p q = alike_absent p q
    alike_at (some r) p q = alike_there r p q

  alike : Alike
  alike = go (name_of list c) refl
    where
      go : (n : Option ℕ) → name_of list c ≡ n → Alike
      go none n = alike_none n
      go (some k) n = alike_at k n (record_for t k) refl (sym (same k (ap (λ o. is_named o k) n ∙ eq-eqb k k refl)))

pub singles_local : (list : List ℕ) (delay : ℕ) → Local (single list delay) (names_one list) (λ k t. record_for t k) (λ t. state_sound t ≡ true)
singles_local list delay = record {
  keep = λ c t s. (single_keeps list delay c t s).sound;
  other = λ c t k s n. single_other list delay c t s k n;
  answer = λ c t u s v h. (alike list delay c t u s v h).0;
  own = λ c t u k s v h n. (alike list delay c t u s v h).1 k n;
}
