-- What a reply says of the number that was asked, by its text. Assumes nothing.
use Rattle.std.proofs.Common.{◌≡◌, ℕ, ◌<◌, Bool, true, false, ◌&&◌, eqb, List, [], ◌∷◌, length, drop, refl, ◌∙◌, arith, length-drop, eq-eqb, ne_eqb}
use lib.Pointwise.{pointwise}
use Rattle.answers.specs.Ascii.{ascii}
use Rattle.answers.specs.Begins.{begins}
use Rattle.answers.proofs.Tests.{and_no}
use Rattle.packing.specs.Packing.{chars_in, readable, unpacked}
use Rattle.packing.proofs.Laws.{kept_ge, length_unpacked}
use Rattle.numbers.specs.Numbers.{leading_number}
use Rattle.std.specs.Prelude.{Option, Some, None}
use Rattle.numbers.proofs.Reading.{read_from}
use Rattle.stores.specs.declared.Verdict.TheVariants.{Keeps, Drops, Unsure}
use Rattle.radio.specs.Radio.{is62, verdict_on, verdict_of}

pub exactly_62 : (text : List ℕ) → pointwise eqb text (ascii "62") ≡ is62 text
unfolding begins
exactly_62 [] = refl
exactly_62 (a ∷ []) = go (eqb a 54)
  where
    go : (x : Bool) → (x && false) ≡ ((x && false) && false)
    go true = refl
    go false = refl
exactly_62 (a ∷ b ∷ []) = go (eqb a 54) (eqb b 50)
  where
    go : (x y : Bool) → (x && (y && true)) ≡ ((x && (y && true)) && true)
    go true true = refl
    go true false = refl
    go false y = refl
exactly_62 (a ∷ b ∷ c ∷ more) = rw (ne_eqb (length (a ∷ b ∷ c ∷ more)) 2 (λ e. omega arith)) (go (eqb a 54) (eqb b 50))
  where
    go : (x y : Bool) → (x && (y && false)) ≡ ((x && (y && true)) && false)
    go true true = refl
    go true false = refl
    go false y = refl

module _ (own : ℕ) (text : List ℕ) where
  pub says_62 : is62 text ≡ true → verdict_on own text ≡ Drops
  unfolding verdict_on
  says_62 e = rw e

  module _ (other : is62 text ≡ false) where
    pub not_03 : begins (ascii "03 ") text ≡ false → verdict_on own text ≡ Unsure
    unfolding verdict_on
    not_03 e = rw (other, e)

    module _ (is03 : begins (ascii "03 ") text ≡ true) where
      pub no_number : leading_number (drop 3 text) ≡ None → verdict_on own text ≡ Unsure
      unfolding verdict_on
      no_number e = rw (other, is03, e)

      module _ (msisdn n : ℕ) (read : leading_number (drop 3 text) ≡ Some (msisdn, n)) where
        pub more_behind : (length (drop 3 text) ≡ n → ⊥) → verdict_on own text ≡ Unsure
        unfolding verdict_on
        more_behind e = rw (other, is03, read, ne_eqb (length (drop 3 text)) n e)

        pub own_holder : length (drop 3 text) ≡ n → msisdn ≡ own → verdict_on own text ≡ Keeps
        unfolding verdict_on
        own_holder e o = rw (other, is03, read, eq-eqb (length (drop 3 text)) n e, eq-eqb msisdn own o)

        pub another_holder : length (drop 3 text) ≡ n → (msisdn ≡ own → ⊥) → verdict_on own text ≡ Drops
        unfolding verdict_on
        another_holder e o = rw (other, is03, read, eq-eqb (length (drop 3 text)) n e, ne_eqb msisdn own o)

  -- `03`, a space and 15 digits are 18 characters
  long_text : 18 < length text → verdict_on own text ≡ Unsure
  long_text l =
      let other : is62 text ≡ false = rw (ne_eqb (length text) 2 (λ e. omega arith)) (and_no (begins (ascii "62") text) false refl) in
      go other (begins (ascii "03 ") text) (leading_number (drop 3 text)) refl refl
    where
      go : is62 text ≡ false → (b : Bool) (r : Option (ℕ × ℕ)) → begins (ascii "03 ") text ≡ b → leading_number (drop 3 text) ≡ r → verdict_on own text ≡ Unsure
      go other false r p q = not_03 other p
      go other true None p q = no_number other p q
      go other true (Some (m, n)) p q = more_behind other p m n q (λ e. omega (arith, (read_from (drop 3 text) m n q).most, length-drop 3 text))

module _ (own : ℕ) (os : List ℕ) where
  pub no_bits : readable os ≡ false → verdict_of own os ≡ Unsure
  unfolding verdict_of
  no_bits e = rw e

  pub by_text : readable os ≡ true → verdict_of own os ≡ verdict_on own (unpacked os)
  unfolding verdict_of
  by_text e = rw e

  pub too_long : 24 < chars_in (length os) → verdict_of own os ≡ Unsure
  too_long l = go (readable os) refl
    where
      go : (b : Bool) → readable os ≡ b → verdict_of own os ≡ Unsure
      go true e = by_text e ∙ long_text own (unpacked os) (omega (arith, kept_ge os, length_unpacked os))
      go false e = no_bits e
