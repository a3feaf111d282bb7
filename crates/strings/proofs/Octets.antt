-- Packed texts: octets read exactly if they are the packed text of something sound, and then they are at most 63; requests are one case. Assumes nothing.
use Rattle.std.specs.Prelude as core
use Rattle.std.specs.Prelude.{Some, None, Ok, Err}
use Rattle.answers.specs.declared.Refusal.{Refusal}
use mathlib.Core.Path.{◌≡◌, refl, sym, ap, ◌∙◌}
use mathlib.Core.Logic.{⊎_elim}
use mathlib.Core.Bool.{Bool, true, false, cond}
use mathlib.Core.Option.{Option, none, some}
use mathlib.Core.List.{List}
use Prim.Native.Nat.{ℕ, ◌-◌, ◌%◌, ◌≤◌, ◌<◌}
use native.Mathlib.Omega.{arith}
use lib.ListN.{length, get_or, replicate}
use lib.Dec.{eqb}
use borrow.Author.Tests.{eqb-true}
use Rattle.answers.specs.Writing.{made_write}
use Rattle.answers.proofs.Tests.{less_or_not, and_left}
use Rattle.answers.proofs.Checks.{not_some}
use Rattle.packing.specs.Packing.{chars_in, takes, packed, readable, filled, characters, unpacked}
use Rattle.packing.specs.Outcomes.{unpacking}
use Rattle.bases.proofs.Digits.{Below}
use Rattle.packing.proofs.Laws.{chars_count, length_unpacked, kept_less, kept_all}
use Rattle.packing.proofs.Outcomes.{unpacking_good}
use Rattle.answers.proofs.Writing.{made_one}
use Rattle.packing.proofs.RoundTrip.{packed_reads, unpacked_packed, packed_unpacked}
use Rattle.strings.specs.Text.{Request, request_sound, text_of, most_characters, most_octets}
use Rattle.strings.specs.Reader.{unpacked_by, fields_of}
use Rattle.strings.specs.Outcomes.{request_of}
use Rattle.strings.proofs.Text.{sound_writable, text_taken, text_short}
use Rattle.strings.proofs.ReadBack.{read_back_lem, read_only}

-- a reader that reads exactly the texts of what is sound, each with at most 72 characters, which the packer takes
pub record Reads {X : Type 0} (reader : List ℕ → Option X) (text : X → List ℕ) (sound : X → Bool) : Type 0 where
  pub back : (x : X) → sound x ≡ true → reader (text x) ≡ some x
  pub only : (s : List ℕ) {x : X} → reader s ≡ some x → (sound x ≡ true) × (s ≡ text x)
  pub taken : (x : X) → sound x ≡ true → takes (text x) ≡ true
  pub short : (x : X) → sound x ≡ true → length (text x) ≤ most_characters

-- a carriage return is dropped behind whole sevens of octets only
unpacked_least : (os : List ℕ) → most_characters < chars_in (length os) → most_characters < length (unpacked os)
unfolding filled
unpacked_least os h = go (filled os) refl
  where
    go : (b : Bool) → filled os ≡ b → most_characters < length (unpacked os)
    go true e =
        let sevens = eqb-true (length os % 7) 0 (and_left (eqb (length os % 7) 0) (eqb (get_or (characters os) (chars_in (length os) - 1) 0) 13) e) in
        omega (arith, length_unpacked os, kept_less os e, chars_count (length os))
    go false e = omega (arith, length_unpacked os, kept_all os e, chars_count (length os))

module _ {X : Type 0} (reader : List ℕ → Option X) (os : List ℕ) where
  -- what reads has readable bits, and its characters read
  pub bits_read : {x : X} → unpacked_by reader os ≡ some x → (readable os ≡ true) × (reader (unpacked os) ≡ some x)
  bits_read {x} e = go (readable os) refl e
    where
      go : (b : Bool) → readable os ≡ b → cond b (reader (unpacked os)) none ≡ some x → (readable os ≡ true) × (reader (unpacked os) ≡ some x)
      go true r d = (r, d)
      go false r d = not_some d

  pub bits_good : readable os ≡ true → unpacked_by reader os ≡ reader (unpacked os)
  bits_good e = rw e

  bits_bad : readable os ≡ false → unpacked_by reader os ≡ none
  bits_bad e = rw e

module _ {X : Type 0} {reader : List ℕ → Option X} {text : X → List ℕ} {sound : X → Bool} (k : Reads reader text sound) where
  -- ---- what is written reads as the fields, and writing what was read gives the same octets

  pub octets_back : (x : X) → sound x ≡ true → unpacked_by reader (packed (text x)) ≡ some x
  octets_back x h = rw (packed_reads (text x) (k.taken x h), unpacked_packed (text x) (k.taken x h)) (k.back x h)

  pub octets_only : (os : List ℕ) {x : X} → Below 256 os → unpacked_by reader os ≡ some x → (sound x ≡ true) × (packed (text x) ≡ os)
  octets_only os b e =
      let r = bits_read reader os e in
      let t = k.only (unpacked os) r.1 in
      (t.0, ap packed (sym t.1) ∙ packed_unpacked os b r.0)

  -- ---- how many they are

  -- nothing sound has so many characters
  pub octets_long : (os : List ℕ) → most_characters < chars_in (length os) → unpacked_by reader os ≡ none
  octets_long os h = go (unpacked_by reader os) refl
    where
      go : (r : Option X) → unpacked_by reader os ≡ r → unpacked_by reader os ≡ none
      go none e = e
      go (some x) e =
          let t = k.only (unpacked os) (bits_read reader os e).1 in
          absurd (omega (arith, unpacked_least os h, ap length t.1, k.short x t.0))

  -- where the unpacker refuses, there are too many characters, or unreadable bits
  pub uncounted :
      (os new : List ℕ) (r : core.Result ℕ Refusal) (e : Refusal) → made_write r new ≡ unpacking os (replicate most_characters 0) → r ≡ Err e
      → unpacked_by reader os ≡ none
  uncounted os new r e done refused = ⊎_elim (octets_long os) (λ h. go (readable os) refl h) (less_or_not most_characters (chars_in (length os)))
    where
      go : (b : Bool) → readable os ≡ b → chars_in (length os) ≤ most_characters → unpacked_by reader os ≡ none
      go false bad h = bits_bad reader os bad
      go true good h =
          let counted = (made_one r (Ok (length (unpacked os))) new _ (done ∙ unpacking_good os (replicate most_characters 0) h good) refl).0 in
          absurd (let z : ◌≡◌ {A = ℕ} 0 1 = cc in omega arith)

-- ---- requests

pub requests : Reads fields_of text_of request_sound
requests = record { back = read_back_lem; only = read_only; taken = λ f h. text_taken f (sound_writable f h); short = text_short }

pub request_reads : (os : List ℕ) {f : Request} → request_of os ≡ some f → (readable os ≡ true) × (fields_of (unpacked os) ≡ some f)
unfolding request_of
request_reads os e = bits_read fields_of os e

pub reads_written : (f : Request) → request_sound f ≡ true → request_of (packed (text_of f)) ≡ some f
unfolding request_of
reads_written f h = octets_back requests f h

pub written_read : (os : List ℕ) {f : Request} → Below 256 os → request_of os ≡ some f → (request_sound f ≡ true) × (packed (text_of f) ≡ os)
unfolding request_of
written_read os b e = octets_only requests os b e

pub too_long : (os : List ℕ) → most_characters < chars_in (length os) → request_of os ≡ none
unfolding request_of
too_long os h = octets_long requests os h

pub octets_most : (os : List ℕ) {f : Request} → request_of os ≡ some f → length os ≤ most_octets
octets_most os e =
    ⊎_elim (λ h. not_some (sym (too_long os h) ∙ e)) (λ h. omega (arith, chars_count (length os)))
    (less_or_not most_characters (chars_in (length os)))
