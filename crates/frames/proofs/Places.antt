-- Parts and octets by their places: where contents start, what is lent of a slice from some place on, and the last octets of it. Assumes nothing.
use mathlib.Core.Path.{◌≡◌, refl, sym, ap, ◌∙◌}
use mathlib.Core.Option.{Option, none, some}
use mathlib.Core.List.{List, ◌++◌}
use Prim.Native.Nat.{ℕ, ◌+◌, ◌-◌, ◌≤◌}
use native.Mathlib.Omega.{arith}
use lib.ListN.{length, take, drop, length-append, length-drop, take-append-drop}
use lib.Seq.{drop-append-add}
use Rattle.std.specs.Prelude.{Some, None}
use Rattle.std.specs.Prelude as core
use Rattle.answers.proofs.Parts.{rest_of}
use Rattle.frames.specs.Parts.{contents_of, octet_at}
use Rattle.frames.specs.Read.{start_of, last_of, told_octet}
use Rattle.frames.proofs.Parts.{contents_only, octet_only, none_if_never, part_drop}

-- what is lent of s from a place on
abbrev pub from : ℕ → List ℕ → List ℕ
from k s = take (length s - k) (drop k s)

pub length_from : (k : ℕ) (s : List ℕ) → length (from k s) ≡ length s - k
length_from k s = rw (rest_of k s) (length-drop k s)

-- ---- the last octets

pub last_behind : (n : ℕ) (p t : List ℕ) → n ≤ length t → last_of n (p ++ t) ≡ last_of n t
last_behind n p t h =
    let e : length (p ++ t) - n ≡ length p + (length t - n) = omega (arith, length-append p t) in
    rw e (drop-append-add p t (length t - n))

pub last_from : (n k : ℕ) (s : List ℕ) → n ≤ length (from k s) → last_of n (from k s) ≡ last_of n s
last_from n k s h =
    let e : take k s ++ from k s ≡ s = rw (rest_of k s) (take-append-drop k s) in
    sym (last_behind n (take k s) (from k s) h) ∙ ap (last_of n) e

-- three places one behind the other
pub last_deep : (n i j k : ℕ) (s : List ℕ) → n ≤ length (from k (from j (from i s))) → last_of n (from k (from j (from i s))) ≡ last_of n s
last_deep n i j k s h =
    let e = length_from k (from j (from i s)) in
    let d = length_from j (from i s) in
    last_from n k (from j (from i s)) h ∙ last_from n j (from i s) (omega arith) ∙ last_from n i s (omega arith)

pub length_last : (n : ℕ) (s : List ℕ) → n ≤ length s → length (last_of n s) ≡ n
length_last n s h = omega (arith, length-drop (length s - n) s)

pub from_last : (k : ℕ) (s : List ℕ) → k ≤ length s → last_of (length s - k) s ≡ from k s
from_last k s h =
    let e : length s - (length s - k) ≡ k = omega arith in
    rw (e, rest_of k s)

-- ---- where contents start

-- they start at this place of s
pub record Contents (tag : ℕ) (s : List ℕ) (at : ℕ) : Type 0 where
  pub within : at ≤ length s
  pub found : contents_of tag s ≡ some (from at s)

module _ (tag : ℕ) (s : List ℕ) {r : core.Option ℕ} (start : r ≡ start_of s (contents_of tag s)) where
  pub start_none : r ≡ None → contents_of tag s ≡ none
  start_none z = none_if_never (contents_of tag s) λ c e.
      let k : ◌≡◌ {A = core.Option ℕ} None (Some (length s - length c)) = sym z ∙ start ∙ ap (start_of s) e in
      cc

  pub start_some : {at : ℕ} → r ≡ Some at → Contents tag s at
  start_some {at} z = go (contents_of tag s) refl
    where
      go : (o : Option (List ℕ)) → contents_of tag s ≡ o → Contents tag s at
      go none e =
          let k : ◌≡◌ {A = core.Option ℕ} (Some at) None = sym z ∙ start ∙ ap (start_of s) e in
          cc
      go (some c) e =
          let k : Some at ≡ Some (length s - length c) = sym z ∙ start ∙ ap (start_of s) e in
          let n : at ≡ length s - length c = cc in
          let d : drop (length s - length c) s ≡ c = rw (contents_only tag s e) (part_drop tag c).1 in
          record { within = omega arith; found = e ∙ ap some (sym (rest_of at s ∙ rw n d)) }

-- ---- a part of one octet

-- x is the octet, at the front of s
pub record OctetIs (tag : ℕ) (s : List ℕ) (x : ℕ) : Type 0 where
  pub within : 3 ≤ length s
  pub found : octet_at tag s ≡ some (record { got = x; rest = from 3 s })

module _ (tag : ℕ) (s : List ℕ) {r : core.Option ℕ} (told : told_octet r s ≡ octet_at tag s) where
  pub octet_none : r ≡ None → octet_at tag s ≡ none
  octet_none e = sym (rw e at told)

  pub octet_some : {x : ℕ} → r ≡ Some x → OctetIs tag s x
  octet_some {x} e =
      let f : octet_at tag s ≡ some (record { got = x; rest = drop 3 s }) = sym (rw e at told) in
      record { within = omega (arith, ap length (octet_only tag s f)); found = f ∙ rw (rest_of 3 s) }
