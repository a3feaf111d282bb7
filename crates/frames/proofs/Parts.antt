-- A part is read exactly where it was written, and what that says of lengths and places. Assumes nothing.
use mathlib.Core.Path.{◌≡◌, refl, sym, ap, ◌∙◌}
use mathlib.Core.Logic.{⊎_elim}
use mathlib.Core.Option.{Option, none, some}
use mathlib.Core.List.{List, [], ◌∷◌, ◌++◌}
use Prim.Native.Nat.{ℕ, ◌+◌, ◌-◌, ◌≤◌, ◌<◌}
use native.Mathlib.Omega.{arith}
use lib.ListN.{length, get_or, drop}
use lib.Dec.{ltb, leb}
use borrow.Author.Tests.{ltb-true, lt-ltb, le-ltb, le-leb, leb-true, eq-eqb}
use Rattle.answers.specs.Begins.{begins}
use Rattle.answers.proofs.Begins.{begins_only, behind_only}
use Rattle.answers.proofs.Checks.{bind_some, not_some, only_if_some}
use Rattle.answers.proofs.Tests.{and_left, and_right, less_or_not}
use Rattle.strings.specs.Reader.{Field}
use Rattle.strings.proofs.Exact.{else_some}
use Rattle.frames.specs.Parts.{long_length, one_follows, part, octet_part, short_contents, long_contents, contents_of, first_of, octet_at}

-- ---- a part, by the length of its contents

pub part_short : (tag : ℕ) (c : List ℕ) → length c < long_length → part tag c ≡ tag ∷ length c ∷ c
unfolding part
part_short tag c h = rw (lt-ltb (length c) long_length h)

pub part_long : (tag : ℕ) (c : List ℕ) → long_length ≤ length c → part tag c ≡ tag ∷ one_follows ∷ length c ∷ c
unfolding part
part_long tag c h = rw (le-ltb (length c) long_length h)

-- ---- read exactly

short_only : (tag : ℕ) (s x : List ℕ) {c : List ℕ} → short_contents tag s x ≡ some c → x ≡ drop 2 s → s ≡ part tag c
short_only tag s x h e =
    let k = only_if_some _ h in
    let few = ltb (length x) long_length in
    let head = tag ∷ length x ∷ [] in
    let l = ltb-true (length x) long_length (and_left few (begins head s) k.0) in
    let b = begins_only head s (and_right few (begins head s) k.0) in
    rw (← k.1) (b ∙ rw (← e) (sym (part_short tag x l)))

long_only : (tag : ℕ) (s x : List ℕ) {c : List ℕ} → long_contents tag s x ≡ some c → x ≡ drop 3 s → s ≡ part tag c
long_only tag s x h e =
    let k = only_if_some _ h in
    let many = leb long_length (length x) in
    let head = tag ∷ one_follows ∷ length x ∷ [] in
    let l = leb-true long_length (length x) (and_left many (begins head s) k.0) in
    let b = begins_only head s (and_right many (begins head s) k.0) in
    rw (← k.1) (b ∙ rw (← e) (sym (part_long tag x l)))

pub contents_only : (tag : ℕ) (s : List ℕ) {c : List ℕ} → contents_of tag s ≡ some c → s ≡ part tag c
unfolding contents_of
contents_only tag s h = ⊎_elim (λ a. short_only tag s (drop 2 s) a refl) (λ b. long_only tag s (drop 3 s) b refl) (else_some _ _ h)

pub contents_back : (tag : ℕ) (c : List ℕ) → contents_of tag (part tag c) ≡ some c
unfolding begins contents_of
contents_back tag c =
    let t = eq-eqb tag tag refl in
    let n = eq-eqb (length c) (length c) refl in
    ⊎_elim (λ l. rw (part_short tag c l, lt-ltb (length c) long_length l, t, n))
    (λ l. rw (part_long tag c l, le-ltb (length (length c ∷ c)) long_length (omega arith), le-leb long_length (length c) l, t, n))
    (less_or_not (length c) long_length)

pub first_only : (s : List ℕ) {f : Field ℕ} → first_of s ≡ some f → s ≡ f.got ∷ f.rest
first_only [] e = not_some e
first_only (x ∷ s) e = cc

pub octet_only : (tag : ℕ) (s : List ℕ) {f : Field ℕ} → octet_at tag s ≡ some f → s ≡ octet_part tag f.got ++ f.rest
unfolding octet_at
octet_only tag s h =
    bind_some _ first_of h λ rest b r.
    behind_only (tag ∷ 1 ∷ []) s b ∙ ap (λ (l : List ℕ). (tag ∷ 1 ∷ []) ++ l) (first_only rest r)

pub octet_back : (tag x : ℕ) (rest : List ℕ) → octet_at tag (octet_part tag x ++ rest) ≡ some (record { got = x; rest = rest })
unfolding begins octet_at
octet_back tag x rest = rw (eq-eqb tag tag refl)

-- what reads as nothing whatever is nothing
pub none_if_never : {X : Type 0} (o : Option X) → ((x : X) → o ≡ some x → ⊥) → o ≡ none
none_if_never none h = refl
none_if_never (some x) h = absurd (h x refl)

-- a part is read by its own tag only
part_tag : {tag other : ℕ} (c d : List ℕ) → part other c ≡ part tag d → other ≡ tag
unfolding part
part_tag c d e = ap (λ (l : List ℕ). get_or l 0 0) e

pub contents_other : (tag other : ℕ) (c : List ℕ) → (other ≡ tag → ⊥) → contents_of tag (part other c) ≡ none
contents_other tag other c h = none_if_never (contents_of tag (part other c)) λ d e. h (part_tag c d (contents_only tag (part other c) e))

-- ---- lengths

pub short_length : (tag : ℕ) (c : List ℕ) → length c < long_length → length (part tag c) ≡ 2 + length c
short_length tag c h = rw (part_short tag c h) (omega arith)

pub long_length_lem : (tag : ℕ) (c : List ℕ) → long_length ≤ length c → length (part tag c) ≡ 3 + length c
long_length_lem tag c h = rw (part_long tag c h) (omega arith)

-- a part is longer than its contents, and they end it
pub part_drop : (tag : ℕ) (c : List ℕ) → (length c < length (part tag c)) × (drop (length (part tag c) - length c) (part tag c) ≡ c)
part_drop tag c =
    ⊎_elim
    (λ l.
    let n : length (part tag c) - length c ≡ 2 = omega (arith, short_length tag c l) in
    (omega arith, rw (n, part_short tag c l)))
    (λ l.
    let n : length (part tag c) - length c ≡ 3 = omega (arith, long_length_lem tag c l) in
    (omega arith, rw (n, part_long tag c l)))
    (less_or_not (length c) long_length)
