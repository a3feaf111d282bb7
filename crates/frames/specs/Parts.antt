-- Parts of a tag, a length and contents, as TS 24.080 has them. Document 02, M-101: "Lengths are definite and in their shortest form." Assumes nothing.
use Rattle.std.specs.Prelude.{ℕ, cond, ◌&&◌, List, [], ◌∷◌, ◌++◌, length, drop, ltb, leb}
use Rattle.std.proofs.Math.Option.{Option, none, some}
use Rattle.answers.specs.Begins.{begins, behind}
use Rattle.answers.specs.Checks.{◌>>=◌, only_if}
use Rattle.strings.specs.Reader.{Field, or_else}

-- ---- a part

-- a length below this is one octet; from it on, it stands behind an octet that says that one follows
abbrev pub long_length : ℕ
long_length = 128

abbrev pub one_follows : ℕ
one_follows = 0x81

abbrev pub length_octets : ℕ → List ℕ
length_octets n = cond (ltb n long_length) (n ∷ []) (one_follows ∷ n ∷ [])

unfoldable pub part : ℕ → List ℕ → List ℕ
part tag contents = (tag ∷ length_octets (length contents)) ++ contents

-- a part of one octet
abbrev pub octet_part : ℕ → ℕ → List ℕ
octet_part tag x = tag ∷ 1 ∷ x ∷ []

-- ---- read

-- the contents of a part that fills s: the tag, how many octets stand behind it and its length, that length in its shortest form, and they
abbrev pub short_contents : ℕ → List ℕ → List ℕ → Option (List ℕ)
short_contents tag s contents = only_if (ltb (length contents) long_length && begins (tag ∷ length contents ∷ []) s) contents

abbrev pub long_contents : ℕ → List ℕ → List ℕ → Option (List ℕ)
long_contents tag s contents = only_if (leb long_length (length contents) && begins (tag ∷ one_follows ∷ length contents ∷ []) s) contents

unfoldable pub contents_of : ℕ → List ℕ → Option (List ℕ)
contents_of tag s = or_else (short_contents tag s (drop 2 s)) (long_contents tag s (drop 3 s))

-- the first octet and what is left
abbrev pub first_of : List ℕ → Option (Field ℕ)
first_of [] = none
first_of (x ∷ rest) = some (record { got = x; rest = rest })

-- a part of one octet at the front: the octet, and what is left
unfoldable pub octet_at : ℕ → List ℕ → Option (Field ℕ)
octet_at tag s = behind (tag ∷ 1 ∷ []) s >>= first_of
