-- The buffer that a line asks for by two words: how many octets, and what each is. Assumes nothing.
use Rattle.std.specs.Prelude.{ℕ, Bool, cond, ◌&&◌, nat_le, nat_lt, Option, Some, None}
use Rattle.shown.specs.declared.Blank.{Blank}

-- its two words
abbrev pub said_blank : Option Blank → Option (ℕ × ℕ)
said_blank (Some blank) = Some (blank.octets, blank.filling)
said_blank None = None

-- there is room for 512 octets, and each is below 256
abbrev pub blank_of : ℕ → ℕ → Option (ℕ × ℕ)
blank_of octets filling = cond (nat_le octets 512 && nat_lt filling 256) (Some (octets, filling)) None
