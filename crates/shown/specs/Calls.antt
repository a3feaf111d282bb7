-- The calls by the lines that ask for them: a name, and words. Assumes nothing.
use Rattle.std.specs.Prelude.{ℕ, Bool, true, false, List, [], ◌∷◌}
use Rattle.answers.specs.Ascii.{ascii}
use Rattle.strings.specs.declared.Operation.{Operation}
use Rattle.strings.specs.declared.Operation.TheVariants as operation
use Rattle.strings.specs.declared.Erasing.{Erasing}
use Rattle.strings.specs.declared.Erasing.TheVariants as erasing
use Rattle.shown.specs.declared.call.Wanted.{Wanted}
use Rattle.shown.specs.declared.call.Call.{Call}
use Rattle.shown.specs.declared.call.Call.TheVariants as call

-- the word of an operation
abbrev pub operation_word : Operation → ℕ
operation_word operation.Register = 0
operation_word operation.Erase = 1
operation_word operation.Interrogate = 2

-- the MSISDN, if there is one
abbrev pub erasing_words : Erasing → List ℕ
erasing_words erasing.Empty = []
erasing_words (erasing.Forced msisdn) = msisdn.0 ∷ []

-- the words of a request that is to be written
abbrev pub wanted_words : Wanted → List ℕ
wanted_words w = operation_word w.operation ∷ w.number.0 ∷ erasing_words w.erasing

-- its name, in ASCII
abbrev pub name_of : Call → List ℕ
name_of (call.Request _ _) = ascii "request"
name_of (call.Sending _ _ _) = ascii "sending"
name_of (call.Result _ _ _) = ascii "result"
name_of (call.Finding _ _) = ascii "finding"
name_of call.Recount = ascii "recount"
name_of (call.Framed _) = ascii "framed"
name_of call.Pack = ascii "pack"
name_of call.Unpack = ascii "unpack"
name_of (call.Write _) = ascii "write"
name_of call.Read = ascii "read"
name_of (call.Number _) = ascii "number"
name_of (call.Register _ _ _) = ascii "register"
name_of call.Registered = ascii "registered"
name_of call.Released = ascii "released"

-- the words behind the name
abbrev pub words_of : Call → List ℕ
words_of (call.Request requester scheme) = requester.0 ∷ scheme ∷ []
words_of (call.Sending number delay clock) = number.0 ∷ delay ∷ clock ∷ []
words_of (call.Result number kind clock) = number.0 ∷ kind ∷ clock ∷ []
words_of (call.Finding delay clock) = delay ∷ clock ∷ []
words_of call.Recount = []
words_of (call.Framed requester) = requester.0 ∷ []
words_of call.Pack = []
words_of call.Unpack = []
words_of (call.Write wanted) = wanted_words wanted
words_of call.Read = []
words_of (call.Number word) = word ∷ []
words_of (call.Register transaction invoke wanted) = transaction ∷ invoke ∷ wanted_words wanted
words_of call.Registered = []
words_of call.Released = []

-- whether its line may have a tail
abbrev pub takes_tail : Call → Bool
takes_tail (call.Request _ _) = true
takes_tail (call.Sending _ _ _) = false
takes_tail (call.Result _ _ _) = false
takes_tail (call.Finding _ _) = false
takes_tail call.Recount = false
takes_tail (call.Framed _) = true
takes_tail call.Pack = true
takes_tail call.Unpack = true
takes_tail (call.Write _) = true
takes_tail call.Read = true
takes_tail (call.Number _) = false
takes_tail (call.Register _ _ _) = true
takes_tail call.Registered = true
takes_tail call.Released = true

-- whether the characters of a tail are packed first
abbrev pub packs_characters : Call → Bool
packs_characters (call.Request _ _) = true
packs_characters (call.Sending _ _ _) = false
packs_characters (call.Result _ _ _) = false
packs_characters (call.Finding _ _) = false
packs_characters call.Recount = false
packs_characters (call.Framed _) = false
packs_characters call.Pack = false
packs_characters call.Unpack = false
packs_characters (call.Write _) = false
packs_characters call.Read = true
packs_characters (call.Number _) = false
packs_characters (call.Register _ _ _) = false
packs_characters call.Registered = false
packs_characters call.Released = false
