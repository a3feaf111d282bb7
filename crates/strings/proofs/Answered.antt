-- What is told of a text fixes the additional field's place in it, and the reader's answer on packed octets. Assumes nothing.
use Rattle.std.specs.Prelude as core
use Rattle.std.specs.Prelude.{Some, None, Ok, Err}
use Rattle.answers.specs.declared.Refusal.{Refusal}
use Rattle.answers.specs.declared.Refusal.TheVariants.{NoRoom, Unfit}
use mathlib.Core.Path.{◌≡◌, refl, sym, ap, ◌∙◌}
use mathlib.Core.Bool.{true, false, not}
use mathlib.Core.Option.{Option, none, some}
use mathlib.Core.List.{List, ◌++◌}
use Prim.Native.Nat.{ℕ, ◌+◌, ◌-◌, ◌≤◌, ◌<◌}
use native.Mathlib.Omega.{arith}
use lib.ListN.{length, drop, length-append, length-take, length-drop}
use lib.Seq.{take-append-le, drop-append-le}
use borrow.Author.Tests.{le-ltb}
use Rattle.answers.specs.Writing.{made_write, Stands}
use Rattle.answers.proofs.Writing.{wrote_count, no_room, not_fit, all_good, done_good, Counted, arm_count}
use Rattle.crews.specs.Crews.{count_of}
use Rattle.crews.specs.declared.Crew.{Crew}
use Rattle.packing.specs.Packing.{packed, readable, unpacked}
use Rattle.strings.specs.declared.Fields.{Fields}
use Rattle.strings.specs.declared.ReadRequest.{ReadRequest}
use Rattle.strings.specs.Text.{Request, request_sound, text_of}
use Rattle.strings.specs.Reader.{fields_of}
use Rattle.strings.specs.Outcomes.{request_in, request_of, told, tell, ReadOutcome, made_read, text_beside, reading, writer_room, writing_request}
use Rattle.strings.specs.Outcomes.Told.{fields, error}
use Rattle.strings.proofs.Text.{text_fields}
use Rattle.strings.proofs.ReadBack.{read_only}

-- `#` stands behind the additional field
text_behind : (f : Request) → length f.additional < length (text_of f)
text_behind f = rw (text_fields f) (simp length-append (omega arith))

pub not_error : {A : Type 0} (f : Request) (n : ℕ) (crew : Crew) (m : ℕ) → fields f n crew ≡ error m → A
not_error f n crew m e = absurd (let z : ◌≡◌ {A = ℕ} 0 1 = cc in omega arith)

-- what is told of a text s, at the front of another: where its additional field ends, before the last character
pub told_place :
    (text s : List ℕ) (f : Fields) (g : Request) → s ≡ text_of g → length s ≤ length text → told (Some f) text ≡ tell s (some g)
    → length s ≡ f.start + f.count + 1
told_place text s f g t h e =
    let same : request_in text f ≡ g = cc in
    let start : f.start ≡ length s - 1 - length g.additional = cc in
    let count = ap (λ (q : Request). length q.additional) same in
    omega (arith, text_behind g, ap length t, length-take f.count (drop f.start text), length-drop f.start text)

told_end : (s : List ℕ) (f : Fields) → told (Some f) s ≡ tell s (fields_of s) → length s ≡ f.start + f.count + 1
told_end s f e = go (fields_of s) refl e
  where
    go : (r : Option Request) → fields_of s ≡ r → told (Some f) s ≡ tell s r → length s ≡ f.start + f.count + 1
    go none r d = not_error _ _ _ _ d
    go (some g) r d = told_place s s f g (read_only s r).1 (omega arith) d

-- what stands behind the text does not matter
pub told_front : (s more : List ℕ) (r : core.Option Fields) → told r s ≡ tell s (fields_of s) → told r (s ++ more) ≡ told r s
told_front s more (Some f) e =
    let end = told_end s f e in
    let l = length-drop f.start s in
    rw (drop-append-le f.start s more (omega arith), take-append-le f.count (drop f.start s) more (omega arith))
told_front s more None e = refl

-- ---- the answer on packed octets

pub unread : (os text : List ℕ) → request_of os ≡ none → text ≡ text_beside os → made_read (record { reading = None; text = text }) ≡ reading os
unfolding reading
unread os text e t = rw (e, t)

pub read :
    (os text more : List ℕ) (r : core.Option Fields) → readable os ≡ true → told r (unpacked os) ≡ tell (unpacked os) (fields_of (unpacked os))
    → text ≡ unpacked os ++ more → text ≡ text_beside os → made_read (record { reading = r; text = text }) ≡ reading os
unfolding reading request_of
read os text more r e d t b =
    let a : told r text ≡ tell (unpacked os) (fields_of (unpacked os)) = ap (told r) t ∙ told_front (unpacked os) more r d ∙ d in
    rw (a, e, b)

-- ---- what the reader's answer says of the octets

tell_none : (text : List ℕ) (o : Option Request) → error 36 ≡ tell text o → o ≡ none
tell_none text none e = refl
tell_none text (some f) e = not_error _ _ _ _ (sym e)

tell_some : (text : List ℕ) (o : Option Request) (f : Request) (start : ℕ) (crew : Crew) → fields f start crew ≡ tell text o → (o ≡ some f) × (crew ≡ count_of f.additional)
tell_some text none f start crew e = not_error _ _ _ _ e
tell_some text (some g) f start crew e = let same : g ≡ f = cc in let said : crew ≡ count_of g.additional = cc in (ap some same, said ∙ ap (λ (r : Request). count_of r.additional) same)

module _ (os : List ℕ) (r : ReadRequest) (done : made_read r ≡ reading os) where
  pub not_read : r.reading ≡ None → request_of os ≡ none
  unfolding reading
  not_read e = tell_none _ (request_of os) (rw e at (ap (λ (o : ReadOutcome). o.answer) done))

  module _ (f : Fields) (e : r.reading ≡ Some f) where
    pub told_so : fields (request_in r.text f) f.start f.crew ≡ tell (unpacked os) (request_of os)
    unfolding reading
    told_so = rw e at (ap (λ (o : ReadOutcome). o.answer) done)

    pub was_read : request_of os ≡ some (request_in r.text f)
    was_read = (tell_some _ (request_of os) _ _ _ told_so).0

    pub read_crew : f.crew ≡ count_of (request_in r.text f).additional
    read_crew = (tell_some _ (request_of os) _ _ _ told_so).1

-- ---- the writer's answer

module _ (f : Request) (out : List ℕ) where
  pub short : length out < writer_room → made_write (Err NoRoom) out ≡ writing_request f out
  unfolding writing_request
  short h = sym (no_room writer_room (request_sound f) (packed (text_of f)) out h)

  pub unsound : writer_room ≤ length out → request_sound f ≡ false → made_write (Err Unfit) out ≡ writing_request f out
  unfolding writing_request
  unsound h u = sym (not_fit writer_room (request_sound f) (packed (text_of f)) out h u)

  pub written :
      {n : ℕ} {new : List ℕ} → writer_room ≤ length out → request_sound f ≡ true → Stands (packed (text_of f)) out n new
      → made_write (Ok n) new ≡ writing_request f out
  unfolding writing_request
  written {n} {new} h s w =
      wrote_count (packed (text_of f)) out new n (sym w.count) w.buffer ∙ sym (all_good writer_room (request_sound f) (packed (text_of f)) out h s)

-- what it tells its caller
module _ (f : Request) (out : List ℕ) (r : core.Result ℕ Refusal) (new : List ℕ) (done : made_write r new ≡ writing_request f out) where
  pub string_written : writer_room ≤ length out → request_sound f ≡ true → r ≡ Ok (length (packed (text_of f)))
  unfolding writing_request
  string_written room sound = (done_good _ _ (packed (text_of f)) out r new done (le-ltb _ _ room) (ap not sound)).0

  pub string_counted : (n : ℕ) → r ≡ Ok n → Counted writer_room (request_sound f) (packed (text_of f)) out new n
  unfolding writing_request
  string_counted n e = arm_count writer_room (request_sound f) (packed (text_of f)) out r new done n e
