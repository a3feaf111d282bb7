-- What the request's reader tells, in the numbers of its struct. Assumes nothing.
use mathlib.Core.Path.{◌≡◌, refl, sym, ap}
use mathlib.Core.Option.{Option, none, some}
use mathlib.Core.List.{List, []}
use Prim.Native.Nat.{ℕ, ◌≤◌}
use native.Mathlib.Omega.{arith}
use lib.ListN.{length, take, drop, length-take, length-drop}
use Rattle.packing.specs.Packing.{unpacked}
use Rattle.packing.specs.Outcomes.{unpacking}
use Rattle.strings.specs.declared.Fields.{Fields}
use Rattle.strings.specs.declared.ReadRequest.{ReadRequest}
use Rattle.std.specs.Prelude.{Some, None}
use Rattle.strings.specs.Text.{Request, text_of}
use Rattle.strings.specs.Outcomes.{request_of, told, tell, ReadOutcome, made_read, text_beside, reading}
use Rattle.strings.proofs.ReadBack.{read_only}
use Rattle.strings.proofs.Octets.{request_reads}
use Rattle.strings.proofs.Answered.{not_error, told_place}
use Rattle.strings.proofs.Choice.{beside_whole}
use Rattle.structs_read.specs.Fields.{of_fields, of_told}
use Rattle.ffn_c.specs.Calls.{returning, reading_as, reading_into}

-- the additional field has as many characters as the code counts
told_numbers :
    (text s : List ℕ) (f : Fields) (g : Request) → s ≡ text_of g → length s ≤ length text → told (Some f) text ≡ tell s (some g)
    → of_fields f.operation f.number f.erasing f.start f.count f.crew ≡ of_told (tell s (some g))
told_numbers text s f g t h e =
    let place = told_place text s f g t h e in
    let count : length (take f.count (drop f.start text)) ≡ f.count = omega (arith, length-take f.count (drop f.start text), length-drop f.start text) in
    rw count at (ap of_told e)

module _ (os text : List ℕ) (r : ReadRequest) (done : made_read r ≡ reading os) where
  answered : told r.reading r.text ≡ tell (unpacked os) (request_of os)
  unfolding reading
  answered = ap (λ (x : ReadOutcome). x.answer) done

  beside : r.text ≡ text_beside os
  unfolding reading
  beside = ap (λ (x : ReadOutcome). x.text) done

  pub reads_error : r.reading ≡ None → returning (of_told (told None [])) [] [] text ≡ reading_into os text
  unfolding reading_into
  reads_error e = go (request_of os) answered
    where
      go : (o : Option Request) → told r.reading r.text ≡ tell (unpacked os) o → returning (of_told (told None [])) [] [] text ≡ reading_as os text o
      go none t = refl
      go (some g) t = not_error _ _ _ _ (rw e at (sym t))

  pub reads_fields :
      (f : Fields) → r.reading ≡ Some f
      → returning (of_fields f.operation f.number f.erasing f.start f.count f.crew) [] [] (unpacking os text).buffer ≡ reading_into os text
  unfolding reading_into
  reads_fields f e = go (request_of os) refl (rw e at answered)
    where
      go :
          (o : Option Request) → request_of os ≡ o → told (Some f) r.text ≡ tell (unpacked os) o
          → returning (of_fields f.operation f.number f.erasing f.start f.count f.crew) [] [] (unpacking os text).buffer ≡ reading_as os text o
      go none q t = not_error _ _ _ _ t
      go (some g) q t =
          rw (told_numbers r.text (unpacked os) f g (read_only (unpacked os) (request_reads os q).1).1 (rw beside (beside_whole os q)) t)
