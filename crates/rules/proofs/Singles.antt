-- "the table afterwards equals theirs": a crew's request leaves the table and the figures that its single requests leave, asked one after the other, and has a code among the successes exactly if its single request was answered 01 or 02. Assumes nothing.
use mathlib.Core.Path.{◌≡◌, refl, sym, ap, ◌∙◌}
use mathlib.Core.Bool.{Bool, true, false, not}
use mathlib.Core.Option.{some}
use mathlib.Core.List.{List, [], ◌∷◌, map}
use Prim.Native.Nat.{ℕ}
use Rattle.answers.specs.Checks.{any_holds}
use Rattle.packing.specs.Packing.{packed, unpacked}
use Rattle.numbers.specs.declared.FunctionalNumber.{FunctionalNumber}
use Rattle.numbers.specs.declared.Msisdn.{Msisdn}
use Rattle.crews.specs.Crews.{crew_of}
use Rattle.strings.specs.Text.{Request, text_of}
use Rattle.strings.specs.Outcomes.{request_of}
use Rattle.strings.proofs.ReadBack.{read_only}
use Rattle.strings.proofs.Octets.{request_reads}
use Rattle.tables.specs.Tables.{flags_of}
use Rattle.states.specs.States.{State, state_sound}
use Rattle.rules.specs.Requests.{has_follow_me, refusal_checks}
use Rattle.rules.specs.Crews.{with_code, member_of, crew_codes, crew_number, Walk, crew_outcome, carried_out_for, requesting}
use Rattle.rules.specs.Run.{end, log}
use Rattle.rules.specs.Calls.{Call, request, replied, call, steps_of}
use Rattle.rules.specs.Singles.{succeeds, codes_where, replaced, plainly, single_requests, AsSingles, Roomy}
use Rattle.rules.proofs.Once.{single}
use Rattle.rules.proofs.Single.{AllSingle, singles_end, singles_log}
use Rattle.rules.proofs.Visits.{by_asks}
use Rattle.rules.proofs.Members.{replaced_code}
use Rattle.rules.proofs.Crews.{Small, Shared, members_single, members_stay}
use Rattle.rules.proofs.Steps.{lead_number, Goes, goes_walks, walk, singly_walks, passed_shared, codes_small}

same_walk : (w v : Walk) → w.successes ≡ v.successes → w.failures ≡ v.failures → w.state ≡ v.state → w ≡ v
same_walk w v p q r = λ i. record { successes = p i; failures = q i; state = r i }

-- of one that no refusal and no error stops, with any buffers that have room
module _ (list : List ℕ) (delay : ℕ) (requester : Msisdn) (scheme : ℕ) (string reply : List ℕ) (f : Request) (codes : List ℕ) (state : State)
    (sound : state_sound state ≡ true) (reads : request_of string ≡ some f) (crew : crew_of f.additional ≡ some codes)
    (passed : any_holds (refusal_checks true true list reply requester scheme string) ≡ false) (buffers : ℕ → List ℕ) (roomy : Roomy buffers) where
  shared : Shared list requester scheme f
  shared = passed_shared list requester scheme string reply f codes reads crew passed

  small : Small (crew_codes codes)
  small = codes_small f codes crew

  -- ---- the same single requests

  abbrev one : ℕ → Call
  one code = request requester scheme (packed (text_of (member_of f code))) (buffers code)

  abbrev singles : List Call
  singles = single_requests list delay requester scheme string reply f codes state buffers

  member_is : (number : FunctionalNumber) (code : ℕ) → number ≡ record { 0 = with_code f.number.0 code } → plainly f.operation number ≡ member_of f code
  member_is number code e = rw (e, shared.plain) refl

  others_are : (rooms : ℕ → List ℕ) (cs : List ℕ) → Small cs
      → map (λ code. request requester scheme (packed (text_of (plainly f.operation (replaced f.number code)))) (rooms code)) cs
      ≡ map (λ code. request requester scheme (packed (text_of (member_of f code))) (rooms code)) cs
  others_are rooms [] s = refl
  others_are rooms (code ∷ cs) (c, s) =
      let same = member_is (replaced f.number code) code (replaced_code f.number.0 code shared.lead c) in
      λ i. request requester scheme (packed (text_of (same i))) (rooms code) ∷ others_are rooms cs s i

  -- whatever buffers they have
  same_with : (rooms : ℕ → List ℕ)
      → single_requests list delay requester scheme string reply f codes state rooms
      ≡ map (λ code. request requester scheme (packed (text_of (member_of f code))) (rooms code)) (crew_codes codes)
  same_with rooms =
      let sound-fields = (read_only (unpacked string) (request_reads string reads).1).0 in
      let lead = member_is f.number 1 (ap (λ n. record { 0 = n }) (sym (lead_number f sound-fields crew))) in
      λ i. request requester scheme (packed (text_of (lead i))) (rooms 1) ∷ others_are rooms codes small.1 i

  same_singles : singles ≡ map one (crew_codes codes)
  same_singles = same_with buffers

  its_steps : has_follow_me (flags_of list requester.0) ≡ true
      → steps_of list (request requester scheme string reply) ≡ single_requests list delay requester scheme string reply f codes state (λ code. reply)
  its_steps right = rw (passed, right, reads, crew) refl ∙ sym (same_with (λ code. reply))

  single_all : AllSingle (map one (crew_codes codes))
  single_all = members_single list delay requester scheme f shared buffers roomy (crew_codes codes) small

  same_end : end (single list delay) (map one (crew_codes codes)) state ≡ end (call list delay) singles state
  same_end =
      sym (singles_end list delay (map one (crew_codes codes)) state single_all) ∙ ap (λ cs. end (call list delay) cs state) (sym same_singles)

  same_log : log (single list delay) (map one (crew_codes codes)) state ≡ log (call list delay) singles state
  same_log =
      sym (singles_log list delay (map one (crew_codes codes)) state single_all) ∙ ap (λ cs. log (call list delay) cs state) (sym same_singles)

  -- ---- 11 or 12

  module _ (right : has_follow_me (flags_of list requester.0) ≡ true) where
    abbrev g : Goes list requester scheme string reply
    g = record { fields = f; codes = codes; reads = reads; crew = crew; passed = passed; right = right }

    walked_so : walk list requester scheme string reply g state ≡ record {
      successes = codes_where succeeds (crew_codes codes) (log (call list delay) singles state);
      failures = codes_where (λ a. not (succeeds a)) (crew_codes codes) (log (call list delay) singles state);
      state = end (call list delay) singles state;
    }
    walked_so =
        let w = singly_walks list delay requester scheme string reply g buffers roomy state sound in
        same_walk _ _ (w.successes ∙ ap (codes_where succeeds (crew_codes codes)) same_log)
        (w.failures ∙ ap (codes_where (λ a. not (succeeds a)) (crew_codes codes)) same_log) (w.state ∙ same_end)

    goes : call list delay (request requester scheme string reply) state
        ≡ replied (crew_outcome (crew_number f.operation) reply (record {
          successes = codes_where succeeds (crew_codes codes) (log (call list delay) singles state);
          failures = codes_where (λ a. not (succeeds a)) (crew_codes codes) (log (call list delay) singles state);
          state = end (call list delay) singles state;
        }))
    goes = ap replied (goes_walks list requester scheme string reply g state sound ∙ ap (crew_outcome (crew_number f.operation) reply) walked_so)

  -- ---- 42

  stays : has_follow_me (flags_of list requester.0) ≡ false → (call list delay (request requester scheme string reply) state).1 ≡ state
  unfolding requesting
  stays none =
      ap (λ o. (replied o).1) (by_asks list reply requester scheme string state sound (λ h. carried_out_for state reply requester h (crew_of h.additional)) f passed reads)
      ∙ rw none refl

  pub crew_as_singles : AsSingles list delay requester scheme string reply f codes state buffers
  crew_as_singles = record { state_after = by_right (has_follow_me (flags_of list requester.0)) refl; steps_are = its_steps; reply_after = goes }
    where
      by_right : (b : Bool) → has_follow_me (flags_of list requester.0) ≡ b
          → (call list delay (request requester scheme string reply) state).1 ≡ end (call list delay) singles state
      by_right true right = ap (λ r. r.1) (goes right)
      by_right false none =
          stays none ∙ sym (members_stay list delay requester scheme f shared buffers roomy none (crew_codes codes) small state sound) ∙ same_end
