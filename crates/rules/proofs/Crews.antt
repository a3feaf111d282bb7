-- A crew's request is its single requests, asked one after the other. Assumes nothing.
use mathlib.Core.Path.{◌≡◌, refl, sym, ap, ◌∙◌}
use mathlib.Core.Bool.{Bool, true, false, cond, not}
use mathlib.Core.Option.{some}
use mathlib.Core.List.{List, [], ◌∷◌, ◌++◌, map, append_assoc, append-nil}
use Prim.Native.Nat.{ℕ, zero, suc, ◌+◌, ◌*◌, ◌/◌, ◌^◌, ◌≤◌, ◌<◌}
use native.Mathlib.Nat.{pow-succ'}
use native.Mathlib.Omega.{arith}
use lib.ListN.{length, length-append}
use lib.Dec.{eqb}
use borrow.Author.Tests.{le-ltb, ne_eqb}
use Rattle.answers.specs.Begins.{begins}
use Rattle.answers.specs.Checks.{any_holds}
use Rattle.answers.specs.Leading.{each}
use Rattle.packing.specs.Packing.{packed, octets_for}
use Rattle.packing.proofs.Laws.{length_packed}
use Rattle.numbers.specs.Numbers.{fewest_digits, is_number}
use Rattle.numbers.specs.declared.Msisdn.{Msisdn}
use Rattle.numbers.proofs.Lengths.{length_of, is_number_lem}
use Rattle.crews.specs.Crews.{crew_of, count_of}
use Rattle.strings.specs.declared.Erasing.TheVariants.{Empty}
use Rattle.strings.specs.Text.{Request, request_sound, text_of, coding_scheme}
use Rattle.strings.specs.Outcomes.{request_of}
use Rattle.strings.proofs.Text.{rules_sound, before_additional, text_grows, octets_short}
use Rattle.strings.proofs.Octets.{reads_written}
use Rattle.tables.specs.Tables.{list_sound, flags_of}
use Rattle.states.specs.States.{State, state_sound}
use Rattle.rules.specs.Answers.{Answer, buffer_room}
use Rattle.rules.specs.Requests.{has_follow_me, most_string_octets, refusal_checks, Verdict, says, tells, Stepping, step, answered, replying, once, asking_by}
use Rattle.rules.specs.Crews.{with_code, member_of, Walk, is_success, walked_on, walked}
use Rattle.rules.specs.Run.{end, log}
use Rattle.rules.specs.Calls.{Call, request, Reply, replied, name_of, codes_read}
use Rattle.rules.specs.Singles.{succeeds, codes_where, Roomy}
use Rattle.rules.proofs.Once.{single}
use Rattle.rules.proofs.Visits.{request_asks}
use Rattle.rules.proofs.Sound.{step_keeps}
use Rattle.rules.proofs.Single.{AllSingle}

-- ---- a number with another code is a number

hundreds : (d : ℕ) → fewest_digits ≤ d → (e : ℕ) × (10 ^ d ≡ 100 * e)
hundreds zero h = absurd (omega arith)
hundreds (suc zero) h = absurd (omega arith)
hundreds (suc (suc d)) h = (10 ^ d, simp pow-succ' (omega arith))

pub code_number : (w code : ℕ) → is_number w ≡ true → code < 100 → is_number (with_code w code) ≡ true
unfolding with_code
code_number w code n c =
    let (d, l) = length_of w n in
    let (e, p) = hundreds d l.fewest in
    let least = l.least in
    let below = l.below in
    is_number_lem d (100 * (w / 100) + code) (record { fewest = l.fewest; most = l.most; least = omega arith; below = omega arith })

-- a written string has some octets, and few enough
written_octets : (f : Request) → request_sound f ≡ true → (1 ≤ length (packed (text_of f))) × (length (packed (text_of f)) ≤ most_string_octets)
unfolding octets_for
written_octets f h =
    let some_text : 1 ≤ length (text_of f) = rw (text_grows f, length-append (before_additional f), length-append f.additional) (omega arith) in
    let octets = length_packed (text_of f) in
    let short = octets_short f h in
    (omega arith, omega arith)

-- ---- one single request

-- what it replies says its step's verdict, and leaves its step's state
replied_state : (b : List ℕ) (s : Stepping) → (replied (replying b s)).1 ≡ s.state
replied_state b s = go s.verdict
  where
    go : (v : Verdict) → (replied (answered b v s.state)).1 ≡ s.state
    go (says n) = refl
    go (tells msisdn) = refl

replied_succeeds : (b : List ℕ) (s : Stepping) → succeeds (replied (replying b s)).0.answer ≡ is_success s.verdict
replied_succeeds b s = go s.verdict
  where
    go : (v : Verdict) → succeeds (replied (answered b v s.state)).0.answer ≡ is_success v
    go (says n) = refl
    go (tells msisdn) = refl

-- every code has two digits
abbrev pub Small : List ℕ → Type 0
Small [] = Unit {0}
Small (code ∷ codes) = (code < 100) × Small codes

-- a code behind those before it, and those that follow
behind_some : (b : Bool) (before : List ℕ) (code : ℕ) (rest : List ℕ) → cond b (before ++ (code ∷ [])) before ++ rest ≡ before ++ cond b (code ∷ rest) rest
behind_some true before code rest = append_assoc before (code ∷ []) rest
behind_some false before code rest = refl

behind_others : (b : Bool) (before : List ℕ) (code : ℕ) (rest : List ℕ)
    → cond b before (before ++ (code ∷ [])) ++ rest ≡ before ++ cond (not b) (code ∷ rest) rest
behind_others true before code rest = refl
behind_others false before code rest = append_assoc before (code ∷ []) rest

-- what a crew's single requests share, so that no refusal and no error stops one
pub record Shared (list : List ℕ) (requester : Msisdn) (scheme : ℕ) (f : Request) : Type 0 where
  pub listed : list_sound list ≡ true
  pub number : is_number requester.0 ≡ true
  pub coded : eqb scheme coding_scheme ≡ true
  pub plain : f.erasing ≡ Empty
  pub lead : is_number f.number.0 ≡ true

module _ (list : List ℕ) (delay : ℕ) (requester : Msisdn) (scheme : ℕ) (f : Request) (shared : Shared list requester scheme f) (buffers : ℕ → List ℕ)
    (roomy : Roomy buffers) where
  abbrev one : ℕ → Call
  one code = request requester scheme (packed (text_of (member_of f code))) (buffers code)

  module _ (code : ℕ) (small : code < 100) where
    member_sound : request_sound (member_of f code) ≡ true
    unfolding begins count_of
    member_sound = rules_sound (member_of f code) (record {
      number = code_number f.number.0 code shared.lead small;
      erasing = rw shared.plain;
      few = refl;
      additional = unfold each in refl;
      crew = refl;
    })

    octets : (1 ≤ length (packed (text_of (member_of f code)))) × (length (packed (text_of (member_of f code))) ≤ most_string_octets)
    octets = written_octets (member_of f code) member_sound

    pub member_reads : request_of (packed (text_of (member_of f code))) ≡ some (member_of f code)
    member_reads = reads_written (member_of f code) member_sound

    member_passes : any_holds (refusal_checks true true list (buffers code) requester scheme (packed (text_of (member_of f code)))) ≡ false
    member_passes =
        let some-octets = octets.0 in
        rw (
          le-ltb (length (buffers code)) buffer_room (roomy code),
          shared.listed,
          shared.number,
          shared.coded,
          ne_eqb (length (packed (text_of (member_of f code)))) 0 (λ e. omega arith),
          le-ltb most_string_octets (length (packed (text_of (member_of f code)))) octets.1,
          member_reads,
        ) refl

    pub member_named : name_of list (one code) ≡ some (with_code f.number.0 code)
    member_named = rw (member_passes, member_reads) refl

    member_asks : (t : State) → state_sound t ≡ true
        → single list delay (one code) t
        ≡ replied (asking_by (once t (buffers code) requester) t (flags_of list requester.0) (buffers code) (some (member_of f code)))
    member_asks t sound =
        ap replied (request_asks list (buffers code) requester scheme (packed (text_of (member_of f code))) t sound (member_of f code) member_passes member_reads)

    member_once : has_follow_me (flags_of list requester.0) ≡ true → (t : State) → state_sound t ≡ true
        → single list delay (one code) t ≡ replied (once t (buffers code) requester (member_of f code))
    member_once right t sound = member_asks t sound ∙ rw (right, shared.plain) refl

    -- without Follow Me it is answered 42, and leaves table and figures
    member_stays : has_follow_me (flags_of list requester.0) ≡ false → (t : State) → state_sound t ≡ true → (single list delay (one code) t).1 ≡ t
    member_stays none t sound = ap (λ r. r.1) (member_asks t sound) ∙ rw none refl

  pub members_stay : has_follow_me (flags_of list requester.0) ≡ false → (codes : List ℕ) → Small codes → (t : State) → state_sound t ≡ true
      → end (single list delay) (map one codes) t ≡ t
  members_stay none [] small t sound = refl
  members_stay none (code ∷ codes) (c, small) t sound =
      ap (end (single list delay) (map one codes)) (member_stays code c none t sound) ∙ members_stay none codes small t sound

  -- they are no crew's
  pub members_single : (codes : List ℕ) → Small codes → AllSingle (map one codes)
  unfolding crew_of begins
  members_single [] small = tt
  members_single (code ∷ codes) (c, small) = (ap codes_read (member_reads code c), members_single codes small)

  -- ---- the walk

  module _ (right : has_follow_me (flags_of list requester.0) ≡ true) where
    -- what the single requests of the codes get, from a state on
    abbrev got : List ℕ → State → List (Call × Reply)
    got codes t = log (single list delay) (map one codes) t

    abbrev gone_on : ℕ → Walk → Walk
    gone_on code w = walked_on code (step w.state requester (member_of f code)) w

    gone_sound : (code : ℕ) (w : Walk) → state_sound w.state ≡ true → state_sound (gone_on code w).state ≡ true
    gone_sound code w sound = (step_keeps w.state sound requester shared.number (member_of f code) (rw shared.plain refl)).sound

    -- the walk stands where the single requests stand, with the codes of those that were answered 01 or 02, and of the others
    pub record Walks (codes : List ℕ) (w : Walk) : Type 0 where
      pub state : (walked requester f codes w).state ≡ end (single list delay) (map one codes) w.state
      pub successes : (walked requester f codes w).successes ≡ w.successes ++ codes_where succeeds codes (got codes w.state)
      pub failures : (walked requester f codes w).failures ≡ w.failures ++ codes_where (λ a. not (succeeds a)) codes (got codes w.state)

    walk_one : (code : ℕ) (codes : List ℕ) (w : Walk) → code < 100 → state_sound w.state ≡ true → Walks codes (gone_on code w) → Walks (code ∷ codes) w
    unfolding walked
    walk_one code codes w small sound rest = record {
      state = rest.state ∙ ap (end (single list delay) (map one codes)) after;
      successes =
          rest.successes ∙ ap (λ t. (gone_on code w).successes ++ codes_where succeeds codes (got codes t)) after
          ∙ behind_some (is_success s.verdict) w.successes code _ ∙ ap (λ b. w.successes ++ cond b (code ∷ rest_of succeeds) (rest_of succeeds)) answers;
      failures =
          rest.failures ∙ ap (λ t. (gone_on code w).failures ++ codes_where (λ a. not (succeeds a)) codes (got codes t)) after
          ∙ behind_others (is_success s.verdict) w.failures code _
          ∙ ap (λ b. w.failures ++ cond (not b) (code ∷ rest_of (λ a. not (succeeds a))) (rest_of (λ a. not (succeeds a)))) answers;
    }
      where
        s : Stepping
        s = step w.state requester (member_of f code)

        now_single : single list delay (one code) w.state ≡ replied (replying (buffers code) s)
        now_single = member_once code small right w.state sound

        after : (gone_on code w).state ≡ (single list delay (one code) w.state).1
        after = sym (replied_state (buffers code) s) ∙ sym (ap (λ r. r.1) now_single)

        answers : is_success s.verdict ≡ succeeds (single list delay (one code) w.state).0.answer
        answers = sym (replied_succeeds (buffers code) s) ∙ sym (ap (λ r. succeeds r.0.answer) now_single)

        rest_of : (Answer → Bool) → List ℕ
        rest_of test = codes_where test codes (got codes (single list delay (one code) w.state).1)

    pub walks : (codes : List ℕ) (w : Walk) → Small codes → state_sound w.state ≡ true → Walks codes w
    unfolding walked
    walks [] w small sound = record { state = refl; successes = sym (append-nil w.successes); failures = sym (append-nil w.failures) }
    walks (code ∷ codes) w (c, small) sound = walk_one code codes w c sound (walks codes (gone_on code w) small (gone_sound code w sound))
